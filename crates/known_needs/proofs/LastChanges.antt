-- The last changes of a session, each at its own place.
--     own_each      each stands under its own place
--     net_places      their places are the keys
--     net_changed      they are of changed places
--     net_none, opened_none      without changes there are none
use Rattle.std.proofs.Common.{◌≡◌, refl, ap, ◌∙◌, subst, T, List, [], ◌∷◌, map, Some}
use Rattle.std.specs.List.{AllByRecursion}
use Rattle.std.specs.FinMap.{keys, entries, entries_sorted, get-entries}
use Rattle.std.specs.FinMap.Entries.{is_sorted, find}
use Rattle.mdb_model.specs.declared.change.Change.{Change}
use Rattle.mdb_model.specs.Sessions.{last_changes, net_changes}
use Rattle.mdb_model.specs.Tables.{Place, Tables, place_cmp, place_of}
use Rattle.mdb_model.proofs.Computing.{places_total, entries-empty}
use Rattle.mdb_model.proofs.SerialPlaces.{places_antisymmetric}
use Rattle.transactions.proofs.NetChanges.{place_kept}
use Rattle.session_room.specs.SessionRoom.{Changes}
use Rattle.session_room.proofs.Changing.{last_is_changed, each_found}
use Rattle.known_needs.specs.KnownNeeds.{opened, opened_one}
use Rattle.known_needs.proofs.Found.{others_sorted, find_first, find_later}
use Rattle.known_needs.proofs.PlaceSums.{In, all_in}

-- each change stands under its own place
abbrev pub AreOwn : List (Place × Change) → Type 0
AreOwn = AllByRecursion (λ e. place_of e.1 ≡ e.0)

-- so they do where each that is found is of its place
own_found : (es : List (Place × Change)) → T (is_sorted place_cmp es) → ((p : Place) (c : Change) → find place_cmp p es ≡ Some c → place_of c ≡ p) → AreOwn es
own_found [] sorted own = tt
own_found (e ∷ es) sorted own = (
  own e.0 e.1 (find_first place_cmp places_total places_antisymmetric e es),
  own_found es (others_sorted place_cmp places_total places_antisymmetric e es sorted) (λ p c there. own p c (find_later place_cmp places_total places_antisymmetric e es sorted p c there)),
)

-- the last changes do
pub own_each : (cs : List Change) → AreOwn (entries (last_changes cs))
own_each cs = own_found (entries (last_changes cs)) (entries_sorted (last_changes cs)) (λ p c there. place_kept cs p c (get-entries (last_changes cs) p ∙ there))

-- so the places of changes are their keys
own_places : (es : List (Place × Change)) → AreOwn es → map place_of (map (λ e. e.1) es) ≡ map (λ e. e.0) es
own_places [] own = refl
own_places (e ∷ es) own = ap (λ p. p ∷ map place_of (map (λ x. x.1) es)) own.0 ∙ ap (λ ps. e.0 ∷ ps) (own_places es own.1)

-- the places of the last changes are the keys
pub net_places : (cs : List Change) → map place_of (net_changes cs) ≡ keys (last_changes cs)
net_places cs = own_places (entries (last_changes cs)) (own_each cs)

-- a last change is of a changed place
pub net_changed : (cs : List Change) (p : Place) → In p (map place_of (net_changes cs)) → Changes cs p
net_changed cs p there =
    all_in (Changes cs) (keys (last_changes cs)) (on_keys (entries (last_changes cs)) (each_found (Changes cs) (entries (last_changes cs)) (entries_sorted (last_changes cs)) (λ q c found. last_is_changed cs q c (get-entries (last_changes cs) q ∙ found)))) p
    (subst (In p) (net_places cs) there)
  where
    on_keys : (es : List (Place × Change)) → AllByRecursion (λ e. Changes cs e.0) es → AllByRecursion (Changes cs) (map (λ e. e.0) es)
    on_keys [] all = tt
    on_keys (e ∷ es) all = (all.0, on_keys es all.1)

-- without changes there are none
pub net_none : net_changes [] ≡ []
net_none = ap (map (λ e. e.1)) (entries-empty {X = Change} place_cmp)

-- and none is open
pub opened_none : (t : Tables) → opened t [] ≡ []
opened_none t = ap (map (opened_one t)) net_none
