-- What the last changes of a list of changes are.
--     last_push      one more change is the last one of its key
--     visible_row      the rows after the changes are those that the last changes show
--     none_changed, changed_none      only of no changes are there no last ones
--     place_kept      a last change stands under its own place
use Rattle.std.proofs.Common.{◌≡◌, refl, sym, ap, ◌∙◌, ℕ, Bool, true, false, cond, is_some, List, [], ◌∷◌, ◌++◌, map, reverse, Option, Some, None, unwrap_or}
use Rattle.std.specs.declared.cmp.Ordering.{Ordering}
use Rattle.std.specs.declared.cmp.Ordering.TheVariants.{Less, Equal, Greater}
use Rattle.std.specs.Ordering.{is_eq, eq_by_cmp}
use Rattle.std.specs.Cmp.{tied_itself}
use Rattle.std.specs.FinMap.{insert, get, len, find, from_entries, get-empty, get-insert, get-remove, get-from_entries, empty_of_len, len-empty}
use Rattle.std.proofs.lemmas.List.{reverse-append, map-append}
use Rattle.mdb_model.specs.declared.change.Change.{Change}
use Rattle.mdb_model.specs.declared.change.Change.TheVariants.{Put, Del}
use Rattle.mdb_model.specs.Tables.{Place, Tables, place_cmp, place_of, with_change, with_changes}
use Rattle.mdb_model.specs.Sessions.{last_changes}
use Rattle.sorted_places.proofs.Places.{place_total, place_exact}
use Rattle.transactions.specs.Net.{seen_row, keyed_change}

-- the last change comes first
reversed-push : (cs : List Change) (c : Change) → reverse (map keyed_change (cs ++ c ∷ [])) ≡ keyed_change c ∷ reverse (map keyed_change cs)
reversed-push cs c = ap reverse (map-append keyed_change cs (c ∷ [])) ∙ reverse-append (map keyed_change cs) (keyed_change c ∷ [])

pub last_push : (cs : List Change) (c : Change) → last_changes (cs ++ c ∷ []) ≡ insert (last_changes cs) (place_of c) c
last_push cs c = ap (λ es. from_entries {R = place_cmp} es) (reversed-push cs c)

-- the first, or where there is none the second
abbrev or_else : {A : Type 0} → Option A → Option A → Option A
or_else (Some a) b = Some a
or_else None b = b

or_else-cond : {A : Type 0} (t : Bool) (x : A) (a b : Option A) → or_else (cond t (Some x) a) b ≡ cond t (Some x) (or_else a b)
or_else-cond true x a b = refl
or_else-cond false x a b = refl

find-behind : (place : Place) (es : List (Place × Change)) (c : Change)
    → find place_cmp place (es ++ keyed_change c ∷ []) ≡ or_else (find place_cmp place es) (cond (eq_by_cmp place_cmp place (place_of c)) (Some c) None)
find-behind place [] c = refl
find-behind place (e ∷ es) c =
    ap (cond (eq_by_cmp place_cmp place e.0) (Some e.1)) (find-behind place es c)
    ∙ sym (or_else-cond (eq_by_cmp place_cmp place e.0) e.1 (find place_cmp place es) (cond (eq_by_cmp place_cmp place (place_of c)) (Some c) None))

-- the first change shows only where no later one does
last_front : (c : Change) (cs : List Change) (place : Place)
    → get (last_changes (c ∷ cs)) place ≡ or_else (get (last_changes cs) place) (cond (eq_by_cmp place_cmp place (place_of c)) (Some c) None)
last_front c cs place =
    get-from_entries place_total (reverse (map keyed_change (c ∷ cs))) place
    ∙ ap (find place_cmp place) (reverse-append (keyed_change c ∷ []) (map keyed_change cs))
    ∙ find-behind place (reverse (map keyed_change cs)) c
    ∙ ap (λ o. or_else o (cond (eq_by_cmp place_cmp place (place_of c)) (Some c) None)) (sym (get-from_entries place_total (reverse (map keyed_change cs)) place))

-- one change alone
with_change-row : (c : Change) (tables : Tables) (place : Place)
    → get (with_change c tables) place ≡ cond (eq_by_cmp place_cmp place (place_of c)) (seen_row (Some c) None) (get tables place)
with_change-row (Put table key value) tables place = get-insert place_total tables (table.0, key) value place
with_change-row (Del table key) tables place = get-remove place_total tables (table.0, key) place

seen-front : (later : Option Change) (t : Bool) (c : Change) (row : Option (List ℕ))
    → seen_row later (cond t (seen_row (Some c) None) row) ≡ seen_row (or_else later (cond t (Some c) None)) row
seen-front (Some (Put table key value)) t c row = refl
seen-front (Some (Del table key)) t c row = refl
seen-front None true (Put table key value) row = refl
seen-front None true (Del table key) row = refl
seen-front None false c row = refl

pub visible_row : (cs : List Change) (tables : Tables) (place : Place) → get (with_changes cs tables) place ≡ seen_row (get (last_changes cs) place) (get tables place)
visible_row [] tables place = ap (λ o. seen_row o (get tables place)) (sym (get-empty {X = Change} place_cmp place))
visible_row (c ∷ cs) tables place =
    visible_row cs (with_change c tables) place
    ∙ ap (seen_row (get (last_changes cs) place)) (with_change-row c tables place)
    ∙ seen-front (get (last_changes cs) place) (eq_by_cmp place_cmp place (place_of c)) c (get tables place)
    ∙ ap (λ o. seen_row o (get tables place)) (sym (last_front c cs place))

-- a change of a key leaves one there
some_last : (later : Option Change) (c : Change) → is_some (or_else later (Some c)) ≡ true
some_last (Some a) c = refl
some_last None c = refl

pub none_changed : (cs : List Change) → len (last_changes cs) ≡ 0 → cs ≡ []
none_changed [] nothing = refl
none_changed (c ∷ cs) nothing =
    let none : get (last_changes (c ∷ cs)) (place_of c) ≡ None = ap (λ m. get m (place_of c)) (empty_of_len (last_changes (c ∷ cs)) nothing) ∙ get-empty {X = Change} place_cmp (place_of c) in
    let some : get (last_changes (c ∷ cs)) (place_of c) ≡ or_else (get (last_changes cs) (place_of c)) (Some c) = last_front c cs (place_of c) ∙ ap (λ o. or_else (get (last_changes cs) (place_of c)) (cond (is_eq o) (Some c) None)) (tied_itself place_total (place_of c)) in
    let both : false ≡ true = ap is_some (sym none ∙ some) ∙ some_last (get (last_changes cs) (place_of c)) c in
    cc

pub changed_none : (cs : List Change) → cs ≡ [] → len (last_changes cs) ≡ 0
changed_none cs nothing = ap (λ l. len (last_changes l)) nothing ∙ len-empty place_cmp Change

-- an earlier change shows under its own place, and else a later one does
kept-front : (place : Place) (first c : Change) (o : Ordering) → place_cmp place (place_of first) ≡ o → (later : Option Change)
    → (later ≡ Some c → place_of c ≡ place) → or_else later (cond (is_eq o) (Some first) None) ≡ Some c → place_of c ≡ place
kept-front place first c o tie (Some a) kept is = kept is
kept-front place first c Less tie None kept is = cc
kept-front place first c Greater tie None kept is = cc
kept-front place first c Equal tie None kept is =
    let same : first ≡ c = ap (λ x. unwrap_or x c) is in
    ap place_of (sym same) ∙ sym (place_exact place (place_of first) tie)

pub place_kept : (cs : List Change) (place : Place) (c : Change) → get (last_changes cs) place ≡ Some c → place_of c ≡ place
place_kept [] place c there =
    let nothing : None ≡ Some c = sym (get-empty {X = Change} place_cmp place) ∙ there in
    cc
place_kept (first ∷ cs) place c there =
    kept-front place first c (place_cmp place (place_of first)) refl (get (last_changes cs) place) (place_kept cs place c) (sym (last_front first cs place) ∙ there)
