-- What changes are about a place.
--     changed_or_not      whether one is
--     one_among      which one
--     not_changed      what none is about stays
--     in_front, behind, either      changes of two lists
--     last_is_changed      a last change is about its place
--     last_of_net      the last changes of the last changes
use Rattle.std.proofs.Common.{◌≡◌, ◌⊎◌, inl, inr, refl, sym, ap, ◌∙◌, zero, suc, Bool, true, false, cond, T, List, [], ◌∷◌, ◌++◌, map, reverse, Some, None, arith, Contains}
use Rattle.std.specs.Ordering.{eq_by_cmp}
use Rattle.std.specs.List.{AllByRecursion}
use Rattle.std.specs.FinMap.{FinMap, get, entries, entries_sorted, get-entries, get-empty, get-insert, get-from_entries, from_entries, from_entries_push, same_map}
use Rattle.std.specs.FinMap.Entries.{is_sorted, below_all, find}
use Rattle.std.proofs.lemmas.Bool.{cases_Bool, false≢true}
use Rattle.std.proofs.lemmas.List.{reverse-append}
use Rattle.mdb_model.specs.declared.change.Change.{Change}
use Rattle.mdb_model.specs.Tables.{Place, Tables, place_cmp, place_of, with_changes}
use Rattle.mdb_model.specs.Sessions.{same_place, last_changes, net_changes}
use Rattle.mdb_model.proofs.SerialPlaces.{same_place-equal, same_place-itself, with_changes-apart}
use Rattle.sorted_places.proofs.Places.{place_total, place_exact}
use Rattle.transactions.specs.Net.{keyed_change}
use Rattle.transactions.proofs.NetChanges.{place_kept}
use Rattle.session_room.proofs.Sorted.{first, second, absent, found_first, found_later}
use Rattle.session_room.specs.SessionRoom.{Changes}

-- whether a change is about a place
pub changed_or_not : (cs : List Change) (p : Place) → Changes cs p ⊎ (Changes cs p → ⊥)
changed_or_not [] p = inr (λ none. none)
changed_or_not (c ∷ cs) p = elim (cases_Bool (same_place p (place_of c))) [
  | inl is ↦ inl (inl (same_place-equal p (place_of c) is))
  | inr other ↦ elim (changed_or_not cs p) [
    | inl later ↦ inl (inr later)
    | inr none ↦ inr (λ either. elim either [ inl is ↦ false≢true (sym other ∙ (ap (λ q. same_place p q) (sym is) ∙ same_place-itself p)) | inr later ↦ none later ])
  ]
]

-- a change that is among them is about its place
among : (cs : List Change) (c : Change) (p : Place) → Contains cs c → p ≡ place_of c → Changes cs p
among [] c p (k, inside, is) at = absurd (omega (arith, inside))
among (first ∷ cs) c p (zero, inside, is) at = inl (at ∙ ap place_of (sym is))
among (first ∷ cs) c p (suc k, inside, is) at = inr (among cs c p (k, omega (arith, inside), is) at)

-- changes about a place have one of that place among them
pub one_among : (cs : List Change) (p : Place) → Changes cs p → (c : Change) × Contains cs c × (p ≡ place_of c)
one_among [] p there = absurd there
one_among (c ∷ cs) p (inl is) = (c, (zero, omega arith, refl), is)
one_among (c ∷ cs) p (inr later) = further (one_among cs p later) where
  further : ((d : Change) × Contains cs d × (p ≡ place_of d)) → (d : Change) × Contains (c ∷ cs) d × (p ≡ place_of d)
  further (d, (k, inside, is), at) = (d, (suc k, omega (arith, inside), is), at)

-- what no change is about stays
pub not_changed : (cs : List Change) (t : Tables) (p : Place) → (Changes cs p → ⊥) → get (with_changes cs t) p ≡ get t p
not_changed cs t p none = with_changes-apart cs t p (λ c there at. none (among cs c p there at))

-- changes of two lists, one after the other

pub in_front : (a b : List Change) (p : Place) → Changes a p → Changes (a ++ b) p
in_front [] b p there = absurd there
in_front (c ∷ a) b p (inl is) = inl is
in_front (c ∷ a) b p (inr later) = inr (in_front a b p later)

pub behind : (a b : List Change) (p : Place) → Changes b p → Changes (a ++ b) p
behind [] b p there = there
behind (c ∷ a) b p there = inr (behind a b p there)

pub either : (a b : List Change) (p : Place) → Changes (a ++ b) p → Changes a p ⊎ Changes b p
either [] b p there = inr there
either (c ∷ a) b p (inl is) = inl (inl is)
either (c ∷ a) b p (inr later) = elim (either a b p later) [ inl front ↦ inl (inr front) | inr back ↦ inr back ]

-- Last changes

-- none is found where one more is not the one
none_more : (q : Place) (es : List (Place × Change)) (e : Place × Change) → find place_cmp q es ≡ None → eq_by_cmp place_cmp q e.0 ≡ false → find place_cmp q (es ++ e ∷ []) ≡ None
none_more q [] e none other = ap (λ b. cond b (Some e.1) None) other
none_more q (x ∷ es) e none other = by_test (λ further. none_more q es e further other) (eq_by_cmp place_cmp q x.0) none where
  by_test : (find place_cmp q es ≡ None → find place_cmp q (es ++ e ∷ []) ≡ None) → (b : Bool) → cond b (Some x.1) (find place_cmp q es) ≡ None → cond b (Some x.1) (find place_cmp q (es ++ e ∷ [])) ≡ None
  by_test more true some = cc
  by_test more false further = more further

-- where no change is about a place there is no last one
not_last : (cs : List Change) (p : Place) → (Changes cs p → ⊥) → find place_cmp p (reverse (map keyed_change cs)) ≡ None
not_last [] p none = refl
not_last (c ∷ cs) p none =
    ap (find place_cmp p) (reverse-append (keyed_change c ∷ []) (map keyed_change cs))
    ∙ none_more p (reverse (map keyed_change cs)) (keyed_change c) (not_last cs p (λ later. none (inr later)))
    (elim (cases_Bool (same_place p (place_of c))) [ inl is ↦ absurd (none (inl (same_place-equal p (place_of c) is))) | inr other ↦ other ])

-- a last change is about its place
pub last_is_changed : (cs : List Change) (p : Place) (c : Change) → get (last_changes cs) p ≡ Some c → Changes cs p
last_is_changed cs p c there = elim (changed_or_not cs p) [
  | inl is ↦ is
  | inr none ↦ (let nothing : None ≡ Some c = sym (get-from_entries place_total (reverse (map keyed_change cs)) p ∙ not_last cs p none) ∙ there in cc)
]

-- sorted entries turned round make the same map
turned : (es : List (Place × Change)) → T (is_sorted place_cmp es) → (p : Place) → get (from_entries {R = place_cmp} (reverse es)) p ≡ find place_cmp p es
turned [] sorted p = get-empty place_cmp p
turned (e ∷ es) sorted p =
    let later : T (is_sorted place_cmp es) = second (below_all place_cmp e.0 es) (is_sorted place_cmp es) sorted in
    let none : find place_cmp e.0 (reverse es) ≡ None = sym (get-from_entries place_total (reverse es) e.0) ∙ turned es later e.0 ∙ absent place_cmp place_total place_exact e.0 es (first (below_all place_cmp e.0 es) (is_sorted place_cmp es) sorted) in
    ap (λ l. get (from_entries {R = place_cmp} l) p) (reverse-append (e ∷ []) es)
    ∙ ap (λ m. get m p) (from_entries_push place_total place_exact (reverse es) e.0 e.1 none)
    ∙ get-insert place_total (from_entries (reverse es)) e.0 e.1 p
    ∙ ap (cond (eq_by_cmp place_cmp p e.0) (Some e.1)) (turned es later p)

-- each entry of a sorted list is found there
pub each_found : (P : Place → Type 0) (es : List (Place × Change)) → T (is_sorted place_cmp es) → ((p : Place) (c : Change) → find place_cmp p es ≡ Some c → P p) → AllByRecursion (λ e. P e.0) es
each_found P [] sorted each = tt
each_found P (e ∷ es) sorted each =
    (each e.0 e.1 (found_first place_cmp place_total place_exact e es), each_found P es (second (below_all place_cmp e.0 es) (is_sorted place_cmp es) sorted) (λ p c there. each p c (found_later place_cmp place_total place_exact e es sorted p c there)))

-- changes with their own places are the entries
keyed_again : (es : List (Place × Change)) → T (is_sorted place_cmp es) → ((p : Place) (c : Change) → find place_cmp p es ≡ Some c → place_of c ≡ p) → map keyed_change (map (λ e. e.1) es) ≡ es
keyed_again [] sorted own = refl
keyed_again (e ∷ es) sorted own =
    ap (λ k. (k, e.1) ∷ map keyed_change (map (λ x. x.1) es)) (own e.0 e.1 (found_first place_cmp place_total place_exact e es))
    ∙ ap (λ l. e ∷ l) (keyed_again es (second (below_all place_cmp e.0 es) (is_sorted place_cmp es) sorted) (λ p c there. own p c (found_later place_cmp place_total place_exact e es sorted p c there)))

-- the last changes of the last changes are these
pub last_of_net : (cs : List Change) → last_changes (net_changes cs) ≡ last_changes cs
last_of_net cs =
    ap (λ l. from_entries {R = place_cmp} (reverse l))
    (keyed_again (entries m) (entries_sorted m) (λ p c there. place_kept cs p c (get-entries m p ∙ there)))
    ∙ same_map place_total place_exact (from_entries (reverse (entries m))) m (λ p. turned (entries m) (entries_sorted m) p ∙ sym (get-entries m p))
  where
    m : FinMap place_cmp Change
    m = last_changes cs
