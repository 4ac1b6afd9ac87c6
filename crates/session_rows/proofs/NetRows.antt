-- The last changes of the keys make of the rows what all changes make.
--     net_rows      so they do
use Rattle.std.proofs.Common.{◌≡◌, refl, sym, ap, ◌∙◌, subst, Bool, true, false, ◌&&◌, cond, T, List, [], ◌∷◌, ◌++◌, Some, None, map, reverse}
use Rattle.std.specs.declared.cmp.Ordering.{Ordering}
use Rattle.std.specs.declared.cmp.Ordering.TheVariants.{Less, Equal, Greater}
use Rattle.std.specs.Ordering.{is_eq, is_lt, eq_by_cmp}
use Rattle.std.specs.Cmp.{tied_itself}
use Rattle.std.specs.FinMap.{get, entries, entries_sorted, values, get-entries, get-insert, get-remove, entries-insert, from_entries, same_map}
use Rattle.std.specs.FinMap.Entries.{find, put, is_sorted, below_all, by_order}
use Rattle.std.proofs.lemmas.List.{reverse-append}
use Rattle.mdb_model.specs.declared.change.Change.{Change}
use Rattle.mdb_model.specs.declared.change.Change.TheVariants.{Put, Del}
use Rattle.mdb_model.specs.Tables.{Place, Tables, place_cmp, place_of, with_change, with_changes}
use Rattle.mdb_model.specs.Sessions.{last_changes}
use Rattle.mdb_model.proofs.Computing.{entries-empty}
use Rattle.mdb_model.proofs.SerialPlaces.{with_change-apart}
use Rattle.sorted_places.proofs.Places.{place_total, place_exact}
use Rattle.transactions.specs.Net.{seen_row, keyed_change}
use Rattle.transactions.proofs.NetChanges.{visible_row}

-- each change stands at its own place
abbrev Own : List (Place × Change) → Type 0
Own [] = Unit {0}
Own (e ∷ es) = (place_of e.1 ≡ e.0) × Own es

own_put : (k : Place) (c : Change) (es : List (Place × Change)) → place_of c ≡ k → Own es → Own (put place_cmp k c es)
own_put k c [] is own = (is, tt)
own_put k c (e ∷ es) is own = by_tie (own_put k c es is own.1) (place_cmp k e.0) refl
  where
    by_tie : Own (put place_cmp k c es) → (o : Ordering) → place_cmp k e.0 ≡ o → Own (by_order o ((k, c) ∷ e ∷ es) ((e.0, c) ∷ es) (e ∷ put place_cmp k c es))
    by_tie more Less lower = (is, own)
    by_tie more Equal same = (is ∙ place_exact k e.0 same, own.1)
    by_tie more Greater above = (own.0, more)

own_entries : (es : List (Place × Change)) → Own es → Own (entries (from_entries {R = place_cmp} es))
own_entries [] own = subst Own (sym (entries-empty {X = Change} place_cmp)) tt
own_entries (e ∷ es) own = subst Own (sym (entries-insert place_total (from_entries {R = place_cmp} es) e.0 e.1)) (own_put e.0 e.1 (entries (from_entries {R = place_cmp} es)) own.0 (own_entries es own.1))

own_append : (xs ys : List (Place × Change)) → Own xs → Own ys → Own (xs ++ ys)
own_append [] ys own more = more
own_append (x ∷ xs) ys own more = (own.0, own_append xs ys own.1 more)

own_reversed : (cs : List Change) → Own (reverse (map keyed_change cs))
own_reversed [] = tt
own_reversed (c ∷ cs) = subst Own (sym (reverse-append (keyed_change c ∷ []) (map keyed_change cs))) (own_append (reverse (map keyed_change cs)) (keyed_change c ∷ []) (own_reversed cs) (refl, tt))

first : (a b : Bool) → T (a && b) → T a
first true b p = tt
first false b p = p

second : (a b : Bool) → T (a && b) → T b
second true b p = p
second false b p = absurd p

-- below all keys there is none
absent : (q : Place) (es : List (Place × Change)) → T (below_all place_cmp q es) → find place_cmp q es ≡ None
absent q [] below = refl
absent q (e ∷ es) below = (λ i. cond (apart (place_cmp q e.0) (first (is_lt (place_cmp q e.0)) (below_all place_cmp q es) below) i) (Some e.1) (find place_cmp q es)) ∙ absent q es (second (is_lt (place_cmp q e.0)) (below_all place_cmp q es) below)
  where
    apart : (o : Ordering) → T (is_lt o) → is_eq o ≡ false
    apart Less lower = refl
    apart Equal lower = absurd lower
    apart Greater lower = refl

-- a change at its own place
at_own : (c : Change) (t : Tables) (p : Place) → eq_by_cmp place_cmp p (place_of c) ≡ true → get (with_change c t) p ≡ seen_row (Some c) (get t p)
at_own (Put table key value) t p here = get-insert place_total t (table.0, key) value p ∙ (λ i. cond (here i) (Some value) (get t p))
at_own (Del table key) t p here = get-remove place_total t (table.0, key) p ∙ (λ i. cond (here i) None (get t p))

tie : (o : Ordering) → is_eq o ≡ true → o ≡ Equal
tie Less is = cc
tie Equal is = refl
tie Greater is = cc

rows_at : (es : List (Place × Change)) → Own es → T (is_sorted place_cmp es) → (t : Tables) (p : Place) → get (with_changes (map (λ e. e.1) es) t) p ≡ seen_row (find place_cmp p es) (get t p)
rows_at [] own sorted t p = refl
rows_at (e ∷ es) own sorted t p =
    rows_at es own.1 (second (below_all place_cmp e.0 es) (is_sorted place_cmp es) sorted) (with_change e.1 t) p ∙ by_test (eq_by_cmp place_cmp p e.0) refl
  where
    itself : (a b : Place) → a ≡ b → eq_by_cmp place_cmp a b ≡ true
    itself a b same = (λ i. eq_by_cmp place_cmp a (sym same i)) ∙ ap is_eq (tied_itself place_total a)

    by_test : (b : Bool) → eq_by_cmp place_cmp p e.0 ≡ b → seen_row (find place_cmp p es) (get (with_change e.1 t) p) ≡ seen_row (cond b (Some e.1) (find place_cmp p es)) (get t p)
    by_test true here =
        let same : p ≡ e.0 = place_exact p e.0 (tie (place_cmp p e.0) here) in
        (λ i. seen_row (find place_cmp (same i) es) (get (with_change e.1 t) p))
        ∙ (λ i. seen_row (absent e.0 es (first (below_all place_cmp e.0 es) (is_sorted place_cmp es) sorted) i) (get (with_change e.1 t) p))
        ∙ at_own e.1 t p ((λ i. eq_by_cmp place_cmp p (own.0 i)) ∙ here)
    by_test false there =
        ap (seen_row (find place_cmp p es)) (with_change-apart e.1 t p (λ same. let one : eq_by_cmp place_cmp p e.0 ≡ true = (λ i. eq_by_cmp place_cmp p (sym own.0 i)) ∙ itself p (place_of e.1) same in cc))

pub net_rows : (cs : List Change) (t : Tables) → with_changes (values (last_changes cs)) t ≡ with_changes cs t
net_rows cs t =
    same_map place_total place_exact (with_changes (values (last_changes cs)) t) (with_changes cs t) (λ p.
    rows_at (entries (last_changes cs)) own (entries_sorted (last_changes cs)) t p ∙ (λ i. seen_row (sym (get-entries (last_changes cs) p) i) (get t p)) ∙ sym (visible_row cs t p))
  where
    own : Own (entries (last_changes cs))
    own = own_entries (reverse (map keyed_change cs)) (own_reversed cs)
