-- Finite maps made of sorted lists.
--     from_none, from_put, from_where_key      of no entries, after a put, and after a removal
--     ascends-put, ascends-where_key      the items of such lists still ascend
use Rattle.std.proofs.Common.{◌≡◌, refl, sym, ap, ◌∙◌, subst, Bool, true, false, not, cond, T, List, [], map, length, Option, None, IsTrue}
use Rattle.std.specs.declared.cmp.Ordering.{Ordering}
use Rattle.std.specs.Ordering.{is_eq, eq_by_cmp}
use Rattle.std.specs.Cmp.{IsTotalOrder, eq_by_cmp_equiv, alike_right}
use Rattle.std.specs.FinMap.{find, put, is_sorted, IsAntisymmetric, from_sorted, empty, insert, remove, entries-from_sorted, get-from_sorted, entries-insert, get-remove, same_entries_map, same_map, empty_of_len, len-entries}
use Rattle.std.specs.FinMap.Entries.{where_key, is_sorted-put, is_sorted-where_key, find-where_key}
use Rattle.mdb_bytes.specs.Fields.{rises}
use Rattle.sorted_places.proofs.Sorted.{entry, sorted_from_rises, rises_from_sorted}

turned : {A : Type 0} (b : Bool) (x : Option A) → cond (not b) x None ≡ cond b None x
turned true x = refl
turned false x = refl

module _ {K V : Type 0} {R : K → K → Ordering} where
  pub from_none : from_sorted {X = V} {R = R} [] ≡ empty
  from_none = empty_of_len (from_sorted {R = R} []) (len-entries _ ∙ ap length (entries-from_sorted R [] tt))

  module _ (o : IsTotalOrder R) (es fs : List (K × V)) (sorted : T (is_sorted R es)) (k : K) where
    pub from_put : (v : V) → fs ≡ put R k v es → from_sorted {R = R} fs ≡ insert (from_sorted {R = R} es) k v
    from_put v is =
        let sorted_fs = subst (λ xs. T (is_sorted R xs)) (sym is) (is_sorted-put R o k v es sorted) in
        same_entries_map _ _ (entries-from_sorted R fs sorted_fs ∙ is ∙ sym (entries-insert o (from_sorted {R = R} es) k v ∙ ap (put R k v) (entries-from_sorted R es sorted)))

    pub from_where_key : IsAntisymmetric R → fs ≡ where_key R (λ q. not (eq_by_cmp R k q)) es → from_sorted {R = R} fs ≡ remove (from_sorted {R = R} es) k
    from_where_key exact is =
        let sorted_fs = subst (λ xs. T (is_sorted R xs)) (sym is) (is_sorted-where_key R (λ q. not (eq_by_cmp R k q)) es sorted) in
        same_map o exact _ _ (λ q.
        get-from_sorted R fs q sorted_fs ∙ ap (find R q) is
        ∙ find-where_key R (λ x. not (eq_by_cmp R k x)) q (λ x tie. ap (λ r. not (is_eq r)) (sym (alike_right o q x k tie))) es
        ∙ turned (eq_by_cmp R k q) (find R q es)
        ∙ ap (λ b. cond b None (find R q es)) ((eq_by_cmp_equiv o).symm k q)
        ∙ sym (get-remove o (from_sorted {R = R} es) k q ∙ ap (cond (eq_by_cmp R q k) None) (get-from_sorted R es q sorted)))

module _ {K X V : Type 0} (R : K → K → Ordering) (o : IsTotalOrder R) (key : X → K) (value : X → V) (xs ys : List X) (ascends : IsTrue (rises R (map key xs))) (k : K) where
  pub ascends-put : (v : V) → map (entry R key value) ys ≡ put R k v (map (entry R key value) xs) → IsTrue (rises R (map key ys))
  ascends-put v is = rises_from_sorted R key value ys (subst (λ es. T (is_sorted R es)) (sym is) (is_sorted-put R o k v _ (sorted_from_rises R key value xs ascends)))

  pub ascends-where_key : map (entry R key value) ys ≡ where_key R (λ q. not (eq_by_cmp R k q)) (map (entry R key value) xs) → IsTrue (rises R (map key ys))
  ascends-where_key is = rises_from_sorted R key value ys (subst (λ es. T (is_sorted R es)) (sym is) (is_sorted-where_key R (λ q. not (eq_by_cmp R k q)) _ (sorted_from_rises R key value xs ascends)))
