-- Sorted lists of rows, cut in parts.
--     sorted_left, sorted_right, sorted_across      the parts of a sorted list
--     find-front, find-back, put-front, put-back, drop-front, drop-back      what is found, put and removed in one part
use Rattle.std.proofs.Common.{◌≡◌, refl, sym, ap, subst, ◌∙◌, ℕ, suc, ◌-◌, ◌<◌, get_or, Bool, true, false, ◌&&◌, cond, not, T, List, [], ◌∷◌, ◌++◌, length, Some, None, arith}
use Rattle.std.specs.declared.cmp.Ordering.{Ordering}
use Rattle.std.specs.declared.cmp.Ordering.TheVariants.{Less, Equal, Greater}
use Rattle.std.specs.Ordering.{is_lt, is_eq, eq_by_cmp, ordering_reverse}
use Rattle.std.specs.Cmp.Lexicographic.{nat_list_cmp_total}
use Rattle.std.specs.FinMap.{find, put, is_sorted}
use Rattle.std.specs.FinMap.Entries.{below_all, where_key, by_order}
use Rattle.mdb_bytes.specs.TablePages.{Row}
use Rattle.row_page.specs.Entries.{by_bytes}
use Rattle.leaf_runs.specs.Leaves.{all_below}

pub t_left : (a b : Bool) → T (a && b) → T a
t_left true b p = tt
t_left false b p = p

pub t_right : (a b : Bool) → T (a && b) → T b
t_right true b p = p
t_right false b p = absurd p

pub t_both : (a b : Bool) → T a → T b → T (a && b)
t_both true b p q = q
t_both false b p q = p

pub is_less : (o : Ordering) → T (is_lt o) → o ≡ Less
is_less Less p = refl
is_less Equal p = absurd p
is_less Greater p = absurd p

pub from_true : (b : Bool) → b ≡ true → T b
from_true b e = subst T (sym e) tt

pub to_true : (b : Bool) → T b → b ≡ true
to_true true p = refl
to_true false p = absurd p

pub turned : (a b : List ℕ) (r : Ordering) → by_bytes a b ≡ r → by_bytes b a ≡ ordering_reverse r
turned a b r is = nat_list_cmp_total.antisymm b a ∙ ap ordering_reverse is

pub less_through : (a b c : List ℕ) → by_bytes a b ≡ Less → by_bytes b c ≡ Less → by_bytes a c ≡ Less
less_through a b c p q = nat_list_cmp_total.trans a b c p q

-- Parts of a list

pub below_left : (k : List ℕ) (xs ys : List Row) → T (below_all by_bytes k (xs ++ ys)) → T (below_all by_bytes k xs)
below_left k [] ys p = tt
below_left k (x ∷ xs) ys p = t_both _ _ (t_left _ _ p) (below_left k xs ys (t_right _ _ p))

pub below_right : (k : List ℕ) (xs ys : List Row) → T (below_all by_bytes k (xs ++ ys)) → T (below_all by_bytes k ys)
below_right k [] ys p = p
below_right k (x ∷ xs) ys p = below_right k xs ys (t_right _ _ p)

pub below_both : (k : List ℕ) (xs ys : List Row) → T (below_all by_bytes k xs) → T (below_all by_bytes k ys) → T (below_all by_bytes k (xs ++ ys))
below_both k [] ys p q = q
below_both k (x ∷ xs) ys p q = t_both _ _ (t_left _ _ p) (below_both k xs ys (t_right _ _ p) q)

pub below_through : (a b : List ℕ) (xs : List Row) → by_bytes a b ≡ Less → T (below_all by_bytes b xs) → T (below_all by_bytes a xs)
below_through a b [] lt p = tt
below_through a b (x ∷ xs) lt p =
    t_both _ _ (subst (λ (o : Ordering). T (is_lt o)) (sym (less_through a b x.0 lt (is_less (by_bytes b x.0) (t_left _ _ p)))) tt) (below_through a b xs lt (t_right _ _ p))

pub sorted_left : (xs ys : List Row) → T (is_sorted by_bytes (xs ++ ys)) → T (is_sorted by_bytes xs)
sorted_left [] ys p = tt
sorted_left (x ∷ xs) ys p = t_both _ _ (below_left x.0 xs ys (t_left _ _ p)) (sorted_left xs ys (t_right _ _ p))

pub sorted_right : (xs ys : List Row) → T (is_sorted by_bytes (xs ++ ys)) → T (is_sorted by_bytes ys)
sorted_right [] ys p = p
sorted_right (x ∷ xs) ys p = sorted_right xs ys (t_right _ _ p)

pub sorted_middle : (xs ys zs : List Row) → T (is_sorted by_bytes (xs ++ (ys ++ zs))) → T (is_sorted by_bytes ys)
sorted_middle xs ys zs p = sorted_left ys zs (sorted_right xs (ys ++ zs) p)

-- where not all rows are below a key, those after are above it
pub above_rest : (k : List ℕ) (xs ys : List Row) → T (is_sorted by_bytes (xs ++ ys)) → all_below k xs ≡ false → T (below_all by_bytes k ys)
above_rest k [] ys up never = absurd cc
above_rest k (x ∷ xs) ys up never = by_order_of (above_rest k xs ys (t_right _ _ up)) (by_bytes x.0 k) refl where
  rest : T (below_all by_bytes x.0 ys)
  rest = below_right x.0 xs ys (t_left _ _ up)

  by_order_of : (all_below k xs ≡ false → T (below_all by_bytes k ys)) → (o : Ordering) → by_bytes x.0 k ≡ o → T (below_all by_bytes k ys)
  by_order_of more Less is = more (subst (λ (o : Ordering). (is_lt o && all_below k xs) ≡ false) is never)
  by_order_of more Greater is = below_through k x.0 ys (turned x.0 k Greater is) rest
  by_order_of more Equal is = tied ys rest where
    tied : (zs : List Row) → T (below_all by_bytes x.0 zs) → T (below_all by_bytes k zs)
    tied [] p = tt
    tied (z ∷ zs) p = t_both _ _ (subst (λ (o : Ordering). T (is_lt o)) (nat_list_cmp_total.congr x.0 k z.0 is) (t_left _ _ p)) (tied zs (t_right _ _ p))

-- What is found

pub all_left : (k : List ℕ) (xs ys : List Row) → all_below k xs ≡ true → all_below k ys ≡ true → all_below k (xs ++ ys) ≡ true
all_left k [] ys p q = q
all_left k (x ∷ xs) ys p q = to_true _ (t_both _ _ (t_left _ _ (from_true _ p)) (from_true _ (all_left k xs ys (to_true _ (t_right _ _ (from_true _ p))) q)))

pub first_less : (k : List ℕ) (x : Row) (xs : List Row) → all_below k (x ∷ xs) ≡ true → by_bytes x.0 k ≡ Less
first_less k x xs p = is_less (by_bytes x.0 k) (t_left _ _ (from_true _ p))

pub rest_less : (k : List ℕ) (x : Row) (xs : List Row) → all_below k (x ∷ xs) ≡ true → all_below k xs ≡ true
rest_less k x xs p = to_true _ (t_right _ _ (from_true _ p))

pub find-front : (k : List ℕ) (xs ys : List Row) → all_below k xs ≡ true → find by_bytes k (xs ++ ys) ≡ find by_bytes k ys
find-front k [] ys p = refl
find-front k (x ∷ xs) ys p =
    ap (λ r. cond (is_eq r) (Some x.1) (find by_bytes k (xs ++ ys))) (turned x.0 k Less (first_less k x xs p)) ∙ find-front k xs ys (rest_less k x xs p)

pub find-none : (k : List ℕ) (ys : List Row) → T (below_all by_bytes k ys) → find by_bytes k ys ≡ None
find-none k [] p = refl
find-none k (y ∷ ys) p = ap (λ r. cond (is_eq r) (Some y.1) (find by_bytes k ys)) (is_less (by_bytes k y.0) (t_left _ _ p)) ∙ find-none k ys (t_right _ _ p)

pub find-back : (k : List ℕ) (xs ys : List Row) → T (below_all by_bytes k ys) → find by_bytes k (xs ++ ys) ≡ find by_bytes k xs
find-back k [] ys p = find-none k ys p
find-back k (x ∷ xs) ys p = ap (λ o. cond (eq_by_cmp by_bytes k x.0) (Some x.1) o) (find-back k xs ys p)

-- What is put

pub put-front : (k v : List ℕ) (xs ys : List Row) → all_below k xs ≡ true → put by_bytes k v (xs ++ ys) ≡ xs ++ put by_bytes k v ys
put-front k v [] ys p = refl
put-front k v (x ∷ xs) ys p =
    ap (λ r. by_order r ((k, v) ∷ x ∷ (xs ++ ys)) ((x.0, v) ∷ (xs ++ ys)) (x ∷ put by_bytes k v (xs ++ ys))) (turned x.0 k Less (first_less k x xs p))
    ∙ ap (λ (zs : List Row). x ∷ zs) (put-front k v xs ys (rest_less k x xs p))

put-all : (k v : List ℕ) (ys : List Row) → T (below_all by_bytes k ys) → put by_bytes k v ys ≡ (k, v) ∷ ys
put-all k v [] p = refl
put-all k v (y ∷ ys) p = ap (λ r. by_order r ((k, v) ∷ y ∷ ys) ((y.0, v) ∷ ys) (y ∷ put by_bytes k v ys)) (is_less (by_bytes k y.0) (t_left _ _ p))

pub put-back : (k v : List ℕ) (xs ys : List Row) → T (below_all by_bytes k ys) → put by_bytes k v (xs ++ ys) ≡ put by_bytes k v xs ++ ys
put-back k v [] ys p = put-all k v ys p
put-back k v (x ∷ xs) ys p = by_order_of (put-back k v xs ys p) (by_bytes k x.0) where
  by_order_of : put by_bytes k v (xs ++ ys) ≡ put by_bytes k v xs ++ ys → (o : Ordering) → by_order o ((k, v) ∷ x ∷ (xs ++ ys)) ((x.0, v) ∷ (xs ++ ys)) (x ∷ put by_bytes k v (xs ++ ys)) ≡ by_order o ((k, v) ∷ x ∷ xs) ((x.0, v) ∷ xs) (x ∷ put by_bytes k v xs) ++ ys
  by_order_of more Less = refl
  by_order_of more Equal = refl
  by_order_of more Greater = ap (λ (zs : List Row). x ∷ zs) more

-- What is removed

-- the rows without the one of a key
abbrev pub without : List ℕ → List Row → List Row
without k xs = where_key by_bytes (λ q. not (eq_by_cmp by_bytes k q)) xs

pub without-append : (k : List ℕ) (xs ys : List Row) → without k (xs ++ ys) ≡ without k xs ++ without k ys
without-append k [] ys = refl
without-append k (x ∷ xs) ys = by_test (without-append k xs ys) (not (eq_by_cmp by_bytes k x.0)) where
  by_test : without k (xs ++ ys) ≡ without k xs ++ without k ys → (b : Bool) → cond b (x ∷ without k (xs ++ ys)) (without k (xs ++ ys)) ≡ cond b (x ∷ without k xs) (without k xs) ++ without k ys
  by_test more true = ap (λ (zs : List Row). x ∷ zs) more
  by_test more false = more

pub without-front : (k : List ℕ) (xs : List Row) → all_below k xs ≡ true → without k xs ≡ xs
without-front k [] p = refl
without-front k (x ∷ xs) p =
    ap (λ r. cond (not (is_eq r)) (x ∷ without k xs) (without k xs)) (turned x.0 k Less (first_less k x xs p))
    ∙ ap (λ (zs : List Row). x ∷ zs) (without-front k xs (rest_less k x xs p))

pub without-back : (k : List ℕ) (ys : List Row) → T (below_all by_bytes k ys) → without k ys ≡ ys
without-back k [] p = refl
without-back k (y ∷ ys) p =
    ap (λ r. cond (not (is_eq r)) (y ∷ without k ys) (without k ys)) (is_less (by_bytes k y.0) (t_left _ _ p))
    ∙ ap (λ (zs : List Row). y ∷ zs) (without-back k ys (t_right _ _ p))

and_true : (b : Bool) → (b && true) ≡ b
and_true true = refl
and_true false = refl

and_false : (b : Bool) → (b && false) ≡ false
and_false true = refl
and_false false = refl

-- all keys are below one where the last is
pub last_decides : (k : List ℕ) (rows : List Row) (d : Row) → T (is_sorted by_bytes rows) → 0 < length rows → all_below k rows ≡ is_lt (by_bytes (get_or rows (length rows - 1) d).0 k)
last_decides k [] d up lt = absurd (omega arith)
last_decides k (x ∷ []) d up lt = and_true (is_lt (by_bytes x.0 k))
last_decides k (x ∷ y ∷ zs) d up lt =
    by_rest (all_below k (y ∷ zs)) refl ∙ last_decides k (y ∷ zs) d (t_right _ _ up) (omega arith)
    ∙ ap (λ (n : ℕ). is_lt (by_bytes (get_or (x ∷ y ∷ zs) n d).0 k)) at_end
  where
    at_end : suc (length (y ∷ zs) - 1) ≡ length (x ∷ y ∷ zs) - 1
    at_end = omega arith

    by_rest : (b : Bool) → all_below k (y ∷ zs) ≡ b → (is_lt (by_bytes x.0 k) && all_below k (y ∷ zs)) ≡ all_below k (y ∷ zs)
    by_rest true is =
        let here : by_bytes x.0 k ≡ Less = less_through x.0 y.0 k (is_less (by_bytes x.0 y.0) (t_left _ _ (t_left _ _ up))) (first_less k y zs is) in
        ap (λ o. is_lt o && all_below k (y ∷ zs)) here
    by_rest false is = ap (λ b. is_lt (by_bytes x.0 k) && b) is ∙ and_false (is_lt (by_bytes x.0 k)) ∙ sym is
