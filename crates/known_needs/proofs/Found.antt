-- What is found in sorted entries.
--     first, second      the parts of a test of two
--     none_below      below all keys none is found
--     first_alone, others_sorted      the first entry is none of the others, which are sorted
--     find_first, find_other, find_later      the first entry is found, and the others as before
--     other_key      keys that are not equal do not tie
--     below_too      what is less than a key below all others is below all of them
use Rattle.std.proofs.Common.{◌≡◌, ◌≢◌, refl, sym, ap, ◌∙◌, subst, Bool, true, false, cond, ◌&&◌, T, List, [], ◌∷◌, Some, None}
use Rattle.std.specs.declared.cmp.Ordering.{Ordering}
use Rattle.std.specs.declared.cmp.Ordering.TheVariants.{Less, Equal, Greater}
use Rattle.std.specs.Ordering.{eq_by_cmp, is_eq, is_lt}
use Rattle.std.specs.Cmp.{IsTotalOrder, tied_itself}
use Rattle.std.specs.FinMap.{IsAntisymmetric}
use Rattle.std.specs.FinMap.Entries.{is_sorted, below_all, find}
use Rattle.std.proofs.lemmas.Bool.{false_from_ne_true}

-- the parts of a test of two
pub first : (a b : Bool) → T (a && b) → T a
first true b p = tt
first false b p = absurd p

-- and the second
pub second : (a b : Bool) → T (a && b) → T b
second true b p = p
second false b p = absurd p

-- a test of two from its parts
both : (a b : Bool) → T a → T b → T (a && b)
both true b p q = q
both false b p q = absurd p

-- what the test on orders says
is_equal : (o : Ordering) → is_eq o ≡ true → o ≡ Equal
is_equal Less is = cc
is_equal Equal is = refl
is_equal Greater is = cc

-- a test that says less
is_less : (o : Ordering) → T (is_lt o) → o ≡ Less
is_less Less lower = refl
is_less Equal lower = absurd lower
is_less Greater lower = absurd lower

-- what is less does not tie
is_apart : (o : Ordering) → T (is_lt o) → is_eq o ≡ false
is_apart Less lower = refl
is_apart Equal lower = absurd lower
is_apart Greater lower = refl

-- keys that are not equal do not tie
pub other_key : {K : Type 0} (R : K → K → Ordering) → IsAntisymmetric R → (a b : K) → a ≢ b → eq_by_cmp R a b ≡ false
other_key R exact a b other = false_from_ne_true (eq_by_cmp R a b) (λ is. other (exact a b (is_equal (R a b) is)))

module _ {K X : Type 0} (R : K → K → Ordering) (total : IsTotalOrder R) (exact : IsAntisymmetric R) where
  -- below all keys none is found
  pub none_below : (q : K) (es : List (K × X)) → T (below_all R q es) → find R q es ≡ None
  none_below q [] below = refl
  none_below q (e ∷ es) below =
      (λ i. cond (is_apart (R q e.0) (first (is_lt (R q e.0)) (below_all R q es) below) i) (Some e.1) (find R q es))
      ∙ none_below q es (second (is_lt (R q e.0)) (below_all R q es) below)

  -- the first is none of the others
  pub first_alone : (e : K × X) (es : List (K × X)) → T (is_sorted R (e ∷ es)) → find R e.0 es ≡ None
  first_alone e es sorted = none_below e.0 es (first (below_all R e.0 es) (is_sorted R es) sorted)

  -- these are sorted
  pub others_sorted : (e : K × X) (es : List (K × X)) → T (is_sorted R (e ∷ es)) → T (is_sorted R es)
  others_sorted e es sorted = second (below_all R e.0 es) (is_sorted R es) sorted

  -- the first is found at its key
  pub find_first : (e : K × X) (es : List (K × X)) → find R e.0 (e ∷ es) ≡ Some e.1
  find_first e es = ap (λ o. cond (is_eq o) (Some e.1) (find R e.0 es)) (tied_itself total e.0)

  -- at another key what is found among the others
  pub find_other : (e : K × X) (es : List (K × X)) (q : K) → q ≢ e.0 → find R q (e ∷ es) ≡ find R q es
  find_other e es q other = ap (λ b. cond b (Some e.1) (find R q es)) (other_key R exact q e.0 other)

  -- what is found among the others is not at the key of the first, and is found
  pub not_first : (e : K × X) (es : List (K × X)) → T (is_sorted R (e ∷ es)) → (q : K) (x : X) → find R q es ≡ Some x → q ≢ e.0
  not_first e es sorted q x there same = (let nothing : None ≡ Some x = sym (first_alone e es sorted) ∙ ap (λ k. find R k es) (sym same) ∙ there in absurd cc)

  -- so it is found with the first in front
  pub find_later : (e : K × X) (es : List (K × X)) → T (is_sorted R (e ∷ es)) → (q : K) (x : X) → find R q es ≡ Some x → find R q (e ∷ es) ≡ Some x
  find_later e es sorted q x there = find_other e es q (not_first e es sorted q x there) ∙ there

  -- what is less than a key below all others is below all of them
  below : (k a : K) (es : List (K × X)) → R k a ≡ Less → T (below_all R a es) → T (below_all R k es)
  below k a [] less all = tt
  below k a (e ∷ es) less all =
      let next : R a e.0 ≡ Less = is_less (R a e.0) (first (is_lt (R a e.0)) (below_all R a es) all) in
      both (is_lt (R k e.0)) (below_all R k es) (subst (λ o. T (is_lt o)) (sym (total.trans k a e.0 less next)) tt) (below k a es less (second (is_lt (R a e.0)) (below_all R a es) all))

  -- what is less than the first of sorted entries is below all of them
  pub below_too : (k : K) (e : K × X) (es : List (K × X)) → T (is_sorted R (e ∷ es)) → R k e.0 ≡ Less → T (below_all R k (e ∷ es))
  below_too k e es sorted less =
      both (is_lt (R k e.0)) (below_all R k es) (subst (λ o. T (is_lt o)) (sym less) tt) (below k e.0 es less (first (below_all R e.0 es) (is_sorted R es) sorted))
