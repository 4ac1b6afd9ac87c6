-- What is found in sorted entries.
--     first, second      the parts of a test of two
--     absent      below all keys there is none
--     found_first, found_later      the first entry is found, and so is what is found among the others
use Rattle.std.proofs.Common.{◌≡◌, refl, sym, ap, ◌∙◌, Bool, true, false, cond, ◌&&◌, T, List, [], ◌∷◌, Some, None}
use Rattle.std.specs.declared.cmp.Ordering.{Ordering}
use Rattle.std.specs.declared.cmp.Ordering.TheVariants.{Less, Equal, Greater}
use Rattle.std.specs.Ordering.{eq_by_cmp, is_eq, is_lt}
use Rattle.std.specs.Cmp.{IsTotalOrder, tied_itself}
use Rattle.std.specs.FinMap.{IsAntisymmetric}
use Rattle.std.specs.FinMap.Entries.{is_sorted, below_all, find}

pub first : (a b : Bool) → T (a && b) → T a
first true b p = tt
first false b p = p

pub second : (a b : Bool) → T (a && b) → T b
second true b p = p
second false b p = absurd p

-- what is less does not tie
pub apart : (o : Ordering) → T (is_lt o) → is_eq o ≡ false
apart Less lower = refl
apart Equal lower = absurd lower
apart Greater lower = refl

tie : (o : Ordering) → is_eq o ≡ true → o ≡ Equal
tie Less is = cc
tie Equal is = refl
tie Greater is = cc

module _ {K : Type 0} (R : K → K → Ordering) (o : IsTotalOrder R) (exact : IsAntisymmetric R) where
  -- keys that tie are one
  pub same_key : (a b : K) → eq_by_cmp R a b ≡ true → a ≡ b
  same_key a b is = exact a b (tie (R a b) is)

  pub itself : (k : K) → eq_by_cmp R k k ≡ true
  itself k = ap is_eq (tied_itself o k)

  module _ {X : Type 0} where
    pub absent : (q : K) (es : List (K × X)) → T (below_all R q es) → find R q es ≡ None
    absent q [] below = refl
    absent q (e ∷ es) below =
        ap (λ b. cond b (Some e.1) (find R q es)) (apart (R q e.0) (first (is_lt (R q e.0)) (below_all R q es) below))
        ∙ absent q es (second (is_lt (R q e.0)) (below_all R q es) below)

    pub found_first : (e : K × X) (es : List (K × X)) → find R e.0 (e ∷ es) ≡ Some e.1
    found_first e es = ap (λ b. cond b (Some e.1) (find R e.0 es)) (itself e.0)

    pub found_later : (e : K × X) (es : List (K × X)) → T (is_sorted R (e ∷ es)) → (q : K) (x : X) → find R q es ≡ Some x → find R q (e ∷ es) ≡ Some x
    found_later e es sorted q x there = by_test (eq_by_cmp R q e.0) refl where
      by_test : (b : Bool) → eq_by_cmp R q e.0 ≡ b → cond b (Some e.1) (find R q es) ≡ Some x
      by_test false other = there
      by_test true here =
          let nothing : None ≡ Some x = sym (absent e.0 es (first (below_all R e.0 es) (is_sorted R es) sorted)) ∙ ap (λ k. find R k es) (sym (same_key q e.0 here)) ∙ there in
          cc
