-- Tests and what they decide.
use Rattle.std.proofs.Common.{◌≡◌, ◌↔◌, sym, ap, ◌∙◌, Bool, true, false, ℕ, List, [], length, eqb, T, ◌&&◌}
use Rattle.std.proofs.lemmas.Bool.{eqb-true, eq-eqb}
use Rattle.std.proofs.lemmas.List.{nil_from_length}
use Rattle.std.specs.Prelude.{IsTrue}

pub refused : {F : Type 0} {b : Bool} → (IsTrue b ↔ F) → b ≡ false → ¬ F
refused e is_false f = let t = e.1 f in absurd cc

pub passed : {F : Type 0} {b : Bool} → (IsTrue b ↔ F) → b ≡ true → F
passed e is_true = e.0 is_true

pub empty_test : (b : Bool) (xs : List ℕ) → b ≡ eqb (length xs) 0 → IsTrue b ↔ (xs ≡ [])
empty_test b xs e =
    (λ t. nil_from_length xs (eqb-true (length xs) 0 (sym e ∙ t)), λ n. let len : length xs ≡ 0 = ap length n in e ∙ eq-eqb (length xs) 0 len)

-- a false test of what cannot be
pub never : {W : Type 0} → ¬ W → IsTrue false ↔ W
never out = (λ f. absurd cc, λ w. absurd (out w))

-- the first of two tests that pass
pub first_holds : (a b : Bool) → T (a && b) → T a
first_holds true b p = tt
first_holds false b p = p

-- and the second
pub second_holds : (a b : Bool) → T (a && b) → T b
second_holds true b p = p
second_holds false b p = absurd p
