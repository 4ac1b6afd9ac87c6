-- What holds of a result.
--     ok_map, ok_all, on_any      where it is Ok, by a step from what held, or of each value
--     if_passed, err_passed      where it is the error of an earlier result, passed on by `?`
--     unmapped_ok, unmapped_err      of one whose fault was made another one
use Rattle.std.proofs.Common.{Result, Ok, Err, ◌≡◌, ◌∙◌, refl, sym, subst}
use Rattle.std.specs.Prelude.{IfOk, IfErr, OnOk, IsErrAnd, MatchResult}

pub ok_map : {T E : Type 0} (result : Result T E) (P Q : T → Type 0) → ((value : T) → P value → Q value) → IfOk result P → IfOk result Q
ok_map (Ok value) P Q step is = step value is
ok_map (Err fault) P Q step is = tt

pub ok_all : {T E : Type 0} (result : Result T E) (Q : T → Type 0) → ((value : T) → Q value) → IfOk result Q
ok_all (Ok value) Q each = each value
ok_all (Err fault) Q each = tt

pub if_passed : {T E : Type 0} (P : E → Type 0) (fault : E) (result : Result T E)
    → IsErrAnd result (λ passed. passed ≡ fault) → P fault → IfErr result P
if_passed P fault (Ok value) is holds = absurd is
if_passed P fault (Err passed) is holds = subst P (sym is) holds

pub err_passed : {T E : Type 0} (P : Result T E → Type 0) (fault : E) (result : Result T E)
    → IsErrAnd result (λ passed. passed ≡ fault) → P (Err fault) → P result
err_passed P fault (Ok value) is holds = absurd is
err_passed P fault (Err passed) is holds = subst (λ e. P (Err e)) (sym is) holds

-- a result whose fault was made another one: where that is Ok, so was the first; where it is an
-- error, the first was one that this comes from
pub unmapped_ok : {T E D : Type 0} (result : Result T E) (mapped : Result T D) (P : E → D → Type 0)
    → MatchResult result (λ value. mapped ≡ Ok value) (λ fault. IsErrAnd mapped (P fault))
    → (value : T) → mapped ≡ Ok value → result ≡ Ok value
unmapped_ok (Ok other) mapped P cases value is = let both : Ok other ≡ Ok value = sym cases ∙ is in let same : other ≡ value = cc in λ i. Ok (same i)
unmapped_ok (Err fault) mapped P cases value is = absurd (subst (λ r. IsErrAnd r (P fault)) is cases)

pub unmapped_err : {T E D : Type 0} (result : Result T E) (mapped : Result T D) (P : E → D → Type 0)
    → MatchResult result (λ value. mapped ≡ Ok value) (λ fault. IsErrAnd mapped (P fault))
    → (fault : D) → mapped ≡ Err fault → (first : E) × (result ≡ Err first) × P first fault
unmapped_err (Ok value) mapped P cases fault is = absurd (never (sym cases ∙ is))
  where
    never : {T D : Type 0} {v : T} {f : D} → ◌≡◌ {A = Result T D} (Ok v) (Err f) → ⊥
    never both = cc
unmapped_err (Err first) mapped P cases fault is = (first, refl, subst (λ r. IsErrAnd r (P first)) is cases)

-- what holds anyhow
pub on_any : {T E : Type 0} (result : Result T E) (Q : Type 0) → Q → OnOk result Q
on_any (Ok value) Q holds = holds
on_any (Err fault) Q holds = tt
