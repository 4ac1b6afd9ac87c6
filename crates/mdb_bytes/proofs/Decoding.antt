-- What decodes is exact.
--     decoded-bytes      what was decoded is spelled by the bytes
--     decoded-exact      a format that is read back is decoded exactly
use Rattle.std.proofs.Common.{◌≡◌, refl, sym, ap, subst, ◌∙◌, ℕ, List, Bool, true, false, cond, ◌&&◌, Some, None}
use Rattle.std.specs.Ordering.{nat_cmp, is_eq}
use Rattle.std.specs.Cmp.{Equal-is, tied_itself}
use Rattle.std.specs.Cmp.Lexicographic.{slice_cmp, nat_list_cmp_total}
use Rattle.std.specs.FinMap.{nat_cmp-IsAntisymmetric, slice_cmp-IsAntisymmetric}
use Rattle.std.proofs.lemmas.Option.{cond_some}
use Rattle.mdb_bytes.specs.Fields.{Format, Spells, decoded, Decodes, ReadsBack, spelled, fields_fit, same_bytes}

pub and_left : (a b : Bool) → (a && b) ≡ true → a ≡ true
and_left true b e = refl
and_left false b e = e

pub and_right : (a b : Bool) → (a && b) ≡ true → b ≡ true
and_right true b e = e
and_right false b e = absurd cc

pub and_both : (a b : Bool) → a ≡ true → b ≡ true → (a && b) ≡ true
and_both a b x y = λ i. x i && y i

pub same_bytes-is : (a b : List ℕ) → same_bytes a b ≡ true → a ≡ b
same_bytes-is a b e = slice_cmp-IsAntisymmetric nat_cmp-IsAntisymmetric a b ((Equal-is (slice_cmp nat_cmp a b)).0 e)

pub same_bytes-itself : (a : List ℕ) → same_bytes a a ≡ true
same_bytes-itself a = ap is_eq (tied_itself nat_list_cmp_total a)

module _ {X : Type 0} (format : Format X) where
  abbrev keeps : X → Bool
  keeps v = format.fits v && fields_fit (format.fields v)

  -- the test of `decoded`
  abbrev passes : List ℕ → X → Bool
  passes bytes v = keeps v && same_bytes bytes (spelled (format.fields v))

  pub decoded-spells : (bytes : List ℕ) (v : X) → decoded format bytes ≡ Some v → Spells format v bytes
  unfolding decoded
  decoded-spells bytes v e =
      let found = cond_some (passes bytes (format.reads bytes)) (format.reads bytes) v e in
      let kept : passes bytes v ≡ true = subst (λ x. passes bytes x ≡ true) found.1 found.0 in
      (and_left _ _ kept, same_bytes-is _ _ (and_right (keeps v) _ kept))

  spelled-passes : (bytes : List ℕ) (v : X) → Spells format v bytes → passes bytes v ≡ true
  spelled-passes bytes v s =
      subst (λ b. (b && same_bytes bytes (spelled (format.fields v))) ≡ true) (sym s.0)
      (subst (λ other. same_bytes bytes other ≡ true) s.1 (same_bytes-itself bytes))

  pub spelled-decoded : ReadsBack format → (bytes : List ℕ) (v : X) → Spells format v bytes → decoded format bytes ≡ Some v
  unfolding decoded
  spelled-decoded again bytes v s =
      let read : format.reads bytes ≡ v = ap format.reads s.1 ∙ again v s.0 in
      (λ i. cond (passes bytes (read i)) (Some (read i)) None) ∙ ap (λ b. cond b (Some v) None) (spelled-passes bytes v s)

  pub decoded-exact : ReadsBack format → (bytes : List ℕ) → Decodes format bytes (decoded format bytes)
  decoded-exact again bytes =
      elim (decoded format bytes) as (λ o. decoded format bytes ≡ o → Decodes format bytes o) [
        | Some v ↦ λ e. decoded-spells bytes v e
        | None ↦ λ e v s. (let both : None ≡ Some v = sym e ∙ spelled-decoded again bytes v s in absurd cc)
      ] refl

  -- what is read back is spelled by its bytes alone
  pub one_value : ReadsBack format → (a b : X) (bytes : List ℕ) → Spells format a bytes → Spells format b bytes → a ≡ b
  one_value again a b bytes x y = sym (again a x.0) ∙ ap format.reads (sym x.1 ∙ y.1) ∙ again b y.0
