-- Rows of slots.
use Rattle.std.proofs.Common.{◌≡◌, ◌∙◌, inl, inr, zero, suc, ◌<◌, ◌≤◌, [], ◌∷◌, slice_get, ℕ, ◌+◌, List, ◌++◌, length, refl, sym, ap, subst, arith, Option, Some, None, Vec}
use Rattle.std.proofs.lemmas.Bool.{cases_lt}
use Rattle.std.proofs.Math.ListN.{set}
use Rattle.std.specs.declared.alloc.Global.{Global}
use Rattle.mdb_model.specs.declared.fault.Device.{Device}
use Rattle.mdb_host.specs.Memory.{code, content, held, image_of, with_device}
use Rattle.mdb_host.specs.MemoryLaws.{same_device, code_is, with_here, with_other}

abbrev pub Slot : Type 0
Slot = Option (Vec ℕ Global)

-- no slot of these holds anything
abbrev pub AllAbsent : List Slot → Type 0
AllAbsent slots = (k : ℕ) → held (slice_get slots k) ≡ None

pub none_absent : AllAbsent []
none_absent k = refl

pub push_absent : (slots : List Slot) → AllAbsent slots → AllAbsent (slots ++ None ∷ [])
push_absent [] absent zero = refl
push_absent [] absent (suc k) = refl
push_absent (x ∷ slots) absent zero = absent 0
push_absent (x ∷ slots) absent (suc k) = push_absent slots (λ j. absent (suc j)) k

-- the first n slots hold the same in both
abbrev pub SameTo : ℕ → List Slot → List Slot → Type 0
SameTo n old new = (k : ℕ) → k < n → held (slice_get new k) ≡ held (slice_get old k)

pub push_same : (old new : List Slot) (x y : Slot) → slice_get old (length new) ≡ Some y → content x ≡ content y → SameTo (length new) old new → SameTo (length new + 1) old (new ++ x ∷ [])
push_same old [] x y here same to zero lt = same ∙ sym (ap held here)
push_same old [] x y here same to (suc k) lt = absurd (omega arith)
push_same [] (z ∷ new) x y here same to k lt = cc
push_same (o ∷ old) (z ∷ new) x y here same to zero lt = to 0 (omega arith)
push_same (o ∷ old) (z ∷ new) x y here same to (suc k) lt = push_same old new x y here same (λ j below. to (suc j) (omega arith)) k (omega arith)

past : (slots : List Slot) (k : ℕ) → length slots ≤ k → held (slice_get slots k) ≡ None
past [] k le = refl
past (x ∷ slots) zero le = absurd (omega arith)
past (x ∷ slots) (suc k) le = past slots k (omega arith)

-- two rows of one length that hold the same
same_slot : (old new : List Slot) (n k : ℕ) → length old ≡ n → length new ≡ n → SameTo n old new → held (slice_get new k) ≡ held (slice_get old k)
same_slot old new n k old_len new_len to = elim (cases_lt k n) [
  | inl lt ↦ to k lt
  | inr ge ↦ past new k (omega (arith, new_len, ge)) ∙ sym (past old k (omega (arith, old_len, ge)))
]

pub same_rows : (old new : List Slot) (n : ℕ) → length old ≡ n → length new ≡ n → SameTo n old new → image_of new ≡ image_of old
same_rows old new n old_len new_len to = λ i e. same_slot old new n (code e) old_len new_len to i

get_set_same : (xs : List Slot) (i : ℕ) (x : Slot) → i < length xs → slice_get (set xs i x) i ≡ Some x
get_set_same [] i x lt = absurd (omega arith)
get_set_same (y ∷ xs) zero x lt = refl
get_set_same (y ∷ xs) (suc i) x lt = get_set_same xs i x (omega arith)

get_set_other : (xs : List Slot) (i j : ℕ) (x : Slot) → (j ≡ i → ⊥) → slice_get (set xs i x) j ≡ slice_get xs j
get_set_other [] i j x other = refl
get_set_other (y ∷ xs) zero zero x other = absurd (other refl)
get_set_other (y ∷ xs) zero (suc j) x other = refl
get_set_other (y ∷ xs) (suc i) zero x other = refl
get_set_other (y ∷ xs) (suc i) (suc j) x other = get_set_other xs i j x (λ is. other (omega (arith, is)))

set_at : (slots : List Slot) (d : Device) (slot : Slot) → code d < length slots → (e : Device) → image_of (set slots (code d) slot) e ≡ with_device d (content slot) (image_of slots) e
set_at slots d slot lt e = elim (same_device e d) [
  | inl is ↦ subst (λ (x : Device). image_of (set slots (code d) slot) x ≡ with_device d (content slot) (image_of slots) x) (sym is) (ap held (get_set_same slots (code d) slot lt) ∙ sym (with_here d (content slot) (image_of slots)))
  | inr other ↦ ap held (get_set_other slots (code d) (code e) slot (λ same. other (code_is e d same))) ∙ sym (with_other d e (content slot) (image_of slots) other)
]

-- one slot that holds something else
pub set_image : (slots : List Slot) (d : Device) (i : ℕ) (slot : Slot) → i ≡ code d → i < length slots → image_of (set slots i slot) ≡ with_device d (content slot) (image_of slots)
set_image slots d i slot is lt = ap (λ (j : ℕ). image_of (set slots j slot)) is ∙ (λ i e. set_at slots d slot (omega (arith, is, lt)) e i)
