-- When a call may fail.
--     cause_through      a fault that is passed on has a cause
--     on_ok, if_ok      what holds of an answer
use Rattle.std.proofs.Common.{◌≡◌, sym, ◌∙◌, ℕ, ◌≤◌, Result, Ok, Err, arith}
use Rattle.std.specs.Prelude.{IsErrAnd, IfOk, OnOk}
use Rattle.mdb_model.specs.Causes.{Rose}
use Rattle.mdb_model.specs.declared.fault.PageFault.{PageFault}
use Rattle.mdb_model.specs.declared.fault.PageFault.TheVariants.{Failed}
use Rattle.mdb_bytes.specs.Held.{HasPageCause}

pub rose_before : (a b c : ℕ) → a ≤ b → Rose b c → Rose a c
rose_before a b c le r = omega arith

-- a fault that is passed on has the cause that it had
pub cause_through : {U K : Type 0} (a b c : ℕ) (e : PageFault) (r : Result U PageFault) → IsErrAnd r (λ f. f ≡ e) → a ≤ b → b ≤ c → (e ≡ Failed → Rose b c) → (K → e ≡ Failed) → HasPageCause K a c r
cause_through a b c e (Ok x) is le later failed whole = absurd is
cause_through a b c e (Err f) is le later failed whole = record {
  later = omega arith;
  failed = λ same. rose_before a b c le (failed (sym is ∙ same));
  whole = λ k. is ∙ whole k;
}

-- the cause of the last call is that of all
pub cause_last : {U K K2 : Type 0} (a b c : ℕ) (r : Result U PageFault) → a ≤ b → HasPageCause K2 b c r → (K → K2) → HasPageCause K a c r
cause_last a b c (Ok x) le h on = let later = h.later in record { later = omega arith; failed = tt; whole = λ k. tt }
cause_last a b c (Err e) le h on = let later = h.later in record { later = omega arith; failed = λ same. rose_before a b c le (h.failed same); whole = λ k. h.whole (on k) }

pub on_ok : {A E : Type 0} (P Q : Type 0) (r : Result A E) → (P → Q) → OnOk r P → OnOk r Q
on_ok P Q (Ok a) f h = f h
on_ok P Q (Err e) f h = tt

pub if_ok : {A E : Type 0} (P Q : A → Type 0) (r : Result A E) → ((a : A) → P a → Q a) → IfOk r P → IfOk r Q
if_ok P Q (Ok a) f h = f a h
if_ok P Q (Err e) f h = tt
