-- The error of an earlier call, passed on by `?`.
--     ok_none      nothing is said of a result that is an error
--     err_passed      what holds of that error
--     failed_cause, room_cause      the causes of a failed device and of want of room
use Rattle.std.proofs.Common.{Result, Ok, Err, ◌≡◌, inl, inr, refl, sym, subst, ℕ, ◌<◌, ◌≤◌}
use Rattle.std.specs.Prelude.{OnOk, IsErrAnd}
use Rattle.mdb_model.specs.Causes.{Rose}
use Rattle.mdb_model.specs.declared.fault.PageFault.{PageFault}
use Rattle.mdb_model.specs.declared.fault.PageFault.TheVariants.{Failed, Damaged}
use Rattle.mdb_bytes.specs.Held.{no_room, HasRoomCause}

pub ok_none : {T E : Type 0} (P : Type 0) (Q : E → Type 0) (result : Result T E) → IsErrAnd result Q → OnOk result P
ok_none P Q (Ok value) is = absurd is
ok_none P Q (Err fault) is = tt

pub err_passed : {T E : Type 0} (P : Result T E → Type 0) (fault : E) (result : Result T E) → IsErrAnd result (λ passed. passed ≡ fault) → P (Err fault) → P result
err_passed P fault (Ok value) is holds = absurd is
err_passed P fault (Err passed) is holds = subst (λ e. P (Err e)) (sym is) holds

-- a device that failed has its cause, and so has want of room
pub failed_cause : (known : Type 0) (left a b : ℕ) (fault : PageFault) → a ≤ b → Rose a b → fault ≡ Failed → HasRoomCause {T = Unit {0}} known left a b (Err fault)
failed_cause known left a b fault later rose is = record { later = later; failed = λ failed. rose; whole = λ known. inl is }

pub room_cause : (known : Type 0) (left a b : ℕ) → a ≤ b → left < 64 → HasRoomCause {T = Unit {0}} known left a b (Err (Damaged no_room))
room_cause known left a b later few = record { later = later; failed = λ is. absurd (cc); whole = λ known. inr (refl, few) }
