-- How a line that changes a row is weighed and noted.
--     room_for, reserve_for, room_with      what the space rule says of a change
--     Notes      what it knows after the line
--     IsWeighed      both, by the length that the session saw before
use Rattle.std.specs.Prelude.{◌≡◌, ℕ, ◌+◌, nat_lt, Option, Some, None, if◌then◌else◌}
use Rattle.mdb_model.specs.declared.change.Change.{Change}
use Rattle.mdb_model.specs.declared.change.Change.TheVariants.{Put, Del}
use Rattle.mdb_model.specs.declared.script.Reply.{Reply}
use Rattle.mdb_model.specs.declared.script.Reply.TheVariants.{PutDone, DelDone}
use Rattle.session_rows.specs.declared.room.Room.{Room}
use Rattle.session_rows.specs.declared.room.Room.TheVariants.{Enough, Full}
use Rattle.session_rows.specs.Replies.{ObeysRoom}
use Rattle.space_rule.specs.KnownCosts.{KnownCosts, need_of, noted, prepared_for}

-- whether so many blocks suffice where these are wanted
abbrev pub room_for : (want blocks : ℕ) → Room
room_for want blocks = if nat_lt blocks want then Full want blocks else Enough

-- the blocks that a change has to leave free past what is needed after it; a deletion of no row is
-- no change
abbrev pub reserve_for : Change → (before : Option ℕ) → Option ℕ
reserve_for (Put table key value) before = Some 224
reserve_for (Del table key) (Some len) = Some 160
reserve_for (Del table key) None = None

-- what the space rule says of a change of a value that had this length before
abbrev pub room_with : KnownCosts → (session : ℕ) → Change → (before : Option ℕ) → Room
room_with known session change before = by_reserve (reserve_for change before) where
  by_reserve : Option ℕ → Room
  by_reserve None = Enough
  by_reserve (Some reserve) =
      room_for (need_of (noted known session change before) + reserve) known.blocks

-- a change is noted where it was made; else all stays, but for what is prepared
abbrev pub Notes : (old new : KnownCosts) → (session : ℕ) → Change → (before : Option ℕ) → Reply
    → Type 0
Notes old new session change before PutDone = new ≡ noted old session change before
Notes old new session change before DelDone = new ≡ noted old session change before
Notes old new session change before _ = new ≡ prepared_for old new.prepared

-- with the length that the session saw before, the reply goes by what the space rule says, and the
-- change is noted
pub record IsWeighed (Sees : Option ℕ → Type 0) (old new : KnownCosts) (session : ℕ)
    (change : Change) (reply : Reply) : Type 0 where
  pub before : Option ℕ
  pub seen : Sees before
  pub room : ObeysRoom (room_with old session change before) reply
  pub notes : Notes old new session change before reply
