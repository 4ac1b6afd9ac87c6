-- A line that changes a row goes by what the space rule says, and is noted.
--     noted_is      the note of a change for which memory was taken
--     weighed_put, weighed_del      a put, and a deletion, that was made
--     weighed_refused      a change that is refused
--     put_full, del_full, del_enough      whether the blocks sufficed
--     del_wants      what is wanted of a deletion of a row
use Rattle.std.proofs.Common.{◌≡◌, refl, sym, ap, ◌∙◌, subst, ℕ, ◌+◌, Bool, true, false, List, Option, Some, None, is_some, Ok, Err, IfOk}
use Rattle.mdb_model.specs.declared.change.Change.{Change}
use Rattle.mdb_model.specs.declared.change.Change.TheVariants.{Del}
use Rattle.mdb_model.specs.declared.name.Session.{Session}
use Rattle.mdb_model.specs.declared.name.Table.{Table}
use Rattle.mdb_model.specs.declared.script.Refusal.TheVariants.{Locked, TransactionLarge, MemoryWanting}
use Rattle.mdb_model.specs.declared.script.Reply.TheVariants.{PutDone, DelDone, Refused}
use Rattle.mdb_model.specs.Tables.{Place}
use Rattle.transactions.specs.declared.fault.TxFault.{TxFault}
use Rattle.transactions.specs.declared.fault.TxFault.TheVariants as tx
use Rattle.transactions.specs.Calls.{PutDoes, DelDoes}
use Rattle.transactions.specs.Ongoing.{Ongoing}
use Rattle.session_rows.specs.declared.room.Room.{Room}
use Rattle.session_rows.specs.declared.room.Room.TheVariants.{Enough, Full}
use Rattle.session_rows.specs.Replies.{is_enough_room, full_refusal, refusal_of, ObeysRoom}
use Rattle.space_rule.specs.KnownCosts.{KnownCosts, need_of, noted, prepared_for}
use Rattle.space_lines.specs.Weighed.{room_for, room_with, IsWeighed}

-- the note of a change for which memory was taken
pub noted_is : (old taken new : KnownCosts) (p : Option Place) (session : ℕ) (made change : Change) (before : Option ℕ) → taken ≡ prepared_for old p → made ≡ change
    → new ≡ noted taken session made before → new ≡ noted old session change before
noted_is old taken new p session made change before taken_is made_is is = is ∙ (λ i. noted (taken_is i) session (made_is i) before)

-- what is prepared is what is prepared
own_prepared : (old new : KnownCosts) (p : Option Place) → new ≡ prepared_for old p → new ≡ prepared_for old new.prepared
own_prepared old new p is = is ∙ ap (prepared_for old) (sym (ap (λ (k : KnownCosts). k.prepared) is))

-- replies that obey the room
obey_put : (room : Room) → is_enough_room room ≡ true → ObeysRoom room PutDone
obey_put Enough is = tt
obey_put (Full want blocks) is = cc

obey_del : (room : Room) → is_enough_room room ≡ true → ObeysRoom room DelDone
obey_del Enough is = tt
obey_del (Full want blocks) is = cc

obey_full : (room : Room) → is_enough_room room ≡ false → ObeysRoom room (Refused (full_refusal room))
obey_full Enough is = cc
obey_full (Full want blocks) is = (refl, refl)

obey_locked : (room : Room) (other : Session) → ObeysRoom room (Refused (Locked other))
obey_locked Enough other = tt
obey_locked (Full want blocks) other = tt

obey_large : (room : Room) (bytes : ℕ) → ObeysRoom room (Refused (TransactionLarge bytes))
obey_large Enough bytes = tt
obey_large (Full want blocks) bytes = tt

obey_memory : (room : Room) → ObeysRoom room (Refused MemoryWanting)
obey_memory Enough = tt
obey_memory (Full want blocks) = tt

module _ (Sees : Option ℕ → Type 0) (old new : KnownCosts) (session : ℕ) (change : Change) (before : Option ℕ) (seen : Sees before)
    (room : Room) (weighs : room ≡ room_with old session change before) where
  -- a put, or a deletion, that was made
  pub weighed_put : is_enough_room room ≡ true → new ≡ noted old session change before → IsWeighed Sees old new session change PutDone
  weighed_put enough is = record {
    before = before;
    seen = seen;
    room = subst (λ (r : Room). ObeysRoom r PutDone) weighs (obey_put room enough);
    notes = is;
  }

  pub weighed_del : is_enough_room room ≡ true → new ≡ noted old session change before → IsWeighed Sees old new session change DelDone
  weighed_del enough is = record {
    before = before;
    seen = seen;
    room = subst (λ (r : Room). ObeysRoom r DelDone) weighs (obey_del room enough);
    notes = is;
  }

  -- a change that is refused
  pub weighed_refused : (p : Option Place) → new ≡ prepared_for old p → (fault : TxFault) → (fault ≡ tx.Full → is_enough_room room ≡ false) → IfOk (refusal_of room fault) (IsWeighed Sees old new session change)
  weighed_refused p is (tx.Locked other) full = record {
    before = before;
    seen = seen;
    room = obey_locked (room_with old session change before) other;
    notes = own_prepared old new p is;
  }
  weighed_refused p is (tx.TooLarge bytes) full = record {
    before = before;
    seen = seen;
    room = obey_large (room_with old session change before) bytes;
    notes = own_prepared old new p is;
  }
  weighed_refused p is tx.Memory full = record {
    before = before;
    seen = seen;
    room = obey_memory (room_with old session change before);
    notes = own_prepared old new p is;
  }
  weighed_refused p is tx.Full full = record {
    before = before;
    seen = seen;
    room = subst (λ (r : Room). ObeysRoom r (Refused (full_refusal room))) weighs (obey_full room (full refl));
    notes = own_prepared old new p is;
  }
  weighed_refused p is (tx.Page fault) full = tt

-- where the blocks do not suffice
pub put_full : (old new : Ongoing) (session : ℕ) (change : Change) (fits : Bool) (fault : TxFault) → PutDoes old new session change fits (Err fault) → fault ≡ tx.Full → fits ≡ false
put_full old new session change fits (tx.Locked other) does is = cc
put_full old new session change fits (tx.TooLarge bytes) does is = cc
put_full old new session change fits tx.Memory does is = cc
put_full old new session change fits tx.Full does is = does.1
put_full old new session change fits (tx.Page fault) does is = cc

pub del_full : (old new : Ongoing) (session : ℕ) (change : Change) (fits : Bool) (fault : TxFault) → DelDoes old new session change fits true (Err fault) → fault ≡ tx.Full → fits ≡ false
del_full old new session change fits (tx.Locked other) does is = cc
del_full old new session change fits (tx.TooLarge bytes) does is = cc
del_full old new session change fits tx.Memory does is = cc
del_full old new session change fits tx.Full does is = does.1
del_full old new session change fits (tx.Page fault) does is = cc

-- a deletion that was made had room for it
pub del_enough : (old new : Ongoing) (session : ℕ) (change : Change) (fits b : Bool) → DelDoes old new session change fits true (Ok b) → fits ≡ true
del_enough old new session change fits true does = does.1
del_enough old new session change fits false does = absurd does

-- what is wanted of a deletion of a row
pub del_wants : (known : KnownCosts) (session : ℕ) (table : Table) (key : List ℕ) (before : Option ℕ) → is_some before ≡ true
    → room_for (need_of (noted known session (Del table key) before) + 160) known.blocks ≡ room_with known session (Del table key) before
del_wants known session table key None there = cc
del_wants known session table key (Some len) there = refl
