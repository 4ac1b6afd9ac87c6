-- What a reader of the ring finds.
--     IsReader      the numbers of a reader fit each other
--     FindsGroup, MovesReader      what it finds at its position, and where it stands then
--     IsNextOf      the same of a log that is known
--     HoldsGate, StepsOn      bytes that hold a gate and its group, and a step over it
--     WalkFinds, WalkEnds      what a walk over the whole log finds
use Rattle.std.specs.Prelude.{◌≡◌, ◌≢◌, ℕ, ◌+◌, ◌^◌, ◌<◌, ◌≤◌, List, [], ◌∷◌, length, get_or, Bool, true, false, Result, Ok, Err, IfOk}
use Rattle.mdb_model.specs.declared.change.Change.{Change}
use Rattle.mdb_model.specs.declared.change.Commit.{Commit}
use Rattle.mdb_model.specs.declared.fault.Damage.{Damage}
use Rattle.mdb_model.specs.declared.fault.PageFault.{PageFault}
use Rattle.mdb_model.specs.declared.fault.PageFault.TheVariants.{Failed, Damaged}
use Rattle.mdb_model.specs.declared.name.Name.{Name}
use Rattle.mdb_model.specs.Sessions.{group_bytes}
use Rattle.mdb_bytes.specs.Fields.{Spells, number_at}
use Rattle.mdb_bytes.specs.Groups.{group_format, open_gate}
use Rattle.mdb_bytes.specs.LogReading.{IsLog, bytes_from, log_bytes}
use Rattle.mdb_bytes.specs.Rings.{IsRingSize}
use Rattle.redo_ring.specs.declared.reader.RingReader.{RingReader}
use Rattle.redo_ring.specs.Ring.{HasGroup, HasLog, damage_at}

-- it stands less than a turn after its start
pub record IsReader (reader : RingReader) : Type 0 where
  pub size : IsRingSize reader.size
  pub from : reader.start ≤ reader.position
  pub upto : reader.position < reader.start + reader.size
  pub low : reader.start < 2 ^ 62
  pub count : reader.number < 2 ^ 61 + reader.position

-- no group that is due stands at the position
abbrev pub NoGroup : (size : ℕ) → Name → (ring : ℕ → ℕ) → (start position number : ℕ) → Type 0
NoGroup size name ring start position number =
    (changes : List Change) → position + group_bytes changes < start + size
    → Spells group_format (record { name = name; number = number + 1; changes = changes })
    (bytes_from ring position (group_bytes changes)) → ⊥

-- What a reader finds at its position: the group that is due, with an open gate; a closed gate; or
-- an open gate before bytes that are not the group that is due, or one that ends a turn of the ring
-- after the start.
abbrev pub FindsGroup : (size : ℕ) → Name → (ring : ℕ → ℕ) → (start position number : ℕ)
    → (bytes : List ℕ) → Result Bool PageFault → Type 0
FindsGroup size name ring start position number bytes (Ok true) =
    (bytes ≡ bytes_from ring position (length bytes)) × HasGroup name (number + 1) bytes
FindsGroup size name ring start position number bytes (Ok false) = ring position ≢ open_gate
FindsGroup size name ring start position number bytes (Err (Damaged damage)) =
    (damage ≡ damage_at size position) × (ring position ≡ open_gate)
    × NoGroup size name ring start position number
FindsGroup size name ring start position number bytes (Err Failed) = Unit {0}

-- where the reader stands after it
abbrev pub MovesReader : (old new : RingReader) → (bytes : List ℕ) → Result Bool PageFault → Type 0
MovesReader old new bytes (Ok true) =
    new ≡ record old { position = old.position + length bytes; number = old.number + 1 }
MovesReader old new bytes (Ok false) = new ≡ old
MovesReader old new bytes (Err fault) = new ≡ old

-- Of a log of these commits from the position on: the group is that of the first one.
abbrev pub IsNextOf : (size : ℕ) → Name → (ring : ℕ → ℕ) → (position number : ℕ) → (bytes : List ℕ)
    → List Commit → Result Bool PageFault → Type 0
IsNextOf size name ring position number bytes commits (Ok true) =
    (commit : Commit) × (rest : List Commit) × (commits ≡ commit ∷ rest)
    × Spells group_format (record { name = name; number = number + 1; changes = commit.changes })
    bytes
    × (length bytes ≡ group_bytes commit.changes)
    × IsLog ring name (position + length bytes) (number + 1) rest
IsNextOf size name ring position number bytes commits (Ok false) = commits ≡ []
IsNextOf size name ring position number bytes commits (Err (Damaged damage)) = ⊥
IsNextOf size name ring position number bytes commits (Err Failed) = Unit {0}

-- These bytes hold what stands at their front: a closed gate, or as many bytes as are said after an
-- open one.
abbrev pub HoldsGate : List ℕ → Type 0
HoldsGate bytes =
    (0 < length bytes)
    × (get_or bytes 0 0 ≡ open_gate → (33 ≤ length bytes) × (number_at 4 1 bytes ≤ length bytes))

-- A reader went over a group as `next` does, but the group's bytes need not be in a buffer. What it
-- found is known where the ring is told.
pub record StepsOn (told : Type 0) (ring : ℕ → ℕ) (old new : RingReader)
    (result : Result Bool PageFault) : Type 0 where
  pub bytes : List ℕ
  pub group : IfOk result (λ more. more ≡ true → HasGroup old.name (old.number + 1) bytes)
  pub goes : MovesReader old new bytes result
  pub finds : told
      → FindsGroup old.size old.name ring old.start old.position old.number bytes result

-- Walks over a whole log

-- the groups of these commits stand one after the other with open gates
abbrev pub AreGroups : (ℕ → ℕ) → Name → (position after : ℕ) → List Commit → Type 0
AreGroups ring name position after [] = Unit {0}
AreGroups ring name position after (commit ∷ commits) =
    Spells group_format (record { name = name; number = after + 1; changes = commit.changes })
    (bytes_from ring position (group_bytes commit.changes))
    × AreGroups ring name (position + group_bytes commit.changes) (after + 1) commits

-- after the groups of some commits an open gate stands before bytes that are not the group that is
-- due
pub record LogBreaks (size : ℕ) (name : Name) (ring : ℕ → ℕ) (start after : ℕ) (damage : Damage)
    : Type 0 where
  pub before : List Commit
  pub groups : AreGroups ring name start after before
  pub at_gate : damage ≡ damage_at size (start + log_bytes before)
  pub opened : ring (start + log_bytes before) ≡ open_gate
  pub none : NoGroup size name ring start (start + log_bytes before) (after + length before)

-- what a walk from a position on finds: a whole log, which ends where the reader stands then, or
-- where it breaks
abbrev pub WalkFinds : (size : ℕ) → Name → (ring : ℕ → ℕ) → (start after end last : ℕ)
    → Result (Unit {0}) PageFault → Type 0
WalkFinds size name ring start after end last (Ok done) =
    (commits : List Commit) × HasLog size name ring start after end last commits
WalkFinds size name ring start after end last (Err (Damaged damage)) =
    LogBreaks size name ring start after damage
WalkFinds size name ring start after end last (Err Failed) = Unit {0}

-- a log that is there is found
abbrev pub WalkEnds : (start after end last : ℕ) → List Commit → Result (Unit {0}) PageFault
    → Type 0
WalkEnds start after end last commits (Ok done) =
    (end ≡ start + log_bytes commits) × (last ≡ after + length commits)
WalkEnds start after end last commits (Err (Damaged damage)) = ⊥
WalkEnds start after end last commits (Err Failed) = Unit {0}
