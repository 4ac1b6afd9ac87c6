-- Where a log ends, as it is opened.
--     IsEnd, IsEndOf      the numbers of an end fit those of one beginning, and of both
--     EndFinds, EndEnds      what a walk from one beginning on answers
--     BothFinds, BothEnds      what the walks from both answer
use Rattle.std.specs.Prelude.{◌≡◌, ◌⊎◌, ℕ, ◌+◌, ◌^◌, ◌<◌, ◌≤◌, List, length, Result, Ok, Err}
use Rattle.mdb_model.specs.declared.change.Commit.{Commit}
use Rattle.mdb_model.specs.declared.fault.PageFault.{PageFault}
use Rattle.mdb_model.specs.declared.fault.PageFault.TheVariants.{Failed, Damaged}
use Rattle.mdb_model.specs.declared.name.Name.{Name}
use Rattle.mdb_bytes.specs.LogReading.{log_bytes}
use Rattle.mdb_bytes.specs.Rings.{ring_size}
use Rattle.redo_ring.specs.declared.open.LogStart.{LogStart}
use Rattle.redo_ring.specs.declared.open.LogEnd.{LogEnd}
use Rattle.redo_ring.specs.Ring.{HasLog}
use Rattle.redo_ring.specs.Reading.{LogBreaks}
use Rattle.redo_ring.specs.Opening.{HasBoth, Parts}

-- it is less than a turn after its beginning
pub record IsEnd (size start : ℕ) (end : LogEnd) : Type 0 where
  pub from : start ≤ end.position
  pub upto : end.position < start + size
  pub count : end.commit < 2 ^ 61 + end.position

-- neither beginning is after it, and it is less than a turn after a restart's
pub record IsEndOf (start : LogStart) (end : LogEnd) : Type 0 where
  pub from : start.position ≤ end.position
  pub saved : start.saved_position ≤ end.position
  pub room : end.position < start.position + ring_size start.pages
  pub low : end.position < 2 ^ 63
  pub grown : end.commit + start.position ≤ start.commit + end.position
  pub count : end.commit < 2 ^ 61 + end.position

-- the log from a position on is whole and ends here, or it breaks off
abbrev pub EndFinds : (size : ℕ) → Name → (ring : ℕ → ℕ) → (start after : ℕ)
    → Result LogEnd PageFault → Type 0
EndFinds size name ring start after (Ok end) =
    (commits : List Commit) × HasLog size name ring start after end.position end.commit commits
EndFinds size name ring start after (Err (Damaged damage)) =
    LogBreaks size name ring start after damage
EndFinds size name ring start after (Err Failed) = Unit {0}

-- the end of a log that is there
abbrev pub EndEnds : (start after : ℕ) → List Commit → Result LogEnd PageFault → Type 0
EndEnds start after commits (Ok end) =
    (end.position ≡ start + log_bytes commits) × (end.commit ≡ after + length commits)
EndEnds start after commits (Err (Damaged damage)) = ⊥
EndEnds start after commits (Err Failed) = Unit {0}

-- both logs are whole and end here, or one breaks off, or they end at two places
abbrev pub BothFinds : LogStart → (ring : ℕ → ℕ) → Result LogEnd PageFault → Type 0
BothFinds start ring (Ok end) = HasBoth start ring end.position end.commit
BothFinds start ring (Err (Damaged damage)) =
    LogBreaks (ring_size start.pages) start.name ring start.position start.commit damage
    ⊎ (LogBreaks (ring_size start.pages) start.name ring start.saved_position start.saved_commit
    damage
    ⊎ Parts start ring damage)
BothFinds start ring (Err Failed) = Unit {0}

-- the end of two logs that are whole and end at one place
abbrev pub BothEnds : LogStart → List Commit → Result LogEnd PageFault → Type 0
BothEnds start commits result = EndEnds start.position start.commit commits result
