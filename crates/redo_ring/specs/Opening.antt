-- Opening a log: from where a restart reads, and from where the log is not saved. Both ways have to
-- end at one place.
--     IsStart      the numbers of a beginning fit each other
--     IsRingOpened      the ring that was opened from there
--     OpenFinds      what stands in the log where it is opened, and where it is not
--     IsWhole, OpenEnds      a log that is whole is opened
use Rattle.std.specs.Prelude.{◌≡◌, ◌≢◌, ◌⊎◌, ℕ, ◌+◌, ◌^◌, ◌<◌, ◌≤◌, List, length, Result, Ok, Err}
use Rattle.mdb_model.specs.declared.change.Commit.{Commit}
use Rattle.mdb_model.specs.declared.fault.Damage.{Damage}
use Rattle.mdb_model.specs.declared.fault.OpenFault.{OpenFault}
use Rattle.mdb_model.specs.declared.fault.OpenFault.TheVariants.{Memory, Failed, Damaged}
use Rattle.mdb_bytes.specs.LogReading.{IsLog, log_bytes}
use Rattle.mdb_bytes.specs.Rings.{IsRingSize, ring_size}
use Rattle.redo_ring.specs.declared.ring.Ring.{Ring}
use Rattle.redo_ring.specs.declared.open.LogStart.{LogStart}
use Rattle.redo_ring.specs.Ring.{HasLog, damage_at}
use Rattle.redo_ring.specs.Reading.{LogBreaks}
use Rattle.redo_ring.specs.Calls.{InOrder}

pub record IsStart (start : LogStart) : Type 0 where
  pub size : IsRingSize (ring_size start.pages)
  pub low : start.position < 2 ^ 62
  pub count : start.commit < 2 ^ 61 + start.position
  pub saved_low : start.saved_position < 2 ^ 62
  pub saved_count : start.saved_commit < 2 ^ 61 + start.saved_position

pub record IsRingOpened (start : LogStart) (ring : Ring) : Type 0 where
  pub order : InOrder ring
  pub name : ring.name ≡ start.name
  pub size : ring.size ≡ ring_size start.pages
  pub redo : ring.redo_position ≡ start.position
  pub saved : ring.saved_position ≡ start.saved_position
  pub saved_number : ring.saved_commit ≡ start.saved_commit
  pub room : ring.end_position < start.position + ring.size
  -- a commit has more than one byte
  pub grown : ring.last_commit + start.position ≤ start.commit + ring.end_position

-- the log from a restart's beginning on and the log that is not saved are there, and they end here
pub record HasBoth (start : LogStart) (ring : ℕ → ℕ) (end last : ℕ) : Type 0 where
  pub commits : List Commit
  pub log : HasLog (ring_size start.pages) start.name ring start.position start.commit end last
      commits
  pub unsaved : List Commit
  pub unsaved_log : HasLog (ring_size start.pages) start.name ring start.saved_position
      start.saved_commit end last unsaved

-- they end at two places: the damage is reported at the first
pub record Parts (start : LogStart) (ring : ℕ → ℕ) (damage : Damage) : Type 0 where
  pub end : ℕ
  pub last : ℕ
  pub commits : List Commit
  pub log : HasLog (ring_size start.pages) start.name ring start.position start.commit end last
      commits
  pub unsaved_end : ℕ
  pub unsaved_last : ℕ
  pub unsaved : List Commit
  pub unsaved_log : HasLog (ring_size start.pages) start.name ring start.saved_position
      start.saved_commit unsaved_end unsaved_last unsaved
  pub two : (end ≢ unsaved_end) ⊎ (last ≢ unsaved_last)
  pub at_end : damage ≡ damage_at (ring_size start.pages) end

abbrev pub OpenFinds : LogStart → (ring : ℕ → ℕ) → Result Ring OpenFault → Type 0
OpenFinds start ring (Ok opened) = HasBoth start ring opened.end_position opened.last_commit
OpenFinds start ring (Err (Damaged damage)) =
    LogBreaks (ring_size start.pages) start.name ring start.position start.commit damage
    ⊎ (LogBreaks (ring_size start.pages) start.name ring start.saved_position start.saved_commit
    damage
    ⊎ Parts start ring damage)
OpenFinds start ring (Err Memory) = Unit {0}
OpenFinds start ring (Err Failed) = Unit {0}

-- both logs are these, and end at one place
pub record IsWhole (start : LogStart) (ring : ℕ → ℕ) (commits unsaved : List Commit) : Type 0 where
  pub log : IsLog ring start.name start.position start.commit commits
  pub room : log_bytes commits < ring_size start.pages
  pub unsaved_log : IsLog ring start.name start.saved_position start.saved_commit unsaved
  pub unsaved_room : log_bytes unsaved < ring_size start.pages
  pub ends : start.position + log_bytes commits ≡ start.saved_position + log_bytes unsaved
  pub count : start.commit + length commits ≡ start.saved_commit + length unsaved

abbrev pub OpenEnds : LogStart → List Commit → Result Ring OpenFault → Type 0
OpenEnds start commits (Ok opened) =
    (opened.end_position ≡ start.position + log_bytes commits)
    × (opened.last_commit ≡ start.commit + length commits)
OpenEnds start commits (Err (Damaged damage)) = ⊥
OpenEnds start commits (Err Memory) = Unit {0}
OpenEnds start commits (Err Failed) = Unit {0}
