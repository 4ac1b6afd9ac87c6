-- What the calls of the ring ask and answer.
--     InOrder      the numbers of a ring fit each other
--     AppendAnswer      when a group is refused
--     Untouched      what a refusal leaves alone
use Rattle.std.specs.Prelude.{◌≡◌, ℕ, ◌+◌, ◌^◌, ◌<◌, ◌≤◌, Result, Ok, Err}
use Rattle.mdb_bytes.specs.Rings.{IsRingSize}
use Rattle.redo_ring.specs.declared.fault.RingFault.{RingFault}
use Rattle.redo_ring.specs.declared.fault.RingFault.TheVariants.{Full, Pinned, Failed}
use Rattle.redo_ring.specs.declared.ring.Ring.{Ring}

-- the numbers of a ring fit each other; they are counted as in src/ring.rt
pub record InOrder (ring : Ring) : Type 0 where
  -- (1)
  pub size : IsRingSize ring.size
  -- (2)
  pub saved : ring.saved_position ≤ ring.end_position
  pub redo : ring.redo_position ≤ ring.end_position
  -- (3)
  pub low : ring.end_position < 2 ^ 63
  -- (4)
  pub count : ring.last_commit < 2 ^ 61 + ring.end_position

-- A group of n bytes is refused where it, with a closed gate after it, does not fit beside the
-- bytes that are not saved, and else where it does not fit beside those that a restart reads.
abbrev pub AppendAnswer : (size unsaved needed n : ℕ) → Result (Unit {0}) RingFault → Type 0
AppendAnswer size unsaved needed n (Ok done) = (unsaved + n + 1 ≤ size) × (needed + n + 1 ≤ size)
AppendAnswer size unsaved needed n (Err (Full bytes all)) =
    (bytes ≡ unsaved) × (all ≡ size) × (size < unsaved + n + 1)
AppendAnswer size unsaved needed n (Err Pinned) = (unsaved + n + 1 ≤ size) × (size < needed + n + 1)
AppendAnswer size unsaved needed n (Err Failed) = (unsaved + n + 1 ≤ size) × (needed + n + 1 ≤ size)

-- a group that is refused leaves something so
abbrev pub Untouched : Result (Unit {0}) RingFault → Type 0 → Type 0
Untouched (Ok done) same = Unit {0}
Untouched (Err (Full bytes all)) same = same
Untouched (Err Pinned) same = same
Untouched (Err Failed) same = Unit {0}
