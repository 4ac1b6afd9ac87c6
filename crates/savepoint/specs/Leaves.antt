-- How far the leaves are written.
--     Along      the maps
--     WritesLeaves      the devices
use Rattle.std.specs.Prelude.{◌≡◌, ◌⊎◌, ℕ, ◌<◌, ◌≤◌, List, Bool}
use Rattle.mdb_host.specs.Disk.{Disk, Goes}
use Rattle.free_blocks.specs.Free.{IsFree}
use Rattle.volume_disk.specs.Blocks.{Writes, block_at}
use Rattle.converter.specs.Maps.{Maps, entry_at, block_of, AreUnused}
use Rattle.converter.specs.Own.{OwnOnly, Fewer, HasLeavesBytes}

-- the maps, after n leaves
pub record Along (first now : Maps) (flags left : List Bool) (n : ℕ) : Type 0 where
  pub own : OwnOnly first now
  pub fewer : Fewer flags left n
  pub unused : AreUnused now left
  pub later : (q : ℕ) → n < q → entry_at now.frozen q ≡ entry_at first.frozen q
  pub placed : (q : ℕ) → 0 < q → q ≤ n → 1 < block_of now.frozen q
  pub taken : (b : ℕ) → IsFree flags b
      → IsFree left b ⊎ ((q : ℕ) × (0 < q) × (q ≤ n) × (block_of now.frozen q ≡ b))

-- the devices, after n leaves
pub record WritesLeaves (sizes : List ℕ) (flags : List Bool) (m : Maps) (n : ℕ)
    (old new : Disk) : Type 0 where
  pub goes : Goes old new (Writes sizes (IsFree flags))
  pub seen : Writes sizes (IsFree flags) old.seen new.seen
  pub held : HasLeavesBytes m n (block_at sizes new.seen)
