-- What a call leaves that writes to the ring.
--     WritesRing      some positions may hold anything, all else is as before
use Rattle.std.specs.Prelude.{◌≡◌, ℕ}
use Rattle.mdb_host.specs.Disk.{Goes}
use Rattle.mdb_host.specs.declared.host.Host as host
use Rattle.redo_ring.specs.Ring.{RingTorn}

-- At each moment, and in what a read gives, n positions from one on hold anything and all else is
-- as before. Nothing was said.
pub record WritesRing {H : Type 0} (h : host.Ghosts H) (size position n : ℕ)
    (old new : H) : Type 0 where
  pub goes : h.tells → Goes (h.disk old) (h.disk new) (RingTorn size position n)
  pub seen : h.tells → RingTorn size position n (h.disk old).seen (h.disk new).seen
  pub say_faults : h.say_faults new ≡ h.say_faults old
