-- What a call leaves of the devices and the output that only reads.
--     ReadsOnly      the devices and the output are as they were
use Rattle.std.specs.Prelude.{◌≡◌, ◌≤◌}
use Rattle.mdb_host.specs.Disk.{Goes, Agree}
use Rattle.mdb_host.specs.declared.host.Host as host

-- Nothing was written and nothing said: a crash may leave what it might have left before, and a
-- read gives what it gave. Faults of devices may be counted.
pub record ReadsOnly {H : Type 0} (h : host.Ghosts H) (old new : H) : Type 0 where
  pub calm : h.tells → Goes (h.disk old) (h.disk new) Agree
  pub seen : h.tells → Agree (h.disk old).seen (h.disk new).seen
  pub later : h.faults old ≤ h.faults new
  pub say_faults : h.say_faults new ≡ h.say_faults old
