use Rattle.std.proofs.Common.{◌≡◌, length}
use Rattle.mdb_host.proofs.paths.Paths.new.Given as goal

abbrev pub invariant-loop-place : goal.invariant-loop-place
invariant-loop-place l = length l.devices.items ≡ l.place
