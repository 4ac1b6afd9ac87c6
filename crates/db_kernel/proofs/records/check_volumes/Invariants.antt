use Rattle.std.proofs.Common.{◌≡◌, ℕ, ◌≤◌, ◌<◌, get_or, sum, take}
use Rattle.db_kernel.specs.Reading.{VolumeFits}
use Rattle.db_kernel.proofs.records.check_volumes.Given as goal

abbrev pub invariant-loop-volume : goal.invariant-loop-volume
invariant-loop-volume g l = record {
  blocks : l.blocks ≡ sum (take l.volume l.fn.restart.volumes.items);
  small : l.blocks ≤ 65536;
  least : (volume : ℕ) → volume < l.volume → 64 ≤ get_or l.fn.restart.volumes.items volume 0;
  fits : g.H.Host.tells → (volume : ℕ) → volume < l.volume → VolumeFits l.fn.restart volume (g.H.Host.disk l.fn.host).seen;
}
