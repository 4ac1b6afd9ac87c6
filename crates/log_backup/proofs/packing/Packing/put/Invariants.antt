use Rattle.std.proofs.Common.{◌≡◌, ◌+◌, ◌-◌, ◌≤◌, List, ℕ, ◌++◌, length, take}
use Rattle.log_backup.specs.Packing.{packed_len, IsPacking, SameMedium, WritesPages, Packs}
use Rattle.log_backup.proofs.packing.Packing.put.Given as goal

abbrev pub invariant-loop-done : goal.invariant-loop-done
invariant-loop-done g l = record {
  within : l.done ≤ length l.bytes;
  packing : IsPacking l.self;
  same : SameMedium l.fn.self.writer l.self.writer;
  len : packed_len l.self ≡ packed_len l.fn.self + l.done;
  packs : g.H.Host.tells → (before : List ℕ) → Packs l.fn.self l.fn.page before (g.H.Host.disk l.fn.host) → Packs l.self l.page (before ++ take l.done l.bytes) (g.H.Host.disk l.host);
  writes : WritesPages g.H.Host l.fn.self.writer.medium l.fn.self.writer.pages l.fn.host l.host;
}

abbrev pub decreases-loop-done : goal.decreases-loop-done
decreases-loop-done g l = length l.bytes - l.done
