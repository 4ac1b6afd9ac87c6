use Rattle.std.proofs.Common.{◌≡◌, ℕ, ◌<◌, None}
use Rattle.mdb_host.specs.Places.{device_at}
use Rattle.creation.proofs.area.any_there.Given as goal

abbrev pub invariant-loop-number : goal.invariant-loop-number
invariant-loop-number g l = record {
  absent : g.H.Host.tells → (number : ℕ) → number < l.number → (g.H.Host.disk l.fn.host).seen (device_at number) ≡ None;
}
