use Rattle.std.proofs.Common.{◌≡◌, ℕ, ◌-◌, ◌<◌, ◌≤◌, None}
use Rattle.mdb_model.specs.declared.fault.Device.TheVariants.{Medium}
use Rattle.medium_file.proofs.listing.next_there.Given as goal

abbrev pub invariant-loop-m : goal.invariant-loop-m
invariant-loop-m g l = record {
  from : l.fn.after ≤ l.m;
  absent : g.H.Host.tells → (n : ℕ) → l.fn.after < n → n ≤ l.m → (g.H.Host.disk l.host).seen (Medium n) ≡ None;
}

abbrev pub decreases-loop-m : goal.decreases-loop-m
decreases-loop-m g l = 99 - l.m
