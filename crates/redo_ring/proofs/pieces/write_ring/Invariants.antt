use Rattle.std.proofs.Common.{length, ◌-◌, ◌≡◌, ℕ, ◌+◌, ◌≤◌, ◌<◌, get_or}
use Rattle.mdb_bytes.specs.Rings.{ring_byte}
use Rattle.redo_ring.specs.Writes.{WritesRing}
use Rattle.redo_ring.proofs.pieces.write_ring.Given as goal

abbrev pub invariant-loop-done : goal.invariant-loop-done
invariant-loop-done g l = record {
  within : l.done ≤ length l.bytes;
  writes : WritesRing g.H.Host l.size l.position (length l.bytes) l.fn.host l.host;
  written : g.H.Host.tells → (i : ℕ) → i < l.done → ring_byte l.size (g.H.Host.disk l.host).seen (l.position + i) ≡ get_or l.bytes i 0;
  faults : g.H.Host.faults l.fn.host ≤ g.H.Host.faults l.host;
}

-- proposed from the loop's first test
abbrev pub decreases-loop-done : goal.decreases-loop-done
decreases-loop-done g l = length l.bytes - l.done
