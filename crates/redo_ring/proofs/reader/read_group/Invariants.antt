use Rattle.std.proofs.Common.{◌≡◌, ◌-◌, ◌≤◌, length}
use Rattle.mdb_host.specs.Reads.{ReadsOnly}
use Rattle.mdb_bytes.specs.Rings.{ring_byte}
use Rattle.redo_ring.specs.Ring.{HasBytesAt}
use Rattle.redo_ring.proofs.reader.read_group.Given as goal

abbrev pub invariant-loop-done : goal.invariant-loop-done
invariant-loop-done g l = record {
  within : l.done ≤ l.bytes;
  len : length l.into ≡ l.done;
  reads : ReadsOnly g.H.Host l.fn.host l.host;
  stands : g.H.Host.tells → HasBytesAt (ring_byte l.size (g.H.Host.disk l.fn.host).seen) l.position l.into;
}

abbrev pub decreases-loop-done : goal.decreases-loop-done
decreases-loop-done g l = l.bytes - l.done
