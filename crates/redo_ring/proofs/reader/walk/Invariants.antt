use Rattle.std.proofs.Common.{◌≡◌, ◌+◌, ◌-◌, ◌≤◌, ◌<◌, List}
use Rattle.mdb_host.specs.Reads.{ReadsOnly}
use Rattle.mdb_model.specs.declared.change.Commit.{Commit}
use Rattle.mdb_bytes.specs.LogReading.{IsLog, log_bytes}
use Rattle.mdb_bytes.specs.Rings.{ring_byte}
use Rattle.redo_ring.specs.Ring.{HasBytesAt}
use Rattle.redo_ring.specs.Reading.{IsReader}
use Rattle.redo_ring.proofs.Found.{Walked, Left}
use Rattle.redo_ring.proofs.reader.walk.Given as goal

abbrev pub invariant-loop-reader : goal.invariant-loop-reader
invariant-loop-reader g l = record {
  order : IsReader l.reader;
  name : l.reader.name ≡ l.fn.reader.name;
  size : l.reader.size ≡ l.fn.reader.size;
  start : l.reader.start ≡ l.fn.reader.start;
  grown : l.reader.number + l.fn.reader.start ≤ l.fn.reader.number + l.reader.position;
  reads : ReadsOnly g.H.Host l.fn.host l.host;
  there : g.H.Host.tells → HasBytesAt (ring_byte l.reader.size (g.H.Host.disk l.host).seen) l.reader.position l.window;
  walked : g.H.Host.tells → Walked l.fn.reader.size l.fn.reader.name (ring_byte l.fn.reader.size (g.H.Host.disk l.fn.host).seen) l.fn.reader.start l.fn.reader.number l.reader.position l.reader.number;
  left : g.H.Host.tells → (commits : List Commit) → IsLog (ring_byte l.fn.reader.size (g.H.Host.disk l.fn.host).seen) l.fn.reader.name l.fn.reader.start l.fn.reader.number commits → log_bytes commits < l.fn.reader.size
      → Left l.fn.reader.size l.fn.reader.name (ring_byte l.fn.reader.size (g.H.Host.disk l.fn.host).seen) l.fn.reader.start l.fn.reader.number commits l.reader.position l.reader.number;
}

abbrev pub decreases-loop-reader : goal.decreases-loop-reader
decreases-loop-reader g l = l.reader.start + l.reader.size - l.reader.position
