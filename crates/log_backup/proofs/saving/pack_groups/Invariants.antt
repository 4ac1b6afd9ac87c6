use Rattle.std.proofs.Common.{◌≡◌, ◌-◌, List, ℕ}
use Rattle.mdb_bytes.specs.declared.medium_pages.MediumHeader.{MediumHeader}
use Rattle.redo_ring.specs.Reading.{IsReader}
use Rattle.log_backup.specs.Packing.{IsPacking, SameMedium, WritesPages}
use Rattle.log_backup.specs.Saving.{IsLeft}
use Rattle.log_backup.proofs.saving.pack_groups.Given as goal

abbrev pub invariant-loop-reader : goal.invariant-loop-reader
invariant-loop-reader g l = record {
  order : IsReader l.reader;
  size : l.reader.size ≡ l.fn.reader.size;
  packing : IsPacking l.packing;
  same : SameMedium l.fn.packing.writer l.packing.writer;
  left : g.H.Host.tells → (header : MediumHeader) (all : List ℕ) → header.last ≡ l.last → IsLeft l.fn.reader l.fn.packing l.fn.page (g.H.Host.disk l.fn.host) header all → IsLeft l.reader l.packing l.page (g.H.Host.disk l.host) header all;
  writes : WritesPages g.H.Host l.fn.packing.writer.medium l.fn.packing.writer.pages l.fn.host l.host;
}

abbrev pub decreases-loop-reader : goal.decreases-loop-reader
decreases-loop-reader g l = l.last - l.reader.number
