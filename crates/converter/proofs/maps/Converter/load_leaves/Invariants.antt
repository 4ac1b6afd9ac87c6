use Rattle.mdb_host.specs.Reads.{ReadsOnly}
use Rattle.volume_disk.specs.Blocks.{block_at}
use Rattle.converter.specs.Loads.{IsUnderWay}
use Rattle.converter.proofs.maps.Converter.load_leaves.Given as goal

abbrev pub invariant-loop-leaf : goal.invariant-loop-leaf
invariant-loop-leaf g l = record {
  way : IsUnderWay g.H.Host.tells l.fn.self l.self l.root (block_at l.fn.volumes (g.H.Host.disk l.fn.host).seen) l.leaf;
  reads : ReadsOnly g.H.Host l.fn.host l.host;
}
