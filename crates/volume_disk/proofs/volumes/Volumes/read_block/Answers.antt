use Rattle.std.proofs.Common.{sym, arith}
use Rattle.mdb_host.proofs.Moments.{on_ok}
use Rattle.volume_disk.proofs.Pages.{block_within, has_block, moved_within, moved_has}
use Rattle.volume_disk.proofs.volumes.Volumes.read_block.Goals as goal

pub read-requires-clause-within : goal.read-requires-clause-within
read-requires-clause-within g c told =
    moved_within c.args.self.now (g.H.Host.disk c.args.host.now).seen c.args.block _ _ _ c.place_of-volume.ensures.volume c.place_of-volume.ensures.page (omega arith) (block_within c.args.self.now (g.H.Host.disk c.args.host.now).seen c.args.block c.requires.below (c.requires.area told))

pub returns-clause-bytes : goal.returns-clause-bytes
returns-clause-bytes g c = on_ok c.read.result _ _ (λ has told.
    sym (has_block c.args.self.now (g.H.Host.disk c.args.host.now).seen c.args.block c.read.new.into c.requires.below (c.requires.area told) (omega arith)
    (moved_has c.args.self.now (g.H.Host.disk c.args.host.now).seen c.args.block _ _ _ c.place_of-volume.ensures.volume c.place_of-volume.ensures.page (has told)))) c.read.ensures.bytes
