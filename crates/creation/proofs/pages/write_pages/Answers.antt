use Rattle.mdb_host.proofs.Moments.{on_ok}
use Rattle.volume_disk.specs.Blocks.{IsDurable}
use Rattle.volume_disk.proofs.Writes.{area_same}
use Rattle.creation.specs.Making.{Each, HasFirstPages}
use Rattle.creation.proofs.Writing.{synced_goes, pages_kept}
use Rattle.creation.proofs.pages.write_pages.Goals as goal

pub sync_all-requires : goal.sync_all-requires
sync_all-requires g c told = area_same c.args.volumes.now (g.H.Host.disk c.args.host.now).seen (g.H.Host.disk c.write_blocks.new.host).seen (c.write_blocks.ensures.seen told).same_sizes (c.requires.there told)

pub returns-clause-goes : goal.returns-clause-goes
returns-clause-goes g c told = synced_goes (g.H.Host.disk c.args.host.now) (g.H.Host.disk c.write_blocks.new.host) (g.H.Host.disk c.sync_all.new.host) c.args.volumes.now (c.write_blocks.ensures.goes told) (c.sync_all.ensures.goes told)

pub returns-clause-pages : goal.returns-clause-pages
returns-clause-pages g c =
    on_ok c.sync_all.result (g.H.Host.tells → IsDurable c.args.volumes.now (g.H.Host.disk c.sync_all.new.host)) (g.H.Host.tells → Each (g.H.Host.disk c.sync_all.new.host) (HasFirstPages c.args.volumes.now))
    (λ settled told. pages_kept c.args.volumes.now (g.H.Host.disk c.write_blocks.new.host) (g.H.Host.disk c.sync_all.new.host) c.requires.area.0 (c.sync_all.ensures.seen told) (c.in_ok-write_blocks.ensures.pages told) (settled told))
    c.sync_all.ensures.settled
