use Rattle.std.proofs.Common.{arith}
use Rattle.mdb_host.proofs.Moments.{on_ok}
use Rattle.volume_disk.proofs.Pages.{block_within, has_block, moved_within, moved_has}
use Rattle.volume_disk.proofs.Writes.{moved_torn, moved_calls, area_same}
use Rattle.volume_disk.proofs.volumes.Volumes.write_block.Goals as goal

pub write-requires-clause-within : goal.write-requires-clause-within
write-requires-clause-within g c told =
    moved_within c.args.self.now (g.H.Host.disk c.args.host.now).seen c.args.block _ _ _ c.place_of-volume.ensures.volume c.place_of-volume.ensures.page (omega arith) (block_within c.args.self.now (g.H.Host.disk c.args.host.now).seen c.args.block c.requires.below (c.requires.area told))

pub returns-clause-calls : goal.returns-clause-calls
returns-clause-calls g c told =
    moved_calls c.args.self.now c.args.block _ _ _ _ _ c.requires.below c.place_of-volume.ensures.volume c.place_of-volume.ensures.page (omega arith) (c.write.ensures.calls told)

pub returns-clause-written : goal.returns-clause-written
returns-clause-written g c = on_ok c.write.result _ _ (λ has told.
    let before = g.H.Host.disk c.args.host.now in
    let after = g.H.Host.disk c.write.new.self in
    let writes = moved_torn c.args.self.now c.args.block before.seen after.seen _ _ _ c.requires.below c.place_of-volume.ensures.volume c.place_of-volume.ensures.page (omega arith) (c.write.ensures.calls told).seen in
    has_block c.args.self.now after.seen c.args.block c.args.from.now c.requires.below (area_same c.args.self.now before.seen after.seen writes.same_sizes (c.requires.area told)) (omega arith)
    (moved_has c.args.self.now after.seen c.args.block _ _ c.args.from.now c.place_of-volume.ensures.volume c.place_of-volume.ensures.page (has told))) c.write.ensures.written
