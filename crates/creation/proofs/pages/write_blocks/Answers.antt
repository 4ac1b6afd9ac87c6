use Rattle.std.proofs.Common.{◌∙◌, ◌<◌, sum, arith}
use Rattle.volume_disk.proofs.Writes.{area_same}
use Rattle.creation.proofs.Writing.{write_more, seen_more, written_more}
use Rattle.creation.proofs.pages.write_blocks.Goals as goal

pub write_block-requires-clause-area : goal.write_block-requires-clause-area
write_block-requires-clause-area g c told =
    area_same c.args.volumes.now (g.H.Host.disk c.args.host.now).seen (g.H.Host.disk c.loop-block.host).seen (c.loop-block.invariant.seen told).same_sizes (c.requires.there told)

pub returns-in_err-write_block-clause-goes : goal.returns-in_err-write_block-clause-goes
returns-in_err-write_block-clause-goes g c told =
    write_more (g.H.Host.disk c.args.host.now) (g.H.Host.disk c.loop-block.host) (g.H.Host.disk c.write_block.new.host) c.args.volumes.now c.loop-block.block c.loop-block.invariant.low (c.loop-block.invariant.goes told) (c.write_block.ensures.calls told).goes

pub returns-in_err-write_block-clause-seen : goal.returns-in_err-write_block-clause-seen
returns-in_err-write_block-clause-seen g c told =
    seen_more (g.H.Host.disk c.args.host.now).seen (g.H.Host.disk c.loop-block.host).seen (g.H.Host.disk c.write_block.new.host).seen c.args.volumes.now c.loop-block.block c.loop-block.invariant.low (c.loop-block.invariant.seen told) (c.write_block.ensures.calls told).seen

pub loop-block-preserved : goal.loop-block-preserved
loop-block-preserved g c =
    let inv = c.loop-block.invariant in
    let inside : c.loop-block.block < sum c.args.volumes.now = omega (arith, c.loop-block-test.true, c.root_block-block-end.ensures, c.blocks-blocks.ensures.count, c.requires.area.0) in
    record {
      goes = λ told. write_more (g.H.Host.disk c.args.host.now) (g.H.Host.disk c.loop-block.host) (g.H.Host.disk c.write_block.new.host) c.args.volumes.now c.loop-block.block inv.low (inv.goes told) (c.write_block.ensures.calls told).goes;
      seen = λ told. seen_more (g.H.Host.disk c.args.host.now).seen (g.H.Host.disk c.loop-block.host).seen (g.H.Host.disk c.write_block.new.host).seen c.args.volumes.now c.loop-block.block inv.low (inv.seen told) (c.write_block.ensures.calls told).seen;
      written = λ told. written_more (g.H.Host.disk c.loop-block.host).seen (g.H.Host.disk c.write_block.new.host).seen c.args.volumes.now c.blocks-blocks.result c.loop-block.block c.first_page.new.into c.blocks-blocks.ensures.count inside (c.write_block.ensures.calls told).seen (c.in_ok-write_block.ensures.written told) c.first_page.ensures (inv.written told);
      low = omega (arith, inv.low);
      faults = omega (arith, c.write_block.ensures.cause.later, inv.faults);
      say_faults = c.write_block.ensures.say_faults ∙ inv.say_faults;
    }
