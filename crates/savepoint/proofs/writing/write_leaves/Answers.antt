use Rattle.std.proofs.Common.{◌∙◌, ◌+◌, sym, arith}
use Rattle.free_blocks.specs.Free.{IsFree}
use Rattle.savepoint.proofs.AlongSteps.{along_more, leaves_taken, wrote_more, goes_free, still_area}
use Rattle.savepoint.proofs.writing.write_leaves.Goals as goal

pub write_changed-requires-clause-there : goal.write_changed-requires-clause-there
write_changed-requires-clause-there g c told =
    still_area c.args.volumes.now (IsFree c.args.free.now) (g.H.Host.disk c.args.host.now).seen (g.H.Host.disk c.loop-leaf.host).seen (c.loop-leaf.invariant.wrote told).seen (c.requires.may.there told)

pub returns-in_err-write_changed-clause-goes : goal.returns-in_err-write_changed-clause-goes
returns-in_err-write_changed-clause-goes g c told =
    goes_free c.args.volumes.now c.args.free.now c.loop-leaf.free _ _ _ c.loop-leaf.invariant.along.fewer.only (c.loop-leaf.invariant.wrote told).goes (c.write_changed.ensures.goes told)

pub returns-in_err-write_changed-clause-taken : goal.returns-in_err-write_changed-clause-taken
returns-in_err-write_changed-clause-taken g c =
    leaves_taken c.args.converter.now c.write_changed.new.converter c.args.free.now c.write_changed.new.free (c.loop-leaf.leaf + 1)
    (along_more _ c.loop-leaf.converter _ _ c.loop-leaf.free _ c.loop-leaf.leaf c.loop-leaf.invariant.along c.write_changed.ensures.one c.write_changed.ensures.placed)

pub returns-clause-taken : goal.returns-clause-taken
returns-clause-taken g c = leaves_taken _ _ _ _ _ c.loop-leaf.invariant.along

pub loop-leaf-preserved : goal.loop-leaf-preserved
loop-leaf-preserved g c = record {
  along = along_more _ c.loop-leaf.converter _ _ c.loop-leaf.free _ c.loop-leaf.leaf c.loop-leaf.invariant.along c.write_changed.ensures.one c.write_changed.ensures.placed;
  wrote = λ told. wrote_more c.args.volumes.now c.loop-leaf.converter c.write_changed.new.converter c.args.free.now c.loop-leaf.free c.write_changed.new.free c.loop-leaf.leaf
      (g.H.Host.disk c.args.host.now) (g.H.Host.disk c.loop-leaf.host) (g.H.Host.disk c.write_changed.new.host) c.write_changed.ensures.sound c.loop-leaf.invariant.along.unused
      (c.requires.may.area.1 ∙ sym c.loop-leaf.invariant.along.own.area) c.loop-leaf.invariant.along.fewer.only (c.loop-leaf.invariant.wrote told) c.write_changed.ensures.one
      (c.write_changed.ensures.goes told) (c.write_changed.ensures.seen told) (c.in_ok-write_changed.ensures.held told);
  faults = omega (arith, c.write_changed.ensures.cause.later, c.loop-leaf.invariant.faults);
  say_faults = cc;
}
