use Rattle.std.proofs.Common.{arith, ◌∙◌}
use Rattle.std.proofs.lemmas.Result.{err_from_is_err_and}
use Rattle.log_backup.proofs.Pages.{writes_on_same, same_twice}
use Rattle.log_backup.proofs.saving.pack_groups.Goals as goal

pub loop-reader-preserved : goal.loop-reader-preserved
loop-reader-preserved g c =
    let inv = c.loop-reader.invariant in
    record {
      order = c.pack_next.ensures.order;
      size = c.pack_next.ensures.size ∙ inv.size;
      packing = c.in_ok-pack_next.ensures.packing;
      same = same_twice _ _ _ inv.same c.pack_next.ensures.same;
      left = λ told header all last left. c.in_ok-pack_next.ensures.left told header all (omega (arith, c.loop-reader-test.true, last)) (inv.left told header all last left);
      writes = writes_on_same g.H.Host c.args.packing.now.writer c.loop-reader.packing.writer c.args.host.now c.loop-reader.host c.pack_next.new.host inv.same inv.writes c.pack_next.ensures.writes;
    }

pub returns-in_err-pack_next-clause-intact : goal.returns-in_err-pack_next-clause-intact
returns-in_err-pack_next-clause-intact g c told header all last left damage is =
    let p = err_from_is_err_and c.from_residual.result c.from_residual.ensures.1 in
    c.in_err-pack_next.ensures.intact told header all (omega (arith, c.loop-reader-test.true, last)) (c.loop-reader.invariant.left told header all last left) damage cc

pub returns-in_err-pack_next-clause-writes : goal.returns-in_err-pack_next-clause-writes
returns-in_err-pack_next-clause-writes g c =
    let inv = c.loop-reader.invariant in
    writes_on_same g.H.Host c.args.packing.now.writer c.loop-reader.packing.writer c.args.host.now c.loop-reader.host c.pack_next.new.host inv.same inv.writes c.pack_next.ensures.writes
