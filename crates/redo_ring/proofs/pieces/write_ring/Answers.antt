use Rattle.std.proofs.Common.{ap, ℕ, length, length-drop, arith}
use Rattle.mdb_model.specs.Images.{Image}
use Rattle.redo_ring.proofs.Places.{ring_more, written_more, rest_is}
use Rattle.redo_ring.proofs.pieces.write_ring.Goals as goal

pub returns-in_err-done-clause-writes : goal.returns-in_err-done-clause-writes
returns-in_err-done-clause-writes g c =
    ring_more c.args.size c.args.position c.loop-done.done 0 c.args.bytes.now _ (rest_is c.loop-done.done c.args.bytes.now) c.loop-done.invariant.within c.requires.fits g.H.Host _ _ _ c.loop-done.invariant.writes c.write_piece.ensures.writes

pub loop-done-preserved : goal.loop-done-preserved
loop-done-preserved g c =
    let size = c.args.size in
    let bytes = c.args.bytes.now in
    let done = c.loop-done.done in
    let so_far = c.loop-done.invariant in
    let before : Image = (g.H.Host.disk c.loop-done.host).seen in
    let after : Image = (g.H.Host.disk c.write_piece.new.host).seen in
    record {
      within = omega (arith, c.in_ok-done.ensures.count.1, ap length (rest_is done bytes), length-drop {A = ℕ});
      writes = ring_more c.args.size c.args.position c.loop-done.done 0 c.args.bytes.now _ (rest_is c.loop-done.done c.args.bytes.now) c.loop-done.invariant.within c.requires.fits g.H.Host _ _ _ c.loop-done.invariant.writes c.write_piece.ensures.writes;
      written = λ told. written_more size c.args.position done c.in_ok-done.field-0 bytes _ (rest_is done bytes) so_far.within c.requires.fits before after (so_far.written told) (c.write_piece.ensures.writes.seen told) (c.in_ok-done.ensures.written told);
      faults = omega (arith, c.write_piece.ensures.cause.later);
    }
