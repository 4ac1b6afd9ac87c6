use Rattle.std.proofs.Common.{length, sym, arith, rules}
use Rattle.std.proofs.lemmas.Bool.{eqb-true, eqb-false}
use Rattle.mdb_host.proofs.Moments.{on_ok, agree_on}
use Rattle.redo_ring.proofs.Places.{piece_stands, both_stand, whole_front}
use Rattle.redo_ring.proofs.pieces.read_ring.Goals as goal

pub returns-then-is_empty-clause-bytes : goal.returns-then-is_empty-clause-bytes
returns-then-is_empty-clause-bytes g c told =
    whole_front c.args.size c.args.position (g.H.Host.disk c.args.host.now).seen c.read.new.into c.split_at_mut-front.result.1.now (eqb-true (length c.split_at_mut-front.result.1.now) 0 (sym c.if-is_empty.ensures))
    (piece_stands c.args.size c.args.position (g.H.Host.disk c.args.host.now).seen c.read.new.into (omega (arith, c.read.auto.into, c.split_at_mut-front.ensures.front_len, c.piece_len.ensures.no_turn)) (c.in_ok-read.ensures.bytes told))

pub returns-clause-reads : goal.returns-clause-reads
returns-clause-reads g c = record {
  calm = λ told. agree_on _ _ _ (c.read.ensures.calls told).goes (c.read-2.ensures.calls told).goes;
  seen = search rules;
  later = omega arith;
  say_faults = search rules;
}

pub returns-clause-bytes : goal.returns-clause-bytes
returns-clause-bytes g c = on_ok c.read-2.result _ _ (λ has told.
    both_stand c.args.size c.args.position (g.H.Host.disk c.args.host.now).seen (g.H.Host.disk c.read.new.self).seen c.read.new.into c.read-2.new.into (omega arith) (omega (arith, c.read.auto.into, c.read-2.auto.into, c.split_at_mut-front.ensures.front_len, c.split_at_mut-front.ensures.back_len)) (omega (arith, c.read.auto.into, c.split_at_mut-front.ensures.front_len, c.split_at_mut-front.ensures.back_len, eqb-false (length c.split_at_mut-front.result.1.now) 0 (sym c.if-is_empty.ensures)))
    (c.read.ensures.calls told).seen (c.in_ok-read.ensures.bytes told) (has told)) c.read-2.ensures.bytes
