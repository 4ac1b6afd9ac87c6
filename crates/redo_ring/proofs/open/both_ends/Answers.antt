use Rattle.std.proofs.Common.{◌≢◌, ◌⊎◌, inl, inr, Ok, Err, refl, arith}
use Rattle.std.proofs.lemmas.Result.{err_from_is_err_and}
use Rattle.mdb_host.proofs.Reading.{reads_on}
use Rattle.mdb_bytes.specs.Rings.{ring_byte, ring_size}
use Rattle.redo_ring.proofs.Ends.{finds_there, log_there, second_breaks, never_breaks, ways_part, never_part}
use Rattle.redo_ring.proofs.open.both_ends.Goals as goal
use Rattle.redo_ring.proofs.open.both_ends.Goals.{then-end-unsaved-via-then-end-unsaved, then-end-unsaved-via-else-end-unsaved+then-end-unsaved-2}

pub returns-in_err-unsaved-clause-reads : goal.returns-in_err-unsaved-clause-reads
returns-in_err-unsaved-clause-reads g c = reads_on _ _ _ _ c.log_end.ensures.reads c.log_end-2.ensures.reads

pub returns-in_err-unsaved-clause-finds : goal.returns-in_err-unsaved-clause-finds
returns-in_err-unsaved-clause-finds g c told =
    let p = err_from_is_err_and c.from_residual-in_err-unsaved.result c.from_residual-in_err-unsaved.ensures.1 in rw (p.1, p.2)
    (second_breaks c.args.start.now (ring_byte (ring_size c.args.start.now.pages) (g.H.Host.disk c.args.host.now).seen) c.in_err-unsaved.field-0.0 (finds_there c.args.start.now c.ring_len-size.result c.ring_len-size.ensures (g.H.Host.disk c.args.host.now).seen (g.H.Host.disk c.log_end.new.host).seen (c.log_end.ensures.reads.seen told) c.args.start.now.saved_position c.args.start.now.saved_commit (Err c.in_err-unsaved.field-0.0) (c.in_err-unsaved.ensures.finds told)))

pub returns-in_err-unsaved-clause-ends : goal.returns-in_err-unsaved-clause-ends
returns-in_err-unsaved-clause-ends g c told commits unsaved whole =
    let p = err_from_is_err_and c.from_residual-in_err-unsaved.result c.from_residual-in_err-unsaved.ensures.1 in rw (p.1, p.2)
    (never_breaks c.args.start.now (ring_byte (ring_size c.args.start.now.pages) (g.H.Host.disk c.args.host.now).seen) commits unsaved c.in_err-unsaved.field-0.0 (c.in_err-unsaved.ensures.ends told unsaved (log_there c.args.start.now c.ring_len-size.result c.ring_len-size.ensures (g.H.Host.disk c.args.host.now).seen (g.H.Host.disk c.log_end.new.host).seen (c.log_end.ensures.reads.seen told) c.args.start.now.saved_position c.args.start.now.saved_commit unsaved whole.unsaved_log) (omega (arith, whole.unsaved_room, c.ring_len-size.ensures))))

pub returns-then-end-unsaved-clause-reads : goal.returns-then-end-unsaved-clause-reads
returns-then-end-unsaved-clause-reads g c = reads_on _ _ _ _ c.log_end.ensures.reads c.log_end-2.ensures.reads

pub returns-then-end-unsaved-clause-finds : goal.returns-then-end-unsaved-clause-finds
returns-then-end-unsaved-clause-finds g c told =
    let two : (c.in_ok-end.end.position ≢ c.in_ok-unsaved.unsaved.position) ⊎ (c.in_ok-end.end.commit ≢ c.in_ok-unsaved.unsaved.commit) = elim c.then-end-unsaved.branch [
      | then-end-unsaved-via-then-end-unsaved w ↦ inl w.if-end-unsaved.true
      | then-end-unsaved-via-else-end-unsaved+then-end-unsaved-2 w ↦ inr w.if-end-unsaved-2.true
    ] in
    ways_part c.args.start.now (ring_byte (ring_size c.args.start.now.pages) (g.H.Host.disk c.args.host.now).seen) c.in_ok-end.end c.in_ok-unsaved.unsaved (finds_there c.args.start.now c.ring_len-size.result c.ring_len-size.ensures (g.H.Host.disk c.args.host.now).seen (g.H.Host.disk c.args.host.now).seen (λ e. refl) c.args.start.now.position c.args.start.now.commit (Ok c.in_ok-end.end) (c.in_ok-end.ensures.finds told)) (finds_there c.args.start.now c.ring_len-size.result c.ring_len-size.ensures (g.H.Host.disk c.args.host.now).seen (g.H.Host.disk c.log_end.new.host).seen (c.log_end.ensures.reads.seen told) c.args.start.now.saved_position c.args.start.now.saved_commit (Ok c.in_ok-unsaved.unsaved) (c.in_ok-unsaved.ensures.finds told)) c.ring_len-size.result c.ring_len-size.ensures c.parted.result c.parted.ensures two

pub returns-then-end-unsaved-clause-ends : goal.returns-then-end-unsaved-clause-ends
returns-then-end-unsaved-clause-ends g c told commits unsaved whole =
    let two : (c.in_ok-end.end.position ≢ c.in_ok-unsaved.unsaved.position) ⊎ (c.in_ok-end.end.commit ≢ c.in_ok-unsaved.unsaved.commit) = elim c.then-end-unsaved.branch [
      | then-end-unsaved-via-then-end-unsaved w ↦ inl w.if-end-unsaved.true
      | then-end-unsaved-via-else-end-unsaved+then-end-unsaved-2 w ↦ inr w.if-end-unsaved-2.true
    ] in
    absurd (never_part c.args.start.now (ring_byte (ring_size c.args.start.now.pages) (g.H.Host.disk c.args.host.now).seen) commits unsaved whole c.in_ok-end.end c.in_ok-unsaved.unsaved (c.in_ok-end.ensures.ends told commits (log_there c.args.start.now c.ring_len-size.result c.ring_len-size.ensures (g.H.Host.disk c.args.host.now).seen (g.H.Host.disk c.args.host.now).seen (λ e. refl) c.args.start.now.position c.args.start.now.commit commits whole.log) (omega (arith, whole.room, c.ring_len-size.ensures))) (c.in_ok-unsaved.ensures.ends told unsaved (log_there c.args.start.now c.ring_len-size.result c.ring_len-size.ensures (g.H.Host.disk c.args.host.now).seen (g.H.Host.disk c.log_end.new.host).seen (c.log_end.ensures.reads.seen told) c.args.start.now.saved_position c.args.start.now.saved_commit unsaved whole.unsaved_log) (omega (arith, whole.unsaved_room, c.ring_len-size.ensures))) two)

pub returns-clause-reads : goal.returns-clause-reads
returns-clause-reads g c = reads_on _ _ _ _ c.log_end.ensures.reads c.log_end-2.ensures.reads
