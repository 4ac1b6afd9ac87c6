use Rattle.std.proofs.Common.{refl, rules}
use Rattle.mdb_host.specs.Reads.{ReadsOnly}
use Rattle.mdb_host.proofs.Reading.{reads_on}
use Rattle.mdb_bytes.specs.Rings.{ring_byte}
use Rattle.redo_ring.specs.Ring.{HasBytesAt}
use Rattle.redo_ring.proofs.Found.{reads_none, stands_as, rest_stands, stands_still, goes_up, finds_at, steps_where, keeps_size}
use Rattle.redo_ring.proofs.reader.RingReader.step.Goals as goal
use Rattle.redo_ring.proofs.reader.RingReader.step.Goals.{then-not-holds_gate+in-Ok, else-not-holds_gate}

pub returns-then-holds_gate-clause-steps : goal.returns-then-holds_gate-clause-steps
returns-then-holds_gate-clause-steps g c =
    let old = c.args.self.now in
    let ring = ring_byte old.size (g.H.Host.disk c.args.host.now).seen in
    let there : g.H.Host.tells → HasBytesAt ring old.position c.if-not-holds_gate.window = elim c.if-not-holds_gate.branch [
      | then-not-holds_gate+in-Ok w ↦ λ told. stands_as ring old.position _ _ w.window-is (w.fill.ensures.there told)
      | else-not-holds_gate w ↦ λ told. stands_as ring old.position _ _ w.window-is (c.requires.there told)
    ] in
    steps_where g.H.Host.tells (HasBytesAt ring old.position c.if-not-holds_gate.window) ring old c.take.new.self c.take.result there (c.take.ensures.steps ring)

pub returns-then-holds_gate-clause-there : goal.returns-then-holds_gate-clause-there
returns-then-holds_gate-clause-there g c told =
    let old = c.args.self.now in
    let ring = ring_byte old.size (g.H.Host.disk c.args.host.now).seen in
    let there : HasBytesAt ring old.position c.if-not-holds_gate.window = elim c.if-not-holds_gate.branch [
      | then-not-holds_gate+in-Ok w ↦ stands_as ring old.position _ _ w.window-is (w.fill.ensures.there told)
      | else-not-holds_gate w ↦ stands_as ring old.position _ _ w.window-is (c.requires.there told)
    ] in
    let reads : ReadsOnly g.H.Host c.args.host.now c.if-not-holds_gate.host = elim c.if-not-holds_gate.branch [
      | then-not-holds_gate+in-Ok w ↦ rw w.host-is w.fill.ensures.reads
      | else-not-holds_gate w ↦ rw w.host-is (reads_none _ _)
    ] in
    let steps = c.take.ensures.steps ring in
    let rest : HasBytesAt ring c.take.new.self.position c.take.new.window = stands_as ring c.take.new.self.position c.take.new.window _ c.take.ensures.passes (rest_stands ring old.position c.take.new.self.position c.if-not-holds_gate.window (goes_up old c.take.new.self steps.bytes c.take.result steps.goes) there) in
    stands_still old.size c.take.new.self.size c.take.new.self.position (g.H.Host.disk c.args.host.now).seen (g.H.Host.disk c.if-not-holds_gate.host).seen c.take.new.window (keeps_size old c.take.new.self steps.bytes c.take.result steps.goes) (reads.seen told) rest

pub returns-clause-reads : goal.returns-clause-reads
returns-clause-reads g c =
    let reads : ReadsOnly g.H.Host c.args.host.now c.if-not-holds_gate.host = elim c.if-not-holds_gate.branch [
      | then-not-holds_gate+in-Ok w ↦ rw w.host-is w.fill.ensures.reads
      | else-not-holds_gate w ↦ rw w.host-is (reads_none _ _)
    ] in
    reads_on _ _ _ _ reads (search rules)

pub returns-clause-steps : goal.returns-clause-steps
returns-clause-steps g c =
    let old = c.args.self.now in
    let reads : ReadsOnly g.H.Host c.args.host.now c.if-not-holds_gate.host = elim c.if-not-holds_gate.branch [
      | then-not-holds_gate+in-Ok w ↦ rw w.host-is w.fill.ensures.reads
      | else-not-holds_gate w ↦ rw w.host-is (reads_none _ _)
    ] in
    record {
      bytes = c.next.new.into;
      group = c.next.ensures.group;
      goes = c.next.ensures.goes;
      finds = λ told. finds_at old.size old.size old.start old.start old.position old.number old.name old.name (g.H.Host.disk c.args.host.now).seen (g.H.Host.disk c.if-not-holds_gate.host).seen refl refl refl (reads.seen told) c.next.new.into c.next.result (c.next.ensures.finds told);
    }
