use Rattle.std.proofs.Common.{◌≡◌, ◌∙◌, ◌+◌, ap, length, Ok, Err, arith}
use Rattle.std.proofs.lemmas.Result.{err_from_is_err_and}
use Rattle.mdb_host.proofs.Reading.{reads_on}
use Rattle.mdb_bytes.specs.Rings.{ring_byte}
use Rattle.redo_ring.specs.declared.reader.RingReader.{RingReader}
use Rattle.redo_ring.proofs.Log.{group_has}
use Rattle.redo_ring.proofs.Found.{walked_on, walked_all, walked_into, left_on, left_none, left_fault, finds_at, next_of, went_on, stayed, walked_at}
use Rattle.redo_ring.proofs.reader.walk.Goals as goal

pub loop-reader-smaller : goal.loop-reader-smaller
loop-reader-smaller g c =
    let at_loop = c.loop-reader.reader in
    let steps = c.in_ok-step.ensures.steps in
    let went = went_on at_loop c.step.new.self steps.bytes c.in_ok-step.field-0 c.if-not-branch.false steps.goes in
    let at : c.step.new.self.position ≡ at_loop.position + length steps.bytes = ap (λ (r : RingReader). r.position) went in
    let size : c.step.new.self.size ≡ at_loop.size = ap (λ (r : RingReader). r.size) went in
    let start : c.step.new.self.start ≡ at_loop.start = ap (λ (r : RingReader). r.start) went in
    omega (arith, at, size, start, c.loop-reader-test.true, group_has at_loop.name (at_loop.number + 1) steps.bytes (steps.group c.if-not-branch.false))

pub loop-reader-preserved : goal.loop-reader-preserved
loop-reader-preserved g c =
    let inv = c.loop-reader.invariant in
    let reader = c.args.reader.now in
    let at_loop = c.loop-reader.reader in
    let seen = (g.H.Host.disk c.args.host.now).seen in
    let ring = ring_byte reader.size seen in
    let steps = c.in_ok-step.ensures.steps in
    let went = went_on at_loop c.step.new.self steps.bytes c.in_ok-step.field-0 c.if-not-branch.false steps.goes in
    let at : c.step.new.self.position ≡ at_loop.position + length steps.bytes = ap (λ (r : RingReader). r.position) went in
    let count : c.step.new.self.number ≡ at_loop.number + 1 = ap (λ (r : RingReader). r.number) went in
    record {
      order = c.step.ensures.order;
      name = ap (λ (r : RingReader). r.name) went ∙ inv.name;
      size = ap (λ (r : RingReader). r.size) went ∙ inv.size;
      start = ap (λ (r : RingReader). r.start) went ∙ inv.start;
      grown = omega (arith, inv.grown, at, count, group_has at_loop.name (at_loop.number + 1) steps.bytes (steps.group c.if-not-branch.false));
      reads = reads_on _ _ _ _ inv.reads c.step.ensures.reads;
      there = c.step.ensures.there;
      walked = λ told. walked_on reader.size reader.name ring reader.start reader.number at_loop.position at_loop.number c.step.new.self.position c.step.new.self.number steps.bytes (Ok c.in_ok-step.field-0) (inv.walked told)
          (finds_at reader.size at_loop.size reader.start at_loop.start at_loop.position at_loop.number reader.name at_loop.name seen (g.H.Host.disk c.loop-reader.host).seen inv.size inv.name inv.start (inv.reads.seen told) steps.bytes (Ok c.in_ok-step.field-0) (steps.finds told)) (ap Ok c.if-not-branch.false) at count;
      left = λ told commits log small.
          let left = inv.left told commits log small in
          let found = finds_at reader.size at_loop.size reader.start at_loop.start at_loop.position at_loop.number reader.name at_loop.name seen (g.H.Host.disk c.loop-reader.host).seen inv.size inv.name inv.start (inv.reads.seen told) steps.bytes (Ok c.in_ok-step.field-0) (steps.finds told) in
          left_on reader.size reader.name ring reader.start reader.number commits at_loop.position at_loop.number c.step.new.self.position c.step.new.self.number steps.bytes (Ok c.in_ok-step.field-0) left
          (next_of reader.size reader.name ring reader.start at_loop.position at_loop.number steps.bytes (Ok c.in_ok-step.field-0) found left.rest left.log (omega (arith, left.bytes, small)))
          (ap Ok c.if-not-branch.false) at count;
    }

pub returns-then-not-branch-clause-grown : goal.returns-then-not-branch-clause-grown
returns-then-not-branch-clause-grown g c =
    let steps = c.in_ok-step.ensures.steps in
    let still = stayed c.loop-reader.reader c.step.new.self steps.bytes c.in_ok-step.field-0 c.if-not-branch.true steps.goes in
    omega (arith, c.loop-reader.invariant.grown, ap (λ (r : RingReader). r.position) still, ap (λ (r : RingReader). r.number) still)

pub returns-then-not-branch-clause-reads : goal.returns-then-not-branch-clause-reads
returns-then-not-branch-clause-reads g c = reads_on _ _ _ _ c.loop-reader.invariant.reads c.step.ensures.reads

pub returns-then-not-branch-clause-finds : goal.returns-then-not-branch-clause-finds
returns-then-not-branch-clause-finds g c told =
    let inv = c.loop-reader.invariant in
    let reader = c.args.reader.now in
    let at_loop = c.loop-reader.reader in
    let seen = (g.H.Host.disk c.args.host.now).seen in
    let ring = ring_byte reader.size seen in
    let steps = c.in_ok-step.ensures.steps in
    let still = stayed at_loop c.step.new.self steps.bytes c.in_ok-step.field-0 c.if-not-branch.true steps.goes in
    let found = finds_at reader.size at_loop.size reader.start at_loop.start at_loop.position at_loop.number reader.name at_loop.name seen (g.H.Host.disk c.loop-reader.host).seen inv.size inv.name inv.start (inv.reads.seen told) steps.bytes (Ok c.in_ok-step.field-0) (steps.finds told) in
    walked_at reader.size reader.name ring reader.start reader.number at_loop.position at_loop.number c.step.new.self.position c.step.new.self.number (ap (λ (r : RingReader). r.position) still) (ap (λ (r : RingReader). r.number) still)
    (walked_all reader.size reader.name ring reader.start reader.number at_loop.position at_loop.number steps.bytes (Ok c.in_ok-step.field-0) (inv.walked told) (omega (arith, c.loop-reader-test.true, inv.start, inv.size)) found (ap Ok c.if-not-branch.true))

pub returns-then-not-branch-clause-ends : goal.returns-then-not-branch-clause-ends
returns-then-not-branch-clause-ends g c told commits log small =
    let inv = c.loop-reader.invariant in
    let reader = c.args.reader.now in
    let at_loop = c.loop-reader.reader in
    let seen = (g.H.Host.disk c.args.host.now).seen in
    let ring = ring_byte reader.size seen in
    let steps = c.in_ok-step.ensures.steps in
    let still = stayed at_loop c.step.new.self steps.bytes c.in_ok-step.field-0 c.if-not-branch.true steps.goes in
    let left = inv.left told commits log small in
    let found = finds_at reader.size at_loop.size reader.start at_loop.start at_loop.position at_loop.number reader.name at_loop.name seen (g.H.Host.disk c.loop-reader.host).seen inv.size inv.name inv.start (inv.reads.seen told) steps.bytes (Ok c.in_ok-step.field-0) (steps.finds told) in
    let ends = left_none reader.size reader.name ring reader.start reader.number commits at_loop.position at_loop.number steps.bytes (Ok c.in_ok-step.field-0) left
    (next_of reader.size reader.name ring reader.start at_loop.position at_loop.number steps.bytes (Ok c.in_ok-step.field-0) found left.rest left.log (omega (arith, left.bytes, small)))
    (ap Ok c.if-not-branch.true) in
    (ap (λ (r : RingReader). r.position) still ∙ ends.0, ap (λ (r : RingReader). r.number) still ∙ ends.1)

pub returns-in_err-step-clause-reads : goal.returns-in_err-step-clause-reads
returns-in_err-step-clause-reads g c = reads_on _ _ _ _ c.loop-reader.invariant.reads c.step.ensures.reads

pub returns-in_err-step-clause-finds : goal.returns-in_err-step-clause-finds
returns-in_err-step-clause-finds g c told =
    let inv = c.loop-reader.invariant in
    let reader = c.args.reader.now in
    let at_loop = c.loop-reader.reader in
    let seen = (g.H.Host.disk c.args.host.now).seen in
    let ring = ring_byte reader.size seen in
    let steps = c.in_err-step.ensures.steps in
    let found = finds_at reader.size at_loop.size reader.start at_loop.start at_loop.position at_loop.number reader.name at_loop.name seen (g.H.Host.disk c.loop-reader.host).seen inv.size inv.name inv.start (inv.reads.seen told) steps.bytes (Err c.in_err-step.field-0.0) (steps.finds told) in
    let p = err_from_is_err_and c.from_residual.result c.from_residual.ensures.1 in rw (p.1, p.2)
    (walked_into reader.size reader.name ring reader.start reader.number at_loop.position at_loop.number c.step.new.self.position c.step.new.self.number steps.bytes c.in_err-step.field-0.0 (inv.walked told) found)

pub returns-in_err-step-clause-ends : goal.returns-in_err-step-clause-ends
returns-in_err-step-clause-ends g c told commits log small =
    let inv = c.loop-reader.invariant in
    let reader = c.args.reader.now in
    let at_loop = c.loop-reader.reader in
    let seen = (g.H.Host.disk c.args.host.now).seen in
    let ring = ring_byte reader.size seen in
    let steps = c.in_err-step.ensures.steps in
    let left = inv.left told commits log small in
    let found = finds_at reader.size at_loop.size reader.start at_loop.start at_loop.position at_loop.number reader.name at_loop.name seen (g.H.Host.disk c.loop-reader.host).seen inv.size inv.name inv.start (inv.reads.seen told) steps.bytes (Err c.in_err-step.field-0.0) (steps.finds told) in
    let p = err_from_is_err_and c.from_residual.result c.from_residual.ensures.1 in rw (p.1, p.2)
    (left_fault reader.size reader.name ring reader.start reader.number commits at_loop.position at_loop.number c.step.new.self.position c.step.new.self.number steps.bytes c.in_err-step.field-0.0 left
    (next_of reader.size reader.name ring reader.start at_loop.position at_loop.number steps.bytes (Err c.in_err-step.field-0.0) found left.rest left.log (omega (arith, left.bytes, small))))
