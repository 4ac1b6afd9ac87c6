use Rattle.std.proofs.Common.{sym, subst, ◌≡◌, ◌+◌, ◌^◌, ◌≤◌, ℕ, List, Option, None, Ok, Err, map, arith}
use Rattle.mdb_host.proofs.Moments.{keeps_all, keeps_on}
use Rattle.mdb_model.specs.Runs.{last_worlds}
use Rattle.db_kernel.specs.declared.kernel.Kernel.{Kernel}
use Rattle.mdb_model.specs.Agreement.{Ages}
use Rattle.mdb_model.specs.Worlds.{World}
use Rattle.open_database.specs.declared.database.Database.{Database}
use Rattle.db_kernel.specs.Kept.{IsSoundKernel, FitsWorlds, greatest_in}
use Rattle.db_kernel.proofs.Fitting.{fits_off, sound_off}
use Rattle.script_run.specs.Progress.{IsLineText, weight_in, Progress, HandlesLine}
use Rattle.script_run.proofs.Calls.{memory_keeps}
use Rattle.script_run.proofs.Progressing.{weighs, progress_first, progress_turned, ends_done, ends_script, ends_limit, ends_say}
use Rattle.script_run.proofs.Turns.{start_stand, start_rest, start_serial}
use Rattle.script_run.proofs.run.run_script.Goals as goal
use Rattle.open_database.specs.Outside.{page_reading, StandsFor}

pub returns-in_default-clause-promise : goal.returns-in_default-clause-promise
returns-in_default-clause-promise g c told = memory_keeps (g.H.Host.disk c.args.host.now) (g.H.Host.faults c.args.host.now) (g.S.Source.left c.args.source.now)

pub loop-count-init : goal.loop-count-init
loop-count-init g c =
    let d = g.H.Host.disk c.args.host.now in
    let f = g.H.Host.faults c.args.host.now in
    let none : c.new-kernel.result.database ≡ None = c.new-kernel.ensures in
    record {
      count = omega arith;
      sound = subst (λ (o : Option Database). IsSoundKernel g.H.Host.tells o d) (sym none) (sound_off g.H.Host.tells d);
      numbers = subst (λ (o : Option Database). greatest_in o ≤ 2 ^ 61 + 0) (sym none) (omega arith);
      keeps = λ told. keeps_all d;
      faults = omega arith;
      say_faults = omega arith;
      script = omega arith;
      progress = λ told ws off stand.
          progress_first d f ws c.new-kernel.result.database c.in-Ok.reader (g.S.Source.left c.args.source.now) c.in-Ok.ensures (subst (λ (o : Option Database). FitsWorlds o d ws) (sym none) (fits_off d ws off)) stand;
    }

pub returns-in_default-advance-clause-promise : goal.returns-in_default-advance-clause-promise
returns-in_default-advance-clause-promise g c told from can =
    let d0 = g.H.Host.disk c.args.host.now in
    let d1 = g.H.Host.disk c.loop-count.host in
    let inv = c.loop-count.invariant in
    ends_script from (start_serial page_reading StandsFor d0 from can) d0 d1 (g.H.Host.faults c.args.host.now) (g.H.Host.faults c.loop-count.host) c.loop-count.kernel.database c.loop-count.reader
    (g.S.Source.left c.args.source.now) (g.S.Source.left c.loop-count.source) c.loop-count.count
    (inv.progress told (map (λ (e : World × Ages). e.0) from) (start_rest page_reading StandsFor d0 from can) (start_stand page_reading StandsFor d0 from can)) inv.count
    c.advance.new.self (g.S.Source.left c.advance.new.source) _ c.in_default-advance.ensures.advances

pub returns-then-is_end-clause-promise : goal.returns-then-is_end-clause-promise
returns-then-is_end-clause-promise g c told from can =
    let d0 = g.H.Host.disk c.args.host.now in
    let d1 = g.H.Host.disk c.loop-count.host in
    let inv = c.loop-count.invariant in
    ends_done from (start_serial page_reading StandsFor d0 from can) d0 d1 (g.H.Host.faults c.args.host.now) (g.H.Host.faults c.loop-count.host) c.loop-count.kernel.database c.loop-count.reader
    (g.S.Source.left c.args.source.now) (g.S.Source.left c.loop-count.source) c.loop-count.count
    (inv.progress told (map (λ (e : World × Ages). e.0) from) (start_rest page_reading StandsFor d0 from can) (start_stand page_reading StandsFor d0 from can)) inv.count
    c.advance.new.self (g.S.Source.left c.advance.new.source) c.in-Ok-advance.kind (sym c.if-is_end.ensures) c.in-Ok-advance.ensures.advances

pub returns-then-count-gt-MOST_LINES-clause-promise : goal.returns-then-count-gt-MOST_LINES-clause-promise
returns-then-count-gt-MOST_LINES-clause-promise g c told from can =
    let d0 = g.H.Host.disk c.args.host.now in
    let d1 = g.H.Host.disk c.loop-count.host in
    let inv = c.loop-count.invariant in
    ends_limit from (start_serial page_reading StandsFor d0 from can) d0 d1 (g.H.Host.faults c.args.host.now) (g.H.Host.faults c.loop-count.host) c.loop-count.kernel.database c.loop-count.reader
    (g.S.Source.left c.args.source.now) (g.S.Source.left c.loop-count.source) c.loop-count.count
    (inv.progress told (map (λ (e : World × Ages). e.0) from) (start_rest page_reading StandsFor d0 from can) (start_stand page_reading StandsFor d0 from can)) inv.count
    c.advance.new.self (g.S.Source.left c.advance.new.source) c.in-Ok-advance.kind (sym c.if-is_end.ensures) c.in-Ok-advance.ensures.advances
    (omega (arith, c.if-count-gt-MOST_LINES.true, c.weight-count.ensures))

pub answer-requires-clause-low : goal.answer-requires-clause-low
answer-requires-clause-low g c =
    let inv = c.loop-count.invariant in
    omega (arith, inv.numbers, inv.count)

pub loop-count-preserved : goal.loop-count-preserved
loop-count-preserved g c =
    let d0 = g.H.Host.disk c.args.host.now in
    let d1 = g.H.Host.disk c.loop-count.host in
    let d2 = g.H.Host.disk c.answer.new.host in
    let f0 = g.H.Host.faults c.args.host.now in
    let f1 = g.H.Host.faults c.loop-count.host in
    let inv = c.loop-count.invariant in
    let left0 = g.S.Source.left c.args.source.now in
    let left2 = g.S.Source.left c.advance.new.source in
    record {
      count = omega (arith, c.if-count-gt-MOST_LINES.false);
      sound = c.answer.ensures.sound;
      numbers = omega (arith, inv.numbers, c.answer.ensures.numbers, c.weight-count.ensures, weighs c.in-Ok-advance.kind);
      keeps = λ told. keeps_on d0 d1 d2 (inv.keeps told) (c.answer.ensures.keeps told);
      faults = omega (arith, inv.faults, c.answer.ensures.later);
      say_faults = omega (arith, inv.say_faults, c.answer.ensures.say_cause.later);
      script = omega (arith, inv.script, c.advance.ensures.cause.later);
      progress = λ told ws off stand.
          let p = inv.progress told ws off stand in
          let small : weight_in c.in-Ok-advance.kind ≤ 16777216 = omega (arith, c.if-count-gt-MOST_LINES.false, c.weight-count.ensures) in
          let turned = subst (λ (f : List ℕ). HandlesLine d1 d2 f1 (g.H.Host.faults c.answer.new.host) (last_worlds page_reading ws p.served.run) (IsLineText c.in-Ok-advance.kind f) c.answer.new.kernel.database (Ok c.in-Ok-answer.field-0)) c.text.ensures
          (c.in-Ok-answer.ensures.turned told (last_worlds page_reading ws p.served.run) p.served.fit p.served.stand) in
          subst (λ (n : ℕ). Progress d0 d2 f0 (g.H.Host.faults c.answer.new.host) ws c.answer.new.kernel.database c.advance.new.self left0 left2 n) (λ i. c.loop-count.count + sym c.weight-count.ensures i)
          (progress_turned d0 d1 f0 f1 ws c.loop-count.kernel.database c.loop-count.reader left0 (g.S.Source.left c.loop-count.source) c.loop-count.count p
          c.in-Ok-advance.kind c.advance.new.self left2 (sym c.if-is_end.ensures) c.in-Ok-advance.ensures.advances small
          d2 (g.H.Host.faults c.answer.new.host) c.answer.new.kernel.database c.in-Ok-answer.field-0 turned
          (λ skipped prog.
          let same = c.in-Ok-answer.ensures.still skipped in
          subst (λ h. Progress d0 (g.H.Host.disk h) f0 (g.H.Host.faults h) ws c.answer.new.kernel.database c.advance.new.self left0 left2 (c.loop-count.count + weight_in c.in-Ok-advance.kind)) (sym same.0)
          (subst (λ (k : Kernel). Progress d0 d1 f0 f1 ws k.database c.advance.new.self left0 left2 (c.loop-count.count + weight_in c.in-Ok-advance.kind)) (sym same.1) prog)));
    }

pub returns-in_default-answer-clause-keeps : goal.returns-in_default-answer-clause-keeps
returns-in_default-answer-clause-keeps g c told =
    keeps_on (g.H.Host.disk c.args.host.now) (g.H.Host.disk c.loop-count.host) (g.H.Host.disk c.answer.new.host) (c.loop-count.invariant.keeps told) (c.answer.ensures.keeps told)

pub returns-in_default-answer-clause-promise : goal.returns-in_default-answer-clause-promise
returns-in_default-answer-clause-promise g c told from can =
    let d0 = g.H.Host.disk c.args.host.now in
    let d1 = g.H.Host.disk c.loop-count.host in
    let d2 = g.H.Host.disk c.answer.new.host in
    let f1 = g.H.Host.faults c.loop-count.host in
    let inv = c.loop-count.invariant in
    let worlds = map (λ (e : World × Ages). e.0) from in
    let p = inv.progress told worlds (start_rest page_reading StandsFor d0 from can) (start_stand page_reading StandsFor d0 from can) in
    let turned = subst (λ (f : List ℕ). HandlesLine d1 d2 f1 (g.H.Host.faults c.answer.new.host) (last_worlds page_reading worlds p.served.run) (IsLineText c.in-Ok-advance.kind f) c.answer.new.kernel.database (Err _)) c.text.ensures
    (c.in_default-answer.ensures.turned told (last_worlds page_reading worlds p.served.run) p.served.fit p.served.stand) in
    ends_say from (start_serial page_reading StandsFor d0 from can) d0 d1 (g.H.Host.faults c.args.host.now) f1 c.loop-count.kernel.database c.loop-count.reader
    (g.S.Source.left c.args.source.now) (g.S.Source.left c.loop-count.source) c.loop-count.count p inv.count
    c.advance.new.self (g.S.Source.left c.advance.new.source) c.in-Ok-advance.kind (sym c.if-is_end.ensures) c.in-Ok-advance.ensures.advances
    (omega (arith, c.if-count-gt-MOST_LINES.false, c.weight-count.ensures)) (omega (arith, c.if-count-gt-MOST_LINES.false, c.weight-count.ensures))
    d2 (g.H.Host.faults c.answer.new.host) turned.0 turned.1 turned.2
