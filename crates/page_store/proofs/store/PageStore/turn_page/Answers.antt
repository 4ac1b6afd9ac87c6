use Rattle.std.proofs.Common.{◌≡◌, ◌∙◌, true, false, refl, ap, sym, subst, arith}
use Rattle.std.proofs.lemmas.Bool.{false≢true}
use Rattle.page_store.specs.Store.{Store, has_changed}
use Rattle.page_store.specs.Steps.{TurnsPage, is_unwritten}
use Rattle.page_store.proofs.Settling.{turns_none, turns_not, turns_one, turned_here, bit}
use Rattle.page_store.proofs.store.PageStore.turn_page.Goals as goal

pub write_frame-requires-clause-changed : goal.write_frame-requires-clause-changed
write_frame-requires-clause-changed g c = sym c.if-not-is_newer.ensures

pub returns-then-not-is_newer : goal.returns-then-not-is_newer
returns-then-not-is_newer g c =
    let s = c.args.self.now in
    let none : is_unwritten s c.args.page ≡ false = ap (has_changed s) (sym c.frozen_at-block.ensures.block) ∙ sym c.if-not-is_newer.ensures in
    record {
      turns = turns_none g.H.Host.tells s (g.H.Host.disk c.args.host.now) c.args.page;
      done = sym (ap bit none);
      left = sym (ap bit none);
      all = λ may. refl;
      none = λ may. refl;
      cause = record { later = omega arith; failed = tt };
      fault = tt;
      say_faults = refl;
    }

pub returns-then-not-may : goal.returns-then-not-may
returns-then-not-may g c =
    let s = c.args.self.now in
    let some : is_unwritten s c.args.page ≡ true = ap (has_changed s) (sym c.frozen_at-block.ensures.block) ∙ sym c.if-not-is_newer.ensures in
    record {
      turns = turns_none g.H.Host.tells s (g.H.Host.disk c.args.host.now) c.args.page;
      done = sym (ap bit some);
      left = sym (ap bit some);
      all = λ may. absurd (false≢true (sym c.if-not-may.true ∙ may));
      none = λ may. refl;
      cause = record { later = omega arith; failed = tt };
      fault = tt;
      say_faults = refl;
    }

pub returns-in-Ok-clause-turns : goal.returns-in-Ok-clause-turns
returns-in-Ok-clause-turns g c =
    let s = c.args.self.now in
    let e = c.frozen_at-block.ensures in
    let before = g.H.Host.disk c.args.host.now in
    let after = g.H.Host.disk c.write_frame.new.host in
    subst (λ (t : Store). TurnsPage g.H.Host.tells s t before after c.args.page) (sym c.in-Ok.ensures.ok)
    (turns_one g.H.Host.tells s c.args.page c.frozen_at-block.result before after e.sound e.store e.block (sym c.if-not-is_newer.ensures) c.write_frame.ensures.calls c.in-Ok.ensures.written)

pub returns-in-Ok-clause-done : goal.returns-in-Ok-clause-done
returns-in-Ok-clause-done g c =
    let s = c.args.self.now in
    sym (ap bit (ap (has_changed s) (sym c.frozen_at-block.ensures.block) ∙ sym c.if-not-is_newer.ensures))

pub returns-in-Ok-clause-left : goal.returns-in-Ok-clause-left
returns-in-Ok-clause-left g c =
    let s = c.args.self.now in
    let e = c.frozen_at-block.ensures in
    let before = g.H.Host.disk c.args.host.now in
    let after = g.H.Host.disk c.write_frame.new.host in
    sym (ap bit (ap (λ (t : Store). is_unwritten t c.args.page) c.in-Ok.ensures.ok
    ∙ turned_here g.H.Host.tells s c.args.page c.frozen_at-block.result before after e.sound e.store e.block (sym c.if-not-is_newer.ensures) c.write_frame.ensures.calls))

pub returns-in-Err-clause-turns : goal.returns-in-Err-clause-turns
returns-in-Err-clause-turns g c =
    let s = c.args.self.now in
    let e = c.frozen_at-block.ensures in
    let before = g.H.Host.disk c.args.host.now in
    let after = g.H.Host.disk c.write_frame.new.host in
    subst (λ (t : Store). TurnsPage g.H.Host.tells s t before after c.args.page) (sym c.in-Err.ensures.err)
    (turns_not g.H.Host.tells s c.args.page c.frozen_at-block.result before after e.sound e.store e.block (sym c.if-not-is_newer.ensures) c.write_frame.ensures.calls)
