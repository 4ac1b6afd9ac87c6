use Rattle.std.proofs.Common.{◌≡◌, ◌∙◌, ℕ, List, refl, sym, ap, subst}
use Rattle.script_lines.specs.Reading.{Reading, Drops, PullsNoNewline, IsLineFound}
use Rattle.script_lines.proofs.ReadingSteps.{Advances-found, Advances-failed}
use Rattle.script_lines.proofs.lines.LineReader.advance.Goals as goal

pub returns-clause-advances : goal.returns-clause-advances
returns-clause-advances g c =
    let before = g.S.Source.left c.args.source.now in
    let after = g.S.Source.left c.look_ahead.new.source in
    let ahead = c.in-Ok.ahead in
    let rest : c.skip.new.self ≡ c.args.self.now.rest = c.skip.ensures ∙ ap (λ (r : Reading). r.rest) c.self.view_is in
    Advances-found before after c.args.self.now _ c.look_ahead.new.window ahead.dropped ahead.scanned c.find-found.result
    (sym (ap (λ (r : Reading). r.at_end) c.self.view_is) ∙ c.if-self.false)
    (subst (λ (bs : List ℕ). Drops before after bs ahead.dropped c.look_ahead.new.window) rest ((c.in-Ok.ensures).drops))
    ((c.in-Ok.ensures).scanned) ((c.in-Ok.ensures).end) ((c.in-Ok.ensures).endless)
    (subst (λ (bs : List ℕ). IsLineFound bs ahead.dropped ahead.scanned c.find-found.result) c.bytes.ensures.value c.find-found.ensures) refl

pub returns-in_default-clause-advances : goal.returns-in_default-clause-advances
returns-in_default-clause-advances g c =
    let before = g.S.Source.left c.args.source.now in
    let after = g.S.Source.left c.look_ahead.new.source in
    let rest : c.skip.new.self ≡ c.args.self.now.rest = c.skip.ensures ∙ ap (λ (r : Reading). r.rest) c.self.view_is in
    Advances-failed before after c.args.self.now c.look_ahead.new.window (sym (ap (λ (r : Reading). r.at_end) c.self.view_is) ∙ c.if-self.false)
    (subst (λ (bs : List ℕ). PullsNoNewline before after bs c.look_ahead.new.window) rest ((c.in_default.ensures).failed))
