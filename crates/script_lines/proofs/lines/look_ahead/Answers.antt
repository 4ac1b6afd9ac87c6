use Rattle.std.proofs.Common.{◌≡◌, ◌+◌, List, ℕ, sym, subst, arith, rules}
use Rattle.std.proofs.lemmas.List.Elements.{All-drop}
use Rattle.script_lines.specs.declared.lines.Scanned.{Scanned}
use Rattle.script_lines.specs.declared.lines.Scanned.TheVariants.{Unended}
use Rattle.script_lines.specs.Reading.{HasNoNewline, Drops, IsNewlineScanned}
use Rattle.script_lines.proofs.ReadingLines.{IsNoNewline, Drops-more, Drops-shorten, Drops-fails}
use Rattle.script_lines.proofs.lines.look_ahead.Goals as goal

pub returns-in_default-clause-failed : goal.returns-in_default-clause-failed
returns-in_default-clause-failed g c =
    Drops-fails (g.S.Source.left c.args.source.now) (g.S.Source.left c.loop-dropped.source) (g.S.Source.left c.scan.new.source) c.args.window.now c.loop-dropped.window c.scan.new.window c.loop-dropped.dropped
    c.loop-dropped.invariant.drops c.scan.ensures.pulls ((c.in_default.ensures).failed)

pub returns-then-ne-clause-drops : goal.returns-then-ne-clause-drops
returns-then-ne-clause-drops g c =
    Drops-more (g.S.Source.left c.args.source.now) (g.S.Source.left c.loop-dropped.source) (g.S.Source.left c.scan.new.source) c.args.window.now c.loop-dropped.window c.scan.new.window c.loop-dropped.dropped
    c.loop-dropped.invariant.drops c.scan.ensures.pulls

pub loop-dropped-preserved : goal.loop-dropped-preserved
loop-dropped-preserved g c =
    let inv = c.loop-dropped.invariant in
    let before = g.S.Source.left c.args.source.now in
    let after = g.S.Source.left c.scan.new.source in
    let n = c.shorten-dropped.result in
    let is : c.in-Ok.scanned ≡ Unended = search rules in
    let none : HasNoNewline c.scan.new.window = subst (λ (s : Scanned). IsNewlineScanned c.scan.new.window s) is ((c.in-Ok.ensures).scanned) in
    let more = Drops-more before (g.S.Source.left c.loop-dropped.source) after c.args.window.now c.loop-dropped.window c.scan.new.window c.loop-dropped.dropped inv.drops c.scan.ensures.pulls in
    let shorter = Drops-shorten before after c.args.window.now c.scan.new.window c.loop-dropped.dropped n more none ((c.in-Ok.ensures).long is) c.shorten-dropped.ensures.count in
    record {
      drops = subst (λ (xs : List ℕ). Drops before after c.args.window.now (c.loop-dropped.dropped + n) xs) (sym c.shorten-dropped.ensures.after) shorter;
      none = λ _. subst HasNoNewline (sym c.shorten-dropped.ensures.after) (All-drop IsNoNewline n c.scan.new.window none);
      few = omega (arith, c.shorten-dropped.ensures.few);
      later = omega (arith, inv.later, c.scan.ensures.cause.later);
    }

pub returns-clause-scanned : goal.returns-clause-scanned
returns-clause-scanned g c = c.loop-dropped.invariant.none (omega arith)
