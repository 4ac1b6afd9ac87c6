use Rattle.std.proofs.Common.{◌∙◌, ◌==◌, ℕ, take, length, ap, sym, subst, arith}
use Rattle.std.specs.List.{position}
use Rattle.script_lines.specs.Reading.{HasNoNewline}
use Rattle.script_lines.proofs.ReadingWindow.{Pulls-more, Pulls-front, Pulls-same}
use Rattle.script_lines.proofs.ReadingLines.{rest_is, searched_none, searched_some}
use Rattle.script_lines.proofs.lines.scan.Goals as goal

pub returns-in-Some-clause-scanned : goal.returns-in-Some-clause-scanned
returns-in-Some-clause-scanned g c =
    let inv = c.loop-place.invariant in
    searched_some c.loop-place.window c.loop-place.searched c.in-Some.place inv.within inv.none
    (ap (position (λ b. b == 10)) (sym (rest_is c.loop-place.window c.bytes.result.now c.loop-place.searched c.bytes.ensures.value)) ∙ sym c.newline_in.ensures ∙ c.in-Some.is)

pub returns-then-searched-clause-scanned : goal.returns-then-searched-clause-scanned
returns-then-searched-clause-scanned g c =
    let inv = c.loop-place.invariant in
    searched_none c.loop-place.window c.loop-place.searched inv.none
    (ap (position (λ b. b == 10)) (sym (rest_is c.loop-place.window c.bytes.result.now c.loop-place.searched c.bytes.ensures.value)) ∙ sym c.newline_in.ensures ∙ c.in_default.is)

pub returns-in_default-fill-clause-pulls : goal.returns-in_default-fill-clause-pulls
returns-in_default-fill-clause-pulls g c =
    Pulls-more (g.S.Source.left c.args.source.now) (g.S.Source.left c.loop-place.source) (g.S.Source.left c.fill.new.source) c.args.window.now c.loop-place.window c.fill.new.self
    c.loop-place.invariant.pulls c.fill.ensures.pulls

pub returns-in_default-fill-clause-failed : goal.returns-in_default-fill-clause-failed
returns-in_default-fill-clause-failed g c =
    let inv = c.loop-place.invariant in
    subst HasNoNewline (sym ((c.in_default-fill.ensures).kept))
    (searched_none c.loop-place.window c.loop-place.searched inv.none
    (ap (position (λ b. b == 10)) (sym (rest_is c.loop-place.window c.bytes.result.now c.loop-place.searched c.bytes.ensures.value)) ∙ sym c.newline_in.ensures ∙ c.in_default.is))

pub returns-then-count-eq0-clause-scanned : goal.returns-then-count-eq0-clause-scanned
returns-then-count-eq0-clause-scanned g c =
    let inv = c.loop-place.invariant in
    let same = Pulls-same (g.S.Source.left c.loop-place.source) (g.S.Source.left c.fill.new.source) c.loop-place.window c.fill.new.self c.fill.ensures.pulls (omega (arith, (c.in-Ok.ensures).count)) in
    subst HasNoNewline (sym same)
    (searched_none c.loop-place.window c.loop-place.searched inv.none
    (ap (position (λ b. b == 10)) (sym (rest_is c.loop-place.window c.bytes.result.now c.loop-place.searched c.bytes.ensures.value)) ∙ sym c.newline_in.ensures ∙ c.in_default.is))

pub loop-place-preserved : goal.loop-place-preserved
loop-place-preserved g c =
    let inv = c.loop-place.invariant in
    let none = searched_none c.loop-place.window c.loop-place.searched inv.none
    (ap (position (λ b. b == 10)) (sym (rest_is c.loop-place.window c.bytes.result.now c.loop-place.searched c.bytes.ensures.value)) ∙ sym c.newline_in.ensures ∙ c.in_default.is) in
    let front = Pulls-front (g.S.Source.left c.loop-place.source) (g.S.Source.left c.fill.new.source) c.loop-place.window c.fill.new.self c.fill.ensures.pulls in
    record {
      within = omega (arith, (c.in-Ok.ensures).count, ap length c.bytes-searched.ensures.value);
      none = subst HasNoNewline (sym front ∙ ap (λ (n : ℕ). take n c.fill.new.self) (sym (ap length c.bytes-searched.ensures.value))) none;
      pulls = Pulls-more (g.S.Source.left c.args.source.now) (g.S.Source.left c.loop-place.source) (g.S.Source.left c.fill.new.source) c.args.window.now c.loop-place.window c.fill.new.self
          inv.pulls c.fill.ensures.pulls;
      later = omega (arith, inv.later, c.fill.ensures.cause.later);
    }
