use Rattle.std.proofs.Common.{◌≤◌, ◌-◌, ◌∙◌, ap, arith, drop, length}
use Rattle.std.proofs.lemmas.List.{length-take}
use Rattle.script_lines.proofs.ReadingWindow.{window_skip}
use Rattle.script_lines.proofs.window.Window.skip.Goals as goal

pub returns : goal.returns
returns c =
    let items = c.self.inside.buffer.items in
    let l : length c.args.self.now ≤ c.self.inside.end - c.self.inside.start =
    omega (arith, ap length c.self.view_is, length-take (c.self.inside.end - c.self.inside.start) (drop c.self.inside.start items)) in
    window_skip items c.self.inside.start c.self.inside.end c.args.count (omega (arith, c.self.invariant)) ∙ ap (drop c.args.count) c.self.view_is
