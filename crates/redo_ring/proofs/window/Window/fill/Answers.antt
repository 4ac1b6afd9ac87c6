use Rattle.std.proofs.Common.{length, ap, ◌∙◌, arith, length-drop}
use Rattle.redo_ring.proofs.window.Window.fill.Goals as goal

pub returns-in_err-read_ring-clause-there : goal.returns-in_err-read_ring-clause-there
returns-in_err-read_ring-clause-there g c told i lt =
    let none = ap length (c.self.view_is ∙ c.clear.ensures) in
    absurd (omega (arith, lt, none, length-drop c.self.inside.taken c.self.inside.bytes, length-drop c.self.inside.taken c.read_ring.new.into, c.read_ring.auto.into))
