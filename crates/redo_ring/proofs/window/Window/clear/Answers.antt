use Rattle.std.proofs.Common.{arith}
use Rattle.std.proofs.lemmas.List.{drop_all}
use Rattle.redo_ring.proofs.window.Window.clear.Goals as goal

pub returns : goal.returns
returns c = drop_all 8192 c.self.inside.bytes (omega arith)
