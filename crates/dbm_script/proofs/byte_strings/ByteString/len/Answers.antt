use Rattle.dbm_script.proofs.Spelled.{length-spelled}
use Rattle.dbm_script.proofs.byte_strings.ByteString.len.Goals as goal

pub returns-then-self : goal.returns-then-self
returns-then-self c = length-spelled c.self.inside.in_digits c.self.inside.text.now c.args.self.now c.if-self.true c.self.invariant c.self.view_is
