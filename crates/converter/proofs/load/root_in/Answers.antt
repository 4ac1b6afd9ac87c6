use Rattle.std.proofs.Common.{◌+◌, arith}
use Rattle.converter.proofs.Loaded.{no_root}
use Rattle.converter.proofs.load.root_in.Goals as goal

pub returns-else-len-leaves : goal.returns-else-len-leaves
returns-else-len-leaves c = no_root c.in_ok-value.value _ (c.args.leaves + 1) c.in_ok-value.ensures (λ e. omega (arith, e))
