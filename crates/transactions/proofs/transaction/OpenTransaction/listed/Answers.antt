use Rattle.std.proofs.Common.{◌∙◌}
use Rattle.transactions.proofs.NetLists.{kept_values}
use Rattle.transactions.proofs.transaction.OpenTransaction.listed.Goals as goal

pub returns-in-Ok-clause-value : goal.returns-in-Ok-clause-value
returns-in-Ok-clause-value c =
    c.in-Ok.ensures ∙ kept_values c.self.inside.changes.entries c.self.invariant.kept c.args.self.now c.self.view_is
