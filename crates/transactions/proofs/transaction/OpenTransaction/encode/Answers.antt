use Rattle.std.proofs.Common.{ap, ◌∙◌, subst, List}
use Rattle.mdb_model.specs.declared.change.Change.{Change}
use Rattle.mdb_model.specs.Sessions.{group_bytes}
use Rattle.mdb_bytes.specs.Fields.{Spells}
use Rattle.mdb_bytes.specs.Groups.{group_format}
use Rattle.transactions.proofs.NetLists.{kept_values}
use Rattle.transactions.proofs.transaction.OpenTransaction.encode.Goals as goal

pub returns-clause-group : goal.returns-clause-group
returns-clause-group c =
    subst (λ (cs : List Change). Spells group_format (record { name = c.args.name; number = c.args.number; changes = cs }) c.encode_changes.new.into)
    (kept_values c.self.inside.changes.entries c.self.invariant.kept c.args.self.now c.self.view_is) c.encode_changes.ensures.group

pub returns-clause-len : goal.returns-clause-len
returns-clause-len c =
    c.encode_changes.ensures.len ∙ c.self.invariant.counted ∙ ap group_bytes (kept_values c.self.inside.changes.entries c.self.invariant.kept c.args.self.now c.self.view_is)
