use Rattle.std.proofs.Common.{◌≡◌, ◌∙◌, ap}
use Rattle.mdb_model.specs.declared.script.BackupKind.TheVariants.{OfPages}
use Rattle.mdb_model.specs.declared.script.PageKind.TheVariants.{Incremental}
use Rattle.restore_chain.proofs.reached.Reached.with_medium.Goals as goal

pub returns-in-OfPages-Incremental : goal.returns-in-OfPages-Incremental
returns-in-OfPages-Incremental c links r =
    let inner : c.in-OfPages-Incremental.field-0 ≡ Incremental = rw c.in-OfPages-Incremental.is at c.in-OfPages-Incremental.field-0-is in
    let kind : c.args.header.now.kind ≡ OfPages Incremental = c.in-OfPages-Incremental.is ∙ ap OfPages inner in
    rw kind (c.with_changes.ensures links r)

pub returns-in-OfLog : goal.returns-in-OfLog
returns-in-OfLog c links r = rw c.in-OfLog.is (c.with_log.ensures links c.args.header.now.blocks r)
