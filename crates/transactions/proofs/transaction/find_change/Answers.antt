use Rattle.std.proofs.Common.{ap, ◌∙◌}
use Rattle.std.specs.FinMap.{find}
use Rattle.mdb_model.specs.Tables.{Place, place_cmp}
use Rattle.transactions.proofs.NetLists.{lookup-find}
use Rattle.transactions.proofs.transaction.find_change.Goals as goal

pub returns : goal.returns
returns c =
    c.get.ensures.value ∙ lookup-find place_cmp c.new.result c.args.changes.now.entries
    ∙ ap (λ (p : Place). find place_cmp p c.args.changes.now.entries) (c.new.ensures
    ∙ ap (λ k. (c.args.table.0, k.items)) c.to_buf.ensures)
