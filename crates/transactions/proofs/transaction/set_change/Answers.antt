use Rattle.std.proofs.Common.{◌≡◌, ◌∙◌, rules}
use Rattle.std.specs.BTreeMap.{is_at}
use Rattle.mdb_model.specs.Tables.{place_cmp}
use Rattle.transactions.proofs.NetLists.{remove_absent}
use Rattle.transactions.proofs.transaction.set_change.Goals as goal

-- the change that was added goes again
pub returns-then-is_err-2-clause-err : goal.returns-then-is_err-2-clause-err
returns-then-is_err-2-clause-err c =
    let removal = rw c.in-Vacant.is at c.in-Ok.ensures.removal in
    let found = rw c.in-Vacant.is at c.in-Ok.ensures.found in
    let entries : c.remove.new.self.0.entries ≡ c.args.changes.now.entries =
    c.remove.ensures.removed ∙ c.insert_entry-added.ensures.5 ∙ removal.1
    ∙ remove_absent (is_at (place_cmp c.new.result)) c.args.changes.now.entries found in
    search rules
