use Rattle.std.proofs.Common.{sym, ap, ◌∙◌, subst, List, IsTrue, arith}
use Rattle.std.specs.FinMap.{FinMap, len, values}
use Rattle.std.specs.List.{list_all}
use Rattle.std.specs.Map.{values_of}
use Rattle.std.proofs.lemmas.Map.Entries.{length-values_of}
use Rattle.mdb_model.specs.declared.change.Change.{Change}
use Rattle.mdb_model.specs.Tables.{place_cmp}
use Rattle.mdb_bytes.specs.Groups.{change_fits}
use Rattle.mdb_bytes.proofs.Written.{count_small}
use Rattle.transactions.proofs.NetLists.{values_from, len_of}
use Rattle.transactions.proofs.transaction.OpenTransaction.len.Goals as goal

pub overflow_cast-result : goal.overflow_cast-result
overflow_cast-result c =
    let cs = values_of c.self.inside.changes.entries in
    omega (arith, c.len.ensures.len, length-values_of c.self.inside.changes.entries, count_small cs, c.self.invariant.kept.net.fit)

pub returns-clause-count : goal.returns-clause-count
returns-clause-count c =
    let cs = values_of c.self.inside.changes.entries in
    c.len.ensures.len ∙ sym (length-values_of c.self.inside.changes.entries)
    ∙ sym (len_of cs c.self.invariant.kept.net.ascend)
    ∙ ap (λ (m : FinMap place_cmp Change). len m) c.self.view_is

pub returns-clause-each_fits : goal.returns-clause-each_fits
returns-clause-each_fits c =
    subst (λ (cs : List Change). IsTrue (list_all change_fits cs))
    (sym (values_from (values_of c.self.inside.changes.entries) c.self.invariant.kept.net.ascend) ∙ ap (λ (m : FinMap place_cmp Change). values m) c.self.view_is)
    c.self.invariant.kept.net.each_fits
