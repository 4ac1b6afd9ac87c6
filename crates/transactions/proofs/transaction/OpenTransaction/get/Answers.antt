use Rattle.std.proofs.Common.{sym, ap, ◌∙◌, List, map}
use Rattle.std.specs.FinMap.{FinMap, get, find, get-from_sorted}
use Rattle.std.specs.Map.{values_of}
use Rattle.std.specs.Option.{option_copied}
use Rattle.mdb_model.specs.declared.change.Change.{Change}
use Rattle.mdb_model.specs.Tables.{Place, place_cmp, place_of}
use Rattle.transactions.specs.Net.{keyed_change}
use Rattle.sorted_places.proofs.Sorted.{sorted_from_rises}
use Rattle.transactions.proofs.NetLists.{any_fits}
use Rattle.transactions.proofs.transaction.OpenTransaction.get.Goals as goal

pub returns-clause-change : goal.returns-clause-change
returns-clause-change c =
    let place : Place = (c.args.table.0, c.args.key.now) in
    let cs = values_of c.self.inside.changes.entries in
    c.find_change.ensures ∙ ap (λ (es : List
    (Place × Change)). find place_cmp place es) c.self.invariant.kept.own
    ∙ sym (get-from_sorted place_cmp (map keyed_change cs) place (sorted_from_rises place_cmp place_of
    (λ change. change) cs c.self.invariant.kept.net.ascend))
    ∙ ap (λ (m : FinMap place_cmp Change). get m place) c.self.view_is

pub returns-clause-fits : goal.returns-clause-fits
returns-clause-fits c =
    any_fits (c.args.table.0, c.args.key.now) c.self.inside.changes.entries (option_copied c.find_change.result) c.find_change.ensures c.self.invariant.kept.net.each_fits
