use Rattle.std.proofs.Common.{rules, arith}
use Rattle.leaf_runs.proofs.EntryWrites.{entry_set, sets_entry}
use Rattle.leaf_runs.proofs.Places.{catalogue_here, catalogue_spelled}
use Rattle.leaf_runs.proofs.catalogue.write_entry.Goals as goal

pub returns-clause-set : goal.returns-clause-set
returns-clause-set g c = λ known some.
    let m = g.P.Pages.pages c.args.pages.now in
    let old = c.in_ok-bytes.bytes.now in
    let there = c.in_ok-bytes.ensures.bytes known in
    let h = catalogue_here m old there some in
    let spells = catalogue_spelled old h.0 h.2 in
    let w = (c.write.follows.holds _ (search rules)).0 in
    sets_entry m _ c.args.table.0 c.args.entry old _ there (w.written known).1
    (entry_set c.args.table.0 c.args.entry old _ h.0 spells (c.set_catalogue_entry.ensures h.0 spells (omega arith)))
