use Rattle.leaf_runs.proofs.LeafLaw.{leaf_page_of}
use Rattle.leaf_runs.proofs.LeafEdits.{taken_by, taken_gap}
use Rattle.leaf_runs.proofs.editing.del_row.Goals as goal

pub returns-in-Ok : goal.returns-in-Ok
returns-in-Ok c = λ leaf there.
    let p = leaf_page_of c.args.page.now leaf there in
    let has = c.in-Ok.ensures p.page in
    let done = c.remove.ensures.removed p.page has.within in
    taken_by c.remove.result c.args.page.now _ leaf c.args.key.now c.in-Ok.at there has done.0 done.1

pub returns-in-Err : goal.returns-in-Err
returns-in-Err c = λ leaf there.
    let p = leaf_page_of c.args.page.now leaf there in
    taken_gap c.args.page.now leaf c.args.key.now _ there (c.in-Err.ensures p.page)
