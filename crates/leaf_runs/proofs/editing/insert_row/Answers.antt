use Rattle.mdb_bytes.proofs.NumberBytes.{as_bytes}
use Rattle.leaf_runs.proofs.LeafLaw.{leaf_page_of}
use Rattle.leaf_runs.proofs.LeafReads.{leaf_is}
use Rattle.leaf_runs.proofs.LeafEdits.{row_fine, inserted_by, not_found}
use Rattle.leaf_runs.proofs.editing.insert_row.Goals as goal

pub returns-in-Ok : goal.returns-in-Ok
returns-in-Ok c = λ leaf there none. absurd (let p = leaf_page_of c.args.page.now leaf there in not_found c.args.page.now leaf c.args.key.now _ there (c.in-Ok.ensures p.page) none)

pub returns-in-Err : goal.returns-in-Err
returns-in-Err c = λ leaf there none.
    let p = leaf_page_of c.args.page.now leaf there in
    let is = leaf_is _ _ p in
    let place = c.in-Err.ensures p.page in
    inserted_by c.insert_at.result c.args.page.now c.insert_at.new.page leaf c.args.key.now c.args.value.now c.in-Err.at there place
    (row_fine c.args.key.now c.args.value.now c.requires.key c.requires.value (as_bytes c.args.key.now c.type_inv.key) (as_bytes c.args.value.now c.type_inv.value))
    (c.insert_at.ensures.done p.page is place) (c.insert_at.ensures.full p.page is place)
