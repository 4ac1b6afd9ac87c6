use Rattle.leaf_runs.proofs.LeafLaw.{leaf_page_of}
use Rattle.leaf_runs.proofs.LeafEdits.{put_by, without_none}
use Rattle.leaf_runs.proofs.editing.put_row.Goals as goal

pub returns : goal.returns
returns c = λ leaf there.
    let d = c.del_row.ensures leaf there in
    put_by c.insert_row.result c.del_row.new.page c.insert_row.new.page leaf c.args.key.now c.args.value.now (leaf_page_of _ _ there).keeps.up d.1
    (c.insert_row.ensures _ d.1 (without_none c.args.key.now leaf.rows))
