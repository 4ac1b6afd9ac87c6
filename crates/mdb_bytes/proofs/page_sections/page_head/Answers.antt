use Rattle.std.proofs.Common.{◌∙◌}
use Rattle.mdb_bytes.proofs.NumberBytes.{as_bytes}
use Rattle.mdb_bytes.proofs.PageHeadLaws.{leaf_head_read, index_head_read, undo_head_read}
use Rattle.mdb_bytes.proofs.page_sections.page_head.Goals as goal

pub returns-clause-row_leaf : goal.returns-clause-row_leaf
returns-clause-row_leaf c = λ longest v s. c.head_at_front.ensures ∙ leaf_head_read longest c.args.bytes.now (as_bytes c.args.bytes.now c.type_inv.bytes) v s

pub returns-clause-index_page : goal.returns-clause-index_page
returns-clause-index_page c = λ v s. c.head_at_front.ensures ∙ index_head_read c.args.bytes.now (as_bytes c.args.bytes.now c.type_inv.bytes) v s

pub returns-clause-undo_page : goal.returns-clause-undo_page
returns-clause-undo_page c = λ longest v s. c.head_at_front.ensures ∙ undo_head_read longest c.args.bytes.now (as_bytes c.args.bytes.now c.type_inv.bytes) v s
