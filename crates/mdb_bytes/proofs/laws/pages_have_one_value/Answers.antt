use Rattle.mdb_bytes.specs.TablePages.{row_leaf_format, index_format}
use Rattle.mdb_bytes.specs.UndoPages.{undo_page_format}
use Rattle.mdb_bytes.specs.Groups.{group_format}
use Rattle.mdb_bytes.proofs.Decoding.{one_value}
use Rattle.mdb_bytes.proofs.PagesBack.{row_leaf_again, index_again, undo_page_again}
use Rattle.mdb_bytes.proofs.GroupBack.{group_again}
use Rattle.mdb_bytes.proofs.laws.pages_have_one_value.Goals as goal

pub returns-clause-row_leaf : goal.returns-clause-row_leaf
returns-clause-row_leaf c = λ longest. one_value (row_leaf_format longest) (row_leaf_again longest)

pub returns-clause-index_page : goal.returns-clause-index_page
returns-clause-index_page c = one_value index_format index_again

pub returns-clause-undo_page : goal.returns-clause-undo_page
returns-clause-undo_page c = λ longest. one_value (undo_page_format longest) (undo_page_again longest)

pub returns-clause-group : goal.returns-clause-group
returns-clause-group c = one_value group_format group_again
