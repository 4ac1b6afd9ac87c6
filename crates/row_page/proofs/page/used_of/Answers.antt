use Rattle.std.proofs.Common.{◌∙◌}
use Rattle.row_page.proofs.Entries.{used_cells}
use Rattle.row_page.proofs.page.used_of.Goals as goal

pub returns-clause-used : goal.returns-clause-used
returns-clause-used c = λ page. c.cells_used.ensures.used page ∙ used_cells _ _
