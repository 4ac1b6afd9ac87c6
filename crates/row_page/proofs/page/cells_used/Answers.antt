use Rattle.std.proofs.Common.{◌∙◌}
use Rattle.row_page.proofs.Pages.{used_is}
use Rattle.row_page.proofs.page.cells_used.Goals as goal

pub returns-clause-used : goal.returns-clause-used
returns-clause-used c = λ page. c.u16_at.ensures ∙ used_is _ _ _ page
