use Rattle.known_needs.proofs.FewRows.{rows_few, rows_grown}
use Rattle.known_needs.proofs.laws.rows_that_fit_are_few.Goals as goal

pub returns : goal.returns
returns c = record { rows = rows_few; changed = rows_grown }
