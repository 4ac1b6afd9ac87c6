use Rattle.data_backup.proofs.Order.{stamped_all}
use Rattle.data_backup.proofs.laws.all_pages_are_copied.Goals as goal

pub returns : goal.returns
returns c pages stamped = stamped_all pages stamped
