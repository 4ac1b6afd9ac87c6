use Rattle.std.proofs.Common.{arith}
use Rattle.page_store.proofs.frames.edit_pages.Goals as goal

pub edit-requires : goal.edit-requires
edit-requires g c = c.requires (omega arith) (omega arith)
