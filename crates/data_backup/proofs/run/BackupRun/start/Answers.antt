use Rattle.std.proofs.Common.{refl, sym, ap, ◌∙◌, length}
use Rattle.std.specs.FinMap.{len-entries}
use Rattle.mdb_model.specs.Pages.{written_after}
use Rattle.data_backup.proofs.Copied.{all_left, fresh_copied}
use Rattle.data_backup.proofs.run.BackupRun.start.Goals as goal

pub returns-clause-left : goal.returns-clause-left
returns-clause-left c pages is = ap length (all_left c.args.base pages) ∙ sym (len-entries (written_after c.args.base pages)) ∙ is

pub returns-clause-copied : goal.returns-clause-copied
returns-clause-copied c pages is = fresh_copied _ pages refl c.requires.none_yet
