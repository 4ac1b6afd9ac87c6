-- Links without their content.
--     link_of, log_part      the links of media by their headers, and of the log area
--     IsAlike, AreAlike      backups with the same kind, name and numbers
use Rattle.std.specs.Prelude.{◌≡◌, List, [], ◌∷◌, Option, Some, None, map}
use Rattle.std.specs.FinMap.{empty as no_pages}
use Rattle.std.specs.FinSet.{empty as no_numbers}
use Rattle.mdb_model.specs.declared.script.BackupKind.{BackupKind}
use Rattle.mdb_model.specs.declared.script.BackupKind.TheVariants.{OfPages, OfLog}
use Rattle.mdb_model.specs.declared.script.PageKind.TheVariants.{Complete, Incremental}
use Rattle.mdb_model.specs.Backups.{Backup, CompletePages, ChangedPages, LogGroups}
use Rattle.mdb_bytes.specs.declared.medium_pages.MediumHeader.{MediumHeader}
use Rattle.restore_chain.specs.declared.links.LogLink.{LogLink}

-- changed pages with the numbers of a header and no content
abbrev pub changes_of : MediumHeader → Backup
changes_of header =
    ChangedPages header.name header.savepoint header.base header.last no_pages no_numbers
    header.blocks

-- the backup of a kind with the numbers of a header and no content
abbrev pub link_with : BackupKind → MediumHeader → Backup
link_with (OfPages Complete) header =
    CompletePages header.name header.savepoint header.last no_pages header.blocks
link_with (OfPages Incremental) header = changes_of header
link_with OfLog header = LogGroups header.name header.first header.last [] header.blocks

-- the backup of a medium with this header, without its content
abbrev pub link_of : MediumHeader → Backup
link_of header = link_with header.kind header

-- the log area as the last link, where it is named
abbrev pub log_part : Option LogLink → List Backup
log_part None = []
log_part (Some link) = LogGroups link.name link.first link.last [] 0 ∷ []

-- a backup without its content
abbrev pub bare : Backup → Backup
bare (CompletePages name savepoint commit pages blocks) =
    CompletePages name savepoint commit no_pages 0
bare (ChangedPages name savepoint base commit changed live blocks) =
    ChangedPages name savepoint base commit no_pages no_numbers 0
bare (LogGroups name from to commits blocks) = LogGroups name from to [] 0

-- two backups are of one kind, and have the same name and numbers
abbrev pub IsAlike : Backup → Backup → Type 0
IsAlike a b = bare a ≡ bare b

-- two lists of backups are alike link by link
abbrev pub AreAlike : List Backup → List Backup → Type 0
AreAlike a b = map bare a ≡ map bare b
