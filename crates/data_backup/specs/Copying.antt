-- What holds while pages are copied to a medium.
--     bytes_of_pages      the bytes of pages, one after another
--     HasLeft      as many pages are left as the run counts
--     HasCopied, IsCopying      the run between two turns
--     complete_of      the complete backup of some pages that a header names
use Rattle.std.specs.Prelude.{◌≡◌, ℕ, ◌+◌, List, ◌++◌, length, map, None}
use Rattle.std.specs.List.{concat}
use Rattle.std.specs.FinMap.{len}
use Rattle.mdb_model.specs.Backups.{Backup, CompletePages}
use Rattle.mdb_model.specs.Pages.{Page, PageMap, written_after}
use Rattle.mdb_host.specs.Disk.{Disk}
use Rattle.mdb_bytes.specs.declared.medium_pages.MediumHeader.{MediumHeader}
use Rattle.medium_file.specs.Writing.{IsWriting}
use Rattle.data_backup.specs.declared.run.BackupRun.{BackupRun}
use Rattle.data_backup.specs.Frozen.{pages_left}

-- the bytes of pages, one after another
abbrev pub bytes_of_pages : List (ℕ × Page) → List ℕ
bytes_of_pages pages = concat (map (λ page. page.bytes) (map (λ e. e.1) pages))

-- as many pages of the map are still to be copied as the run counts
abbrev pub HasLeft : BackupRun → PageMap → Type 0
HasLeft run pages = length (pages_left run.base run.last pages) ≡ run.left

-- The content is the bytes of the pages of the map that were written after the base, up to the last
-- one copied: with the bytes of those that are left it is the bytes of all. It has as many pages as
-- were appended.
pub record HasCopied (run : BackupRun) (pages : PageMap) (content : List ℕ) : Type 0 where
  pub bytes : content ++ bytes_of_pages (pages_left run.base run.last pages)
      ≡ bytes_of_pages (pages_left run.base None pages)
  pub count : run.writer.appended + length (pages_left run.base run.last pages)
      ≡ len (written_after run.base pages)

-- it stands on the medium, which is blank in each image that a crash may leave
pub record IsCopying (run : BackupRun) (pages : PageMap) (disk : Disk) : Type 0 where
  pub content : List ℕ
  pub writing : IsWriting run.writer content disk
  pub copied : HasCopied run pages content

-- the complete backup of these pages with the numbers of a header
abbrev pub complete_of : MediumHeader → PageMap → Backup
complete_of header pages =
    CompletePages header.name header.savepoint header.last pages header.blocks
