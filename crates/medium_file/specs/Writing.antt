-- What holds while a backup is written to a medium.
--     LeavesBlank      the medium is blank in each image that a crash may leave
--     IsWriting      the writer between two calls: nothing counts yet, and its pages are there
--     Seals, Sealed      what sealing makes of an image
use Rattle.std.specs.Prelude.{◌≡◌, ◌⊎◌, ℕ, ◌*◌, List, length}
use Rattle.mdb_model.specs.declared.fault.Device.TheVariants.{Medium}
use Rattle.mdb_model.specs.Images.{Image}
use Rattle.mdb_host.specs.Disk.{Disk, Torn, Has}
use Rattle.mdb_bytes.specs.declared.medium_pages.MediumHeader.{MediumHeader}
use Rattle.mdb_bytes.specs.Parts.{page_len}
use Rattle.medium_file.specs.declared.writer.MediumWriter.{MediumWriter}
use Rattle.medium_file.specs.Media.{IsBlankMedium, IsSealed}

-- no image that a crash now may leave has anything on the medium
abbrev pub LeavesBlank : Disk → (medium : ℕ) → Type 0
LeavesBlank disk medium =
    (image : Image) → disk.may_leave disk.now image → IsBlankMedium image medium

-- The pages that were appended, one after another. The numbers are those of src/writer.rt.
pub record IsWriting (writer : MediumWriter) (content : List ℕ) (disk : Disk) : Type 0 where
  -- (1)
  pub count : length content ≡ page_len * writer.appended
  -- (2)
  pub blank : LeavesBlank disk writer.medium
  -- (3)
  pub behind : Has disk.seen (Medium writer.medium) page_len content

-- at most the first page is another, and the medium is blank or holds the backup
pub record Seals (medium : ℕ) (header : MediumHeader) (content : List ℕ) (old new : Image)
    : Type 0 where
  pub torn : Torn (Medium medium) 0 page_len old new
  pub holds : IsBlankMedium new medium ⊎ IsSealed new medium header content

-- at most the first page is another, and the medium holds the backup
pub record Sealed (medium : ℕ) (header : MediumHeader) (content : List ℕ) (old new : Image)
    : Type 0 where
  pub torn : Torn (Medium medium) 0 page_len old new
  pub holds : IsSealed new medium header content
