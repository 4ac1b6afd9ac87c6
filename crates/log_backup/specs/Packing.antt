-- Bytes that are packed without a gap into the pages of a medium.
--     packed_len      how many bytes were packed
--     IsPacking      the numbers of a packing fit each other
--     SameMedium      it is the same backup on the same medium
--     PagesTorn      the pages behind the first may hold anything, all else is as before
--     WritesPages      what a call leaves that writes these pages
--     filled      bytes, and zeros up to the end of their last page
--     Packs      the bytes that were packed are on the medium and in the page that is being filled
use Rattle.std.specs.Prelude.{◌≡◌, ℕ, ◌+◌, ◌-◌, ◌*◌, ◌<◌, ◌≤◌, List, ◌++◌, length, take, replicate, IsTrue}
use Rattle.mdb_model.specs.declared.fault.Device.TheVariants.{Medium}
use Rattle.mdb_model.specs.Images.{Image}
use Rattle.mdb_model.specs.Space.{ceil_div}
use Rattle.mdb_model.specs.Script.{is_medium}
use Rattle.mdb_host.specs.Disk.{Disk, Goes, Torn}
use Rattle.mdb_host.specs.declared.host.Host as host
use Rattle.mdb_bytes.specs.Parts.{page_len}
use Rattle.medium_file.specs.declared.writer.MediumWriter.{MediumWriter}
use Rattle.medium_file.specs.Writing.{IsWriting}
use Rattle.log_backup.specs.declared.packing.Packing.{Packing}

-- the bytes of the pages that were appended, and those of the next one
abbrev pub packed_len : Packing → ℕ
packed_len packing = page_len * packing.writer.appended + packing.used

-- the next page is not full, and what was packed has room on the medium behind its first page
pub record IsPacking (packing : Packing) : Type 0 where
  pub medium : IsTrue (is_medium packing.writer.medium)
  pub used : packing.used < page_len
  pub room : page_len + packed_len packing ≤ page_len * packing.writer.pages

-- the medium and the pages that were asked for are the same
pub record SameMedium (old new : MediumWriter) : Type 0 where
  pub medium : new.medium ≡ old.medium
  pub pages : new.pages ≡ old.pages

-- of a medium with so many pages those behind the first hold anything, all else is as before
abbrev pub PagesTorn : (medium pages : ℕ) → Image → Image → Type 0
PagesTorn medium pages = Torn (Medium medium) page_len (page_len * (pages - 1))

-- At each moment since then an image differs from one before at most in these pages, and so does
-- what a read gives. Faults of devices may be counted.
pub record WritesPages {H : Type 0} (h : host.Ghosts H) (medium pages : ℕ) (old new : H)
    : Type 0 where
  pub goes : h.tells → Goes (h.disk old) (h.disk new) (PagesTorn medium pages)
  pub seen : h.tells → PagesTorn medium pages (h.disk old).seen (h.disk new).seen
  pub later : h.faults old ≤ h.faults new
  pub say_faults : h.say_faults new ≡ h.say_faults old

-- the bytes stand in the pages that were appended, and their end in the front of the next page
pub record Packs (packing : Packing) (page bytes : List ℕ) (disk : Disk) : Type 0 where
  pub content : List ℕ
  pub writing : IsWriting packing.writer content disk
  pub parts : bytes ≡ content ++ take packing.used page

-- bytes, and zeros up to the end of their last page
abbrev pub filled : List ℕ → List ℕ
filled bytes = bytes ++ replicate (page_len * ceil_div (length bytes) page_len - length bytes) 0
