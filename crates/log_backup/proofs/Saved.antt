-- Pages that are packed, and then sealed.
--     left_first      before the first group all is left
--     sealed_is_backup      a sealed medium holds the backup
--     packed_torn, all_torn      the pages of the backup alone are written
--     packed_saves, saves, saved      what saving leaves
use Rattle.std.proofs.Common.{◌≡◌, refl, ap, ◌∙◌, inl, inr, ℕ, ◌+◌, ◌-◌, ◌*◌, ◌≤◌, List, [], ◌∷◌, ◌++◌, length, replicate, Some, arith}
use Rattle.mdb_model.specs.declared.change.Commit.{Commit}
use Rattle.mdb_model.specs.declared.fault.Device.TheVariants.{Medium}
use Rattle.mdb_model.specs.Backups.{Backup}
use Rattle.mdb_model.specs.Images.{Image}
use Rattle.mdb_model.specs.Space.{ceil_div}
use Rattle.mdb_host.specs.Disk.{Disk, Goes, Arrives, Torn}
use Rattle.mdb_host.proofs.Moments.{chain, widen, torn_twice}
use Rattle.mdb_bytes.specs.declared.medium_pages.MediumHeader.{MediumHeader}
use Rattle.mdb_bytes.specs.Fields.{Byte, spelled}
use Rattle.mdb_bytes.specs.Groups.{open_gate}
use Rattle.mdb_bytes.specs.LogReading.{log_bytes}
use Rattle.mdb_bytes.specs.MediumPages.{medium_header_fields}
use Rattle.mdb_bytes.specs.Parts.{page_len}
use Rattle.mdb_bytes.specs.SlotRecords.{slot_len}
use Rattle.mdb_bytes.specs.WholeBackups.{groups_spelled, header_for}
use Rattle.medium_file.specs.declared.writer.MediumWriter.{MediumWriter}
use Rattle.medium_file.specs.Media.{IsSealed}
use Rattle.medium_file.specs.Writing.{LeavesBlank, Seals, Sealed}
use Rattle.medium_file.proofs.Places.{torn_within}
use Rattle.medium_file.proofs.Writers.{blank_same}
use Rattle.redo_ring.specs.declared.reader.RingReader.{RingReader}
use Rattle.log_backup.specs.Packing.{PagesTorn, filled}
use Rattle.log_backup.specs.Saving.{log_backup, IsToSave, IsLeft, HoldsBackup, BackupTorn, Saves, Saved}

-- before the first group all is left
pub left_first : (reader : RingReader) (writer : MediumWriter) (page : List ℕ) (disk : Disk) (header : MediumHeader) (commits : List Commit) → writer.appended ≡ 0 → writer.pages ≡ 1 + ceil_div header.group_bytes page_len → LeavesBlank disk writer.medium
    → IsToSave reader disk.seen header commits → IsLeft reader (record { writer = writer; used = 0 }) page disk header (groups_spelled reader.name (reader.number + 1) commits)
left_first reader writer page disk header commits begins pages blank to = record {
  rest = commits;
  more = to.more;
  packed = [];
  log = to.log;
  room = to.room;
  last = to.last;
  ends = to.ends;
  bytes = let count : header.group_bytes ≡ log_bytes commits = ap (λ (h : MediumHeader). h.group_bytes) to.header_is in omega (arith, count);
  fits = omega (arith, pages);
  packs = record { content = []; writing = record { count = omega (arith, begins); blank = blank; behind = λ i lt. absurd (omega (arith, lt)) }; parts = refl };
  whole = refl;
}

-- a medium that was sealed with the groups of the commits holds their backup
pub sealed_is_backup : (reader : RingReader) (header : MediumHeader) (commits : List Commit) (seen : Image) (m : ℕ) → IsToSave reader seen header commits → length (groups_spelled reader.name (reader.number + 1) commits) ≡ header.group_bytes
    → (image : Image) → IsSealed image m header (filled (groups_spelled reader.name (reader.number + 1) commits)) → HoldsBackup image m header.end_position (log_backup reader header commits)
sealed_is_backup reader header commits seen m to long image sealed =
    let groups = groups_spelled reader.name (reader.number + 1) commits in
    let said = header_for header.end_position (log_backup reader header commits) in
    let count : length groups ≡ log_bytes commits = long ∙ ap (λ (h : MediumHeader). h.group_bytes) to.header_is in (
      sealed.0,
      sealed.1 ∙ ap (λ (h : MediumHeader). Some ((spelled (medium_header_fields h ++ Byte open_gate ∷ []) ++ filled groups) ++ sealed.0)) to.header_is
          ∙ ap (λ (n : ℕ). Some ((spelled (medium_header_fields said ++ Byte open_gate ∷ []) ++ (groups ++ replicate (page_len * ceil_div n page_len - n) 0)) ++ sealed.0)) count,
    )

module _ (m pages : ℕ) (some : 1 ≤ pages) where
  -- the pages behind the first are a part
  pages_within : (a b : Image) → PagesTorn m pages a b → BackupTorn m pages a b
  pages_within a b torn = torn_within (Medium m) page_len (page_len * (pages - 1)) 0 (page_len * pages) a b (omega arith) (omega (arith, some)) torn

  -- the first page as well
  both_within : (a b c : Image) → PagesTorn m pages a b → Torn (Medium m) 0 page_len b c → BackupTorn m pages a c
  both_within a b c one two = torn_twice (Medium m) 0 (page_len * pages) a b c (pages_within a b one) (torn_within (Medium m) 0 page_len 0 (page_len * pages) b c (omega arith) (omega (arith, some)) two)

  module _ (d0 d1 : Disk) (one : Goes d0 d1 (PagesTorn m pages)) where
    -- where only pages were packed
    pub packed_torn : Goes d0 d1 (BackupTorn m pages)
    packed_torn = widen d0 d1 (PagesTorn m pages) (BackupTorn m pages) one (λ a b left torn. pages_within a b torn)

    -- where the medium was sealed then
    pub all_torn : (d2 : Disk) → Goes d1 d2 (Torn (Medium m) 0 page_len) → Goes d0 d2 (BackupTorn m pages)
    all_torn d2 two = chain d0 d1 d2 (PagesTorn m pages) (Torn (Medium m) 0 page_len) (BackupTorn m pages) one two (λ a b left torn. pages_within a b torn) (λ a b c left torn left2 torn2. both_within a b c torn torn2)

    -- and what a read gives
    pub all_seen : (a b c : Image) → PagesTorn m pages a b → Torn (Medium m) 0 page_len b c → BackupTorn m pages a c
    all_seen a b c torn torn2 = both_within a b c torn torn2

    module _ (end : ℕ) (backup : Backup) (blank : LeavesBlank d0 m) where
      -- pages alone leave it blank
      pages_save : (a b : Image) → d0.may_leave d0.now a → PagesTorn m pages a b → Saves m pages end backup a b
      pages_save a b left torn = record { torn = pages_within a b torn; holds = inl (blank_same a b m (torn.outside slot_len (inl (omega arith))) (blank a left)) }

      -- where only pages were packed
      pub packed_saves : Goes d0 d1 (Saves m pages end backup)
      packed_saves = widen d0 d1 (PagesTorn m pages) (Saves m pages end backup) one pages_save

      module _ (header : MediumHeader) (content : List ℕ) (is_backup : (image : Image) → IsSealed image m header content → HoldsBackup image m end backup) (d2 : Disk) where
        -- where the medium was sealed then
        pub saves : Goes d1 d2 (Seals m header content) → Goes d0 d2 (Saves m pages end backup)
        saves two = chain d0 d1 d2 (PagesTorn m pages) (Seals m header content) (Saves m pages end backup) one two pages_save (λ a b c left torn left2 seals. record {
          torn = both_within a b c torn seals.torn;
          holds = elim seals.holds [
            | inl shut ↦ inl shut
            | inr sealed ↦ inr (is_backup c sealed)
          ];
        })

        -- after it
        pub saved : Arrives d1 d2 (Sealed m header content) → Arrives d0 d2 (Saved m pages end backup)
        saved arrives image left =
            let b = arrives image left in
            let a = one.since d1.now b.0 one.keeps.later (omega arith) b.1 in
            (a.0, a.1, record { torn = both_within a.0 b.0 image a.2 b.2.torn; holds = is_backup image b.2.holds })
