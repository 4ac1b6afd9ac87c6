-- The records of slots are read back, and have the length of a slot's body.
--     log_info_again, length-log_info      the log info
--     restart_again, length-restart      the restart record
--     snapshot_entry_again, length-snapshot_entry      one of its entries
use Rattle.std.proofs.Common.{◌≡◌, refl, sym, ap, ◌∙◌, ℕ, ◌+◌, ◌-◌, ◌*◌, ◌≤◌, true, List, [], ◌∷◌, ◌++◌, length, drop, min, arith, append_assoc}
use Rattle.std.specs.Prelude.{nat_le, ◌&&◌, map, IsTrue}
use Rattle.std.specs.List.{flat_map, list_all}
use Rattle.std.proofs.lemmas.Bool.{leb-true}
use Rattle.std.proofs.lemmas.List.{drop-drop}
use Rattle.mdb_bytes.specs.declared.restart_record.AreaState.{AreaState}
use Rattle.mdb_bytes.specs.declared.restart_record.AreaState.TheVariants.{Normal, RestoreOpen}
use Rattle.mdb_bytes.specs.declared.restart_record.SnapshotEntry.{SnapshotEntry}
use Rattle.mdb_bytes.specs.declared.restart_record.RestartRecord.{RestartRecord}
use Rattle.mdb_bytes.specs.Fields.{Field, Zeros, ReadsBack, field_fits, spelled, number_at, read_run}
use Rattle.mdb_bytes.specs.Parts.{HasLength, fields_len, table_fields, word_format, ascend_from}
use Rattle.mdb_bytes.specs.SlotRecords.{log_info_format, log_info_fields, log_info_fits, state_number, area_state_of, snapshot_fields, snapshot_reads, snapshot_fits, snapshot_format, restart_front, restart_middle, restart_fields, restart_fits, restart_numbers_fit, restart_tables_fit, restart_format}
use Rattle.mdb_bytes.proofs.Decoding.{and_left, and_right}
use Rattle.mdb_bytes.proofs.GroupBack.{all_right}
use Rattle.mdb_bytes.proofs.ReadBack.{four_in, eight_in}
use Rattle.mdb_bytes.proofs.PartBytes.{length-spelled}
use Rattle.mdb_bytes.proofs.TableLaws.{fields_len-append, fields_len-table, drop_fields, number_behind, rows_again, word_again}

-- a log info is read again
pub log_info_again : ReadsBack log_info_format
log_info_again v kept =
    let fs = log_info_fields v in
    let fit : list_all field_fits fs ≡ true = and_right (log_info_fits v) _ kept in
    λ i. record {
      format = four_in fs 8 v.format fit refl i;
      slot = eight_in fs 16 v.slot fit refl i;
      name = record { birth = eight_in fs 24 v.name.birth fit refl i; generation = eight_in fs 32 v.name.generation fit refl i };
      saved_commit = eight_in fs 40 v.saved_commit fit refl i;
      saved_position = eight_in fs 48 v.saved_position fit refl i;
      pending_medium = four_in fs 56 v.pending_medium fit refl i;
      pages = four_in fs 60 v.pages fit refl i;
      pending_commit = eight_in fs 64 v.pending_commit fit refl i;
      pending_position = eight_in fs 72 v.pending_position fit refl i;
    }

-- how many bytes a log info has
pub length-log_info : HasLength log_info_format 8191
length-log_info v kept = length-spelled (log_info_fields v)

-- an entry is read again, whatever follows
snapshot_again : (v : SnapshotEntry) (more : List Field) → list_all field_fits (snapshot_fields v ++ more) ≡ true → snapshot_reads (spelled (snapshot_fields v ++ more)) ≡ v
snapshot_again v more fit =
    let fs = snapshot_fields v ++ more in
    λ i. record {
      number = four_in fs 0 v.number fit refl i;
      root = four_in fs 4 v.root fit refl i;
      commit = eight_in fs 8 v.commit fit refl i;
      size = four_in fs 16 v.size fit refl i;
      savepoint = eight_in fs 24 v.savepoint fit refl i;
    }

-- an entry alone is read again
pub snapshot_entry_again : ReadsBack snapshot_format
snapshot_entry_again v kept = snapshot_again v [] (and_right (snapshot_fits v) _ kept)

-- how many bytes a snapshot entry has
pub length-snapshot_entry : HasLength snapshot_format 32
length-snapshot_entry v kept = length-spelled (snapshot_fields v)

-- a state is read again
state_again : (state : AreaState) → area_state_of (state_number state) ≡ state
state_again Normal = refl
state_again RestoreOpen = refl

-- the two sections
abbrev first_part : RestartRecord → List Field
first_part v = restart_front v ++ table_fields word_format.fields 4 32 v.volumes.items

-- the section with the snapshots
abbrev second_part : RestartRecord → List Field
second_part v = restart_middle v ++ table_fields snapshot_fields 32 8063 v.snapshots.items

-- up to 8 volumes and snapshots
counts : (v : RestartRecord) → IsTrue (restart_fits v) → (length v.volumes.items ≤ 8) × (length v.snapshots.items ≤ 8)
counts v fits =
    let least = nat_le 1 (length v.volumes.items) in
    let most = nat_le (length v.volumes.items) 8 in
    let few = nat_le (length v.snapshots.items) 8 in
    let each = list_all snapshot_fits v.snapshots.items in
    let up = ascend_from 0 (map (λ (e : SnapshotEntry). e.number) v.snapshots.items) in
    let tables = and_right (restart_numbers_fit v) (restart_tables_fit v) fits in
    let lengths = and_left ((least && most) && few) each (and_left (((least && most) && few) && each) up tables) in
    (leb-true (length v.volumes.items) 8 (and_right least most (and_left (least && most) few lengths)), leb-true (length v.snapshots.items) 8 (and_right (least && most) few lengths))

-- how long the first section is
length-first : (v : RestartRecord) → length v.volumes.items ≤ 8 → fields_len (first_part v) ≡ 104
length-first v le =
    let table = fields_len-table word_format.fields 4 (λ n. refl) 32 v.volumes.items (omega arith) in
    omega (arith, fields_len-append (restart_front v) (table_fields word_format.fields 4 32 v.volumes.items), table)

-- how long the second section is
length-second : (v : RestartRecord) → length v.snapshots.items ≤ 8 → fields_len (second_part v) ≡ 8087
length-second v le =
    let table = fields_len-table snapshot_fields 32 (λ e. refl) 8063 v.snapshots.items (omega arith) in
    omega (arith, fields_len-append (restart_middle v) (table_fields snapshot_fields 32 8063 v.snapshots.items), table)

-- how many bytes a restart record has
pub length-restart : HasLength restart_format 8191
length-restart v kept =
    let few = counts v (and_left (restart_fits v) _ kept) in
    length-spelled (restart_fields v) ∙ omega (arith, fields_len-append (first_part v) (second_part v), length-first v few.0, length-second v few.1)

-- a restart record is read again
pub restart_again : ReadsBack restart_format
restart_again v kept =
    let few = counts v (and_left (restart_fits v) _ kept) in
    let fs = restart_fields v in
    let bytes = spelled fs in
    let fit : list_all field_fits fs ≡ true = and_right (restart_fits v) _ kept in
    let fit_second : list_all field_fits (second_part v) ≡ true = all_right (first_part v) (second_part v) fit in
    let words = table_fields word_format.fields 4 32 v.volumes.items in
    let snaps = table_fields snapshot_fields 32 8063 v.snapshots.items in
    let assoc : fs ≡ restart_front v ++ (words ++ second_part v) = append_assoc (restart_front v) words (second_part v) in
    let fit_words : list_all field_fits (words ++ second_part v) ≡ true = all_right (restart_front v) (words ++ second_part v) (ap (list_all field_fits) (sym assoc) ∙ fit) in
    let split_words : words ++ second_part v ≡ flat_map word_format.fields v.volumes.items ++ (Zeros (32 - 4 * length v.volumes.items) ∷ second_part v) =
    append_assoc (flat_map word_format.fields v.volumes.items) (Zeros (32 - 4 * length v.volumes.items) ∷ []) (second_part v) in
    let at_words : drop 72 bytes ≡ spelled (flat_map word_format.fields v.volumes.items ++ (Zeros (32 - 4 * length v.volumes.items) ∷ second_part v)) =
    ap (λ fs. drop 72 (spelled fs)) assoc ∙ drop_fields (restart_front v) (words ++ second_part v) 72 refl ∙ ap spelled split_words in
    let at_second : drop 104 bytes ≡ spelled (second_part v) = drop_fields (first_part v) (second_part v) 104 (length-first v few.0) in
    let at_snaps : drop 128 bytes ≡ spelled snaps =
    sym (drop-drop 24 104 bytes) ∙ ap (drop 24) at_second ∙ drop_fields (restart_middle v) snaps 24 refl in
    let middle : (width at : ℕ) → number_at width (104 + at) bytes ≡ number_at width at (spelled (second_part v)) =
    λ width at. number_behind width at 104 (first_part v) (second_part v) (length-first v few.0) in
    let volume_count : min (number_at 4 68 bytes) 8 ≡ length v.volumes.items = let n = four_in fs 68 (length v.volumes.items) fit refl in omega (arith, n, few.0) in
    let snapshot_count : min (number_at 4 116 bytes) 8 ≡ length v.snapshots.items =
    let n = middle 4 12 ∙ four_in (second_part v) 12 (length v.snapshots.items) fit_second refl in omega (arith, n, few.1) in
    let volumes : read_run word_format.reads (λ n. 4) (min (number_at 4 68 bytes) 8) (drop 72 bytes) ≡ v.volumes.items =
    (λ i. read_run word_format.reads (λ n. 4) (volume_count i) (at_words i))
    ∙ rows_again word_format.fields 4 (λ n. refl) word_format.reads word_again v.volumes.items (Zeros (32 - 4 * length v.volumes.items) ∷ second_part v) (ap (list_all field_fits) (sym split_words) ∙ fit_words) in
    let snapshots : read_run snapshot_reads (λ e. 32) (min (number_at 4 116 bytes) 8) (drop 128 bytes) ≡ v.snapshots.items =
    (λ i. read_run snapshot_reads (λ e. 32) (snapshot_count i) (at_snaps i))
    ∙ rows_again snapshot_fields 32 (λ e. refl) snapshot_reads snapshot_again v.snapshots.items (Zeros (8063 - 32 * length v.snapshots.items) ∷ []) (all_right (restart_middle v) snaps fit_second) in
    let state : area_state_of (number_at 4 12 bytes) ≡ v.state = ap area_state_of (four_in fs 12 (state_number v.state) fit refl) ∙ state_again v.state in
    λ i. record {
      format = four_in fs 8 v.format fit refl i;
      state = state i;
      slot = eight_in fs 16 v.slot fit refl i;
      name = record { birth = eight_in fs 24 v.name.birth fit refl i; generation = eight_in fs 32 v.name.generation fit refl i };
      savepoint = eight_in fs 40 v.savepoint fit refl i;
      commit = eight_in fs 48 v.commit fit refl i;
      position = eight_in fs 56 v.position fit refl i;
      root = four_in fs 64 v.root fit refl i;
      volumes = record { items = volumes i };
      base = (middle 8 0 ∙ eight_in (second_part v) 0 v.base fit_second refl) i;
      pending_medium = (middle 4 8 ∙ four_in (second_part v) 8 v.pending_medium fit_second refl) i;
      pending_savepoint = (middle 8 16 ∙ eight_in (second_part v) 16 v.pending_savepoint fit_second refl) i;
      snapshots = record { items = snapshots i };
    }
