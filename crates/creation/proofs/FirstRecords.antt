-- The first restart record.
--     restart_keeps      it keeps the limits of its format
use Rattle.std.proofs.Common.{◌≡◌, refl, ◌∙◌, ℕ, ◌-◌, ◌^◌, ◌<◌, ◌≤◌, true, false, ◌&&◌, ◌||◌, nat_lt, lt-ltb, List, ◌++◌, length, sum, arith}
use Rattle.std.specs.Prelude.{nat_le}
use Rattle.std.proofs.lemmas.Bool.{le-leb}
use Rattle.std.proofs.lemmas.List.Folds.{list_all-append}
use Rattle.mdb_bytes.specs.Fields.{field_fits, fields_fit}
use Rattle.mdb_bytes.specs.Parts.{KeepsLimits, word_format, table_fields}
use Rattle.mdb_bytes.specs.Firsts.{first_restart, first_root_block}
use Rattle.mdb_bytes.specs.SlotRecords.{restart_front, restart_middle, restart_fields, restart_numbers_fit, restart_tables_fit, restart_format, snapshot_fields, slot_len}
use Rattle.mdb_bytes.proofs.TableLaws.{room-section}
use Rattle.standing.specs.Standing.{AreVolumes}
use Rattle.standing.proofs.FirstBlocks.{words_low}
use Rattle.creation.proofs.Sums.{item_less}

pub restart_keeps : (birth : ℕ) (volumes : List ℕ) → 1 ≤ birth → birth < 2 ^ 61 → AreVolumes volumes → KeepsLimits restart_format (first_restart birth volumes)
restart_keeps birth volumes low high are =
    let v = first_restart birth volumes in
    let one : nat_le 1 birth ≡ true = le-leb 1 birth low in
    let some : nat_le 1 (length volumes) ≡ true = le-leb 1 (length volumes) are.some in
    let few : nat_le (length volumes) 8 ≡ true = le-leb (length volumes) 8 are.few in
    let born : nat_lt birth (2 ^ 62) ≡ true = lt-ltb birth (2 ^ 62) (omega (arith, high)) in
    let root : nat_lt (first_root_block (sum volumes)) (2 ^ 32) ≡ true = lt-ltb (first_root_block (sum volumes)) (2 ^ 32) (omega (arith, are.most)) in
    let rooted : nat_lt 0 (first_root_block (sum volumes)) ≡ true = lt-ltb 0 (first_root_block (sum volumes)) (omega arith) in
    let count : nat_lt (length volumes) (2 ^ 32) ≡ true = lt-ltb (length volumes) (2 ^ 32) (omega (arith, are.few)) in
    let rows = words_low volumes (λ i inside. omega (arith, item_less volumes i, are.most)) in
    let front : fields_fit (restart_front v) ≡ true = λ i. born i && (root i && (count i && true)) in
    let first : fields_fit (restart_front v ++ table_fields word_format.fields 4 32 volumes) ≡ true = room-section word_format.fields 4 32 (restart_front v) volumes ∙ (λ i. front i && rows i) in
    let second : fields_fit (restart_middle v ++ table_fields snapshot_fields 32 (slot_len - 128) v.snapshots.items) ≡ true = refl in
    let whole : fields_fit (restart_fields v) ≡ true =
    list_all-append field_fits (restart_front v ++ table_fields word_format.fields 4 32 volumes) (restart_middle v ++ table_fields snapshot_fields 32 (slot_len - 128) v.snapshots.items) ∙ (λ i. first i && second i) in
    let numbers : restart_numbers_fit v ≡ true = λ i. true && one i && true && (rooted i || false) && true in
    let tables : restart_tables_fit v ≡ true = λ i. some i && few i && true && true && true in
    (λ i. (numbers i && tables i) && whole i)
