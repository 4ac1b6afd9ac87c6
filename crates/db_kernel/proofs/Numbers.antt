-- Records without a number past the end.
--     low_start      so the log that they name begins low
--     low_numbers      and so do the savepoints and the slots
use Rattle.std.proofs.Common.{◌≡◌, refl, ℕ, ◌^◌, ◌<◌, ◌≤◌, Bool, true, false, ◌||◌, cond, List, [], ◌∷◌}
use Rattle.std.specs.Prelude.{nat_le}
use Rattle.std.proofs.lemmas.Bool.{leb-false}
use Rattle.mdb_bytes.specs.declared.log_info.LogInfo.{LogInfo}
use Rattle.mdb_bytes.specs.declared.restart_record.RestartRecord.{RestartRecord}
use Rattle.db_kernel.specs.Damages.{log_start_of, is_earlier, is_past, has_past_snapshot, is_past_end, restart_numbers, info_numbers}
use Rattle.db_kernel.specs.Reading.{IsLowStart}

-- of two tests neither holds where one or the other does not
neither : (a b : Bool) → (a || b) ≡ false → (a ≡ false) × (b ≡ false)
neither false b is = (refl, is)
neither true b is = let e : true ≡ false = is in cc

-- the first of some numbers is not past the end, nor are the others
first_low : (n : ℕ) (numbers : List ℕ) → is_past (n ∷ numbers) ≡ false → (n < 2 ^ 61) × (is_past numbers ≡ false)
first_low n numbers is = let both = neither (nat_le (2 ^ 61) n) (is_past numbers) is in (leb-false (2 ^ 61) n both.0, both.1)

either_low : (b : Bool) (n m : ℕ) → n < 2 ^ 61 → m < 2 ^ 61 → cond b n m < 2 ^ 61
either_low true n m low other = low
either_low false n m low other = other

pub low_start : (restart : RestartRecord) (info : LogInfo) → (4 ≤ info.pages) × (info.pages ≤ 65536) → is_past_end restart info ≡ false → IsLowStart (log_start_of restart info)
low_start restart info pages is =
    let parts = neither (is_past (restart_numbers restart)) (has_past_snapshot restart.snapshots.items || is_past (info_numbers info)) is in
    let more = neither (has_past_snapshot restart.snapshots.items) (is_past (info_numbers info)) parts.1 in
    let r1 = first_low restart.slot (restart.name.birth ∷ restart.name.generation ∷ restart.savepoint ∷ restart.commit ∷ restart.position ∷ restart.base ∷ restart.pending_savepoint ∷ []) parts.0 in
    let r2 = first_low restart.name.birth (restart.name.generation ∷ restart.savepoint ∷ restart.commit ∷ restart.position ∷ restart.base ∷ restart.pending_savepoint ∷ []) r1.1 in
    let r3 = first_low restart.name.generation (restart.savepoint ∷ restart.commit ∷ restart.position ∷ restart.base ∷ restart.pending_savepoint ∷ []) r2.1 in
    let r4 = first_low restart.savepoint (restart.commit ∷ restart.position ∷ restart.base ∷ restart.pending_savepoint ∷ []) r3.1 in
    let r5 = first_low restart.commit (restart.position ∷ restart.base ∷ restart.pending_savepoint ∷ []) r4.1 in
    let r6 = first_low restart.position (restart.base ∷ restart.pending_savepoint ∷ []) r5.1 in
    let i1 = first_low info.slot (info.name.birth ∷ info.name.generation ∷ info.saved_commit ∷ info.saved_position ∷ info.pending_commit ∷ info.pending_position ∷ []) more.1 in
    let i2 = first_low info.name.birth (info.name.generation ∷ info.saved_commit ∷ info.saved_position ∷ info.pending_commit ∷ info.pending_position ∷ []) i1.1 in
    let i3 = first_low info.name.generation (info.saved_commit ∷ info.saved_position ∷ info.pending_commit ∷ info.pending_position ∷ []) i2.1 in
    let i4 = first_low info.saved_commit (info.saved_position ∷ info.pending_commit ∷ info.pending_position ∷ []) i3.1 in
    let i5 = first_low info.saved_position (info.pending_commit ∷ info.pending_position ∷ []) i4.1 in
    record {
      pages = pages;
      position = r6.0;
      commit = r5.0;
      saved_position = either_low (is_earlier restart info) restart.position info.saved_position r6.0 i5.0;
      saved_commit = either_low (is_earlier restart info) restart.commit info.saved_commit r5.0 i4.0;
      birth = r2.0;
      generation = r3.0;
    }

pub low_numbers : (restart : RestartRecord) (info : LogInfo) → is_past_end restart info ≡ false → (restart.savepoint < 2 ^ 61) × (restart.slot < 2 ^ 61)
low_numbers restart info is =
    let parts = neither (is_past (restart_numbers restart)) (has_past_snapshot restart.snapshots.items || is_past (info_numbers info)) is in
    let r1 = first_low restart.slot (restart.name.birth ∷ restart.name.generation ∷ restart.savepoint ∷ restart.commit ∷ restart.position ∷ restart.base ∷ restart.pending_savepoint ∷ []) parts.0 in
    let r2 = first_low restart.name.birth (restart.name.generation ∷ restart.savepoint ∷ restart.commit ∷ restart.position ∷ restart.base ∷ restart.pending_savepoint ∷ []) r1.1 in
    let r3 = first_low restart.name.generation (restart.savepoint ∷ restart.commit ∷ restart.position ∷ restart.base ∷ restart.pending_savepoint ∷ []) r2.1 in
    let r4 = first_low restart.savepoint (restart.commit ∷ restart.position ∷ restart.base ∷ restart.pending_savepoint ∷ []) r3.1 in
    (r4.0, r1.0)
