-- The record that follows keeps the limits of its format.
use Rattle.std.proofs.Common.{◌≡◌, ◌∙◌, ℕ, ◌+◌, ◌-◌, ◌^◌, ◌<◌, ◌++◌, Bool, true, false, ◌&&◌, ◌||◌, refl, sym, ap}
use Rattle.std.specs.Prelude.{nat_lt, nat_le, ◌==◌, length}
use Rattle.std.proofs.lemmas.Bool.{false≢true, lt-ltb}
use Rattle.std.proofs.lemmas.List.Folds.{list_all-append}
use Rattle.mdb_bytes.specs.declared.restart_record.RestartRecord.{RestartRecord}
use Rattle.mdb_bytes.specs.Fields.{Four, Eight, field_fits, fields_fit}
use Rattle.mdb_bytes.specs.Parts.{KeepsLimits, word_format, table_fields}
use Rattle.mdb_bytes.specs.SlotRecords.{state_number, restart_front, restart_middle, restart_fields, restart_fits, restart_numbers_fit, restart_tables_fit, restart_format, snapshot_fields, slot_len}
use Rattle.page_store.specs.WholeSavepoint.{next_record}

both_first : (a b : Bool) → (a && b) ≡ true → a ≡ true
both_first true b is = refl
both_first false b is = is

both_second : (a b : Bool) → (a && b) ≡ true → b ≡ true
both_second true b is = is
both_second false b is = absurd (false≢true is)

front_bools : (a b c d e f g h i j : Bool) → (a && (b && (c && (d && (e && (f && (g && (h && (i && (j && true)))))))))) ≡ true → (c2 f2 g2 h2 i2 : Bool) → c2 ≡ true → f2 ≡ true → g2 ≡ true → h2 ≡ true → i2 ≡ true
    → (a && (b && (c2 && (d && (e && (f2 && (g2 && (h2 && (i2 && (j && true)))))))))) ≡ true
front_bools a b c d e f g h i j was c2 f2 g2 h2 i2 c_is f_is g_is h_is i_is =
    let a_is = both_first a _ was in
    let in_b = both_second a _ was in
    let b_is = both_first b _ in_b in
    let in_c = both_second b _ in_b in
    let in_d = both_second c _ in_c in
    let d_is = both_first d _ in_d in
    let in_e = both_second d _ in_d in
    let e_is = both_first e _ in_e in
    let in_f = both_second e _ in_e in
    let in_g = both_second f _ in_f in
    let in_h = both_second g _ in_g in
    let in_i = both_second h _ in_h in
    let in_j = both_second i _ in_i in
    let j_is = both_first j _ in_j in
    λ k. a_is k && (b_is k && (c_is k && (d_is k && (e_is k && (f_is k && (g_is k && (h_is k && (i_is k && (j_is k && true)))))))))

number_bools : (a b c d e : Bool) → ((((a && b) && c) && d) && e) ≡ true → (d2 : Bool) → d2 ≡ true → ((((a && b) && c) && d2) && e) ≡ true
number_bools a b c d e was d2 d_is =
    let e_is = both_second (((a && b) && c) && d) e was in
    let abc = both_first ((a && b) && c) d (both_first (((a && b) && c) && d) e was) in
    λ k. (abc k && d_is k) && e_is k

or_true : (a b : Bool) → a ≡ true → (a || b) ≡ true
or_true a b is = ap (λ (t : Bool). t || b) is

pub next_keeps : (was : RestartRecord) (savepoint commit position root : ℕ) → KeepsLimits restart_format was → was.slot + 1 < 2 ^ 62 → savepoint < 2 ^ 62 → commit < 2 ^ 62 → position < 2 ^ 62 → 0 < root → root < 2 ^ 32
    → KeepsLimits restart_format (next_record was savepoint commit position root)
next_keeps was savepoint commit position root keeps slot_low savepoint_low commit_low position_low some root_low =
    let new = next_record was savepoint commit position root in
    let words = table_fields word_format.fields 4 32 was.volumes.items in
    let tail = restart_middle was ++ table_fields snapshot_fields 32 (slot_len - 128) was.snapshots.items in
    let fits : restart_fits was ≡ true = both_first (restart_fits was) (fields_fit (restart_fields was)) keeps in
    let numbers : restart_numbers_fit was ≡ true = both_first (restart_numbers_fit was) (restart_tables_fit was) fits in
    let tables : restart_tables_fit was ≡ true = both_second (restart_numbers_fit was) (restart_tables_fit was) fits in
    let fields : fields_fit (restart_fields was) ≡ true = both_second (restart_fits was) (fields_fit (restart_fields was)) keeps in
    let parts : (fields_fit (restart_front was ++ words) && fields_fit tail) ≡ true = sym (list_all-append field_fits (restart_front was ++ words) tail) ∙ fields in
    let front_words : (fields_fit (restart_front was) && fields_fit words) ≡ true = sym (list_all-append field_fits (restart_front was) words) ∙ both_first (fields_fit (restart_front was ++ words)) (fields_fit tail) parts in
    let tail_is : fields_fit tail ≡ true = both_second (fields_fit (restart_front was ++ words)) (fields_fit tail) parts in
    let words_is : fields_fit words ≡ true = both_second (fields_fit (restart_front was)) (fields_fit words) front_words in
    let front : fields_fit (restart_front new) ≡ true =
    front_bools (field_fits (Four was.format)) (field_fits (Four (state_number was.state))) (field_fits (Eight was.slot)) (field_fits (Eight was.name.birth)) (field_fits (Eight was.name.generation)) (field_fits (Eight was.savepoint))
    (field_fits (Eight was.commit)) (field_fits (Eight was.position)) (field_fits (Four was.root)) (field_fits (Four (length was.volumes.items)))
    (both_first (fields_fit (restart_front was)) (fields_fit words) front_words)
    (field_fits (Eight (was.slot + 1))) (field_fits (Eight savepoint)) (field_fits (Eight commit)) (field_fits (Eight position)) (field_fits (Four root)) (lt-ltb (was.slot + 1) (2 ^ 62) slot_low) (lt-ltb savepoint (2 ^ 62) savepoint_low) (lt-ltb commit (2 ^ 62) commit_low)
    (lt-ltb position (2 ^ 62) position_low) (lt-ltb root (2 ^ 32) root_low) in
    let new_fields : fields_fit (restart_fields new) ≡ true =
    list_all-append field_fits (restart_front new ++ words) tail ∙ (λ k. (list_all-append field_fits (restart_front new) words ∙ (λ j. front j && words_is j)) k && tail_is k) in
    let new_numbers : restart_numbers_fit new ≡ true =
    number_bools (was.format == 1) (nat_le 1 was.name.birth) (nat_le 1 was.name.generation) (nat_lt 0 was.root || state_number was.state == 1) (nat_le was.pending_medium 99) numbers (nat_lt 0 root || state_number was.state == 1)
    (or_true (nat_lt 0 root) (state_number was.state == 1) (lt-ltb 0 root some)) in
    λ k. (new_numbers k && tables k) && new_fields k
