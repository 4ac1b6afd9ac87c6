-- What may be spelled, and what was taken for it.
use Rattle.std.proofs.Common.{◌≡◌, ◌≢◌, inl, inr, ℕ, suc, ◌+◌, ◌<◌, ◌≤◌, ◌^◌, List, [], ◌∷◌, length, get_or, set, Bool, true, false, refl, ap, sym, subst, ◌∙◌, arith}
use Rattle.std.specs.Prelude.{IsTrue, ◌&&◌, ◌==◌, nat_lt}
use Rattle.std.specs.List.{list_all}
use Rattle.std.proofs.lemmas.Bool.{cases_eq, cases_lt, lt-ltb, le-leb, eq-eqb, false≢true, and_from}
use Rattle.std.proofs.lemmas.List.{get_or-set_same, get_or-set_other, get_or_past, set_past}
use Rattle.free_blocks.specs.Free.{IsFree}
use Rattle.mdb_bytes.specs.declared.converter_pages.ConverterEntry.{ConverterEntry}
use Rattle.mdb_bytes.specs.declared.converter_pages.ConverterLeaf.{ConverterLeaf}
use Rattle.mdb_bytes.specs.declared.converter_pages.ConverterRoot.{ConverterRoot}
use Rattle.mdb_bytes.specs.Fields.{fields_fit}
use Rattle.mdb_bytes.specs.Parts.{KeepsLimits, page_room, word_format}
use Rattle.mdb_bytes.specs.ConverterPages.{converter_entry_fits, converter_entry_fields, converter_leaf_fits, converter_leaf_front, converter_leaf_format, converter_root_fits, converter_root_front, converter_root_format}
use Rattle.mdb_bytes.proofs.TableLaws.{room-section}
use Rattle.mdb_bytes.specs.Firsts.{no_entry}
use Rattle.converter.specs.Maps.{Maps, entry_at, block_of, IsUsed, AreSmall, AreUnused, with_own}
use Rattle.converter.specs.Tree.{TakesBlock}

-- two numbers within their limits
two_fit : (a b m n : ℕ) → a < m → b < n → (nat_lt a m && (nat_lt b n && true)) ≡ true
two_fit a b m n x y = and_from (nat_lt a m) (nat_lt b n && true) (lt-ltb a m x) (and_from (nat_lt b n) true (lt-ltb b n y) refl)

-- a test of each element
all_pass : {A : Type 0} (p : A → Bool) (l : List A) (d : A) → ((k : ℕ) → k < length l → p (get_or l k d) ≡ true) → list_all p l ≡ true
all_pass p [] d each = refl
all_pass p (x ∷ xs) d each = and_from (p x) (list_all p xs) (each 0 (omega arith)) (all_pass p xs d (λ k lt. each (suc k) (omega (arith, lt))))

-- a leaf of entries that are those of the map
pub leaf_keeps : (n at i savepoint : ℕ) (m entries : List ConverterEntry) → AreSmall at n m → (base : ℕ) → at ≤ base → n ≤ 65536 → i < 110 → savepoint < 2 ^ 62 → length entries ≡ 600
    → ((k : ℕ) → k < 600 → entry_at entries k ≡ entry_at m (base + k)) → KeepsLimits converter_leaf_format record { leaf = i; savepoint = savepoint; entries = entries }
leaf_keeps n at i savepoint m entries small base le bound lt less long same =
    let v : ConverterLeaf = record { leaf = i; savepoint = savepoint; entries = entries } in
    let fits : converter_leaf_fits v ≡ true =
    and_from (nat_lt i 110 && length entries == 600) (list_all converter_entry_fits entries) (and_from (nat_lt i 110) (length entries == 600) (lt-ltb i 110 lt) (eq-eqb (length entries) 600 long))
    (all_pass converter_entry_fits entries no_entry (λ k below.
    let e : entry_at entries k ≡ entry_at m (base + k) = same k (omega (arith, long, below)) in
    subst (λ (x : ConverterEntry). IsTrue (converter_entry_fits x)) (sym e) ((small (base + k)).2 (omega (arith, le))))) in
    let front : fields_fit (converter_leaf_front v) ≡ true = two_fit i savepoint (2 ^ 32) (2 ^ 62) (omega (arith, lt)) less in
    let room : list_all (λ x. fields_fit (converter_entry_fields x)) entries ≡ true = all_pass (λ x. fields_fit (converter_entry_fields x)) entries no_entry (λ k below.
    let e : entry_at entries k ≡ entry_at m (base + k) = same k (omega (arith, long, below)) in
    let s = small (base + k) in
    subst (λ (x : ConverterEntry). fields_fit (converter_entry_fields x) ≡ true) (sym e) (two_fit (entry_at m (base + k)).block (entry_at m (base + k)).stamp (2 ^ 32) (2 ^ 62) (omega (arith, s.0, bound)) s.1)) in
    and_from (converter_leaf_fits v) (fields_fit (converter_leaf_format.fields v)) fits
    (room-section converter_entry_fields 12 page_room (converter_leaf_front v) entries ∙ and_from (fields_fit (converter_leaf_front v)) (list_all (λ x. fields_fit (converter_entry_fields x)) entries) front room)

-- a root of blocks that are those of the map
pub root_keeps : (n conv savepoint : ℕ) (m : List ConverterEntry) (v : ConverterRoot) → AreSmall conv n m → n ≤ 65536 → conv ≤ 111 → savepoint < 2 ^ 62 → v.savepoint ≡ savepoint → length v.leaves.items + 1 ≡ conv
    → ((k : ℕ) → k + 1 < conv → get_or v.leaves.items k 0 ≡ block_of m (k + 1)) → KeepsLimits converter_root_format v
root_keeps n conv savepoint m v small bound few less is long same =
    let leaves = v.leaves.items in
    let fits : converter_root_fits v ≡ true = le-leb (length leaves) 110 (omega (arith, long, few)) in
    let front : fields_fit (converter_root_front v) ≡ true = two_fit v.savepoint (length leaves) (2 ^ 62) (2 ^ 32) (omega (arith, is, less)) (omega (arith, long, few)) in
    let room : list_all (λ x. fields_fit (word_format.fields x)) leaves ≡ true = all_pass (λ x. fields_fit (word_format.fields x)) leaves 0 (λ k below.
    let e : get_or leaves k 0 ≡ block_of m (k + 1) = same k (omega (arith, long, below)) in
    let s = small (k + 1) in
    and_from (nat_lt (get_or leaves k 0) (2 ^ 32)) true (lt-ltb (get_or leaves k 0) (2 ^ 32) (omega (arith, e, s.0, bound))) refl) in
    and_from (converter_root_fits v) (fields_fit (converter_root_format.fields v)) fits
    (room-section word_format.fields 4 page_room (converter_root_front v) leaves ∙ and_from (fields_fit (converter_root_front v)) (list_all (λ x. fields_fit (word_format.fields x)) leaves) front room)

-- a free block is one of the area
pub free_below : (flags : List Bool) (b : ℕ) → IsFree flags b → b < length flags
free_below flags b is = elim (cases_lt b (length flags)) [
  | inl lt ↦ lt
  | inr past ↦ absurd (false≢true (sym (get_or_past flags b false past) ∙ is))
]

-- what is left is unused, after an own page took a free block
pub still_unused : (old new : Maps) (flags next : List Bool) (q savepoint b : ℕ) → AreUnused old flags → TakesBlock old new flags next q savepoint b → AreUnused new next
still_unused old new flags next q savepoint b unused took c free =
    let back : c ≢ b = λ is. not_itself (subst (λ (x : ℕ). IsFree (set flags b false) x) is (subst (λ (l : List Bool). IsFree l c) took.less free)) in
    let was : IsFree flags c = sym (get_or-set_other flags b c false false back) ∙ subst (λ (l : List Bool). IsFree l c) took.less free in
    let u = unused c was in
    (u.0, λ used. u.1 (used_back back (subst (λ (m : Maps). IsUsed m c) took.maps used)))
  where
    not_itself : IsFree (set flags b false) b → ⊥
    not_itself is = false≢true (sym (get_or-set_same flags b false false (free_below flags b took.was_free)) ∙ is)

    e : ConverterEntry
    e = record { block = b; stamp = savepoint }

    used_back : c ≢ b → IsUsed (with_own old q record { block = b; stamp = savepoint }) c → IsUsed old c
    used_back other used = (
      used.0,
      elim used.1 [
        | inl here ↦ inl (was_at old.present used.0 other here)
        | inr kept ↦ elim kept [
          | inl saved ↦ inr (inl saved)
          | inr frozen ↦ inr (inr (was_at old.frozen used.0 other frozen))
        ]
      ],
    )
      where
        was_at : (l : List ConverterEntry) (p : ℕ) → c ≢ b → block_of (set l q record { block = b; stamp = savepoint }) p ≡ c → block_of l p ≡ c
        was_at l p other has = elim (cases_eq p q) [
          | inl is ↦ elim (cases_lt q (length l)) [
            | inl lt ↦ absurd (other (sym has ∙ ap (λ (j : ℕ). block_of (set l q record { block = b; stamp = savepoint }) j) is ∙ ap (λ (x : ConverterEntry). x.block) (get_or-set_same l q record { block = b; stamp = savepoint } no_entry lt)))
            | inr past ↦ sym (ap (λ (x : List ConverterEntry). block_of x p) (set_past l q record { block = b; stamp = savepoint } past)) ∙ has
          ]
          | inr apart ↦ sym (ap (λ (x : ConverterEntry). x.block) (get_or-set_other l q p record { block = b; stamp = savepoint } no_entry apart)) ∙ has
        ]
