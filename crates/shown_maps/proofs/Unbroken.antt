-- Where a map is shown whose blocks are apart, no rule on reading it is broken.
--     unbroken      the law
use Rattle.std.proofs.Common.{◌≡◌, ◌≢◌, ◌⊎◌, inl, inr, refl, sym, ap, subst, ◌∙◌, ℕ, zero, suc, ◌+◌, ◌-◌, ◌*◌, ◌/◌, ◌<◌, ◌≤◌, ◌==◌, Bool, true, false, not, ◌&&◌, ◌||◌, cond, nat_lt, List, [], ◌∷◌, ◌++◌, length, map, get_or, Option, Some, None, arith, length-append}
use Rattle.std.specs.Prelude.{IsTrue, option_map, option_and_then, if◌then◌else◌}
use Rattle.std.specs.List.{list_all, AllByRecursion}
use Rattle.std.proofs.lemmas.Bool.{and_parts, cases_lt, eqb-true, false≢true}
use Rattle.std.proofs.lemmas.List.{get_or_append_left, get_or-append_right, get_or_past}
use Rattle.std.proofs.lemmas.Option.{option_and_then_some, same_Some}
use Rattle.mdb_model.specs.declared.fault.Damage.{Damage}
use Rattle.mdb_bytes.specs.declared.converter_pages.ConverterEntry.{ConverterEntry}
use Rattle.mdb_bytes.specs.declared.converter_pages.ConverterLeaf.{ConverterLeaf}
use Rattle.mdb_bytes.specs.declared.converter_pages.ConverterRoot.{ConverterRoot}
use Rattle.mdb_bytes.specs.ConverterPages.{converter_entry_fits, converter_leaf_format, converter_leaf_fields, converter_leaf_fits, converter_root_format}
use Rattle.mdb_bytes.specs.Fields.{Spells, fields_fit, all_differ}
use Rattle.mdb_bytes.specs.Firsts.{leaf_count, no_entry}
use Rattle.mdb_bytes.specs.KeptMaps.{KeptMap, Placed, root_of, leaf_of, leaf_with, entries_from, placed, pages_at, kept_under, root_with_leaves, kept_map}
use Rattle.mdb_bytes.proofs.Decoding.{spelled-decoded, decoded-spells}
use Rattle.mdb_bytes.proofs.ConverterLaws.{converter_root_again, converter_leaf_again}
use Rattle.mdb_bytes.proofs.GroupLaw.{option_map_some}
use Rattle.converter.specs.Maps.{entry_at, block_of}
use Rattle.converter.specs.Loads.{IsOff, IsRead, BreaksPlace, BreaksRoot, BreaksRow, BreaksLeaf, BreaksPages, Breaks}
use Rattle.converter.specs.Tree.{IsLeafOf, IsRootOf, HasLeafBytes, HasRootBytes}
use Rattle.standing.specs.WholeStanding.{BlocksAreApart}
use Rattle.shown_maps.proofs.UsedEntries.{used_from}
use Rattle.shown_maps.proofs.Differ.{same, used_at, all_blocks, front_apart, front_front, back_of, used_apart}

-- Records in their format

some_if : {A : Type 0} (b : Bool) (x y : A) → (if b then Some x else None) ≡ Some y → (b ≡ true) × (x ≡ y)
some_if true x y e = (refl, same_Some x y e)
some_if false x y e = absurd cc

-- a leaf has 600 entries, each in its form
module _ (v : ConverterLeaf) (keeps : IsTrue (converter_leaf_fits v && fields_fit (converter_leaf_fields v))) where
  fits : converter_leaf_fits v ≡ true
  fits = (and_parts (converter_leaf_fits v) (fields_fit (converter_leaf_fields v)) keeps).0

  front : (nat_lt v.leaf 110 && (length v.entries == 600)) ≡ true
  front = (and_parts (nat_lt v.leaf 110 && (length v.entries == 600)) (list_all converter_entry_fits v.entries) fits).0

  leaf_long : length v.entries ≡ 600
  leaf_long = eqb-true (length v.entries) 600 (and_parts (nat_lt v.leaf 110) (length v.entries == 600) front).1

  each_fits : list_all converter_entry_fits v.entries ≡ true
  each_fits = (and_parts (nat_lt v.leaf 110 && (length v.entries == 600)) (list_all converter_entry_fits v.entries) fits).1

all_at : (xs : List ConverterEntry) (i : ℕ) → list_all converter_entry_fits xs ≡ true → i < length xs → converter_entry_fits (entry_at xs i) ≡ true
all_at [] i all lt = absurd (omega (arith, lt))
all_at (x ∷ xs) zero all lt = (and_parts (converter_entry_fits x) (list_all converter_entry_fits xs) all).0
all_at (x ∷ xs) (suc i) all lt = all_at xs i (and_parts (converter_entry_fits x) (list_all converter_entry_fits xs) all).1 (omega (arith, lt))

-- an entry without a block has no stamp
no_stamp : (e : ConverterEntry) → converter_entry_fits e ≡ true → e.block ≡ 0 → e ≡ no_entry
no_stamp e fit none = let stamp = zero_stamp e.stamp (sym (λ i. (none i == 0 && e.stamp == 0) || (nat_lt 0 (none i) && nat_lt 0 e.stamp)) ∙ fit) in λ i. record { block = none i; stamp = stamp i }
  where
    zero_stamp : (n : ℕ) → ((0 == 0 && n == 0) || (nat_lt 0 0 && nat_lt 0 n)) ≡ true → n ≡ 0
    zero_stamp n fit = elim (n == 0) as (λ b. (n == 0) ≡ b → n ≡ 0) [
      | true ↦ λ e. eqb-true n 0 e
      | false ↦ λ e. absurd (false≢true (sym (λ i. (0 == 0 && e i) || (nat_lt 0 0 && nat_lt 0 n)) ∙ fit))
    ] refl

-- The leaves in a row

-- a leaf with its number, whose entries stand in a list from a place on
record LeafThere (bytes : List ℕ) (number : ℕ) (entries : List ConverterEntry) (from : ℕ) : Type 0 where
  leaf : ConverterLeaf
  spells : Spells converter_leaf_format leaf bytes
  number_is : leaf.leaf ≡ number
  are : (k : ℕ) → k < 600 → entry_at entries (from + k) ≡ entry_at leaf.entries k

module _ (row : ℕ → List ℕ) where
  leaf_spelled : (number : ℕ) (bytes : List ℕ) (leaf : ConverterLeaf) → leaf_with number bytes ≡ Some leaf → Spells converter_leaf_format leaf bytes × (leaf.leaf ≡ number)
  unfolding leaf_of
  leaf_spelled number bytes leaf there =
      option_and_then_some (λ (v : ConverterLeaf). if v.leaf == number then Some v else None) (leaf_of bytes) leaf there
      (λ v read chosen.
      let is = some_if (v.leaf == number) v leaf chosen in
      (subst (λ (x : ConverterLeaf). Spells converter_leaf_format x bytes) is.1 (decoded-spells converter_leaf_format bytes v read), ap (λ (x : ConverterLeaf). x.leaf) (sym is.1) ∙ eqb-true v.leaf number is.0))

  leaves_there : (number : ℕ) (leaves : List ℕ) (entries : List ConverterEntry) → entries_from number (map row leaves) ≡ Some entries
      → (i : ℕ) → i < length leaves → LeafThere (row (get_or leaves i 0)) (number + i) entries (600 * i)
  leaves_there number [] entries there i lt = absurd (omega (arith, lt))
  leaves_there number (b ∷ bs) entries there i lt =
      option_and_then_some (λ (leaf : ConverterLeaf). option_map (λ es. leaf.entries ++ es) (entries_from (number + 1) (map row bs))) (leaf_with number (row b)) entries there
      (λ leaf read more.
      option_map_some (λ es. leaf.entries ++ es) (entries_from (number + 1) (map row bs)) entries more
      (λ rest later is. at leaf (leaf_spelled number (row b) leaf read) rest is (λ j less. leaves_there (number + 1) bs rest later j less) i lt))
    where
      at : (leaf : ConverterLeaf) → Spells converter_leaf_format leaf (row b) × (leaf.leaf ≡ number) → (rest : List ConverterEntry) → leaf.entries ++ rest ≡ entries
          → ((j : ℕ) → j < length bs → LeafThere (row (get_or bs j 0)) (number + 1 + j) rest (600 * j))
          → (i : ℕ) → i < length (b ∷ bs) → LeafThere (row (get_or (b ∷ bs) i 0)) (number + i) entries (600 * i)
      at leaf spelled rest is more zero lt = record {
        leaf = leaf;
        spells = spelled.0;
        number_is = spelled.1 ∙ omega arith;
        are = λ k less.
            let place : 600 * 0 + k ≡ k = omega arith in
            ap (entry_at entries) place ∙ ap (λ es. entry_at es k) (sym is) ∙ get_or_append_left leaf.entries rest no_entry k (omega (arith, less, leaf_long leaf spelled.0.0));
      }
      at leaf spelled rest is more (suc i) lt =
          let t = more i (omega (arith, lt)) in
          record {
            leaf = t.leaf;
            spells = t.spells;
            number_is = t.number_is ∙ omega arith;
            are = λ k less.
                let place : 600 * suc i + k - 600 ≡ 600 * i + k = omega arith in
                ap (λ es. entry_at es (600 * suc i + k)) (sym is)
                ∙ get_or-append_right leaf.entries rest 600 (600 * suc i + k) no_entry (leaf_long leaf spelled.0.0) (omega arith)
                ∙ ap (entry_at rest) place
                ∙ t.are k less;
          }

  entries_long : (number : ℕ) (leaves : List ℕ) (entries : List ConverterEntry) → entries_from number (map row leaves) ≡ Some entries → length entries ≡ 600 * length leaves
  entries_long number [] entries there = ap length (sym (same_Some [] entries there))
  entries_long number (b ∷ bs) entries there =
      option_and_then_some (λ (leaf : ConverterLeaf). option_map (λ es. leaf.entries ++ es) (entries_from (number + 1) (map row bs))) (leaf_with number (row b)) entries there
      (λ leaf read more.
      option_map_some (λ es. leaf.entries ++ es) (entries_from (number + 1) (map row bs)) entries more
      (λ rest later is.
      let first = leaf_long leaf (leaf_spelled number (row b) leaf read).0.0 in
      ap length (sym is) ∙ length-append leaf.entries rest ∙ omega (arith, first, entries_long (number + 1) bs rest later)))

-- A map that is shown

-- the parts of it
record Parts (row : ℕ → List ℕ) (n root : ℕ) (kept : KeptMap) : Type 0 where
  value : ConverterRoot
  entries : List ConverterEntry
  spells : Spells converter_root_format value (row root)
  count : length value.leaves.items ≡ leaf_count n
  there : entries_from 0 (map row value.leaves.items) ≡ Some entries
  converter : kept.converter ≡ root ∷ value.leaves.items
  places : kept.places ≡ placed entries

parts_of : (row : ℕ → List ℕ) (n root : ℕ) (kept : KeptMap) → kept_map row n root ≡ Some kept → Parts row n root kept
unfolding root_of
parts_of row n root kept shown =
    option_and_then_some (kept_under row n root) (root_with_leaves row n (row root)) kept shown
    (λ value read under.
    option_and_then_some (λ (r : ConverterRoot). if length r.leaves.items == leaf_count n then Some r else None) (root_of (row root)) value read
    (λ r decoded_is chosen.
    let is = some_if (length r.leaves.items == leaf_count n) r value chosen in
    option_map_some (λ entries. record { converter = root ∷ value.leaves.items; places = placed entries; pages = pages_at row n (placed entries) }) (entries_from 0 (map row value.leaves.items)) kept under
    (λ entries there made. record {
      value = value;
      entries = entries;
      spells = subst (λ (x : ConverterRoot). Spells converter_root_format x (row root)) is.1 (decoded-spells converter_root_format (row root) r decoded_is);
      count = ap (λ (x : ConverterRoot). length x.leaves.items) (sym is.1) ∙ eqb-true (length r.leaves.items) (leaf_count n) is.0;
      there = there;
      converter = ap (λ (k : KeptMap). k.converter) (sym made);
      places = ap (λ (k : KeptMap). k.places) (sym made);
    })))

module _ (sizes : List ℕ) (row : ℕ → List ℕ) (conv n root : ℕ) (kept : KeptMap) (conv_is : conv ≡ 1 + leaf_count n) (shown : kept_map row n root ≡ Some kept) (apart : BlocksAreApart kept n) where
  p : Parts row n root kept
  p = parts_of row n root kept shown

  leaves : List ℕ
  leaves = p.value.leaves.items

  all : all_differ same ((root ∷ p.value.leaves.items) ++ map (λ e. e.1.block) (placed p.entries)) ≡ true
  all = subst (λ (k : List ℕ × List Placed). IsTrue (all_differ same (k.0 ++ map (λ e. e.1.block) k.1))) (λ i. (p.converter i, p.places i)) apart.once

  own : AllByRecursion (λ block. (2 ≤ block) × (block < n)) (root ∷ p.value.leaves.items)
  own = subst (AllByRecursion (λ block. (2 ≤ block) × (block < n))) p.converter apart.converter

  on : (P : ℕ → Type 0) (xs : List ℕ) → AllByRecursion P xs → (i : ℕ) → i < length xs → P (get_or xs i 0)
  on P [] all i lt = absurd (omega (arith, lt))
  on P (x ∷ xs) all zero lt = all.0
  on P (x ∷ xs) all (suc i) lt = on P xs all.1 i (omega (arith, lt))

  inside : (b : ℕ) → (2 ≤ b) × (b < n) → IsOff n b → ⊥
  inside b within (inl low) = omega (arith, within.0, low)
  inside b within (inr past) = omega (arith, within.1, past)

  -- there is one root
  same_root : (value : ConverterRoot) → IsRootOf conv (row root) value → value ≡ p.value
  same_root value is = same_Some value p.value (sym (spelled-decoded converter_root_format converter_root_again (row root) value is.spells) ∙ spelled-decoded converter_root_format converter_root_again (row root) p.value p.spells)

  same_leaf : (bytes : List ℕ) (a b : ConverterLeaf) → Spells converter_leaf_format a bytes → Spells converter_leaf_format b bytes → a ≡ b
  same_leaf bytes a b one two = same_Some a b (sym (spelled-decoded converter_leaf_format converter_leaf_again bytes a one) ∙ spelled-decoded converter_leaf_format converter_leaf_again bytes b two)

  count : 1 + length p.value.leaves.items ≡ conv
  count = omega (arith, p.count, conv_is)

  place : (damage : Damage) → BreaksPlace n root damage → ⊥
  place damage b = inside root own.0 b.off

  no_root : (damage : Damage) → BreaksRoot sizes conv root row damage → ⊥
  no_root damage b = b.none p.value (record { spells = p.spells; count = omega (arith, count) })

  in_row : (damage : Damage) → BreaksRow sizes conv n root row damage → ⊥
  in_row damage b =
      let items : b.value.leaves.items ≡ p.value.leaves.items = ap (λ (r : ConverterRoot). r.leaves.items) (same_root b.value b.root_is) in
      let lt : b.leaf < length p.value.leaves.items = omega (arith, b.there, count) in
      let at : (j : ℕ) → get_or b.value.leaves.items j 0 ≡ get_or p.value.leaves.items j 0 = λ j. ap (λ (xs : List ℕ). get_or xs j 0) items in
      elim b.bad [
        | inl off ↦ inside (get_or p.value.leaves.items b.leaf 0) (on (λ block. (2 ≤ block) × (block < n)) p.value.leaves.items own.1 b.leaf lt) (subst (IsOff n) (at b.leaf) off)
        | inr twice ↦ elim twice [
          | inl again ↦ front_front (root ∷ p.value.leaves.items) (map (λ e. e.1.block) (placed p.entries)) all 0 (suc b.leaf) (omega arith) (omega (arith, lt)) (sym (sym (at b.leaf) ∙ again))
          | inr (j, less, is) ↦ front_front (root ∷ p.value.leaves.items) (map (λ e. e.1.block) (placed p.entries)) all (suc j) (suc b.leaf) (omega (arith, less)) (omega (arith, lt)) (sym (at j) ∙ is ∙ at b.leaf)
        ]
      ]

  -- the entry of a page by its leaf
  entry_is : (leaf k : ℕ) → leaf < length p.value.leaves.items → k < 600 → (t : LeafThere (row (get_or p.value.leaves.items leaf 0)) (0 + leaf) p.entries (600 * leaf)) → entry_at p.entries (600 * leaf + k) ≡ entry_at t.leaf.entries k
  entry_is leaf k lt less t = t.are k less

  leaf_there : (leaf : ℕ) → leaf < length p.value.leaves.items → LeafThere (row (get_or p.value.leaves.items leaf 0)) (0 + leaf) p.entries (600 * leaf)
  leaf_there = leaves_there row 0 p.value.leaves.items p.entries p.there

  long : length p.entries ≡ 600 * length p.value.leaves.items
  long = entries_long row 0 p.value.leaves.items p.entries p.there

  -- the page of an entry that has a block is below n, and its block is of the area
  numbered : (q : ℕ) → q < length p.entries → 0 < block_of p.entries q → 0 + q < n
  numbered q lt some = used_at (λ e. e.0 < n) 0 p.entries (subst (AllByRecursion (λ e. e.0 < n)) p.places apart.numbers) q lt some

  within_area : (q : ℕ) → q < length p.entries → 0 < block_of p.entries q → (2 ≤ block_of p.entries q) × (block_of p.entries q < n)
  within_area q lt some = used_at (λ e. (2 ≤ e.1.block) × (e.1.block < n)) 0 p.entries (subst (AllByRecursion (λ e. (2 ≤ e.1.block) × (e.1.block < n))) p.places apart.placed) q lt some

  -- the leaf that a map names, by the root
  held_row : (m : List ConverterEntry) (leaf : ℕ) → HasRootBytes m conv (row root) → leaf + 1 < conv → row (block_of m (leaf + 1)) ≡ row (get_or p.value.leaves.items leaf 0)
  held_row m leaf held lt = ap row (sym (held.leaves leaf lt) ∙ ap (λ (r : ConverterRoot). get_or r.leaves.items leaf 0) (same_root held.root held.is))

  no_leaf : (damage : Damage) → BreaksLeaf sizes conv n root row damage → ⊥
  no_leaf damage b =
      let lt : b.leaf < length p.value.leaves.items = omega (arith, b.there, count) in
      let t = leaf_there b.leaf lt in
      let bytes : row (get_or p.value.leaves.items b.leaf 0) ≡ row (block_of b.map (b.leaf + 1)) = sym (held_row b.map b.leaf b.before.held b.there) in
      b.none t.leaf (subst (λ (x : List ℕ). IsLeafOf n b.leaf x t.leaf) bytes (record {
        spells = t.spells;
        number = t.number_is ∙ omega arith;
        past = λ k less past. no_stamp (entry_at t.leaf.entries k) (all_at t.leaf.entries k (each_fits t.leaf t.spells.0) (omega (arith, less, leaf_long t.leaf t.spells.0)))
            (elim (cases_lt 0 (block_of t.leaf.entries k)) [
              | inl some ↦
                  let same_block : block_of p.entries (600 * b.leaf + k) ≡ block_of t.leaf.entries k = ap (λ (e : ConverterEntry). e.block) (t.are k less) in
                  absurd (omega (arith, past, numbered (600 * b.leaf + k) (omega (arith, long, lt, less)) (omega (arith, some, same_block))))
              | inr none ↦ omega (arith, none)
            ]);
      }))

  module _ (damage : Damage) (b : BreaksPages sizes conv n root row damage) where
    lt : b.leaf < length p.value.leaves.items
    lt = omega (arith, b.there, count)

    at : ℕ
    at = 600 * b.leaf + b.page

    at_inside : 600 * b.leaf + b.page < length p.entries
    at_inside = omega (arith, long, lt, b.within)

    -- an entry of this leaf
    entry_of : (k : ℕ) → k < 600 → block_of p.entries (600 * b.leaf + k) ≡ block_of b.value.entries k
    entry_of k less =
        let t = leaf_there b.leaf lt in
        let bytes : row (block_of b.map (b.leaf + 1)) ≡ row (get_or p.value.leaves.items b.leaf 0) = held_row b.map b.leaf b.before.held b.there in
        let one : t.leaf ≡ b.value = same_leaf (row (get_or p.value.leaves.items b.leaf 0)) t.leaf b.value t.spells (subst (λ (x : List ℕ). Spells converter_leaf_format b.value x) bytes b.leaf_is.spells) in
        ap (λ (e : ConverterEntry). e.block) (t.are k less) ∙ ap (λ (v : ConverterLeaf). block_of v.entries k) one

    some_block : 0 < block_of p.entries (600 * b.leaf + b.page)
    some_block = omega (arith, b.some, entry_of b.page b.within)

    pages_apart : (q : ℕ) → q < length p.entries → q ≢ 600 * b.leaf + b.page → block_of p.entries q ≡ block_of p.entries (600 * b.leaf + b.page) → ⊥
    pages_apart q less other is =
        let each = back_of (root ∷ p.value.leaves.items) (map (λ e. e.1.block) (placed p.entries)) all in
        elim (cases_lt q (600 * b.leaf + b.page)) [
          | inl before ↦ used_apart 0 p.entries each q (600 * b.leaf + b.page) before at_inside (omega (arith, is, some_block)) is
          | inr after ↦ used_apart 0 p.entries each (600 * b.leaf + b.page) q (omega (arith, after, other)) less some_block (sym is)
        ]

    own_apart : (i : ℕ) → i < 1 + length p.value.leaves.items → get_or (root ∷ p.value.leaves.items) i 0 ≡ block_of p.entries (600 * b.leaf + b.page) → ⊥
    own_apart i less is =
        used_at (λ e. get_or (root ∷ p.value.leaves.items) i 0 ≢ e.1.block) 0 p.entries
        (all_blocks (λ y. get_or (root ∷ p.value.leaves.items) i 0 ≢ y) (placed p.entries) (front_apart (root ∷ p.value.leaves.items) (map (λ e. e.1.block) (placed p.entries)) all i (omega (arith, less))))
        (600 * b.leaf + b.page) at_inside some_block is

    -- a place of the map that was read
    read_apart : (q : ℕ) → block_of b.map q ≡ block_of p.entries (600 * b.leaf + b.page) → ⊥
    read_apart zero is = own_apart 0 (omega arith) (sym b.before.at ∙ is)
    read_apart (suc q) is = elim (cases_lt (suc q) conv) [
      | inl low ↦
          let held = b.before.held in
          let leaf_block : get_or p.value.leaves.items q 0 ≡ block_of b.map (q + 1) = ap (λ (r : ConverterRoot). get_or r.leaves.items q 0) (sym (same_root held.root held.is)) ∙ held.leaves q (omega (arith, low)) in
          own_apart (suc q) (omega (arith, low, count)) (leaf_block ∙ ap (block_of b.map) (omega arith) ∙ is)
      | inr high ↦ elim (cases_lt (suc q) (conv + 600 * b.leaf)) [
        | inr rest ↦
            let none : block_of b.map (suc q) ≡ 0 = ap (λ (e : ConverterEntry). e.block) (b.before.rest (suc q) rest) in
            omega (arith, none, is, some_block)
        | inl before ↦ earlier (suc q - conv) (omega (arith, before, high)) (ap (block_of b.map) (omega (arith, high)) ∙ is)
      ]
    ]
      where
        earlier : (k : ℕ) → k < 600 * b.leaf → block_of b.map (conv + k) ≡ block_of p.entries (600 * b.leaf + b.page) → ⊥
        earlier k less is =
            let j = k / 600 in
            let rest = k - 600 * (k / 600) in
            let small : k - 600 * (k / 600) < 600 = omega arith in
            let whole : 600 * (k / 600) + (k - 600 * (k / 600)) ≡ k = omega arith in
            let within : k / 600 < b.leaf = omega (arith, less) in
            let t = leaf_there (k / 600) (omega (arith, within, lt)) in
            let held = b.before.leaves (k / 600) within in
            let bytes : row (block_of b.map (k / 600 + 1)) ≡ row (get_or p.value.leaves.items (k / 600) 0) = held_row b.map (k / 600) b.before.held (omega (arith, within, b.there)) in
            let one : t.leaf ≡ held.leaf = same_leaf (row (get_or p.value.leaves.items (k / 600) 0)) t.leaf held.leaf t.spells (subst (λ (x : List ℕ). Spells converter_leaf_format held.leaf x) bytes held.spells) in
            let place : conv + 600 * (k / 600) + (k - 600 * (k / 600)) ≡ conv + k = omega (arith, whole) in
            let map_entry : entry_at held.leaf.entries (k - 600 * (k / 600)) ≡ entry_at b.map (conv + k) = held.entries (k - 600 * (k / 600)) small ∙ ap (entry_at b.map) place in
            let own_entry : entry_at p.entries (600 * (k / 600) + (k - 600 * (k / 600))) ≡ entry_at t.leaf.entries (k - 600 * (k / 600)) = t.are (k - 600 * (k / 600)) small in
            let own_block : block_of p.entries k ≡ block_of p.entries (600 * b.leaf + b.page) =
            ap (λ (q : ℕ). block_of p.entries q) (sym whole)
            ∙ ap (λ (e : ConverterEntry). e.block) own_entry
            ∙ ap (λ (v : ConverterLeaf). block_of v.entries (k - 600 * (k / 600))) one
            ∙ ap (λ (e : ConverterEntry). e.block) map_entry
            ∙ is in
            pages_apart k (omega (arith, less, long, lt)) (omega (arith, less)) own_block

    in_pages : ⊥
    in_pages = elim b.bad [
      | inl off ↦ inside (block_of p.entries (600 * b.leaf + b.page)) (within_area (600 * b.leaf + b.page) at_inside some_block) (subst (IsOff n) (sym (entry_of b.page b.within)) off)
      | inr twice ↦ elim twice [
        | inl (q, is) ↦ read_apart q (is ∙ sym (entry_of b.page b.within))
        | inr (j, less, is) ↦ pages_apart (600 * b.leaf + j) (omega (arith, at_inside, less)) (omega (arith, less)) (entry_of j (omega (arith, less, b.within)) ∙ is ∙ sym (entry_of b.page b.within))
      ]
    ]

  pub unbroken : (damage : Damage) → Breaks sizes conv n root row damage → ⊥
  unbroken damage (inl b) = place damage b
  unbroken damage (inr (inl b)) = no_root damage b
  unbroken damage (inr (inr (inl b))) = in_row damage b
  unbroken damage (inr (inr (inr (inl b)))) = no_leaf damage b
  unbroken damage (inr (inr (inr (inr b)))) = in_pages damage b
