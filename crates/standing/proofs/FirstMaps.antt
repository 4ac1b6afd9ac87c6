-- The map of a new database: the catalogue and the open list, each on its block.
--     first_map      the map
--     map_is      what stands under the root that the creation writes
use Rattle.std.proofs.Common.{◌≡◌, refl, sym, ap, ◌∙◌, ℕ, zero, suc, ◌+◌, ◌<◌, ◌≤◌, ◌==◌, ◌^◌, Bool, true, cond, ◌&&◌, nat_lt, lt-ltb, List, [], ◌∷◌, ◌++◌, length, replicate, map, filter, Some, None, arith}
use Rattle.std.specs.Prelude.{not, if◌then◌else◌, option_map, option_and_then}
use Rattle.std.specs.List.{enumerate_from, range_with_len}
use Rattle.std.specs.FinMap.{from_sorted}
use Rattle.std.proofs.lemmas.Bool.{eq-eqb}
use Rattle.std.proofs.lemmas.List.FromFn.{length-range_with_len}
use Rattle.mdb_bytes.specs.declared.converter_pages.ConverterEntry.{ConverterEntry}
use Rattle.mdb_bytes.specs.declared.converter_pages.ConverterLeaf.{ConverterLeaf}
use Rattle.mdb_bytes.specs.declared.converter_pages.ConverterRoot.{ConverterRoot}
use Rattle.mdb_bytes.specs.Fields.{spelled}
use Rattle.mdb_bytes.specs.Parts.{KeepsLimits}
use Rattle.mdb_bytes.specs.ConverterPages.{converter_leaf_format, converter_leaf_fields, converter_root_format, converter_root_fields}
use Rattle.mdb_bytes.specs.Firsts.{leaf_count, first_root_block, first_leaf, first_root, first_block, no_entry}
use Rattle.mdb_bytes.specs.KeptMaps.{KeptMap, Placed, root_of, leaf_of, leaf_with, entries_from, placed, pages_at, kept_under, root_with_leaves, kept_map}
use Rattle.mdb_bytes.proofs.Decoding.{spelled-decoded}
use Rattle.mdb_bytes.proofs.ConverterLaws.{converter_root_again, converter_leaf_again}
use Rattle.mdb_bytes.proofs.FirstPages.{catalogue_page, open_list_page, first_pages}
use Rattle.standing.proofs.FirstBlocks.{block_two, block_three, block_leaf, block_root, root_keeps}

-- the catalogue on block 2 and the open list on block 3, written by savepoint 1
abbrev pub first_places : List Placed
first_places = (0, record { block = 2; stamp = 1 }) ∷ (1, record { block = 3; stamp = 1 }) ∷ []

-- the map of an area of so many blocks
abbrev pub first_map : ℕ → KeptMap
first_map blocks = record { converter = first_root_block blocks ∷ range_with_len 4 (leaf_count blocks); places = first_places; pages = first_pages }

-- a leaf keeps the limits of its format
leaf_keeps : (leaf : ℕ) → leaf < 110 → KeepsLimits converter_leaf_format (first_leaf leaf)
leaf_keeps zero small = refl
leaf_keeps (suc leaf) small = later (nat_lt (suc leaf) 110) (lt-ltb (suc leaf) 110 small) (nat_lt (suc leaf) (2 ^ 32)) (lt-ltb (suc leaf) (2 ^ 32) (omega (arith, small)))
  where
    later : (a : Bool) → a ≡ true → (b : Bool) → b ≡ true → ((a && true && true) && (true && (b && true))) ≡ true
    later a x b y = cc

-- the entries of so many leaves, from one on
abbrev leaf_entries : ℕ → ℕ → List ConverterEntry
leaf_entries leaf zero = []
leaf_entries leaf (suc n) = (first_leaf leaf).entries ++ leaf_entries (leaf + 1) n

-- the entries that have a block, with their numbers
abbrev used_from : ℕ → List ConverterEntry → List Placed
used_from k entries = filter (λ e. not (e.1.block == 0)) (enumerate_from k entries)

no_used : (k n : ℕ) (more : List ConverterEntry) → used_from k (replicate n no_entry ++ more) ≡ used_from (k + n) more
no_used k zero more = ap (λ m. used_from m more) (omega arith)
no_used k (suc n) more = no_used (k + 1) n more ∙ ap (λ m. used_from m more) (omega arith)

none_later : (k leaf n : ℕ) → used_from k (leaf_entries (suc leaf) n) ≡ []
none_later k leaf zero = refl
none_later k leaf (suc n) =
    no_used k 600 (leaf_entries (suc leaf + 1) n) ∙ ap (λ m. used_from (k + 600) (leaf_entries m n)) (omega arith) ∙ none_later (k + 600) (leaf + 1) n

used_are : (n : ℕ) → 0 < n → placed (leaf_entries 0 n) ≡ first_places
used_are zero some = absurd (omega (arith, some))
used_are (suc n) some = ap (λ xs. (0, record { block = 2; stamp = 1 }) ∷ (1, record { block = 3; stamp = 1 }) ∷ xs) (no_used 2 598 (leaf_entries 1 n) ∙ none_later 600 0 n)

-- The blocks of the first savepoint stand as they were written.
module _ (block : ℕ → List ℕ) (blocks : ℕ) (small : blocks ≤ 65536) (some : 1 ≤ blocks)
    (are : (b : ℕ) → 2 ≤ b → b ≤ first_root_block blocks → block b ≡ first_block blocks b) where
  leaf_there : (leaf : ℕ) → leaf < leaf_count blocks → leaf_of (block (4 + leaf)) ≡ Some (first_leaf leaf)
  unfolding leaf_of
  leaf_there leaf inside =
      let spells : block (4 + leaf) ≡ spelled (converter_leaf_fields (first_leaf leaf)) =
      are (4 + leaf) (omega arith) (omega (arith, inside)) ∙ sym (block_leaf blocks (4 + leaf) (λ e. omega (arith, e)) (λ e. omega (arith, e)) (omega (arith, inside)))
      ∙ ap (λ k. spelled (converter_leaf_fields (first_leaf k))) (omega arith) in
      spelled-decoded converter_leaf_format converter_leaf_again (block (4 + leaf)) (first_leaf leaf) (leaf_keeps leaf (omega (arith, inside, small)), spells)

  leaves_there : (leaf n : ℕ) → leaf + n ≤ leaf_count blocks → entries_from leaf (map block (range_with_len (4 + leaf) n)) ≡ Some (leaf_entries leaf n)
  leaves_there leaf zero inside = refl
  leaves_there leaf (suc n) inside =
      let own : (first_leaf leaf).leaf ≡ leaf = number_is leaf in
      let here : leaf_with leaf (block (4 + leaf)) ≡ Some (first_leaf leaf) =
      ap (option_and_then (λ (v : ConverterLeaf). if v.leaf == leaf then Some v else None)) (leaf_there leaf (omega (arith, inside)))
      ∙ ap (λ b. cond b (Some (first_leaf leaf)) None) (eq-eqb (first_leaf leaf).leaf leaf own) in
      let rest : entries_from (leaf + 1) (map block (range_with_len (4 + leaf + 1) n)) ≡ Some (leaf_entries (leaf + 1) n) =
      ap (λ k. entries_from (leaf + 1) (map block (range_with_len k n))) (omega arith) ∙ leaves_there (leaf + 1) n (omega (arith, inside)) in
      λ i. option_and_then (λ (v : ConverterLeaf). option_map (λ entries. v.entries ++ entries) (rest i)) (here i)
    where
      number_is : (leaf : ℕ) → (first_leaf leaf).leaf ≡ leaf
      number_is zero = refl
      number_is (suc leaf) = refl

  root_there : root_of (block (first_root_block blocks)) ≡ Some (first_root blocks)
  unfolding root_of
  root_there =
      let spells : block (first_root_block blocks) ≡ spelled (converter_root_fields (first_root blocks)) =
      are (first_root_block blocks) (omega arith) (omega arith) ∙ sym (block_root blocks (first_root_block blocks) (λ e. omega (arith, e)) (λ e. omega (arith, e)) (omega arith)) in
      spelled-decoded converter_root_format converter_root_again (block (first_root_block blocks)) (first_root blocks) (root_keeps blocks small, spells)

  pub map_is : kept_map block blocks (first_root_block blocks) ≡ Some (first_map blocks)
  map_is =
      let root = first_root_block blocks in
      let fits : root_with_leaves block blocks (block root) ≡ Some (first_root blocks) =
      ap (option_and_then (λ (r : ConverterRoot). if length r.leaves.items == leaf_count blocks then Some r else None)) root_there
      ∙ ap (λ b. cond b (Some (first_root blocks)) None) (eq-eqb (length (range_with_len 4 (leaf_count blocks))) (leaf_count blocks) (length-range_with_len 4 (leaf_count blocks))) in
      let found : placed (leaf_entries 0 (leaf_count blocks)) ≡ first_places = used_are (leaf_count blocks) (omega (arith, some)) in
      let catalogue : block 2 ≡ catalogue_page = are 2 (omega arith) (omega arith) ∙ sym (block_two blocks 2 refl) in
      let open_list : block 3 ≡ open_list_page = are 3 (omega arith) (omega arith) ∙ sym (block_three blocks 3 refl) in
      let make : List Placed → KeptMap = λ places. record { converter = root ∷ range_with_len 4 (leaf_count blocks); places = places; pages = pages_at block blocks places } in
      let pages : pages_at block blocks first_places ≡ first_pages = λ i. from_sorted ((0, record { stamp = 1; bytes = catalogue i }) ∷ (1, record { stamp = 1; bytes = open_list i }) ∷ []) in
      ap (option_and_then (kept_under block blocks root)) fits
      ∙ ap (option_map (λ entries. make (placed entries))) (leaves_there 0 (leaf_count blocks) (omega arith))
      ∙ ap (λ places. Some (make places)) found
      ∙ (λ i. Some (record { converter = root ∷ range_with_len 4 (leaf_count blocks); places = first_places; pages = pages i }))
