-- The map of logical pages that stands under a converter root, over the bytes of each block.
--     KeptMap      the blocks of the converter, the block of each page, and the pages
--     kept_map      the map under a root, or none where a page of the converter is out of its form
use Rattle.std.specs.Prelude.{ℕ, ◌+◌, List, [], ◌∷◌, ◌++◌, not, ◌==◌, if◌then◌else◌, length, map, filter, Option, Some, None, option_map, option_and_then}
use Rattle.std.specs.List.{enumerate_from}
use Rattle.std.specs.FinMap.{from_sorted}
use Rattle.mdb_model.specs.Pages.{PageMap}
use Rattle.mdb_bytes.specs.declared.converter_pages.ConverterEntry.{ConverterEntry}
use Rattle.mdb_bytes.specs.declared.converter_pages.ConverterLeaf.{ConverterLeaf}
use Rattle.mdb_bytes.specs.declared.converter_pages.ConverterRoot.{ConverterRoot}
use Rattle.mdb_bytes.specs.Fields.{decoded}
use Rattle.mdb_bytes.specs.ConverterPages.{converter_leaf_format, converter_root_format}
use Rattle.mdb_bytes.specs.Firsts.{leaf_count}

-- a page number with its entry
abbrev pub Placed : Type 0
Placed = ℕ × ConverterEntry

-- the pages that a converter names, and where they stand
pub record KeptMap : Type 0 where
  -- the blocks of the root and of the leaves
  pub converter : List ℕ
  -- the entries of the pages that are there, by page number
  pub places : List Placed
  pub pages : PageMap

-- the converter root that bytes spell
unfoldable pub root_of : List ℕ → Option ConverterRoot
root_of bytes = decoded converter_root_format bytes

-- the converter leaf that bytes spell
unfoldable pub leaf_of : List ℕ → Option ConverterLeaf
leaf_of bytes = decoded converter_leaf_format bytes

-- the leaf of this number
abbrev pub leaf_with : ℕ → List ℕ → Option ConverterLeaf
leaf_with number bytes =
    option_and_then (λ leaf. if leaf.leaf == number then Some leaf else None) (leaf_of bytes)

-- the entries of the leaves in a row, of which the first has this number
abbrev pub entries_from : ℕ → List (List ℕ) → Option (List ConverterEntry)
entries_from number [] = Some []
entries_from number (bytes ∷ more) =
    option_and_then (λ leaf. option_map (λ entries. leaf.entries
    ++ entries) (entries_from (number + 1) more)) (leaf_with number bytes)

-- those that have a block, with their page numbers
abbrev pub placed : List ConverterEntry → List Placed
placed entries = filter (λ e. not (e.1.block == 0)) (enumerate_from 0 entries)

-- The bytes of each block, in an area of so many blocks.
module _ (block : ℕ → List ℕ) (blocks : ℕ) where
  -- the pages that stand at these places
  abbrev pub pages_at : List Placed → PageMap
  pages_at places =
      from_sorted (map (λ e. (e.0, record { stamp = e.1.stamp; bytes = block e.1.block })) places)

  -- the map of a root that stands on a block
  abbrev pub kept_under : ℕ → ConverterRoot → Option KeptMap
  kept_under root r =
      option_map
      (λ entries. record {
        converter = root
            ∷ r.leaves.items;
        places = placed entries;
        pages = pages_at (placed entries);
      })
      (entries_from 0 (map block r.leaves.items))

  -- a root has as many leaves as the area needs
  abbrev pub root_with_leaves : List ℕ → Option ConverterRoot
  root_with_leaves bytes =
      option_and_then (λ r. if length r.leaves.items == leaf_count blocks then Some r
      else None) (root_of bytes)

  -- the map under the root that stands on this block
  abbrev pub kept_map : ℕ → Option KeptMap
  kept_map root = option_and_then (kept_under root) (root_with_leaves (block root))
