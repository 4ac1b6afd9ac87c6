-- A map as it stands on blocks.
--     IsLeafOf, IsRootOf      the bytes are a leaf, a root, of an area of n blocks
--     HasLeafBytes, HasRootBytes, HasTree      the leaves and the root of a map
--     TakesBlock      an own page was given a block
--     IsSameLeaf      a leaf that need not be written
use Rattle.std.specs.Prelude.{◌≡◌, ℕ, ◌+◌, ◌*◌, ◌<◌, ◌≤◌}
use Rattle.std.specs.Prelude.{List, Bool, false, length, get_or, slice_set}
use Rattle.free_blocks.specs.Free.{IsFree}
use Rattle.mdb_bytes.specs.declared.converter_pages.ConverterEntry.{ConverterEntry}
use Rattle.mdb_bytes.specs.declared.converter_pages.ConverterLeaf.{ConverterLeaf}
use Rattle.mdb_bytes.specs.declared.converter_pages.ConverterRoot.{ConverterRoot}
use Rattle.mdb_bytes.specs.Fields.{Spells}
use Rattle.mdb_bytes.specs.ConverterPages.{converter_leaf_format, converter_root_format}
use Rattle.mdb_bytes.specs.Firsts.{no_entry}
use Rattle.converter.specs.Maps.{Maps, entry_at, block_of, with_own}

-- the bytes spell leaf i of an area of n blocks: it has no page past the area
pub record IsLeafOf (n i : ℕ) (bytes : List ℕ) (leaf : ConverterLeaf) : Type 0 where
  pub spells : Spells converter_leaf_format leaf bytes
  pub number : leaf.leaf ≡ i
  pub past : (k : ℕ) → k < 600 → n ≤ 600 * i + k → entry_at leaf.entries k ≡ no_entry

-- the bytes spell a root with a block for each leaf
pub record IsRootOf (conv : ℕ) (bytes : List ℕ) (root : ConverterRoot) : Type 0 where
  pub spells : Spells converter_root_format root bytes
  pub count : length root.leaves.items + 1 ≡ conv

-- the bytes are leaf i of the map
pub record HasLeafBytes (m : List ConverterEntry) (conv i : ℕ) (bytes : List ℕ) : Type 0 where
  pub leaf : ConverterLeaf
  pub spells : Spells converter_leaf_format leaf bytes
  pub number : leaf.leaf ≡ i
  pub entries : (k : ℕ) → k < 600 → entry_at leaf.entries k ≡ entry_at m (conv + 600 * i + k)

-- the bytes are the root of the map, whose leaves are the places from 1 on
pub record HasRootBytes (m : List ConverterEntry) (conv : ℕ) (bytes : List ℕ) : Type 0 where
  pub root : ConverterRoot
  pub is : IsRootOf conv bytes root
  pub leaves : (i : ℕ) → i + 1 < conv → get_or root.leaves.items i 0 ≡ block_of m (i + 1)

-- root and leaves of the map stand on its own blocks
pub record HasTree (m : List ConverterEntry) (conv : ℕ) (row : ℕ → List ℕ) : Type 0 where
  pub root : HasRootBytes m conv (row (block_of m 0))
  pub leaves : (i : ℕ) → i + 1 < conv → HasLeafBytes m conv i (row (block_of m (i + 1)))

-- own page q of the frozen and the present map was given block b, which was free
pub record TakesBlock (old new : Maps) (flags next : List Bool) (q savepoint b : ℕ) : Type 0 where
  pub was_free : IsFree flags b
  pub less : next ≡ slice_set flags b false
  pub maps : new ≡ with_own old q record { block = b; stamp = savepoint }

-- leaf i of the frozen map is that of the last savepoint
pub record IsSameLeaf (m : Maps) (i : ℕ) : Type 0 where
  pub had : 0 < block_of m.saved (i + 1)
  pub same : (k : ℕ) → k < 600
      → entry_at m.frozen (m.conv + 600 * i + k) ≡ entry_at m.saved (m.conv + 600 * i + k)
