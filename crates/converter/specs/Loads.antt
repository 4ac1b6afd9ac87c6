-- Reading a map from its blocks.
--     IsRead      the root and the first leaves of a map were read
--     IsOff      a block that no page may have
--     named      the damage of a block
--     BreaksPlace, BreaksRoot, BreaksRow, BreaksLeaf, BreaksPages, Breaks      the first rule that
--         is broken, and where
--     Admitted, IsEntryRefused      entries that were taken into the maps one after the other
--     FaultReports      what a fault says of the bytes
--     row_of, TakesLeaf, RefusesLeaf, IsUnderWay, ReadsMap      the steps of a load
use Rattle.std.specs.Prelude.{◌≡◌, ◌⊎◌, ℕ, ◌+◌, ◌-◌, ◌*◌, ◌<◌, ◌≤◌}
use Rattle.std.specs.Prelude.{List, length, get_or, replicate, None, Result, OnOk, IfErr}
use Rattle.mdb_model.specs.declared.fault.Damage.{Damage}
use Rattle.mdb_model.specs.declared.fault.Device.TheVariants.{Data}
use Rattle.mdb_model.specs.declared.fault.PageFault.{PageFault}
use Rattle.mdb_model.specs.declared.fault.PageFault.TheVariants.{Failed, Damaged}
use Rattle.mdb_model.specs.declared.fault.Rule.{Rule}
use Rattle.mdb_model.specs.declared.fault.Rule.TheVariants.{Block, ConverterRoot as RootRule}
use Rattle.mdb_model.specs.declared.fault.Rule.TheVariants.{ConverterLeaf as LeafRule}
use Rattle.mdb_bytes.specs.declared.converter_pages.ConverterEntry.{ConverterEntry}
use Rattle.mdb_bytes.specs.declared.converter_pages.ConverterLeaf.{ConverterLeaf}
use Rattle.mdb_bytes.specs.declared.converter_pages.ConverterRoot.{ConverterRoot}
use Rattle.mdb_bytes.specs.Firsts.{no_entry}
use Rattle.volume_disk.specs.Blocks.{place}
use Rattle.converter.specs.Maps.{Maps, entry_at, block_of}
use Rattle.converter.specs.Tree.{IsLeafOf, IsRootOf, HasLeafBytes, HasRootBytes}

-- the first two blocks hold the restart record, and n blocks are all
abbrev pub IsOff : (n b : ℕ) → Type 0
IsOff n b = (b < 2) ⊎ (n ≤ b)

-- The root and the first i leaves of a map stand on its blocks, it has no page in the other leaves,
-- and each of its blocks serves one page.
pub record IsRead (conv n root : ℕ) (row : ℕ → List ℕ) (i : ℕ)
    (l : List ConverterEntry) : Type 0 where
  pub long : length l ≡ conv + n
  pub at : block_of l 0 ≡ root
  pub held : HasRootBytes l conv (row root)
  pub leaves : (j : ℕ) → j < i → HasLeafBytes l conv j (row (block_of l (j + 1)))
  pub rest : (q : ℕ) → conv + 600 * i ≤ q → entry_at l q ≡ no_entry
  pub own : (q : ℕ) → q < conv → 1 < block_of l q
  pub placed : (q : ℕ) → 0 < block_of l q → IsOff n (block_of l q) → ⊥
  pub apart : (p q : ℕ) → 0 < block_of l p → block_of l p ≡ block_of l q → p ≡ q

-- the damage that names a block
abbrev pub named : (sizes : List ℕ) (b : ℕ) → Rule → Damage
named sizes b rule =
    record { device = Data (place 1 sizes b).0; page = (place 1 sizes b).1; rule = rule }

-- the restart record names no block of the area: its own page is named
pub record BreaksPlace (n root : ℕ) (damage : Damage) : Type 0 where
  pub off : IsOff n root
  pub is : damage ≡ record { device = Data 1; page = 0; rule = Block }

-- the root is none, or has another number of leaves
pub record BreaksRoot (sizes : List ℕ) (conv root : ℕ) (row : ℕ → List ℕ)
    (damage : Damage) : Type 0 where
  pub none : (value : ConverterRoot) → IsRootOf conv (row root) value → ⊥
  pub is : damage ≡ named sizes root RootRule

-- the root gives a leaf a block that is off the area or that it has itself, or that it gave a leaf
-- before
pub record BreaksRow (sizes : List ℕ) (conv n root : ℕ) (row : ℕ → List ℕ)
    (damage : Damage) : Type 0 where
  pub value : ConverterRoot
  pub root_is : IsRootOf conv (row root) value
  pub leaf : ℕ
  pub there : leaf + 1 < conv
  pub bad : IsOff n (get_or value.leaves.items leaf 0)
      ⊎ ((get_or value.leaves.items leaf 0 ≡ root)
      ⊎ ((j : ℕ) × (j < leaf)
      × (get_or value.leaves.items j 0 ≡ get_or value.leaves.items leaf 0)))
  pub is : damage ≡ named sizes root Block

-- the leaves before are in order, and this one is none or has another number
pub record BreaksLeaf (sizes : List ℕ) (conv n root : ℕ) (row : ℕ → List ℕ)
    (damage : Damage) : Type 0 where
  pub map : List ConverterEntry
  pub leaf : ℕ
  pub there : leaf + 1 < conv
  pub before : IsRead conv n root row leaf map
  pub none : (value : ConverterLeaf) → IsLeafOf n leaf (row (block_of map (leaf + 1))) value → ⊥
  pub is : damage ≡ named sizes (block_of map (leaf + 1)) LeafRule

-- the leaves before are in order, and this one gives a page a block that is off the area, or that
-- another page of the map has
pub record BreaksPages (sizes : List ℕ) (conv n root : ℕ) (row : ℕ → List ℕ)
    (damage : Damage) : Type 0 where
  pub map : List ConverterEntry
  pub leaf : ℕ
  pub there : leaf + 1 < conv
  pub before : IsRead conv n root row leaf map
  pub value : ConverterLeaf
  pub leaf_is : IsLeafOf n leaf (row (block_of map (leaf + 1))) value
  pub page : ℕ
  pub within : page < 600
  pub some : 0 < block_of value.entries page
  pub bad : IsOff n (block_of value.entries page)
      ⊎ (((q : ℕ) × (block_of map q ≡ block_of value.entries page))
      ⊎ ((j : ℕ) × (j < page) × (block_of value.entries j ≡ block_of value.entries page)))
  pub is : damage ≡ named sizes (block_of map (leaf + 1)) Block

-- the first rule that is broken in the order of reading
abbrev pub Breaks : (sizes : List ℕ) (conv n root : ℕ) (row : ℕ → List ℕ) → Damage → Type 0
Breaks sizes conv n root row damage =
    BreaksPlace n root damage
    ⊎ (BreaksRoot sizes conv root row damage
    ⊎ (BreaksRow sizes conv n root row damage
    ⊎ (BreaksLeaf sizes conv n root row damage ⊎ BreaksPages sizes conv n root row damage)))

-- One entry after the other

-- the maps as they are while they are read: the present one is that of the last savepoint, and none
-- is frozen
pub record IsLoading (m : Maps) : Type 0 where
  pub same : m.present ≡ m.saved
  pub blank : m.frozen ≡ replicate (length m.frozen) no_entry
  pub thawed : m.frozen_at ≡ None

-- the places from `at` on have the first n of these entries, and all others what they had
pub record Admitted (old now : Maps) (at : ℕ) (entries : ℕ → ConverterEntry) (n : ℕ) : Type 0 where
  pub loading : IsLoading now
  pub conv : now.conv ≡ old.conv
  pub area : length now.owner ≡ length old.owner
  pub set : (k : ℕ) → k < n → entry_at now.saved (at + k) ≡ entries k
  pub others : (q : ℕ) → (q < at) ⊎ (at + n ≤ q) → entry_at now.saved q ≡ entry_at old.saved q

-- entry k has a block that is off the area, that the map had, or that an entry before has
abbrev pub IsEntryRefused : (old : Maps) (entries : ℕ → ConverterEntry) (k : ℕ) → Type 0
IsEntryRefused old entries k =
    IsOff (length old.owner) (entries k).block
    ⊎ (((q : ℕ) × (block_of old.saved q ≡ (entries k).block))
    ⊎ ((j : ℕ) × (j < k) × ((entries j).block ≡ (entries k).block)))

-- what a fault says of the bytes that were read
abbrev pub FaultReports : (Damage → Type 0) → PageFault → Type 0
FaultReports broken Failed = Unit {0}
FaultReports broken (Damaged damage) = broken damage

-- the blocks of the leaves that a root names, as entries
abbrev pub row_of : ConverterRoot → ℕ → ConverterEntry
row_of root k = record { block = get_or root.leaves.items k 0; stamp = root.savepoint }

-- leaf i was taken into the maps, as it was read from these bytes
pub record TakesLeaf (old now : Maps) (i : ℕ) (bytes : List ℕ) : Type 0 where
  pub value : ConverterLeaf
  pub is : IsLeafOf (length old.owner) i bytes value
  pub taken : Admitted old now (old.conv + 600 * i) (entry_at value.entries) 600

-- the leaf is none, or has a page that is refused
abbrev pub RefusesLeaf : (sizes : List ℕ) (old : Maps) (i : ℕ) (bytes : List ℕ) → Damage → Type 0
RefusesLeaf sizes old i bytes damage =
    (((value : ConverterLeaf) → IsLeafOf (length old.owner) i bytes value → ⊥)
    × (damage ≡ named sizes (block_of old.saved (i + 1)) LeafRule))
    ⊎ ((value : ConverterLeaf) × IsLeafOf (length old.owner) i bytes value
    × ((k : ℕ) × (k < 600) × (0 < block_of value.entries k)
    × IsEntryRefused old (entry_at value.entries) k)
    × (damage ≡ named sizes (block_of old.saved (i + 1)) Block))

-- the maps have the root and the first i leaves, as far as they are known, and a block for each
-- leaf
pub record IsUnderWay (tells : Type 0) (first now : Maps) (root : ℕ) (row : ℕ → List ℕ)
    (i : ℕ) : Type 0 where
  pub loading : IsLoading now
  pub conv : now.conv ≡ first.conv
  pub area : length now.owner ≡ length first.owner
  pub at : block_of now.saved 0 ≡ root
  pub some : 1 < root
  pub placed : (j : ℕ) → j + 1 < now.conv → 1 < block_of now.saved (j + 1)
  pub rest : (q : ℕ) → now.conv + 600 * i ≤ q → entry_at now.saved q ≡ no_entry
  pub held : tells → HasRootBytes now.saved now.conv (row root)
  pub leaves : tells → (j : ℕ) → j < i
      → HasLeafBytes now.saved now.conv j (row (block_of now.saved (j + 1)))

-- all leaves were read, or a block is at fault
pub record ReadsMap (tells : Type 0) (sizes : List ℕ) (root : ℕ) (row : ℕ → List ℕ) (old new : Maps)
    (result : Result (Unit {0}) PageFault) : Type 0 where
  pub read : OnOk result (IsUnderWay tells old new root row (old.conv - 1))
  pub broken : IfErr result
      (FaultReports (λ damage. tells → Breaks sizes old.conv (length old.owner) root row damage))
  pub size : length new.owner ≡ length old.owner
