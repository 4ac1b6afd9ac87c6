-- What a walk along a run learns of a leaf.
use Rattle.std.specs.Prelude.{◌≡◌, ◌⊎◌, ℕ, List, Bool, true, false}
use Rattle.mdb_bytes.specs.TablePages.{RowLeaf}
use Rattle.leaf_runs.specs.declared.leaf.Sight.{Sight}
use Rattle.leaf_runs.specs.Leaves.{all_below}

-- the key stands or would stand in this leaf, or it is after it, and there is a next leaf
abbrev pub BelongsHere : Bool → RowLeaf → List ℕ → Type 0
BelongsHere true leaf key = (leaf.next ≡ 0) ⊎ (all_below key leaf.rows ≡ false)
BelongsHere false leaf key = (leaf.next ≡ 0 → ⊥) × (all_below key leaf.rows ≡ true)

-- what is seen of a leaf on the way to a key
abbrev pub Sees : RowLeaf → List ℕ → Sight → Type 0
Sees leaf key sight = BelongsHere sight.is_here leaf key × (sight.next ≡ leaf.next)
