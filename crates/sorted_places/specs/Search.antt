-- Where a key stands in a list whose keys ascend.
--     IsAt, IsGap      where a key stands, and where it would go
--     IsPast      where the items after a place begin
use Rattle.std.specs.Prelude.{◌≡◌, ℕ, ◌<◌, ◌≤◌, List, length, slice_index_or}
use Rattle.std.specs.declared.cmp.Ordering.{Ordering}
use Rattle.std.specs.declared.cmp.Ordering.TheVariants.{Less, Equal, Greater}
use Rattle.mdb_model.specs.Tables.{Place, place_cmp}

module _ {K X : Type 0} (order : K → K → Ordering) (key_of : X → K) (items : List X) (key : K)
    (at : ℕ) where
  -- the item at the index has the key, and those before it have lower ones
  pub record IsAt : Type 0 where
    pub in_range : at < length items
    pub lower_before : (j : ℕ) (d : X) → j < at
        → order (key_of (slice_index_or items j d)) key ≡ Less
    pub same_here : (d : X) → order (key_of (slice_index_or items at d)) key ≡ Equal

  -- an item with the key would go to the index: those before it have lower keys, and those from it
  -- on greater ones
  pub record IsGap : Type 0 where
    pub in_range : at ≤ length items
    pub lower_before : (j : ℕ) (d : X) → j < at
        → order (key_of (slice_index_or items j d)) key ≡ Less
    pub greater_after : (j : ℕ) (d : X) → at ≤ j → j < length items
        → order (key_of (slice_index_or items j d)) key ≡ Greater

-- the items from the index on are after the place, and those before it are not
pub record IsPast {X : Type 0} (place_of : X → Place) (items : List X) (table : ℕ) (after : List ℕ)
    (at : ℕ) : Type 0 where
  pub in_range : at ≤ length items
  pub lower : (j : ℕ) (d : X) → j < at
      → place_cmp (place_of (slice_index_or items j d)) (table, after) ≡ Greater → ⊥
  pub higher : (j : ℕ) (d : X) → at ≤ j → j < length items
      → place_cmp (place_of (slice_index_or items j d)) (table, after) ≡ Greater
