-- What pins do.
--     MarksAlso      the blocks of a map were given mark 0
--     UnmarksThese, GivesThese      it was taken away; blocks of a map that nothing has were freed
--     is_newer_page, newer_below      the pages of a map that were written after a savepoint, and
--         how many
--     IsNextPage, IsNewerFrom      the least of them after a page, or from one on
use Rattle.std.specs.Prelude.{◌≡◌, ◌⊎◌, ℕ, ◌+◌, ◌<◌, ◌≤◌, ◌&&◌, if◌then◌else◌}
use Rattle.std.specs.Prelude.{zero, suc, List, length, Bool, true, false, nat_lt, Option, Some}
use Rattle.std.specs.Prelude.{None}
use Rattle.mdb_bytes.specs.declared.converter_pages.ConverterEntry.{ConverterEntry}
use Rattle.free_blocks.specs.Free.{IsFree}
use Rattle.free_blocks.specs.Marked.{HasMark, IsMarked}
use Rattle.converter.specs.Maps.{Maps, block_of, entry_at, IsUsed}
use Rattle.page_store.specs.Store.{AreSixteen}

-- the blocks that a map has on its first n places were given mark 0, and no other mark was set
pub record MarksAlso (m : List ConverterEntry) (n : ℕ) (old new : List (List Bool)) : Type 0 where
  pub long : length new ≡ length old
  pub sixteen : AreSixteen new
  pub set : (q : ℕ) → q < n → 0 < block_of m q → HasMark new (block_of m q) 0
  pub stays : (b i : ℕ) → HasMark old b i → HasMark new b i
  pub only : (b i : ℕ) → HasMark new b i
      → HasMark old b i ⊎ ((i ≡ 0) × (0 < b) × ((q : ℕ) × (block_of m q ≡ b)))

-- mark 0 was taken from the blocks that a map has on its first n places, and nothing else changed
pub record UnmarksThese (m : List ConverterEntry) (n : ℕ)
    (old new : List (List Bool)) : Type 0 where
  pub long : length new ≡ length old
  pub sixteen : AreSixteen new
  pub taken : (q : ℕ) → q < n → 0 < block_of m q → HasMark new (block_of m q) 0 → ⊥
  pub only : (b i : ℕ) → HasMark new b i → HasMark old b i
  pub stays : (b i : ℕ) → 0 < i → HasMark old b i → HasMark new b i

-- the blocks that a map has on its first n places were freed where no kept or present map has
-- them and they have no mark, and no others
pub record GivesThese (m : List ConverterEntry) (n : ℕ) (maps : Maps) (marks : List (List Bool))
    (old new : List Bool) : Type 0 where
  pub long : length new ≡ length old
  pub stays : (b : ℕ) → IsFree old b → IsFree new b
  pub given : (q : ℕ) → q < n → 0 < block_of m q → (IsUsed maps (block_of m q) → ⊥)
      → (IsMarked marks (block_of m q) → ⊥) → IsFree new (block_of m q)
  pub only : (b : ℕ) → IsFree new b
      → IsFree old b
      ⊎ ((1 < b) × (IsUsed maps b → ⊥) × (IsMarked marks b → ⊥)
      × ((q : ℕ) × (q < n) × (block_of m q ≡ b)))

-- a page of the map that was written after a savepoint
abbrev pub is_newer_page : (m : List ConverterEntry) (conv base page : ℕ) → Bool
is_newer_page m conv base page =
    nat_lt 0 (block_of m (conv + page)) && nat_lt base (entry_at m (conv + page)).stamp

-- how many of the first n pages are
abbrev pub newer_below : (m : List ConverterEntry) (conv base n : ℕ) → ℕ
newer_below m conv base zero = 0
newer_below m conv base (suc n) =
    newer_below m conv base n + (if is_newer_page m conv base n then 1 else 0)

-- the page comes after this one
abbrev pub IsAfter : Option ℕ → ℕ → Type 0
IsAfter None page = Unit {0}
IsAfter (Some last) page = last < page

-- the least page of the map after one that was written after a savepoint, or there is none
abbrev pub IsNextPage : (m : List ConverterEntry) (conv base : ℕ) → (after found : Option ℕ)
    → Type 0
IsNextPage m conv base after None =
    (page : ℕ) → IsAfter after page → is_newer_page m conv base page ≡ false
IsNextPage m conv base after (Some page) =
    IsAfter after page × (is_newer_page m conv base page ≡ true)
    × ((other : ℕ) → IsAfter after other → other < page → is_newer_page m conv base other ≡ false)

-- the least page of the map from this one on that was written after a savepoint, or there is none
abbrev pub IsNewerFrom : (m : List ConverterEntry) (conv base from : ℕ) → (found : Option ℕ)
    → Type 0
IsNewerFrom m conv base from None =
    (page : ℕ) → from ≤ page → is_newer_page m conv base page ≡ false
IsNewerFrom m conv base from (Some page) =
    (from ≤ page) × (is_newer_page m conv base page ≡ true)
    × ((other : ℕ) → from ≤ other → other < page → is_newer_page m conv base other ≡ false)
