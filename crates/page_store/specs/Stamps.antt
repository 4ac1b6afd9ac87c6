-- Stamps of pages: a page carries the number of the savepoint that was next when it took its block.
--     page_entry      the block and the stamp of a page in the present map
--     AreStamped      what holds of the stamps of a store at any time
--     PageStep      what calls leave of a page
use Rattle.std.specs.Prelude.{◌≡◌, ◌⊎◌, ℕ, ◌+◌, ◌<◌, ◌≤◌}
use Rattle.mdb_model.specs.Images.{Image}
use Rattle.mdb_bytes.specs.declared.converter_pages.ConverterEntry.{ConverterEntry}
use Rattle.converter.specs.Maps.{entry_at}
use Rattle.page_store.specs.Store.{Store, page_block, block_bytes, IsHeld}

-- the entry of a page in the present map
abbrev pub page_entry : Store → ℕ → ConverterEntry
page_entry s page = entry_at s.maps.present (s.maps.conv + page)

-- No page carries a stamp above the next savepoint's number, none of a kept map that number itself,
-- and a page whose block nothing keeps carries it.
pub record AreStamped (s : Store) : Type 0 where
  pub present : (page : ℕ) → (page_entry s page).stamp ≤ s.next
  pub frozen : (page : ℕ) → (entry_at s.maps.frozen (s.maps.conv + page)).stamp < s.next
  pub saved : (page : ℕ) → (entry_at s.maps.saved (s.maps.conv + page)).stamp < s.next
  pub own : (page : ℕ) → 0 < page_block s page
      → IsHeld s (page_block s page) ⊎ ((page_entry s page).stamp ≡ s.next)

-- A page has its entry and, where the pages are known, its bytes as before; or it carries the next
-- savepoint's number; or it does not live.
pub data PageStep (known : Type 0) (old new : Store) (before after : Image) (page : ℕ) : Type 0 where
  stays_same : page_entry new page ≡ page_entry old page
      → (known
      → block_bytes new after (page_block new page)
      ≡ block_bytes old before (page_block old page))
      → PageStep known old new before after page
  is_newest : (page_entry new page).stamp ≡ old.next → PageStep known old new before after page
  is_dead : page_block new page ≡ 0 → PageStep known old new before after page
