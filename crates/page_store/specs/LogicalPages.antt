-- The pages of a store as a finite map.
--     live_pages_below, store_pages      the bytes of each live page
--     is_held, is_owned, paid_pages      the live pages whose block is not kept
use Rattle.std.specs.Prelude.{ℕ, ◌==◌, ◌&&◌, ◌||◌, if◌then◌else◌}
use Rattle.std.specs.Prelude.{zero, suc, List, Bool, not, nat_lt}
use Rattle.std.specs.List.{list_any}
use Rattle.std.specs.FinMap.{empty, insert}
use Rattle.std.specs.FinSet as set
use Rattle.mdb_model.specs.Images.{Image}
use Rattle.mdb_bytes.specs.declared.converter_pages.ConverterEntry.{ConverterEntry}
use Rattle.mdb_bytes.specs.Paged.{PageBytes, PaidPages}
use Rattle.page_store.specs.Store.{Store, block_count, page_block, block_bytes, is_marked}

-- the pages below n that live, with their bytes
abbrev pub live_pages_below : (lives : ℕ → Bool) (bytes : ℕ → List ℕ) → ℕ → PageBytes
live_pages_below lives bytes zero = empty
live_pages_below lives bytes (suc n) =
    if lives n then insert (live_pages_below lives bytes n) n (bytes n)
    else live_pages_below lives bytes n

-- the page lives
abbrev pub lives_in : Store → ℕ → Bool
lives_in s page = nat_lt 0 (page_block s page)

-- the bytes of each live page: what stands on its block
abbrev pub store_pages : Store → Image → PageBytes
store_pages s seen =
    live_pages_below (lives_in s) (λ page. block_bytes s seen (page_block s page)) (block_count s)

-- the map has this block
abbrev pub has_block : List ConverterEntry → ℕ → Bool
has_block m b = list_any (λ e. e.block == b) m

-- a kept map has the block, or it has a mark
abbrev pub is_held : Store → ℕ → Bool
is_held s b = (has_block s.maps.saved b || has_block s.maps.frozen b) || is_marked s.marks b

-- the page lives, on a block that is not kept
abbrev pub is_owned : Store → ℕ → Bool
is_owned s page = lives_in s page && not (is_held s (page_block s page))

-- the pages below n that pass a test
abbrev pub numbers_below : (test : ℕ → Bool) → ℕ → PaidPages
numbers_below test zero = set.empty
numbers_below test (suc n) =
    if test n then set.insert (numbers_below test n) n else numbers_below test n

-- the pages to which a write needs no new block
abbrev pub paid_pages : Store → PaidPages
paid_pages s = numbers_below (is_owned s) (block_count s)
