-- What calls do to a store.
--     KeepsMaps      the kept maps stay
--     MayWrite      the blocks that a call on pages may write
--     KeepsStore      the same of the devices
--     OnePage      everything but one page stays
--     Fills, ShowsFrame, Pays, Readies, GivesUp, MakesPage      a frame is filled; a page has a
--         block of its own, is given up, comes to be
--     ReadiesBoth, KeepsPages, EditsBoth      of two pages
--     with_frame, moved_to, newer_at, without_page, given_block      stores after a call
--     is_unwritten, unwritten, frozen_now, OwnAsSaved, HasPages, CleansFrames      of a savepoint
use Rattle.std.specs.Prelude.{◌≡◌, ◌≢◌, ◌⊎◌, ℕ, ◌+◌, ◌<◌, ◌≤◌, if◌then◌else◌}
use Rattle.std.specs.Prelude.{zero, suc, List, replicate, slice_set, Bool, true, false, Some, None}
use Rattle.mdb_model.specs.Images.{Image}
use Rattle.mdb_host.specs.Disk.{Disk, Goes}
use Rattle.mdb_bytes.specs.declared.converter_pages.ConverterEntry.{ConverterEntry}
use Rattle.mdb_bytes.specs.Firsts.{no_entry}
use Rattle.free_blocks.specs.Free.{IsFree, free_count}
use Rattle.free_blocks.specs.Marked.{IsMarked}
use Rattle.volume_disk.specs.Blocks.{IsArea, Writes, block_at}
use Rattle.converter.specs.Maps.{Maps, IsSoundMaps, entry_at, block_of, IsKept}
use Rattle.page_store.specs.Store.{Store, block_count, page_block, frozen_block, frame_of}
use Rattle.page_store.specs.Store.{has_changed, block_bytes, IsHeld, IsKnown}
use Rattle.page_store.specs.Stamps.{page_entry, AreStamped, PageStep}

-- The kept maps are as they were, and the blocks that were written are so still.
pub record KeepsMaps (old new : Store) : Type 0 where
  pub conv : new.maps.conv ≡ old.maps.conv
  pub saved : new.maps.saved ≡ old.maps.saved
  pub frozen : new.maps.frozen ≡ old.maps.frozen
  pub frozen_at : new.maps.frozen_at ≡ old.maps.frozen_at
  pub area : block_count new ≡ block_count old
  pub marks : new.marks ≡ old.marks
  pub sizes : new.sizes ≡ old.sizes
  pub next : new.next ≡ old.next
  pub pinned : new.pinned ≡ old.pinned
  pub written : (b : ℕ) → IsKept old.maps b → has_changed old b ≡ false → has_changed new b ≡ false

-- No block of the last savepoint's map, none with a mark, and of the frozen map only those that are
-- not written yet.
pub record MayWrite (s : Store) (b : ℕ) : Type 0 where
  pub high : 1 < b
  pub unsaved : (q : ℕ) → block_of s.maps.saved q ≢ b
  pub unmarked : IsMarked s.marks b → ⊥
  pub unwritten : (q : ℕ) → block_of s.maps.frozen q ≡ b → has_changed s b ≡ true

-- The kept maps stay, with what stands on their blocks. At each moment only blocks were written
-- that may be, and nothing else of the devices. A savepoint that fitted does so still. Where the
-- pages were stamped they are so still, and each page that changed carries the next savepoint's
-- number.
pub record KeepsStore (tells : Type 0) (old new : Store) (before after : Disk) : Type 0 where
  pub maps : KeepsMaps old new
  pub goes : tells → Goes before after (Writes old.sizes (MayWrite old))
  pub seen : tells → Writes old.sizes (MayWrite old) before.seen after.seen
  pub known : IsKnown tells old before.seen → IsKnown tells new after.seen
  pub bytes : IsKnown tells old before.seen → (q : ℕ) → 0 < frozen_block old q
      → block_bytes new after.seen (frozen_block old q)
      ≡ block_bytes old before.seen (frozen_block old q)
  pub room : old.maps.conv ≤ free_count old.free → new.maps.conv ≤ free_count new.free
  pub stamps : AreStamped old
      → AreStamped new
      × ((page : ℕ)
      → PageStep (IsKnown tells old before.seen) old new before.seen after.seen page)

-- the block is kept, or another page than this one has it
abbrev pub IsElse : Store → ℕ → ℕ → Type 0
IsElse s page b = (0 < b) × (IsHeld s b ⊎ ((p : ℕ) × (p ≢ page) × (page_block s p ≡ b)))

-- Everything but one page stays: the kept maps, the entries of the pages, what stands on them, and
-- that it is known. Where the pages were stamped they are so still, and the page carries the next
-- savepoint's number where it changed.
pub record OnePage (tells : Type 0) (old new : Store) (page : ℕ) (seen : Image) : Type 0 where
  pub keeps : KeepsMaps old new
  pub others : (p : ℕ) → p ≢ page → page_entry new p ≡ page_entry old p
  pub known : IsKnown tells old seen → IsKnown tells new seen
  pub elsewhere : IsKnown tells old seen → (b : ℕ) → IsElse old page b
      → block_bytes new seen b ≡ block_bytes old seen b
  pub stamped : AreStamped old → AreStamped new
  pub here : AreStamped old → PageStep (IsKnown tells old seen) old new seen seen page

-- the frame of a block has these bytes
abbrev pub with_frame : Store → ℕ → List ℕ → Store
with_frame s b bytes = record s { frames = slice_set s.frames b (Some bytes) }

-- the block has a frame, with what stood on it
pub record Fills (tells : Type 0) (old new : Store) (b : ℕ) (seen : Image) : Type 0 where
  pub bytes : List ℕ
  pub is : new ≡ with_frame old b bytes
  pub same : tells → IsArea old.sizes seen → bytes ≡ block_bytes old seen b

-- the page has block b, which was free, with these bytes in its frame, which are newer
abbrev pub moved_to : Store → (page b : ℕ) → List ℕ → Store
moved_to s page b bytes = record s {
  maps = record s.maps {
    present = slice_set s.maps.present (s.maps.conv + page) record { block = b; stamp = s.next };
    owner = slice_set s.maps.owner b (s.maps.conv + page);
  };
  free = slice_set s.free b false;
  frames = slice_set s.frames b (Some bytes);
  changed = slice_set s.changed b true;
}

-- the frame of a block is newer
abbrev pub newer_at : Store → ℕ → Store
newer_at s b = record s { changed = slice_set s.changed b true }

-- the page has no block
abbrev pub without_page : Store → ℕ → Store
without_page s page =
    record s
    { maps = record s.maps { present = slice_set s.maps.present (s.maps.conv + page) no_entry } }

-- the block is free and has no frame
abbrev pub given_block : Store → ℕ → Store
given_block s b =
    record s {
      free = slice_set s.free b true;
      frames = slice_set s.frames b None;
      changed = slice_set s.changed b false;
    }

-- Where the block of the page is kept, the page has a free block with the same bytes in its frame;
-- else its frame is newer.
pub data Pays (old new : Store) (page b : ℕ) : Type 0 where
  moves : IsHeld old (page_block old page) → IsFree old.free b → (bytes : List ℕ)
      → frame_of old (page_block old page) ≡ Some bytes → new ≡ moved_to old page b bytes
      → Pays old new page b
  stays : (IsHeld old (page_block old page) → ⊥) → page_block old page ≡ b → new ≡ newer_at old b
      → Pays old new page b

-- The page has no block, and the one that it had is free where nothing keeps it.
pub data GivesUp (old new : Store) (page : ℕ) : Type 0 where
  leaves : IsHeld old (page_block old page) → new ≡ without_page old page → GivesUp old new page
  gives : (IsHeld old (page_block old page) → ⊥)
      → new ≡ given_block (without_page old page) (page_block old page) → GivesUp old new page

-- the block of the page has a frame, with what stands on the page
pub record ShowsFrame (tells : Type 0) (old new : Store) (page b : ℕ) (seen : Image) : Type 0 where
  pub step : OnePage tells old new page seen
  pub sound : IsSoundMaps old.maps × IsSoundMaps new.maps
  pub was : page_block old page ≡ b
  pub block : page_block new page ≡ b
  pub below : b < block_count new
  pub framed : (bytes : List ℕ) × (frame_of new b ≡ Some bytes)
  pub bytes : IsKnown tells old seen → frame_of new b ≡ Some (block_bytes old seen b)
  pub free : new.free ≡ old.free
  pub changed : new.changed ≡ old.changed

-- The page has a block of its own, whose frame has what stood on the page, and is newer than the
-- block. A free block was taken at most where its block was kept.
pub record Readies (tells : Type 0) (old new : Store) (page b : ℕ) (seen : Image) : Type 0 where
  pub step : OnePage tells old new page seen
  pub sound : IsSoundMaps old.maps × IsSoundMaps new.maps
  pub block : page_block new page ≡ b
  pub some : 0 < b
  pub below : b < block_count new
  pub framed : (bytes : List ℕ) × (frame_of new b ≡ Some bytes)
  pub bytes : IsKnown tells old seen
      → frame_of new b ≡ Some (block_bytes old seen (page_block old page))
  pub changed : has_changed new b ≡ true
  pub still : (c : ℕ) → has_changed old c ≡ true → has_changed new c ≡ true
  pub owned : IsHeld new b → ⊥
  pub less : free_count old.free ≤ free_count new.free + 1
  pub free : (IsHeld old (page_block old page) → ⊥) → free_count new.free ≡ free_count old.free

-- one page after the other
pub record ReadiesBoth (tells : Type 0) (old new : Store) (a b x y : ℕ)
    (seen : Image) : Type 0 where
  pub mid : Store
  pub first : Readies tells old mid a x seen
  pub second : Readies tells mid new b y seen

-- the page may have another block, with what stood on it; at most `most` free blocks were taken
pub record KeepsPages (tells : Type 0) (old new : Store) (page most : ℕ)
    (seen : Image) : Type 0 where
  pub step : OnePage tells old new page seen
  pub sound : IsSoundMaps new.maps
  pub lives : 0 < page_block old page → 0 < page_block new page
  pub bytes : IsKnown tells old seen
      → block_bytes new seen (page_block new page) ≡ block_bytes old seen (page_block old page)
  pub owned : (IsHeld old (page_block old page) → ⊥) → IsHeld new (page_block new page) → ⊥
  pub less : free_count old.free ≤ free_count new.free + most
  pub room : old.maps.conv ≤ free_count old.free → new.maps.conv ≤ free_count new.free

-- the frames of two blocks were edited
pub record EditsBoth (old new : Store) (x y : ℕ)
    (does : List ℕ → List ℕ → List ℕ → List ℕ → Type 0) : Type 0 where
  pub one : List ℕ
  pub two : List ℕ
  pub one_now : List ℕ
  pub two_now : List ℕ
  pub one_was : frame_of old x ≡ Some one
  pub two_was : frame_of old y ≡ Some two
  pub edited : does one two one_now two_now
  pub is : new ≡ with_frame (with_frame old x one_now) y two_now

-- The page was dead. It has a block that was free, with zero bytes in its frame.
pub record MakesPage (old new : Store) (page : ℕ) : Type 0 where
  pub below : page < block_count old
  pub dead : page_block old page ≡ 0
  pub block : ℕ
  pub free : IsFree old.free block
  pub put : new ≡ moved_to old page block (replicate 8192 0)

-- Savepoints

-- the frozen page of this number is not on its block yet
abbrev pub is_unwritten : Store → ℕ → Bool
is_unwritten s page = has_changed s (frozen_block s page)

-- how many of the first n frozen pages are not
abbrev pub unwritten_below : Store → ℕ → ℕ
unwritten_below s zero = 0
unwritten_below s (suc n) = unwritten_below s n + (if is_unwritten s n then 1 else 0)

-- how many of all
abbrev pub unwritten : Store → ℕ
unwritten s = unwritten_below s (block_count s)

-- the present map was frozen
abbrev pub frozen_now : Store → Store
frozen_now s =
    record s
    { maps = record s.maps { frozen = s.maps.present; frozen_at = Some s.next }; next = s.next + 1 }

-- the frozen map has the own pages of the last savepoint's map
abbrev pub OwnAsSaved : Maps → Type 0
OwnAsSaved m = (q : ℕ) → q < m.conv → entry_at m.frozen q ≡ entry_at m.saved q

-- what stands on the pages of a map stands on their blocks in the image
abbrev pub HasPages : List ℕ → List ConverterEntry → ℕ → (ℕ → List ℕ) → Image → Type 0
HasPages sizes m conv pages image =
    (p : ℕ) → 0 < block_of m (conv + p) → block_at sizes image (block_of m (conv + p)) ≡ pages p

-- some frames are not newer than their blocks any more
pub record CleansFrames (old new : Store) : Type 0 where
  pub same : new ≡ record old { changed = new.changed }
  pub only : (b : ℕ) → has_changed new b ≡ true → has_changed old b ≡ true

-- The frozen page of a number may have come onto its block; the others are as they were.
pub record TurnsPage (tells : Type 0) (old new : Store) (before after : Disk)
    (page : ℕ) : Type 0 where
  pub turned : CleansFrames old new
  pub keeps : KeepsStore tells old new before after
  pub others : (p : ℕ) → p ≢ page → is_unwritten new p ≡ is_unwritten old p
