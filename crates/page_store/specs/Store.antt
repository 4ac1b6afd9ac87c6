-- What a store holds.
--     Store      the maps, the free blocks and the marks, the frames, and the pinned map
--     shown_frame, shown_frames, is_changed_frame, shown_pin, store_of      the same as it is kept
--         in memory
--     page_block, Lives      the block of a page in the present map
--     block_bytes      what stands on a block, in its frame or on the device
--     IsHeld      a kept map has a block, or it has a mark
--     AreSixteen      each block has sixteen tests
--     IsPinned      the pinned map is the one whose blocks have mark 0
--     IsStore, IsKeptStore      what holds of a store at any time
--     FramesMatch, IsKnown      the frames agree with the devices
--     spare_of      how many pages that are not paid can be written
use Rattle.std.specs.Prelude.{◌≡◌, ◌⊎◌, ℕ, ◌+◌, ◌-◌, ◌*◌, ◌<◌, ◌≤◌, ◌^◌, [], ◌∷◌, if◌then◌else◌}
use Rattle.std.specs.Prelude.{zero, suc, List, length, get_or, sum, map, Bool, true, false, Option}
use Rattle.std.specs.Prelude.{Some, None, unwrap_or}
use Rattle.std.specs.List.{list_any}
use Rattle.mdb_model.specs.Images.{Image}
use Rattle.mdb_bytes.specs.declared.converter_pages.ConverterEntry.{ConverterEntry}
use Rattle.free_blocks.specs.Free.{IsFree, free_count}
use Rattle.free_blocks.specs.Marked.{HasMark, IsMarked}
use Rattle.volume_disk.specs.Blocks.{IsArea, block_at}
use Rattle.converter.specs.Maps.{Maps, block_of, HasAt, IsKept, IsUsed, AreUnused}
use Rattle.page_store.specs.declared.store.FrameState.{FrameState}
use Rattle.page_store.specs.declared.store.FrameState.TheVariants.{Absent, Same, Changed}

-- The maps, which blocks are free and which have marks, the sizes of the volumes; for each block
-- the bytes of its frame, where it has one, and whether these are newer than the block; the number
-- that the next savepoint has; the pinned map.
pub record Store : Type 0 where
  pub maps : Maps
  pub free : List Bool
  pub marks : List (List Bool)
  pub sizes : List ℕ
  pub frames : List (Option (List ℕ))
  pub changed : List Bool
  pub next : ℕ
  pub pinned : Option (List ConverterEntry)

-- In memory

-- the bytes of a frame, where the block has one
abbrev pub shown_frame : FrameState → List ℕ → Option (List ℕ)
shown_frame Absent bytes = None
shown_frame Same bytes = Some bytes
shown_frame Changed bytes = Some bytes

-- those of each block
abbrev pub shown_frames : List FrameState → List (List ℕ) → List (Option (List ℕ))
shown_frames [] frames = []
shown_frames (state ∷ states) [] = []
shown_frames (state ∷ states) (bytes ∷ frames) =
    shown_frame state bytes ∷ shown_frames states frames

-- the frame is newer than its block
abbrev pub is_changed_frame : FrameState → Bool
is_changed_frame Absent = false
is_changed_frame Same = false
is_changed_frame Changed = true

-- the pinned map: none where none is pinned, whatever the room for it holds
abbrev pub shown_pin : Bool → List ConverterEntry → Option (List ConverterEntry)
shown_pin true room = Some room
shown_pin false room = None

-- the store that is kept so
abbrev pub store_of : Maps → List Bool → List (List Bool) → List ℕ → List (List ℕ) → List FrameState
    → ℕ → Bool → List ConverterEntry → Store
store_of maps free marks sizes frames states next is_pinned room = record {
  maps = maps;
  free = free;
  marks = marks;
  sizes = sizes;
  frames = shown_frames states frames;
  changed = map is_changed_frame states;
  next = next;
  pinned = shown_pin is_pinned room;
}

-- Pages and blocks

-- how many blocks there are
abbrev pub block_count : Store → ℕ
block_count s = length s.maps.owner

-- the block of a page in the present map, or 0
abbrev pub page_block : Store → ℕ → ℕ
page_block s page = block_of s.maps.present (s.maps.conv + page)

-- its block in the frozen map, or 0
abbrev pub frozen_block : Store → ℕ → ℕ
frozen_block s page = block_of s.maps.frozen (s.maps.conv + page)

-- the page lives
abbrev pub Lives : Store → ℕ → Type 0
Lives s page = 0 < page_block s page

-- the frame of a block, if it has one
abbrev pub frame_of : Store → ℕ → Option (List ℕ)
frame_of s b = get_or s.frames b None

-- the frame of a block is newer than the block
abbrev pub has_changed : Store → ℕ → Bool
has_changed s b = get_or s.changed b false

-- what stands on a block: its frame, where it has one, and else what the device has
abbrev pub block_bytes : Store → Image → ℕ → List ℕ
block_bytes s seen b = unwrap_or (frame_of s b) (block_at s.sizes seen b)

-- a kept map has the block, or it has a mark
abbrev pub IsHeld : Store → ℕ → Type 0
IsHeld s b = IsKept s.maps b ⊎ IsMarked s.marks b

-- each block has sixteen tests
abbrev pub AreSixteen : List (List Bool) → Type 0
AreSixteen marks = (b : ℕ) → b < length marks → length (get_or marks b []) ≡ 16

-- mark 0 is on the blocks of this map alone, and each of them has one place; the other marks are
-- those of other keepers
pub record IsPinned (conv blocks : ℕ) (marks : List (List Bool))
    (m : List ConverterEntry) : Type 0 where
  pub long : length m ≡ conv + blocks
  pub below : (q : ℕ) → block_of m q < blocks
  pub high : (q : ℕ) → 0 < block_of m q → 1 < block_of m q
  pub marked : (q : ℕ) → 0 < block_of m q → HasMark marks (block_of m q) 0
  pub only : (b : ℕ) → HasMark marks b 0 → (0 < b) × ((q : ℕ) × (block_of m q ≡ b))
  pub apart : (p q : ℕ) → 0 < block_of m p → block_of m p ≡ block_of m q → p ≡ q

-- the pinned map is the one whose blocks have mark 0
abbrev pub PinMarks : (conv blocks : ℕ) → List (List Bool) → Option (List ConverterEntry) → Type 0
PinMarks conv blocks marks None = (b : ℕ) → HasMark marks b 0 → ⊥
PinMarks conv blocks marks (Some m) = IsPinned conv blocks marks m

-- All lists have an item for each block. A block is free exactly where it is one from 2 on that no
-- map has and that has no mark. No block of the last savepoint's map or of a converter page, no
-- free block and none with a mark has a newer frame. The numbers are those of src/store.rt.
pub record IsStore (s : Store) : Type 0 where
  -- (1)
  pub area : length s.free ≡ block_count s
  pub marks_long : length s.marks ≡ block_count s
  pub sixteen : AreSixteen s.marks
  pub frames_long : length s.frames ≡ block_count s
  pub changed_long : length s.changed ≡ block_count s
  pub blocks : sum s.sizes ≡ block_count s
  -- (2)
  pub unused : AreUnused s.maps s.free
  pub unmarked : (b : ℕ) → IsFree s.free b → IsMarked s.marks b → ⊥
  -- (3)
  pub freed : (b : ℕ) → 1 < b → b < block_count s → (IsUsed s.maps b → ⊥) → (IsMarked s.marks b → ⊥)
      → IsFree s.free b
  -- (4)
  pub saved_same : (q : ℕ) → has_changed s (block_of s.maps.saved q) ≡ false
  pub own_same : (q : ℕ) → q < s.maps.conv → has_changed s (block_of s.maps.present q) ≡ false
  pub free_same : (b : ℕ) → IsFree s.free b → has_changed s b ≡ false
  pub marked_same : (b : ℕ) → IsMarked s.marks b → has_changed s b ≡ false
  -- (5)
  pub framed : (b : ℕ) → has_changed s b ≡ true → (bytes : List ℕ) × (frame_of s b ≡ Some bytes)
  -- (6)
  pub thawed : s.maps.frozen_at ≡ None → (q : ℕ) → block_of s.maps.frozen q ≡ 0
  -- (7)
  pub some_next : 0 < s.next
  pub small_next : s.next < 2 ^ 62
  -- (8)
  pub pins : PinMarks s.maps.conv (block_count s) s.marks s.pinned

-- what is kept of a store in memory: a frame, a state and a mark for each block, and room for a
-- pinned map
pub record IsKeptStore (maps : Maps) (free : List Bool) (marks : List (List Bool)) (sizes : List ℕ)
    (frames : List (List ℕ)) (states : List FrameState) (next : ℕ) (is_pinned : Bool)
    (room : List ConverterEntry) : Type 0 where
  pub store : IsStore (store_of maps free marks sizes frames states next is_pinned room)
  -- (1)
  pub frames_long : length frames ≡ length maps.owner
  pub states_long : length states ≡ length maps.owner
  -- (9)
  pub room_long : length room ≡ maps.conv + length maps.owner

-- the frame of each page that a map has is what its block has, where it is not newer
abbrev pub FramesMatch : Store → Image → Type 0
FramesMatch s seen =
    (q b : ℕ) (bytes : List ℕ) → s.maps.conv ≤ q → 0 < b → HasAt s.maps q b
    → has_changed s b ≡ false → frame_of s b ≡ Some bytes → block_at s.sizes seen b ≡ bytes

-- what stands on the blocks of pages is known: the host tells, the frames agree with it, and the
-- volumes are there
pub record IsKnown (tells : Type 0) (s : Store) (seen : Image) : Type 0 where
  pub told : tells
  pub reads : FramesMatch s seen
  pub there : IsArea s.sizes seen

-- Spare pages

-- the block has a mark
abbrev pub is_marked : List (List Bool) → ℕ → Bool
is_marked marks b = list_any (λ on. on) (get_or marks b [])

-- how many of the first n own pages of the last savepoint's map have a block without a mark
abbrev pub own_unmarked : Store → ℕ → ℕ
own_unmarked s zero = 0
own_unmarked s (suc n) =
    own_unmarked s n + (if is_marked s.marks (block_of s.maps.saved n) then 0 else 1)

-- Each savepoint takes `conv` blocks before it frees any. While one is under way, its own `conv`
-- blocks may not be taken yet, and it will free those of the last savepoint's converter that have
-- no mark.
abbrev pub spare_while : Option ℕ → (conv free given : ℕ) → ℕ
spare_while None conv free given = free - conv
spare_while (Some n) conv free given = (free + given) - 2 * conv

abbrev pub spare_of : Store → ℕ
spare_of s =
    spare_while s.maps.frozen_at s.maps.conv (free_count s.free) (own_unmarked s s.maps.conv)
