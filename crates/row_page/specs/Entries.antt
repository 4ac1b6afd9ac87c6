-- A page of rows or of separators, as a head and a list of entries.
--     Head, PageEntry      what the first 64 bytes say; a key and what stands with it
--     entry_cost, entries_cost      the bytes that entries take, their slots included
--     page_bytes      the bytes of a page
--     page_head_of, entries_of      what the bytes of a page say
--     IsPage, Becomes      bytes are a page; a page was changed to these entries
--     HasKey, IsPlaceFor      a key stands at a place, or would stand there
use Rattle.std.specs.Prelude.{◌≡◌, ℕ, ◌+◌, ◌^◌, ◌<◌, ◌≤◌, ◌⊎◌, [], ◌∷◌, ◌++◌, ◌==◌, if◌then◌else◌}
use Rattle.std.specs.Prelude.{zero, suc, Bool, true, false, List, length, map, take, drop}
use Rattle.std.specs.Prelude.{slice_index_or, nat_eq, sum_by}
use Rattle.std.specs.Cmp.Lexicographic.{slice_cmp}
use Rattle.std.specs.Ordering.{nat_cmp}
use Rattle.std.specs.declared.cmp.Ordering.{Ordering}
use Rattle.std.specs.declared.cmp.Ordering.TheVariants.{Less, Greater}
use Rattle.byteorder.specs.Endian.{big_bytes, big_number}
use Rattle.mdb_bytes.specs.Fields.{Field, spelled, number_at}
use Rattle.mdb_bytes.specs.LogicalPages.{header_fields}
use Rattle.row_page.specs.Page.{page_body, used}

-- the rest is the value of a row, or the four bytes of a child
pub record PageEntry : Type 0 where
  pub key : List ℕ
  pub rest : List ℕ

-- what stands in the first 64 bytes beside the number of entries and their bytes
pub record Head : Type 0 where
  pub kind : ℕ
  pub level : ℕ
  pub table : ℕ
  pub own : ℕ
  pub next : ℕ

-- the length of the key, four bytes, the key, and what follows it
unfoldable pub cell_of : Bool → PageEntry → List ℕ
cell_of true e =
    big_bytes 2 (length e.key) ++ (big_bytes 2 (length e.rest) ++ (0 ∷ 0 ∷ [] ++ (e.key ++ e.rest)))
cell_of false e = big_bytes 2 (length e.key) ++ (e.rest ++ e.key)

abbrev pub cell_len : Bool → PageEntry → ℕ
cell_len true e = 6 + length e.key + length e.rest
cell_len false e = 2 + length e.rest + length e.key

-- the bytes that an entry takes: its cell and its slot
abbrev pub entry_cost : Bool → PageEntry → ℕ
entry_cost leaf e = cell_len leaf e + 2

abbrev pub entries_cost : Bool → List PageEntry → ℕ
entries_cost leaf es = sum_by (entry_cost leaf) es

abbrev pub cells : Bool → List PageEntry → List (List ℕ)
cells leaf es = map (cell_of leaf) es

abbrev pub is_leaf : Head → Bool
is_leaf h = nat_eq h.kind 1

abbrev pub full_head_fields : Head → ℕ → ℕ → List Field
full_head_fields h count total = header_fields h.kind h.level h.table h.own count total h.next

-- the bytes of a page
unfoldable pub page_bytes : Head → List PageEntry → List ℕ
page_bytes h es =
    spelled (full_head_fields h (length es) (used (cells (is_leaf h) es)))
    ++ page_body 8128 (cells (is_leaf h) es)

abbrev pub empty_entry : PageEntry
empty_entry = record { key = []; rest = [] }

abbrev pub page_entry_at : List PageEntry → ℕ → PageEntry
page_entry_at es i = slice_index_or es i empty_entry

abbrev pub key_at : List PageEntry → ℕ → List ℕ
key_at es i = (slice_index_or es i empty_entry).key

abbrev pub by_bytes : List ℕ → List ℕ → Ordering
by_bytes a b = slice_cmp nat_cmp a b

abbrev pub Ascend : List PageEntry → Type 0
Ascend es = (i j : ℕ) → i < j → j < length es → by_bytes (key_at es i) (key_at es j) ≡ Less

-- the limits of a row, which has a key and costs at most 2,000 bytes, and of a separator with its
-- child
abbrev pub KeepsEntry : Bool → PageEntry → Type 0
KeepsEntry true e =
    (1 ≤ length e.key) × (length e.key ≤ 256) × (8 + length e.key + length e.rest ≤ 2000)
KeepsEntry false e = (length e.key ≤ 256) × (length e.rest ≡ 4)

abbrev pub AllKept : Bool → List PageEntry → Type 0
AllKept leaf es = (i : ℕ) → i < length es → KeepsEntry leaf (slice_index_or es i empty_entry)

-- a row leaf, on level 0, or an index page, which has no next page
pub record IsHead (h : Head) : Type 0 where
  pub kind : ((h.kind ≡ 1) × (h.level ≡ 0))
      ⊎ ((h.kind ≡ 2) × (1 ≤ h.level) × (h.level ≤ 7) × (h.next ≡ 0))
  pub table : (1 ≤ h.table) × (h.table ≤ 500)
  pub own : h.own < 2 ^ 32
  pub next : h.next < 2 ^ 32

pub record AreEntries (leaf : Bool) (es : List PageEntry) : Type 0 where
  pub fits : used (cells leaf es) ≤ 8128
  pub kept : AllKept leaf es
  pub ascend : Ascend es

-- the entry at the front of a run of cells
abbrev pub front_entry : Bool → List ℕ → PageEntry
front_entry true bytes =
    record {
      key = take (number_at 2 0 bytes) (drop 6 bytes);
      rest = take (number_at 2 2 bytes) (drop (6 + number_at 2 0 bytes) bytes);
    }
front_entry false bytes =
    record { key = take (number_at 2 0 bytes) (drop 6 bytes); rest = take 4 (drop 2 bytes) }

abbrev pub read_cells : Bool → ℕ → List ℕ → List PageEntry
read_cells leaf zero bytes = []
read_cells leaf (suc n) bytes =
    front_entry leaf bytes ∷ read_cells leaf n (drop (cell_len leaf (front_entry leaf bytes)) bytes)

-- what the bytes of a page say
unfoldable pub page_head_of : List ℕ → Head
page_head_of page =
    record {
      kind = number_at 1 0 page;
      level = number_at 1 1 page;
      table = number_at 2 2 page;
      own = number_at 4 4 page;
      next = number_at 4 12 page;
    }

unfoldable pub entries_of : List ℕ → List PageEntry
entries_of page = read_cells (is_leaf (page_head_of page)) (number_at 2 8 page) (drop 64 page)

-- the kind of the pages on a level
abbrev pub kind_on : ℕ → ℕ
kind_on level = if level == 0 then 1 else 2

-- the bytes are the page with this head and these entries
pub record ShowsEntries (page : List ℕ) (h : Head) (es : List PageEntry) : Type 0 where
  pub head : IsHead h
  pub entries : AreEntries (is_leaf h) es
  pub bytes : page ≡ page_bytes h es

-- the bytes are a row leaf or an index page
abbrev pub IsPage : List ℕ → Type 0
IsPage page = ShowsEntries page (page_head_of page) (entries_of page)

abbrev pub cells_of : List ℕ → List (List ℕ)
cells_of page = cells (is_leaf (page_head_of page)) (entries_of page)

-- the bytes that the entries of a page take
abbrev pub used_bytes : List ℕ → ℕ
used_bytes page = entries_cost (is_leaf (page_head_of page)) (entries_of page)

-- the number of the child in an entry of an index page
unfoldable pub child_number : PageEntry → ℕ
child_number e = big_number 4 e.rest

-- a page with the head of another one, and these entries
pub record Becomes (old new : List ℕ) (es : List PageEntry) : Type 0 where
  pub page : IsPage new
  pub head : page_head_of new ≡ page_head_of old
  pub entries : entries_of new ≡ es

-- the entry at the place has the key
pub record HasKey (es : List PageEntry) (key : List ℕ) (at : ℕ) : Type 0 where
  pub within : at < length es
  pub same : key_at es at ≡ key

-- the keys before the place are lower, and those from it on are greater
pub record IsPlaceFor (es : List PageEntry) (key : List ℕ) (at : ℕ) : Type 0 where
  pub within : at ≤ length es
  pub before : (k : ℕ) → k < at → by_bytes (key_at es k) key ≡ Less
  pub after : (k : ℕ) → at ≤ k → k < length es → by_bytes (key_at es k) key ≡ Greater
