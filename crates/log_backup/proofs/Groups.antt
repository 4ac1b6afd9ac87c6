-- Groups that are read and packed.
--     not_closed, next_len, no_room      a group that is there and has room
--     left_on, left_intact      what is left, after a group
--     left_ends, left_long, left_count, left_packs      what was packed, after the last one
--     not_whole      a test of both ends
--     packs_kept      calls that only read
--     ring_kept, within_kept      the ring and the medium, after pages of the medium were written
use Rattle.std.proofs.Common.{◌≡◌, refl, sym, ap, subst, ◌∙◌, ℕ, ◌+◌, ◌*◌, ◌%◌, ◌<◌, ◌≤◌, Bool, true, false, nat_le, ◌==◌, ◌&&◌, List, [], ◌∷◌, ◌++◌, length, Option, Ok, arith, append_assoc, length-append}
use Rattle.std.proofs.lemmas.List.{append-nil}
use Rattle.mdb_model.specs.declared.change.Commit.{Commit}
use Rattle.mdb_model.specs.declared.fault.Device.TheVariants.{Log, Medium}
use Rattle.mdb_model.specs.declared.name.Name.{Name}
use Rattle.mdb_model.specs.Images.{Image, size_of, byte_at}
use Rattle.mdb_model.specs.Sessions.{group_bytes}
use Rattle.mdb_host.specs.Disk.{Disk, Goes, Agree, IsWithin}
use Rattle.mdb_bytes.specs.declared.medium_pages.MediumHeader.{MediumHeader}
use Rattle.mdb_bytes.specs.Fields.{spelled}
use Rattle.mdb_bytes.specs.Groups.{group_fields}
use Rattle.mdb_bytes.specs.LogReading.{IsLog, log_bytes}
use Rattle.mdb_bytes.specs.Parts.{page_len}
use Rattle.mdb_bytes.specs.Rings.{HasRing, ring_byte}
use Rattle.mdb_bytes.specs.WholeBackups.{groups_spelled}
use Rattle.medium_file.proofs.Places.{within_same}
use Rattle.medium_file.proofs.Writers.{writing_kept}
use Rattle.redo_ring.specs.declared.reader.RingReader.{RingReader}
use Rattle.redo_ring.specs.Reading.{IsNextOf}
use Rattle.redo_ring.proofs.Log.{bytes_cons}
use Rattle.log_backup.specs.declared.packing.Packing.{Packing}
use Rattle.log_backup.specs.Packing.{packed_len, PagesTorn, SameMedium, Packs}
use Rattle.log_backup.specs.Saving.{IsLeft}
use Rattle.log_backup.proofs.Pages.{packs_len}

-- a group that is there has no closed gate
pub not_closed : (size : ℕ) (name : Name) (ring : ℕ → ℕ) (p n : ℕ) (bytes : List ℕ) (commit : Commit) (commits : List Commit) (b : Bool) → b ≡ false → IsNextOf size name ring p n bytes (commit ∷ commits) (Ok b) → ⊥
not_closed size name ring p n bytes commit commits true is next = cc
not_closed size name ring p n bytes commit commits false is next = cc

-- its bytes
pub next_len : (size : ℕ) (name : Name) (ring : ℕ → ℕ) (p n : ℕ) (bytes : List ℕ) (commit : Commit) (commits : List Commit) (b : Bool) → b ≡ true → IsNextOf size name ring p n bytes (commit ∷ commits) (Ok b) → length bytes ≡ group_bytes commit.changes
next_len size name ring p n bytes commit commits false is next = absurd cc
next_len size name ring p n bytes commit commits true is next =
    let same : next.0 ≡ commit = let e = next.2 in cc in
    next.4 ∙ ap (λ (c : Commit). group_bytes c.changes) same

-- a test that fails
pub no_room : (a b : ℕ) (r : Bool) → r ≡ nat_le a b → r ≡ false → b < a
no_room a b r is fails = grind (arith, is, fails)

-- a test that both numbers are as they are
pub not_whole : (a b x y : ℕ) (r : Bool) → r ≡ (a == b && x == y) → r ≡ false → a ≡ b → x ≡ y → ⊥
not_whole a b x y r is fails same_a same_x = grind (arith, is, fails, same_a, same_x)

-- the ring after pages of a medium were written
pub ring_same : (size : ℕ) (old new : Image) → new Log ≡ old Log → ring_byte size new ≡ ring_byte size old
ring_same size old new same = ap (λ (o : Option (List ℕ)). λ (position : ℕ). byte_at o (16384 + position % size)) same

-- pages of a medium are no part of the log volume
pub log_same : (m pages : ℕ) (old new : Image) → PagesTorn m pages old new → new Log ≡ old Log
log_same m pages old new torn = torn.others Log (λ e. cc)

-- the ring is as long as before
pub ring_kept : (size m pages : ℕ) (old new : Image) → PagesTorn m pages old new → HasRing size old → HasRing size new
ring_kept size m pages old new torn has = ap size_of (log_same m pages old new torn) ∙ has

-- the medium is as long as before
pub within_kept : (m pages at n : ℕ) (old new : Image) → PagesTorn m pages old new → IsWithin old (Medium m) at n → IsWithin new (Medium m) at n
within_kept m pages at n old new torn within = within_same old new (Medium m) at n within torn.size

-- calls that only read leave what was packed
pub packs_kept : (packing : Packing) (page bytes : List ℕ) (old new : Disk) → Goes old new Agree → Agree old.seen new.seen → Packs packing page bytes old → Packs packing page bytes new
packs_kept packing page bytes old new goes same packs = record {
  content = packs.content;
  writing = writing_kept packing.writer packs.content old new Agree goes (λ a b agree. agree (Medium packing.writer.medium)) (same (Medium packing.writer.medium)) packs.writing;
  parts = packs.parts;
}

-- where commits are left, the next one is there and has room
pub left_intact : (reader : RingReader) (packing : Packing) (page : List ℕ) (disk : Disk) (header : MediumHeader) (all : List ℕ) → packing.used ≤ length page → reader.number < header.last
    → ((commit : Commit) (commits : List Commit) → IsLog (ring_byte reader.size disk.seen) reader.name reader.position reader.number (commit ∷ commits) → reader.position + log_bytes (commit ∷ commits) < reader.start + reader.size
    → page_len + packed_len packing + group_bytes commit.changes ≤ page_len * packing.writer.pages → ⊥)
    → IsLeft reader packing page disk header all → ⊥
left_intact reader packing page disk header all short more never left = go left.rest left.log left.room left.last left.bytes
  where
    -- by the commits that are left
    go : (rest : List Commit) → IsLog (ring_byte reader.size disk.seen) reader.name reader.position reader.number (rest ++ left.more) → reader.position + log_bytes (rest ++ left.more) < reader.start + reader.size → header.last ≡ reader.number + length rest
        → header.group_bytes ≡ length left.packed + log_bytes rest → ⊥
    go [] log room last bytes = omega (arith, more, last)
    go (commit ∷ rest) log room last bytes = never commit (rest ++ left.more) log room (omega (arith, left.fits, bytes, bytes_cons commit rest, packs_len packing page left.packed disk short left.packs))

module _ (reader now : RingReader) (packing next : Packing) (page page2 : List ℕ) (disk new : Disk) (header : MediumHeader) (all bytes : List ℕ) (moves : now ≡ record reader { position = reader.position + length bytes; number = reader.number + 1 })
    (same : SameMedium packing.writer next.writer) (log_is : new.seen Log ≡ disk.seen Log)
    (next_is : (commits : List Commit) → IsLog (ring_byte reader.size disk.seen) reader.name reader.position reader.number commits → reader.position + log_bytes commits < reader.start + reader.size
    → IsNextOf reader.size reader.name (ring_byte reader.size disk.seen) reader.position reader.number bytes commits (Ok true))
    (grows : (before : List ℕ) → Packs packing page before disk → Packs next page2 (before ++ bytes) new) (more : reader.number < header.last) where
  -- by the commits that are left
  left_after : (left : IsLeft reader packing page disk header all) (rest : List Commit) → IsLog (ring_byte reader.size disk.seen) reader.name reader.position reader.number (rest ++ left.more)
      → reader.position + log_bytes (rest ++ left.more) < reader.start + reader.size → header.last ≡ reader.number + length rest → header.end_position ≡ reader.position + log_bytes rest → header.group_bytes ≡ length left.packed + log_bytes rest
      → left.packed ++ groups_spelled reader.name (reader.number + 1) rest ≡ all → IsLeft (record reader { position = reader.position + length bytes; number = reader.number + 1 }) next page2 new header all
  left_after left [] log room last ends count whole = absurd (omega (arith, more, last))
  left_after left (commit ∷ rest) log room last ends count whole =
      let found = next_is (commit ∷ (rest ++ left.more)) log room in
      let e : commit ∷ (rest ++ left.more) ≡ found.0 ∷ found.1 = found.2 in
      let first : found.0 ≡ commit = cc in
      let after : found.1 ≡ rest ++ left.more = cc in
      let long : length bytes ≡ group_bytes commit.changes = found.4 ∙ ap (λ (c : Commit). group_bytes c.changes) first in
      let spells : bytes ≡ spelled (group_fields (record { name = reader.name; number = reader.number + 1; changes = commit.changes })) =
      found.3.1 ∙ ap (λ (c : Commit). spelled (group_fields (record { name = reader.name; number = reader.number + 1; changes = c.changes }))) first in
      record {
        rest = rest;
        more = left.more;
        packed = left.packed ++ bytes;
        log = subst (λ (f : ℕ → ℕ). IsLog f reader.name (reader.position + length bytes) (reader.number + 1) (rest ++ left.more)) (sym (ring_same reader.size disk.seen new.seen log_is))
            (subst (λ (l : List Commit). IsLog (ring_byte reader.size disk.seen) reader.name (reader.position + length bytes) (reader.number + 1) l) after found.5);
        room = omega (arith, room, bytes_cons commit (rest ++ left.more), long);
        last = omega (arith, last);
        ends = omega (arith, ends, bytes_cons commit rest, long);
        bytes = omega (arith, count, bytes_cons commit rest, long, length-append left.packed bytes);
        fits = subst (λ (n : ℕ). page_len + header.group_bytes ≤ page_len * n) (sym same.pages) left.fits;
        packs = grows left.packed left.packs;
        whole = append_assoc left.packed bytes (groups_spelled reader.name (reader.number + 1 + 1) rest) ∙ ap (λ (l : List ℕ). left.packed ++ (l ++ groups_spelled reader.name (reader.number + 1 + 1) rest)) spells ∙ whole;
      }

  -- one group less is left
  pub left_on : IsLeft reader packing page disk header all → IsLeft now next page2 new header all
  left_on left = subst (λ (r : RingReader). IsLeft r next page2 new header all) (sym moves) (left_after left left.rest left.log left.room left.last left.ends left.bytes left.whole)

module _ (reader : RingReader) (packing : Packing) (page : List ℕ) (disk : Disk) (header : MediumHeader) (all : List ℕ) (short : packing.used ≤ length page) (last : header.last ≤ reader.number) (left : IsLeft reader packing page disk header all) where
  -- by the commits that are left
  none_left : (rest : List Commit) → header.last ≡ reader.number + length rest → rest ≡ []
  none_left [] is = refl
  none_left (commit ∷ rest) is = absurd (omega (arith, last, is))

  -- no group is left
  none : left.rest ≡ []
  none = none_left left.rest left.last

  -- the reader stands at the end
  pub left_ends : reader.position ≡ header.end_position
  left_ends = omega (arith, left.ends, ap log_bytes none)

  -- all was packed
  all_packed : left.packed ≡ all
  all_packed = sym (ap (λ (l : List Commit). left.packed ++ groups_spelled reader.name (reader.number + 1) l) none ∙ append-nil left.packed) ∙ left.whole

  -- as the header says
  pub left_long : length all ≡ header.group_bytes
  left_long = omega (arith, ap length all_packed, left.bytes, ap log_bytes none)

  -- as many as were counted
  pub left_count : packed_len packing ≡ header.group_bytes
  left_count = omega (arith, packs_len packing page left.packed disk short left.packs, left.bytes, ap log_bytes none)

  -- as it stands
  pub left_packs : Packs packing page all disk
  left_packs = subst (λ (l : List ℕ). Packs packing page l disk) all_packed left.packs
