-- The log that a reader has still to read.
--     long_log      a commit has more than one byte
--     left_is      a whole log that is there is what is left
--     left_same, known_same      the log stays where the log volume does
--     log_volume, reads_stay      it does where only data volumes are written; so does the reader
--     reads_next, next_found, next_shorter, next_cause      the next group was read
use Rattle.std.proofs.Common.{◌≡◌, refl, sym, ap, subst, ◌∙◌, ℕ, ◌+◌, ◌-◌, ◌%◌, ◌<◌, ◌≤◌, List, [], ◌∷◌, length, Bool, true, false, Result, Ok, Err, arith}
use Rattle.std.specs.Prelude.{IfOk, unwrap_or}
use Rattle.mdb_model.specs.declared.change.Commit.{Commit}
use Rattle.mdb_model.specs.Causes.{Rose}
use Rattle.mdb_model.specs.declared.fault.Device.TheVariants.{Log}
use Rattle.mdb_model.specs.declared.fault.PageFault.{PageFault}
use Rattle.mdb_model.specs.declared.fault.PageFault.TheVariants.{Failed, Damaged}
use Rattle.mdb_model.specs.Images.{Image, size_of, byte_at}
use Rattle.mdb_bytes.specs.Held.{LogLeft, IsNextGroup, HasPageCause}
use Rattle.mdb_bytes.specs.LogReading.{IsLog, log_from, log_bytes}
use Rattle.mdb_bytes.specs.Rings.{ring_byte}
use Rattle.mdb_bytes.proofs.GroupLaw.{group_is_long}
use Rattle.mdb_bytes.proofs.LogLaw.{is_log-log_from}
use Rattle.volume_disk.specs.Blocks.{Writes}
use Rattle.redo_ring.specs.declared.reader.RingReader.{RingReader}
use Rattle.redo_ring.specs.Reading.{IsReader, MovesReader, IsNextOf}
use Rattle.redo_ring.proofs.Log.{bytes_cons}
use Rattle.page_ground.specs.LogKnown.{left_in, IsLogKnown, ReadsOn}

-- a commit has more than one byte
pub long_log : (commits : List Commit) → length commits ≤ log_bytes commits
long_log [] = omega arith
long_log (c ∷ commits) = omega (arith, long_log commits, bytes_cons c commits, group_is_long c.changes)

-- a whole log that is there is what is left
pub left_is : (reader : RingReader) (seen : Image) (commits : List Commit)
    → IsLog (ring_byte reader.size seen) reader.name reader.position reader.number commits → log_bytes commits < reader.size → left_in reader seen ≡ commits
left_is reader seen commits log small =
    ap (λ o. unwrap_or o [])
    (is_log-log_from (ring_byte reader.size seen) reader.name reader.size reader.position reader.number commits log (omega (arith, long_log commits, small)))

module _ (before after : Image) (same : after Log ≡ before Log) where
  -- the bytes of the ring stay
  pub ring_same : (size : ℕ) → ring_byte size after ≡ ring_byte size before
  ring_same size = λ i position. byte_at (same i) (16384 + position % size)

  pub left_same : (reader : RingReader) → left_in reader after ≡ left_in reader before
  left_same reader = ap (λ (ring : ℕ → ℕ). unwrap_or (log_from ring reader.name reader.size reader.position reader.number) []) (ring_same reader.size)

  pub known_same : (tells : Type 0) (reader : RingReader) → IsLogKnown tells reader before → IsLogKnown tells reader after
  known_same tells reader known = record {
    told = known.told;
    ring = ap size_of same ∙ known.ring;
    log = subst (λ (t : (ℕ → ℕ) × List Commit). IsLog t.0 reader.name reader.position reader.number t.1)
        (λ i. (sym (ring_same reader.size) i, sym (left_same reader) i)) known.log;
    room = subst (λ (commits : List Commit). reader.position + log_bytes commits < reader.start + reader.size) (sym (left_same reader)) known.room;
  }

-- writes of data volumes leave the log volume
pub log_volume : (sizes : List ℕ) (set : ℕ → Type 0) (before after : Image) → Writes sizes set before after → after Log ≡ before Log
log_volume sizes set before after writes = writes.others Log (λ i lt is. cc)

-- and a reader in its log
pub reads_stay : (tells : Type 0) (reader : RingReader) (before after : Image) → (tells → after Log ≡ before Log) → ReadsOn tells reader reader before after
reads_stay tells reader before after same = record {
  name = refl;
  size = refl;
  start = refl;
  on = omega arith;
  known = λ known. known_same before after (same known.told) tells reader known;
  ends = λ known. ap (λ (commits : List Commit). reader.position + log_bytes commits) (left_same before after (same known.told) reader);
  count = λ known. ap (λ (commits : List Commit). reader.number + length commits) (left_same before after (same known.told) reader);
}

-- what is left of the log
abbrev pub log_in : RingReader → Image → LogLeft
log_in reader seen = record { name = reader.name; after = reader.number; commits = left_in reader seen }

module _ (tells : Type 0) (reader new : RingReader) (before after : Image) (bytes : List ℕ) (order : IsReader reader) where
  -- the reader after these bytes
  abbrev moved : RingReader
  moved = record reader { position = reader.position + length bytes; number = reader.number + 1 }

  -- of a log that is known the next group is the first one
  abbrev pub FindsNext : Result Bool PageFault → Type 0
  FindsNext result = IsLogKnown tells reader before → IsNextOf reader.size reader.name (ring_byte reader.size before) reader.position reader.number bytes (left_in reader before) result

  -- a group was read
  module _ (same : after Log ≡ before Log) (moves : new ≡ moved) (known : IsLogKnown tells reader before)
      (next : IsNextOf reader.size reader.name (ring_byte reader.size before) reader.position reader.number bytes (left_in reader before) (Ok true)) where
    whole : log_bytes (left_in reader before) ≡ length bytes + log_bytes next.1
    whole = let split : log_bytes (left_in reader before) ≡ log_bytes (next.0 ∷ next.1) = ap log_bytes next.2 in omega (arith, split, bytes_cons next.0 next.1, next.4)

    left_moved : left_in moved before ≡ next.1
    left_moved = left_is moved before next.1 next.5 (omega (arith, whole, known.room, order.from))

    known_moved : IsLogKnown tells moved before
    known_moved = record {
      told = known.told;
      ring = known.ring;
      log = subst (λ (commits : List Commit). IsLog (ring_byte reader.size before) reader.name (reader.position + length bytes) (reader.number + 1) commits) (sym left_moved) next.5;
      room = let left : log_bytes (left_in moved before) ≡ log_bytes next.1 = ap log_bytes left_moved in omega (arith, left, whole, known.room);
    }

    pub left_new : left_in new after ≡ next.1
    left_new = ap (λ (r : RingReader). left_in r after) moves ∙ left_same before after same moved ∙ left_moved

    pub known_new : IsLogKnown tells new after
    known_new = subst (λ (r : RingReader). IsLogKnown tells r after) (sym moves) (known_same before after same tells moved known_moved)

    pub ends_new : new.position + log_bytes (left_in new after) ≡ reader.position + log_bytes (left_in reader before)
    ends_new =
        let at : new.position ≡ reader.position + length bytes = ap (λ (r : RingReader). r.position) moves in
        let left : log_bytes (left_in new after) ≡ log_bytes next.1 = ap log_bytes left_new in
        omega (arith, at, left, whole)

    pub count_new : new.number + length (left_in new after) ≡ reader.number + length (left_in reader before)
    count_new =
        let at : new.number ≡ reader.number + 1 = ap (λ (r : RingReader). r.number) moves in
        let left : length (left_in new after) ≡ length next.1 = ap length left_new in
        let split : length (left_in reader before) ≡ length next.1 + 1 = ap length next.2 ∙ omega arith in
        omega (arith, at, left, split)

  -- the reader stands where it stood
  stood : (tells → after Log ≡ before Log) → new ≡ reader → ReadsOn tells reader new before after
  stood same moves = subst (λ (r : RingReader). ReadsOn tells reader r before after) (sym moves) (reads_stay tells reader before after same)

  pub reads_next : (result : Result Bool PageFault) → (tells → after Log ≡ before Log) → MovesReader reader new bytes result → FindsNext result → ReadsOn tells reader new before after
  reads_next (Ok true) same moves next = record {
    name = ap (λ (r : RingReader). r.name) moves;
    size = ap (λ (r : RingReader). r.size) moves;
    start = ap (λ (r : RingReader). r.start) moves;
    on = let at : new.position ≡ reader.position + length bytes = ap (λ (r : RingReader). r.position) moves in omega (arith, at);
    known = λ known. known_new (same known.told) moves known (next known);
    ends = λ known. ends_new (same known.told) moves known (next known);
    count = λ known. count_new (same known.told) moves known (next known);
  }
  reads_next (Ok false) same moves next = stood same moves
  reads_next (Err fault) same moves next = stood same moves

  -- the group of the first commit was read, or none is left
  pub next_found : (result : Result Bool PageFault) → (tells → after Log ≡ before Log) → MovesReader reader new bytes result → FindsNext result → IsLogKnown tells reader before
      → IfOk result (λ found. IsNextGroup found (log_in reader before) (log_in new after) bytes)
  next_found (Ok true) same moves finds known =
      let next = finds known in (
        next.0,
        next.2 ∙ ap (λ (commits : List Commit). next.0 ∷ commits) (sym (left_new (same known.told) moves known next)),
        ap (λ (r : RingReader). r.name) moves,
        ap (λ (r : RingReader). r.number) moves,
        next.3,
      )
  next_found (Ok false) same moves finds known = (
    finds known,
    ap (λ (r : RingReader). log_in r after) moves
        ∙ ap (λ (commits : List Commit). let log : LogLeft = record { name = reader.name; after = reader.number; commits = commits } in log) (left_same before after (same known.told) reader),
  )
  next_found (Err fault) same moves finds known = tt

  -- less is left to be read
  pub next_shorter : (result : Result Bool PageFault) → MovesReader reader new bytes result → IsReader new
      → IfOk result (λ found. found ≡ true → length bytes + ((new.start + new.size) - new.position) ≤ (reader.start + reader.size) - reader.position)
  next_shorter (Ok true) moves stands = λ is.
      let at : new.position ≡ reader.position + length bytes = ap (λ (r : RingReader). r.position) moves in
      let start : new.start ≡ reader.start = ap (λ (r : RingReader). r.start) moves in
      let size : new.size ≡ reader.size = ap (λ (r : RingReader). r.size) moves in
      omega (arith, at, start, size, stands.upto)
  next_shorter (Ok false) moves stands = λ is. absurd (cc)
  next_shorter (Err fault) moves stands = tt

  -- why the group could not be read
  pub next_cause : {more : Type 0} (a b : ℕ) (result : Result Bool PageFault) → a ≤ b → (result ≡ Err Failed → Rose a b) → FindsNext result → HasPageCause (more × IsLogKnown tells reader before) a b result
  next_cause a b (Ok found) later rose finds = record { later = later; failed = tt; whole = λ known. tt }
  next_cause a b (Err Failed) later rose finds = record { later = later; failed = λ is. rose refl; whole = λ known. refl }
  next_cause a b (Err (Damaged damage)) later rose finds = record { later = later; failed = λ is. absurd (cc); whole = λ known. absurd (finds known.1) }
