-- What calls on the ring do.
--     RingTorn      some positions hold anything, all else is as before
--     HasBytesAt      these bytes stand from a position on
--     HasGroup      the bytes are the group of the commit that is due
--     IsDue      a log that ends where the next group is to stand, which has room
--     Appends, Appended      each such log is as before or has one commit more; has one commit more
--     HasLog      the log from a position on, and where it ends
use Rattle.std.specs.Prelude.{◌≡◌, ◌⊎◌, ℕ, ◌+◌, ◌<◌, ◌≤◌, List, [], ◌∷◌, ◌++◌, length, get_or}
use Rattle.mdb_model.specs.declared.change.Change.{Change}
use Rattle.mdb_model.specs.declared.change.Commit.{Commit}
use Rattle.mdb_model.specs.declared.fault.Damage.{Damage}
use Rattle.mdb_model.specs.declared.fault.Device.TheVariants.{Log}
use Rattle.mdb_model.specs.declared.fault.Rule.TheVariants.{Group as GroupRule}
use Rattle.mdb_model.specs.declared.name.Name.{Name}
use Rattle.mdb_model.specs.Images.{Image, size_of, byte_at}
use Rattle.mdb_host.specs.Disk.{AgreeBut}
use Rattle.mdb_bytes.specs.Fields.{Spells}
use Rattle.mdb_bytes.specs.Groups.{group_format}
use Rattle.mdb_bytes.specs.LogReading.{IsLog, log_bytes}
use Rattle.mdb_bytes.specs.Rings.{ring_byte, page_at}
use Rattle.mdb_model.specs.Sessions.{group_bytes}

-- q is none of the n positions from a on, nor a turn of the ring away from one
abbrev pub Beside : ℕ → ℕ → ℕ → ℕ → Type 0
Beside size a n q = ((q < a) × (a + n ≤ q + size)) ⊎ ((a + n ≤ q) × (q < a + size))

-- n positions from a on hold anything, all else is as before
pub record RingTorn (size a n : ℕ) (old new : Image) : Type 0 where
  pub others : AgreeBut Log old new
  pub same_size : size_of (new Log) ≡ size_of (old Log)
  pub front : (k : ℕ) → k < 16384 → byte_at (new Log) k ≡ byte_at (old Log) k
  pub beside : (q : ℕ) → Beside size a n q → ring_byte size new q ≡ ring_byte size old q

-- these bytes stand from the position on
abbrev pub HasBytesAt : (ℕ → ℕ) → ℕ → List ℕ → Type 0
HasBytesAt ring p bytes = (i : ℕ) → i < length bytes → ring (p + i) ≡ get_or bytes i 0

-- the bytes are the group of a commit of this number
abbrev pub HasGroup : Name → (number : ℕ) → List ℕ → Type 0
HasGroup name number bytes =
    (changes : List Change) × Spells group_format
    (record { name = name; number = number; changes = changes }) bytes

-- From p on, after commit `after`, stand these commits, and the next group is due at `end` with the
-- number after `last`. A group of n bytes has room there, with a closed gate after it.
pub record IsDue (size : ℕ) (name : Name) (end last n : ℕ) (ring : ℕ
    → ℕ) (p after : ℕ) (commits : List Commit) : Type 0 where
  -- (5) of src/ring.rt
  pub log : IsLog ring name p after commits
  pub ends : p + log_bytes commits ≡ end
  -- (6)
  pub count : after + length commits ≡ last
  -- (7)
  pub room : end + n + 1 ≤ p + size

-- each log that ends here is as before, or has one commit more
pub record Appends (size : ℕ) (name : Name) (end last : ℕ) (changes : List Change) (old new : Image)
    : Type 0 where
  pub others : AgreeBut Log old new
  pub same_size : size_of (new Log) ≡ size_of (old Log)
  pub front : (k : ℕ) → k < 16384 → byte_at (new Log) k ≡ byte_at (old Log) k
  pub log : (p after : ℕ) (commits : List Commit)
      → IsDue size name end last (group_bytes changes) (ring_byte size old) p after commits
      → IsLog (ring_byte size new) name p after commits
      ⊎ IsLog (ring_byte size new) name p after (commits ++ record { changes = changes } ∷ [])

-- each has it
pub record Appended (size : ℕ) (name : Name) (end last : ℕ) (changes : List Change)
    (old new : Image) : Type 0 where
  pub appends : Appends size name end last changes old new
  pub more : (p after : ℕ) (commits : List Commit)
      → IsDue size name end last (group_bytes changes) (ring_byte size old) p after commits
      → IsLog (ring_byte size new) name p after (commits ++ record { changes = changes } ∷ [])

-- the commits of the log from a position on, which have fewer bytes than the ring
pub record HasLog (size : ℕ) (name : Name) (ring : ℕ
    → ℕ) (p after end last : ℕ) (commits : List Commit) : Type 0 where
  pub log : IsLog ring name p after commits
  pub ends : end ≡ p + log_bytes commits
  pub count : last ≡ after + length commits
  pub room : log_bytes commits < size

-- the damage that stands at a gate of the ring
abbrev pub damage_at : (size position : ℕ) → Damage
damage_at size position = record { device = Log; page = page_at size position; rule = GroupRule }
