-- What calls that a host in memory keeps amount to.
--     image_of      the bytes of each device in a row of slots
--     put, with_device      what a write, and a call that makes or removes a device, do to an image
--     shape      what a read gives, what a crash may leave and what was said after some calls
--     disk_of      the same at each moment
--     KeptOrNot, ToreOrNot, SaidOrNot      what a call that failed leaves of itself
--     picked      the image in which each range that is not synced holds what its digit says
use Rattle.std.specs.Prelude.{◌≡◌, ◌⊎◌, ℕ, ◌+◌, ◌*◌, ◌/◌, ◌%◌, ◌^◌, ◌≤◌, List, [], ◌∷◌, ◌++◌, length, take, drop, replicate, Option, None, Some, slice_get, Vec, Bool, false, cond, ◌==◌, ◌||◌}
use Rattle.std.proofs.Common.{nat_le}
use Rattle.std.specs.declared.alloc.Global.{Global}
use Rattle.mdb_model.specs.declared.fault.Device.{Device}
use Rattle.mdb_model.specs.declared.fault.Device.TheVariants.{Data, Log, Medium}
use Rattle.mdb_model.specs.Images.{Image, bytes_of}
use Rattle.mdb_host.specs.Disk.{Disk, Torn, Agree}
use Rattle.mdb_host.specs.declared.call.Call.{Call}
use Rattle.mdb_host.specs.declared.call.Call.TheVariants.{Wrote, Tore, Synced, Made, Removed, Said, Idle}
use Rattle.mdb_host.specs.declared.call.Range.{Range}

-- the number of a device's slot
abbrev pub code : Device → ℕ
code Log = 0
code (Data i) = 2 * i + 1
code (Medium m) = 2 * m + 2

-- what a slot holds
abbrev pub content : Option (Vec ℕ Global) → Option (List ℕ)
content None = None
content (Some v) = Some v.items

-- the same of a place that may lie past the last slot
abbrev pub held : Option (Option (Vec ℕ Global)) → Option (List ℕ)
held None = None
held (Some slot) = content slot

abbrev pub image_of : List (Option (Vec ℕ Global)) → Image
image_of slots d = held (slice_get slots (code d))

-- these bytes over a place of a device, where they have room
abbrev pub written_over : ℕ → List ℕ → Option (List ℕ) → Option (List ℕ)
written_over at bytes None = None
written_over at bytes (Some old) =
    cond (nat_le (at + length bytes) (length old))
    (Some (take at old ++ bytes ++ drop (at + length bytes) old)) (Some old)

abbrev pub put : Device → ℕ → List ℕ → Image → Image
put d at bytes image e = cond (code e == code d) (written_over at bytes (image e)) (image e)

-- the device holds this, or is absent
abbrev pub with_device : Device → Option (List ℕ) → Image → Image
with_device d now image e = cond (code e == code d) now (image e)

abbrev pub zeros : ℕ → List ℕ
zeros pages = replicate (8192 * pages) 0

-- each device has whole pages
abbrev pub AllWhole : Image → Type 0
AllWhole image = (d : Device) → length (bytes_of (image d)) % 8192 ≡ 0

-- what a read gives, what a crash may leave, and what was said
pub record Shape : Type 1 where
  pub seen : Image
  pub left : Image → Type 0
  pub said : List ℕ

-- one that comes by the step from one that was left before
abbrev pub Comes : (Image → Type 0) → (Image → Image → Type 0) → Image → Type 0
Comes left step image = (before : Image) × left before × step before image

abbrev pub after : Call → Shape → Shape
after (Wrote r) s =
    record {
      seen = put r.device r.at r.bytes.items s.seen;
      left = Comes s.left
          (Torn r.device r.at (length r.bytes.items));
      said = s.said;
    }
after (Tore r) s =
    record {
      seen = s.seen;
      left = Comes s.left (Torn r.device r.at (length r.bytes.items));
      said =
          s.said;
    }
after (Synced d) s =
    record { seen = s.seen; left = λ image. s.left image × (image d ≡ s.seen d); said = s.said }
after (Made d pages) s =
    record {
      seen = with_device d (Some (zeros pages)) s.seen;
      left = Comes s.left
          (λ old new. Agree (with_device d (Some (zeros pages)) old) new);
      said = s.said;
    }
after (Removed d) s =
    record {
      seen = with_device d None s.seen;
      left = Comes s.left
          (λ old new. Agree (with_device d None old) new);
      said = s.said;
    }
after (Said text) s = record { seen = s.seen; left = s.left; said = s.said ++ text.items }
after Idle s = s

abbrev pub shape : List Call → Shape → Shape
shape [] s = s
shape (call ∷ calls) s = shape calls (after call s)

abbrev pub at_first : Image → Shape
at_first start = record { seen = start; left = λ image. Agree start image; said = [] }

abbrev pub disk_of : Image → List Call → Disk
disk_of start calls = record {
  now = length calls;
  seen = (shape calls (at_first start)).seen;
  may_leave = λ t image. (t ≤ length calls) × (shape (take t calls) (at_first start)).left image;
  said = λ t. (shape (take t calls) (at_first start)).said;
}

-- whether no range that was written to the device before is left unsynced by the call
abbrev pub settles : Call → Device → Bool
settles (Wrote r) e = false
settles (Tore r) e = false
settles (Synced d) e = code d == code e
settles (Made d pages) e = code d == code e
settles (Removed d) e = code d == code e
settles (Said text) e = false
settles Idle e = false

-- the same of some call of these
abbrev pub any_settles : List Call → Device → Bool
any_settles [] e = false
any_settles (call ∷ calls) e = settles call e || any_settles calls e

-- digit k of the pick in base 4, over and over after the 32nd
abbrev pub digit : ℕ → ℕ → ℕ
digit pick k = pick / 4 ^ (k % 32) % 4

-- a range by its digit: its old bytes, its new ones, only 0x4F, or only 0x00
abbrev pub by_digit : ℕ → Range → Image → Image
by_digit n r image =
    cond (n == 0) image (
    cond (n == 1) (put r.device r.at r.bytes.items image) (
    cond (n == 2) (put r.device r.at (replicate (length r.bytes.items) 79) image)
    (put r.device r.at (replicate (length r.bytes.items) 0) image)
    )
    )

-- The image after these calls, where k ranges that are not synced were met before: each such range
-- holds what its digit says, and all others what a read gives.
abbrev pub picked : ℕ → ℕ → List Call → Image → Image
picked pick k [] image = image
picked pick k (Wrote r ∷ calls) image =
    cond (any_settles calls r.device) (picked pick k calls (put r.device r.at r.bytes.items image))
    (picked pick (k + 1) calls (by_digit (digit pick k) r image))
picked pick k (Tore r ∷ calls) image =
    cond (any_settles calls r.device) (picked pick k calls image)
    (picked pick (k + 1) calls (by_digit (digit pick k) r image))
picked pick k (Synced d ∷ calls) image = picked pick k calls image
picked pick k (Made d pages ∷ calls) image =
    picked pick k calls (with_device d (Some (zeros pages)) image)
picked pick k (Removed d ∷ calls) image = picked pick k calls (with_device d None image)
picked pick k (Said text ∷ calls) image = picked pick k calls image
picked pick k (Idle ∷ calls) image = picked pick k calls image

-- a range of these bytes
abbrev pub RangeOf : Device → ℕ → List ℕ → Range → Type 0
RangeOf d at from r = (r.device ≡ d) × (r.at ≡ at) × (r.bytes.items ≡ from)

-- the call was kept, or nothing was
abbrev pub KeptOrNot : List Call → List Call → Call → Type 0
KeptOrNot old new call = (new ≡ old) ⊎ (new ≡ old ++ call ∷ [])

-- a write that failed was kept, or nothing was
abbrev pub ToreOrNot : List Call → List Call → Device → ℕ → List ℕ → Type 0
ToreOrNot old new d at from =
    (new ≡ old) ⊎ ((r : Range) × RangeOf d at from r × (new ≡ old ++ Tore r ∷ []))

-- a text was kept, and put to the output
abbrev pub SaidIs : List Call → List Call → List ℕ → List ℕ → List ℕ → Type 0
SaidIs old new output output2 text =
    (v : Vec ℕ Global) × (v.items ≡ text) × (new ≡ old ++ Said v ∷ []) × (output2 ≡ output ++ text)

-- the same, or nothing was
abbrev pub SaidOrNot : List Call → List Call → List ℕ → List ℕ → List ℕ → Type 0
SaidOrNot old new output output2 text =
    ((new ≡ old) × (output2 ≡ output)) ⊎ SaidIs old new output output2 text
