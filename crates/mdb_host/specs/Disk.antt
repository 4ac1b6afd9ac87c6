-- What the devices hold, what a crash may leave of them, and what one call may do to that.
use Rattle.std.specs.Prelude.{◌≡◌, ◌⊎◌, ℕ, ◌+◌, ◌/◌, ◌<◌, ◌≤◌, List, ◌++◌, length, get_or, take, replicate, Option, None, Some}
use Rattle.mdb_model.specs.declared.fault.Device.{Device}
use Rattle.mdb_model.specs.Images.{Image, size_of, byte_at}

-- the two agree on every device but d
abbrev pub AgreeBut : Device → Image → Image → Type 0
AgreeBut d old new = (e : Device) → (e ≡ d → ⊥) → new e ≡ old e

abbrev pub Agree : Image → Image → Type 0
Agree old new = (e : Device) → new e ≡ old e

-- k is no place of the n from at on
abbrev pub Outside : ℕ → ℕ → ℕ → Type 0
Outside at n k = (k < at) ⊎ (at + n ≤ k)

-- n bytes of d from at on hold anything, all else is as before
pub record Torn (d : Device) (at n : ℕ) (old new : Image) : Type 0 where
  pub others : AgreeBut d old new
  pub size : size_of (new d) ≡ size_of (old d)
  pub outside : (k : ℕ) → Outside at n k → byte_at (new d) k ≡ byte_at (old d) k

-- these bytes stand at that place of d
abbrev pub Has : Image → Device → ℕ → List ℕ → Type 0
Has image d at bytes = (i : ℕ) → i < length bytes → byte_at (image d) (at + i) ≡ get_or bytes i 0

-- What is known of the devices and the output, now and at each moment before.
pub record Disk : Type 1 where
  pub now : ℕ
  -- what a read gives now
  pub seen : Image
  -- whether a crash at that moment may leave this image
  pub may_leave : ℕ → Image → Type 0
  -- the output at that moment
  pub said : ℕ → List ℕ

-- Time went on from old to new, and what was known of a moment up to old stays.
pub record Keeps (old new : Disk) : Type 0 where
  pub later : old.now ≤ new.now
  pub kept : (t : ℕ) (image : Image) → t ≤ old.now → old.may_leave t image → new.may_leave t image
  pub no_more : (t : ℕ) (image : Image) → t ≤ old.now → new.may_leave t image
      → old.may_leave t image
  pub said : (t : ℕ) → t ≤ old.now → new.said t ≡ old.said t

-- Nothing was said since old, and each image that a crash at a moment since then may leave comes by
-- `step` from one that a crash at old may leave.
pub record Goes (old new : Disk) (step : Image → Image → Type 0) : Type 0 where
  pub keeps : Keeps old new
  pub since : (t : ℕ) (image : Image) → old.now ≤ t → t ≤ new.now → new.may_leave t image
      → (before : Image) × old.may_leave old.now before × step before image
  pub quiet : (t : ℕ) → old.now ≤ t → t ≤ new.now → new.said t ≡ old.said old.now

-- each image that a crash now may leave comes by the step from one at old
abbrev pub Arrives : Disk → Disk → (Image → Image → Type 0) → Type 0
Arrives old new step =
    (image : Image) → new.may_leave new.now image
    → (before : Image) × old.may_leave old.now before × step before image

-- at each moment since old, each image that a crash may leave has `holds` together with what was
-- said by then
pub record HoldsThroughout (old new : Disk) (holds : Image → List ℕ → Type 0) : Type 0 where
  pub keeps : Keeps old new
  pub each : (t : ℕ) (image : Image) → old.now ≤ t → t ≤ new.now → new.may_leave t image
      → holds image (new.said t)

-- One call on a device: a moment more, or none where it failed, an image comes by the step from one
-- before, and so does what a read gives.
pub record Calls (old new : Disk) (step : Image → Image → Type 0) : Type 0 where
  pub no_more_than_one : new.now ≤ old.now + 1
  pub goes : Goes old new step
  pub seen : step old.seen new.seen

-- A front part of the text was said. The devices are as they were.
pub record Says (old new : Disk) (text : List ℕ) : Type 0 where
  pub no_more_than_one : new.now ≤ old.now + 1
  pub keeps : Keeps old new
  pub left : Arrives old new Agree
  pub seen : Agree old.seen new.seen
  pub said : (n : ℕ) × (n ≤ length text) × (new.said new.now ≡ old.said old.now ++ take n text)

-- the device comes to be, with n zero bytes, or stays as it was
pub record Creates (d : Device) (n : ℕ) (old new : Image) : Type 0 where
  pub others : AgreeBut d old new
  pub here : (new d ≡ old d) ⊎ (new d ≡ Some (replicate n 0))

-- the device goes, or stays as it was
pub record Removes (d : Device) (old new : Image) : Type 0 where
  pub others : AgreeBut d old new
  pub here : (new d ≡ old d) ⊎ (new d ≡ None)

-- each device is there in both with the same length, or in none
abbrev pub SameSizes : Image → Image → Type 0
SameSizes old new = (d : Device) → size_of (new d) ≡ size_of (old d)

-- a crash now leaves of d what a read gives
abbrev pub Synced : Disk → Device → Type 0
Synced disk d = (image : Image) → disk.may_leave disk.now image → image d ≡ disk.seen d

-- the range lies in the device
abbrev pub IsWithin : Image → Device → ℕ → ℕ → Type 0
IsWithin image d at n = (size : ℕ) × (size_of (image d) ≡ Some size) × (at + n ≤ size)

abbrev pub IsThere : Image → Device → Type 0
IsThere image d = (size : ℕ) × (size_of (image d) ≡ Some size)

-- the number of whole pages
abbrev pub page_count : Option (List ℕ) → Option ℕ
page_count None = None
page_count (Some bytes) = Some (length bytes / 8192)
