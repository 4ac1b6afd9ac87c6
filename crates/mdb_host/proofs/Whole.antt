-- Devices of whole pages stay such.
use Rattle.std.proofs.Common.{◌≡◌, ◌∙◌, inl, inr, ℕ, ◌+◌, ◌*◌, ◌%◌, ◌/◌, List, [], ◌∷◌, length, refl, ap, arith, Option, Some, None}
use Rattle.std.proofs.lemmas.Bool.{cond_both}
use Rattle.std.proofs.lemmas.List.{length-replicate}
use Rattle.mdb_model.specs.declared.fault.Device.{Device}
use Rattle.mdb_model.specs.Images.{Image, size_of, bytes_of}
use Rattle.mdb_host.specs.Disk.{SameSizes}
use Rattle.mdb_host.specs.declared.call.Call.{Call}
use Rattle.mdb_host.specs.declared.call.Range.{Range}
use Rattle.mdb_host.specs.declared.call.Call.TheVariants.{Wrote, Tore, Synced, Made, Removed, Said, Idle}
use Rattle.mdb_host.specs.Memory.{AllWhole, put, with_device, zeros, Shape, after, shape, any_settles, digit, by_digit, picked}
use Rattle.mdb_host.specs.MemoryLaws.{same_device, torn_put, torn_sizes, with_here, with_other}
use Rattle.mdb_host.proofs.Picked.{torn_by_digit}

-- devices of one size have as many bytes
pub same_length : (a b : Option (List ℕ)) → size_of a ≡ size_of b → length (bytes_of a) ≡ length (bytes_of b)
same_length None None is = refl
same_length None (Some b) is = cc
same_length (Some a) None is = cc
same_length (Some a) (Some b) is = cc

pub whole_sizes : (old new : Image) → SameSizes old new → AllWhole old → AllWhole new
whole_sizes old new same whole d = ap (λ (n : ℕ). n % 8192) (same_length (new d) (old d) (same d)) ∙ whole d

whole_put : (d : Device) (at : ℕ) (bytes : List ℕ) (image : Image) → AllWhole image → AllWhole (put d at bytes image)
whole_put d at bytes image whole = whole_sizes image (put d at bytes image) (torn_sizes d at (length bytes) image (put d at bytes image) (torn_put d at (length bytes) bytes image refl)) whole

whole_with : (d : Device) (now : Option (List ℕ)) (image : Image) → length (bytes_of now) % 8192 ≡ 0 → AllWhole image → AllWhole (with_device d now image)
whole_with d now image is whole e = elim (same_device e d) [
  | inl here ↦ ap (λ (x : Device). length (bytes_of (with_device d now image x)) % 8192) here ∙ ap (λ o. length (bytes_of o) % 8192) (with_here d now image) ∙ is
  | inr other ↦ ap (λ o. length (bytes_of o) % 8192) (with_other d e now image other) ∙ whole e
]

whole_zeros : (pages : ℕ) → length (zeros pages) % 8192 ≡ 0
whole_zeros pages = omega (arith, length-replicate {A = ℕ} (8192 * pages) 0)

whole_by_digit : (n : ℕ) (r : Range) (image : Image) → AllWhole image → AllWhole (by_digit n r image)
whole_by_digit n r image whole = whole_sizes image (by_digit n r image) (torn_sizes r.device r.at (length r.bytes.items) image (by_digit n r image) (torn_by_digit n r image)) whole

whole_after : (call : Call) (s : Shape) → AllWhole s.seen → AllWhole (after call s).seen
whole_after (Wrote r) s whole = whole_put r.device r.at r.bytes.items s.seen whole
whole_after (Tore r) s whole = whole
whole_after (Synced d) s whole = whole
whole_after (Made d pages) s whole = whole_with d (Some (zeros pages)) s.seen (whole_zeros pages) whole
whole_after (Removed d) s whole = whole_with d None s.seen refl whole
whole_after (Said text) s whole = whole
whole_after Idle s whole = whole

pub whole_shape : (calls : List Call) (s : Shape) → AllWhole s.seen → AllWhole (shape calls s).seen
whole_shape [] s whole = whole
whole_shape (call ∷ calls) s whole = whole_shape calls (after call s) (whole_after call s whole)

pub whole_picked : (pick : ℕ) (calls : List Call) (k : ℕ) (image : Image) → AllWhole image → AllWhole (picked pick k calls image)
whole_picked pick [] k image whole = whole
whole_picked pick (Wrote r ∷ calls) k image whole =
    cond_both (any_settles calls r.device) (picked pick k calls (put r.device r.at r.bytes.items image)) (picked pick (k + 1) calls (by_digit (digit pick k) r image)) AllWhole
    (λ is. whole_picked pick calls k (put r.device r.at r.bytes.items image) (whole_put r.device r.at r.bytes.items image whole))
    (λ out. whole_picked pick calls (k + 1) (by_digit (digit pick k) r image) (whole_by_digit (digit pick k) r image whole))
whole_picked pick (Tore r ∷ calls) k image whole =
    cond_both (any_settles calls r.device) (picked pick k calls image) (picked pick (k + 1) calls (by_digit (digit pick k) r image)) AllWhole
    (λ is. whole_picked pick calls k image whole)
    (λ out. whole_picked pick calls (k + 1) (by_digit (digit pick k) r image) (whole_by_digit (digit pick k) r image whole))
whole_picked pick (Synced d ∷ calls) k image whole = whole_picked pick calls k image whole
whole_picked pick (Made d pages ∷ calls) k image whole = whole_picked pick calls k (with_device d (Some (zeros pages)) image) (whole_with d (Some (zeros pages)) image (whole_zeros pages) whole)
whole_picked pick (Removed d ∷ calls) k image whole = whole_picked pick calls k (with_device d None image) (whole_with d None image refl whole)
whole_picked pick (Said text ∷ calls) k image whole = whole_picked pick calls k image whole
whole_picked pick (Idle ∷ calls) k image whole = whole_picked pick calls k image whole

-- the pages of a device of whole pages
pub whole_pages : (o : Option (List ℕ)) (bytes : ℕ) → size_of o ≡ Some bytes → length (bytes_of o) % 8192 ≡ 0 → size_of o ≡ Some (bytes / 8192 * 8192)
whole_pages None bytes is whole = cc
whole_pages (Some old) bytes is whole =
    let len : length old ≡ bytes = cc in
    is ∙ ap Some (omega (arith, whole, len))
