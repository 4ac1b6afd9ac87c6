-- What stands on a page and on a block.
use Rattle.std.proofs.Common.{◌≡◌, ℕ, ◌+◌, ◌-◌, ◌*◌, ◌<◌, ◌≤◌, min, List, length, take, drop, get_or, sum, Option, None, Some, refl, ap, sym, subst, ◌∙◌, arith, length-take, length-drop}
use Rattle.std.proofs.lemmas.List.{get_or-take, get_or-drop, ext_get_or}
use Rattle.mdb_host.proofs.Whole.{same_length}
use Rattle.mdb_model.specs.declared.fault.Device.{Device}
use Rattle.mdb_model.specs.declared.fault.Device.TheVariants.{Data}
use Rattle.mdb_model.specs.Images.{Image, bytes_of, size_of, byte_at}
use Rattle.mdb_host.specs.Disk.{Has, IsWithin}
use Rattle.volume_disk.specs.Blocks.{place, device_page, block_at, IsArea}
use Rattle.volume_disk.proofs.Places.{place_is}

-- a page of which no byte changed
pub page_kept : (a b : Image) (d : Device) (p : ℕ) → size_of (b d) ≡ size_of (a d)
    → ((k : ℕ) → 8192 * p ≤ k → k < 8192 * p + 8192 → byte_at (b d) k ≡ byte_at (a d) k) → device_page b d p ≡ device_page a d p
unfolding device_page
page_kept a b d p size same = ext_get_or 0 _ _ long each
  where
    bytes : Image → List ℕ
    bytes i = drop (8192 * p) (bytes_of (i d))

    long : length (take 8192 (drop (8192 * p) (bytes_of (b d)))) ≡ length (take 8192 (drop (8192 * p) (bytes_of (a d))))
    long = let e = same_length (b d) (a d) size in simp (length-take, length-drop) (ap (λ (n : ℕ). min 8192 (n - 8192 * p)) e)

    each : (i : ℕ) → i < length (take 8192 (drop (8192 * p) (bytes_of (b d)))) → get_or (take 8192 (drop (8192 * p) (bytes_of (b d)))) i 0 ≡ get_or (take 8192 (drop (8192 * p) (bytes_of (a d)))) i 0
    each i lt =
        let l = length-take 8192 (drop (8192 * p) (bytes_of (b d))) in
        let small : i < 8192 = omega (arith, l, lt) in
        get_or-take 8192 _ i 0 small ∙ get_or-drop (8192 * p) (bytes_of (b d)) i 0 ∙ same (8192 * p + i) (omega arith) (omega (arith, small))
        ∙ sym (get_or-take 8192 _ i 0 small ∙ get_or-drop (8192 * p) (bytes_of (a d)) i 0)

-- a page of a device that is as before
pub page_agrees : (a b : Image) (d : Device) (p : ℕ) → b d ≡ a d → device_page b d p ≡ device_page a d p
unfolding device_page
page_agrees a b d p same = ap (λ (o : Option (List ℕ)). take 8192 (drop (8192 * p) (bytes_of o))) same

-- a page that holds these bytes
pub has_page : (image : Image) (d : Device) (n p : ℕ) (bytes : List ℕ) → IsWithin image d 0 (8192 * n) → p < n → length bytes ≡ 8192 → Has image d (8192 * p) bytes → device_page image d p ≡ bytes
unfolding device_page
has_page image d n p bytes within lt long has = ext_get_or 0 _ _ size each
  where
    whole : (o : Option (List ℕ)) (m : ℕ) → size_of o ≡ Some m → length (bytes_of o) ≡ m
    whole None m is = absurd cc
    whole (Some x) m is = cc

    size : length (take 8192 (drop (8192 * p) (bytes_of (image d)))) ≡ length bytes
    size =
        let w = whole (image d) within.0 within.1 in
        let a = length-take 8192 (drop (8192 * p) (bytes_of (image d))) in
        let b = length-drop (8192 * p) (bytes_of (image d)) in
        omega (arith, w, a, b, within.2, lt, long)

    each : (i : ℕ) → i < length (take 8192 (drop (8192 * p) (bytes_of (image d)))) → get_or (take 8192 (drop (8192 * p) (bytes_of (image d)))) i 0 ≡ get_or bytes i 0
    each i small =
        let l : i < 8192 = omega (arith, size, long, small) in
        get_or-take 8192 _ i 0 l ∙ get_or-drop (8192 * p) (bytes_of (image d)) i 0 ∙ has i (omega (arith, l, long))

-- volumes with one name are one
pub data_is : (v w : ℕ) → Data v ≡ Data w → v ≡ w
data_is v w same = cc

-- the range of a block lies in its volume
pub block_within : (sizes : List ℕ) (image : Image) (b : ℕ) → b < sum sizes → IsArea sizes image → IsWithin image (Data (place 1 sizes b).0) (8192 * (place 1 sizes b).1) 8192
block_within sizes image b lt area =
    let p = place_is 1 sizes b lt in
    let w = area p.i p.there in
    let e : p.i + 1 ≡ (place 1 sizes b).0 = omega (arith, p.volume) in
    (w.0, subst (λ (v : ℕ). size_of (image (Data v)) ≡ Some w.0) e w.1, omega (arith, w.2, p.page))

-- bytes that stand at the place of a block are the block
pub has_block : (sizes : List ℕ) (image : Image) (b : ℕ) (bytes : List ℕ) → b < sum sizes → IsArea sizes image → length bytes ≡ 8192
    → Has image (Data (place 1 sizes b).0) (8192 * (place 1 sizes b).1) bytes → block_at sizes image b ≡ bytes
has_block sizes image b bytes lt area long has =
    let p = place_is 1 sizes b lt in
    let w = area p.i p.there in
    let e : p.i + 1 ≡ (place 1 sizes b).0 = omega (arith, p.volume) in
    has_page image (Data (place 1 sizes b).0) (get_or sizes p.i 0) (place 1 sizes b).1 bytes (subst (λ (v : ℕ). IsWithin image (Data v) 0 (8192 * get_or sizes p.i 0)) e w) p.page long has

-- the range of a place that was computed
pub moved_within : (sizes : List ℕ) (image : Image) (b v p n : ℕ) → v ≡ (place 1 sizes b).0 → p ≡ (place 1 sizes b).1 → n ≡ 8192
    → IsWithin image (Data (place 1 sizes b).0) (8192 * (place 1 sizes b).1) 8192 → IsWithin image (Data v) (8192 * p) n
moved_within sizes image b v p n volume page long within =
    (within.0, subst (λ (w : ℕ). size_of (image (Data w)) ≡ Some within.0) (sym volume) within.1, omega (arith, within.2, page, long))

-- bytes at a place that was computed
pub moved_has : (sizes : List ℕ) (image : Image) (b v p : ℕ) (bytes : List ℕ) → v ≡ (place 1 sizes b).0 → p ≡ (place 1 sizes b).1
    → Has image (Data v) (8192 * p) bytes → Has image (Data (place 1 sizes b).0) (8192 * (place 1 sizes b).1) bytes
moved_has sizes image b v p bytes volume page has =
    subst (λ (w : ℕ). Has image (Data w) (8192 * (place 1 sizes b).1) bytes) volume (subst (λ (q : ℕ). Has image (Data v) (8192 * q) bytes) page has)
