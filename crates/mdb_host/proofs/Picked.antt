-- A picked image is one that a crash may leave.
use Rattle.std.specs.Prelude.{◌≡◌, ℕ, ◌+◌, List, [], ◌∷◌, length, replicate, Option, None, Some, true, false, cond, ◌==◌, ◌||◌, refl}
use Rattle.std.proofs.Common.{sym, ◌∙◌, ap, eq-eqb}
use Rattle.std.proofs.lemmas.Bool.{cond_both}
use Rattle.std.proofs.lemmas.List.{length-replicate}
use Rattle.mdb_model.specs.declared.fault.Device.{Device}
use Rattle.mdb_model.specs.Images.{Image}
use Rattle.mdb_host.specs.Disk.{Torn}
use Rattle.mdb_host.specs.declared.call.Call.{Call}
use Rattle.mdb_host.specs.declared.call.Range.{Range}
use Rattle.mdb_host.specs.declared.call.Call.TheVariants.{Wrote, Tore, Synced, Made, Removed, Said, Idle}
use Rattle.mdb_host.specs.Memory.{code, written_over, put, with_device, zeros, Shape, after, shape, settles, any_settles, digit, by_digit, picked}
use Rattle.mdb_host.specs.MemoryLaws.{torn_put, torn_same, put_other}

pub torn_by_digit : (n : ℕ) (r : Range) (image : Image) → Torn r.device r.at (length r.bytes.items) image (by_digit n r image)
torn_by_digit n r image =
    let len = length r.bytes.items in
    let new = put r.device r.at r.bytes.items image in
    let letters = put r.device r.at (replicate len 79) image in
    let empty = put r.device r.at (replicate len 0) image in
    let P : Image → Type 0 = λ now. Torn r.device r.at len image now in
    cond_both (n == 0) image (cond (n == 1) new (cond (n == 2) letters empty)) P
    (λ is. torn_same r.device r.at len image)
    (λ no. cond_both (n == 1) new (cond (n == 2) letters empty) P
    (λ is. torn_put r.device r.at len r.bytes.items image refl)
    (λ not_new. cond_both (n == 2) letters empty P
    (λ is. torn_put r.device r.at len (replicate len 79) image (length-replicate len 79))
    (λ zero. torn_put r.device r.at len (replicate len 0) image (length-replicate len 0))))

later : (call : Call) (calls : List Call) (e : Device) → any_settles calls e ≡ true → any_settles (call ∷ calls) e ≡ true
later call calls e is = elim (settles call e) as (λ b. b || any_settles calls e ≡ true) [ true ↦ refl | false ↦ is ]

now : (call : Call) (calls : List Call) (e : Device) → settles call e ≡ true → any_settles (call ∷ calls) e ≡ true
now call calls e is = ap (λ b. b || any_settles calls e) is

apart : (calls : List Call) (d e : Device) → any_settles calls d ≡ false → any_settles calls e ≡ true → e ≡ d → ⊥
apart calls d e out within is = let bad : true ≡ false = sym within ∙ ap (any_settles calls) is ∙ out in cc

-- what a device holds is the same in both while it is still to be settled
abbrev Follows : List Call → Image → Image → Type 0
Follows calls seen image = (e : Device) → any_settles calls e ≡ true → image e ≡ seen e

follows_on : (call : Call) (calls : List Call) (seen image : Image) → Follows (call ∷ calls) seen image → Follows calls seen image
follows_on call calls seen image follows e is = follows e (later call calls e is)

follows_put : (call : Call) (calls : List Call) (d : Device) (at : ℕ) (bytes : List ℕ) (seen image : Image) → Follows (call ∷ calls) seen image → Follows calls (put d at bytes seen) (put d at bytes image)
follows_put call calls d at bytes seen image follows e is = ap (λ o. cond (code e == code d) (written_over at bytes o) o) (follows e (later call calls e is))

follows_with : (call : Call) (calls : List Call) (d : Device) (o : Option (List ℕ)) (seen image : Image) → Follows (call ∷ calls) seen image → Follows calls (with_device d o seen) (with_device d o image)
follows_with call calls d o seen image follows e is = ap (λ old. cond (code e == code d) o old) (follows e (later call calls e is))

-- a range that is not synced changes no device that is still to be settled
follows_torn : (call : Call) (calls : List Call) (d : Device) (at n : ℕ) (seen seen2 image image2 : Image) → any_settles calls d ≡ false
    → ((e : Device) → (e ≡ d → ⊥) → seen2 e ≡ seen e) → Torn d at n image image2 → Follows (call ∷ calls) seen image → Follows calls seen2 image2
follows_torn call calls d at n seen seen2 image image2 out others torn follows e is =
    let other = apart calls d e out is in
    torn.others e other ∙ follows e (later call calls e is) ∙ sym (others e other)

module _ (pick : ℕ) where
  pub picked_left : (calls : List Call) (k : ℕ) (s : Shape) (image : Image) → s.left image → Follows calls s.seen image → (shape calls s).left (picked pick k calls image)
  picked_left [] k s image left follows = left
  picked_left (Wrote r ∷ calls) k s image left follows =
      let new = put r.device r.at r.bytes.items image in
      let torn = by_digit (digit pick k) r image in
      cond_both (any_settles calls r.device) (picked pick k calls new) (picked pick (k + 1) calls torn) (shape calls (after (Wrote r) s)).left
      (λ is. picked_left calls k (after (Wrote r) s) new (image, left, torn_put r.device r.at (length r.bytes.items) r.bytes.items image refl) (follows_put (Wrote r) calls r.device r.at r.bytes.items s.seen image follows))
      (λ out. picked_left calls (k + 1) (after (Wrote r) s) torn (image, left, torn_by_digit (digit pick k) r image)
      (follows_torn (Wrote r) calls r.device r.at (length r.bytes.items) s.seen (put r.device r.at r.bytes.items s.seen) image torn out (λ e other. put_other r.device e r.at r.bytes.items s.seen other) (torn_by_digit (digit pick k) r image) follows))
  picked_left (Tore r ∷ calls) k s image left follows =
      let torn = by_digit (digit pick k) r image in
      cond_both (any_settles calls r.device) (picked pick k calls image) (picked pick (k + 1) calls torn) (shape calls (after (Tore r) s)).left
      (λ is. picked_left calls k (after (Tore r) s) image (image, left, torn_same r.device r.at (length r.bytes.items) image) (follows_on (Tore r) calls s.seen image follows))
      (λ out. picked_left calls (k + 1) (after (Tore r) s) torn (image, left, torn_by_digit (digit pick k) r image)
      (follows_torn (Tore r) calls r.device r.at (length r.bytes.items) s.seen s.seen image torn out (λ e other. refl) (torn_by_digit (digit pick k) r image) follows))
  picked_left (Synced d ∷ calls) k s image left follows =
      picked_left calls k (after (Synced d) s) image (left, follows d (now (Synced d) calls d (eq-eqb (code d) (code d) refl))) (follows_on (Synced d) calls s.seen image follows)
  picked_left (Made d pages ∷ calls) k s image left follows =
      picked_left calls k (after (Made d pages) s) (with_device d (Some (zeros pages)) image) (image, left, λ e. refl) (follows_with (Made d pages) calls d (Some (zeros pages)) s.seen image follows)
  picked_left (Removed d ∷ calls) k s image left follows =
      picked_left calls k (after (Removed d) s) (with_device d None image) (image, left, λ e. refl) (follows_with (Removed d) calls d None s.seen image follows)
  picked_left (Said text ∷ calls) k s image left follows = picked_left calls k (after (Said text) s) image left (follows_on (Said text) calls s.seen image follows)
  picked_left (Idle ∷ calls) k s image left follows = picked_left calls k s image left (follows_on Idle calls s.seen image follows)
