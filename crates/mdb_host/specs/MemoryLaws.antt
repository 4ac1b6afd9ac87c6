-- What holds of the shape after any calls.
use Rattle.std.specs.Prelude.{◌≡◌, ◌⊎◌, ℕ, ◌+◌, ◌-◌, ◌≤◌, List, [], ◌∷◌, ◌++◌, length, take, drop, get_or, Option, None, Some, ◌==◌, refl}
use Rattle.std.proofs.Common.{sym, ◌∙◌, ap, subst, nat_le, inl, inr, eq-eqb, arith, length-append, length-drop}
use Rattle.std.proofs.lemmas.List.{get_or_append_left, get_or-append_right, get_or-take, get_or-drop, length-take, take_all}
use Rattle.std.proofs.lemmas.Bool.{cases_eq, cond_both, cond-true, cond-false, leb-true, ne_eqb}
use Rattle.mdb_model.specs.declared.fault.Device.{Device}
use Rattle.mdb_model.specs.declared.fault.Device.TheVariants.{Data, Log, Medium}
use Rattle.mdb_model.specs.Images.{Image, size_of, byte_at}
use Rattle.mdb_host.specs.Disk.{Torn, Outside, Agree, SameSizes}
use Rattle.mdb_host.specs.declared.call.Call.{Call}
use Rattle.mdb_host.specs.declared.call.Call.TheVariants.{Wrote, Tore, Synced, Made, Removed, Said, Idle}
use Rattle.mdb_host.specs.Memory.{code, written_over, put, with_device, zeros, Shape, after, shape, at_first, disk_of}

pub code_is : (a b : Device) → code a ≡ code b → a ≡ b
code_is Log Log same = refl
code_is Log (Data i) same = absurd (omega arith)
code_is Log (Medium m) same = absurd (omega arith)
code_is (Data i) Log same = absurd (omega arith)
code_is (Data i) (Data j) same = let e : i ≡ j = omega arith in ap (λ (n : ℕ). Data n) e
code_is (Data i) (Medium m) same = absurd (omega arith)
code_is (Medium m) Log same = absurd (omega arith)
code_is (Medium m) (Data i) same = absurd (omega arith)
code_is (Medium m) (Medium n) same = let e : m ≡ n = omega arith in ap (λ (n : ℕ). Medium n) e

pub same_device : (a b : Device) → (a ≡ b) ⊎ (a ≡ b → ⊥)
same_device a b = elim (cases_eq (code a) (code b)) [
  | inl same ↦ inl (code_is a b same)
  | inr other ↦ inr (λ is. other (ap code is))
]

pub joined_length : (at : ℕ) (bytes old : List ℕ) → at + length bytes ≤ length old
    → length (take at old ++ bytes ++ drop (at + length bytes) old) ≡ length old
joined_length at bytes old fits =
    omega (
      arith,
      length-append (take at old
          ++ bytes) (drop (at + length bytes) old),
      length-append (take at old) bytes,
      length-take at
          old,
      length-drop (at + length bytes) old,
    )

pub joined_outside : (at : ℕ) (bytes old : List ℕ) (k : ℕ) → at + length bytes ≤ length old
    → Outside at (length bytes) k → get_or (take at old ++ bytes
    ++ drop (at + length bytes) old) k 0 ≡ get_or old k 0
joined_outside at bytes old k fits (inl below) =
    get_or_append_left (take at old ++ bytes) (drop (at + length bytes) old) 0 k
    (omega (arith, length-append (take at old) bytes, length-take at old))
    ∙ get_or_append_left (take at old) bytes 0 k (omega (arith, length-take at old))
    ∙ get_or-take at old k 0 below
joined_outside at bytes old k fits (inr above) =
    let e : at + length bytes + (k - (at + length bytes)) ≡ k = omega arith in
    get_or-append_right (take at old ++ bytes) (drop (at + length bytes) old) (at
    + length bytes) k 0 (omega (arith, length-append (take at old) bytes, length-take at old))
    above
    ∙ get_or-drop (at + length bytes) old (k - (at + length bytes)) 0
    ∙ ap (λ (n : ℕ). get_or old n 0) e

pub over_size : (at : ℕ) (bytes : List ℕ) (o : Option (List ℕ))
    → size_of (written_over at bytes o) ≡ size_of o
over_size at bytes None = refl
over_size at bytes (Some old) =
    cond_both (nat_le (at + length bytes) (length old))
    (Some (take at old ++ bytes ++ drop (at + length bytes) old)) (Some old) (λ o. size_of o
    ≡ Some (length old)) (λ yes. ap (λ (n : ℕ). Some n)
    (joined_length at bytes old (leb-true _ _ yes))) (λ no. refl)

pub over_outside : (at : ℕ) (bytes : List ℕ) (o : Option (List ℕ)) (k : ℕ)
    → Outside at (length bytes) k → byte_at (written_over at bytes o) k ≡ byte_at o k
over_outside at bytes None k out = refl
over_outside at bytes (Some old) k out =
    cond_both (nat_le (at + length bytes) (length old))
    (Some (take at old ++ bytes ++ drop (at + length bytes) old)) (Some old) (λ o. byte_at o k
    ≡ get_or old k 0) (λ yes. joined_outside at bytes old k (leb-true _ _ yes) out) (λ no. refl)

pub put_other : (d e : Device) (at : ℕ) (bytes : List ℕ) (image : Image) → (e ≡ d → ⊥)
    → put d at bytes image e ≡ image e
put_other d e at bytes image other =
    cond-false (code e == code d) (written_over at bytes (image e)) (image e)
    (ne_eqb (code e) (code d) (λ is. other (code_is e d is)))

pub put_here : (d : Device) (at : ℕ) (bytes : List ℕ) (image : Image)
    → put d at bytes image d ≡ written_over at bytes (image d)
put_here d at bytes image =
    cond-true (code d == code d) (written_over at bytes (image d)) (image d)
    (eq-eqb (code d) (code d) refl)

pub with_other : (d e : Device) (now : Option (List ℕ)) (image : Image) → (e ≡ d → ⊥)
    → with_device d now image e ≡ image e
with_other d e now image other =
    cond-false (code e == code d) now (image e)
    (ne_eqb (code e) (code d) (λ is. other (code_is e d is)))

pub with_here : (d : Device) (now : Option (List ℕ)) (image : Image)
    → with_device d now image d ≡ now
with_here d now image = cond-true (code d == code d) now (image d) (eq-eqb (code d) (code d) refl)

-- as many bytes over a place as the range has
pub torn_put : (d : Device) (at n : ℕ) (bytes : List ℕ) (image : Image) → length bytes ≡ n
    → Torn d at n image (put d at bytes image)
torn_put d at n bytes image len = record {
  others = λ e other. put_other d e at bytes image other;
  size = ap size_of (put_here d at bytes image) ∙ over_size at bytes (image d);
  outside =
      λ k out. ap (λ o. byte_at o k) (put_here d at bytes image)
      ∙ over_outside at bytes (image d) k (subst (λ (m : ℕ). Outside at m k) (sym len) out);
}

pub torn_same : (d : Device) (at n : ℕ) (image : Image) → Torn d at n image image
torn_same d at n image = record { others = λ e other. refl; size = refl; outside = λ k out. refl }

pub torn_sizes : (d : Device) (at n : ℕ) (a b : Image) → Torn d at n a b → SameSizes a b
torn_sizes d at n a b torn e = elim (same_device e d) [
  | inl is ↦ subst (λ (x : Device). size_of (b x) ≡ size_of (a x)) (sym is) torn.size
  | inr other ↦ ap size_of (torn.others e other)
]

-- the same device made or removed in two images
pub with_sizes : (d : Device) (now : Option (List ℕ)) (a b : Image) → SameSizes a b
    → SameSizes (with_device d now a) (with_device d now b)
with_sizes d now a b same e = elim (same_device e d) [
  | inl is ↦ subst (λ (x : Device). size_of (with_device d now b x)
      ≡ size_of (with_device d now a x)) (sym is)
      (ap size_of (with_here d now b ∙ sym (with_here d now a)))
  | inr other ↦ ap size_of (with_other d e now b other) ∙ same e
      ∙ ap size_of (sym (with_other d e now a other))
]

pub record Sound (s : Shape) : Type 0 where
  pub seen : s.left s.seen
  pub sizes : (image : Image) → s.left image → SameSizes s.seen image

sound_with : (d : Device) (now : Option (List ℕ)) (seen : Image) (left : Image → Type 0)
    → ((image : Image) → left image → SameSizes seen image)
    → (image : Image) (old : Image) → left old → Agree (with_device d now old) image
    → SameSizes (with_device d now seen) image
sound_with d now seen left sizes image old was is e =
    ap size_of (is e) ∙ with_sizes d now seen old (sizes old was) e

pub sound_after : (call : Call) (s : Shape) → Sound s → Sound (after call s)
sound_after (Wrote r) s sound = record {
  seen =
      (s.seen, sound.seen, torn_put r.device r.at (length r.bytes.items) r.bytes.items s.seen refl);
  sizes =
      λ image left e. torn_sizes r.device r.at (length r.bytes.items) left.0 image left.2 e
      ∙ sound.sizes left.0 left.1 e ∙ sym
      (torn_sizes r.device r.at (length r.bytes.items) s.seen
      (put r.device r.at r.bytes.items s.seen)
      (torn_put r.device r.at (length r.bytes.items) r.bytes.items s.seen refl) e);
}
sound_after (Tore r) s sound = record {
  seen = (s.seen, sound.seen, torn_same r.device r.at (length r.bytes.items) s.seen);
  sizes =
      λ image left e. torn_sizes r.device r.at (length r.bytes.items) left.0 image left.2 e
      ∙ sound.sizes left.0 left.1 e;
}
sound_after (Synced d) s sound =
    record { seen = (sound.seen, refl); sizes = λ image left. sound.sizes image left.0 }
sound_after (Made d pages) s sound = record {
  seen = (s.seen, sound.seen, λ e. refl);
  sizes =
      λ image left. sound_with d (Some (zeros pages)) s.seen s.left sound.sizes image left.0 left.1
      left.2;
}
sound_after (Removed d) s sound = record {
  seen = (s.seen, sound.seen, λ e. refl);
  sizes = λ image left. sound_with d None s.seen s.left sound.sizes image left.0 left.1 left.2;
}
sound_after (Said text) s sound = record { seen = sound.seen; sizes = sound.sizes }
sound_after Idle s sound = sound

pub sound_all : (calls : List Call) (s : Shape) → Sound s → Sound (shape calls s)
sound_all [] s sound = sound
sound_all (call ∷ calls) s sound = sound_all calls (after call s) (sound_after call s sound)

sound_first : (start : Image) → Sound (at_first start)
sound_first start = record { seen = λ e. refl; sizes = λ image same e. ap size_of (same e) }

pub left_now : (start : Image) (calls : List Call)
    → (disk_of start calls).may_leave (disk_of start calls).now (disk_of start calls).seen
left_now start calls = (
  omega arith,
  subst (λ (l : List Call). (shape l (at_first start)).left
      (shape calls (at_first start)).seen) (sym (take_all (length calls) calls (omega arith)))
      (sound_all calls (at_first start) (sound_first start)).seen,
)

pub sizes_now : (start : Image) (calls : List Call) (image : Image)
    → (disk_of start calls).may_leave (disk_of start calls).now image
    → SameSizes (disk_of start calls).seen image
sizes_now start calls image left =
    (sound_all calls (at_first start) (sound_first start)).sizes image
    (subst (λ (l : List Call). (shape l (at_first start)).left image)
    (take_all (length calls) calls (omega arith)) left.1)
