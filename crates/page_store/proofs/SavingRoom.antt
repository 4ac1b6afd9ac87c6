-- The room after a savepoint.
use Rattle.std.proofs.Common.{◌≡◌, ◌∙◌, inl, inr, ℕ, ◌+◌, ◌-◌, ◌<◌, ◌≤◌, List, Bool, None, sym, ap, subst, arith}
use Rattle.std.specs.Prelude.{nat_lt}
use Rattle.std.proofs.lemmas.Bool.{cases_lt}
use Rattle.mdb_bytes.specs.declared.converter_pages.ConverterEntry.{ConverterEntry}
use Rattle.mdb_bytes.specs.declared.restart_record.RestartRecord.{RestartRecord}
use Rattle.mdb_host.specs.Disk.{Disk}
use Rattle.free_blocks.specs.Free.{free_count}
use Rattle.free_blocks.specs.Marked.{IsMarked}
use Rattle.gate_slots.specs.declared.slots.Slots.{Slots}
use Rattle.converter.specs.Maps.{IsSoundMaps, HasAt, block_of}
use Rattle.page_store.specs.Store.{Store, IsStore, block_count, spare_of}
use Rattle.page_store.proofs.Settling.{as_saved}
use Rattle.page_store.specs.WholeSavepoint.{CanSave, IsWritten, live_below, spare_after}
use Rattle.page_store.proofs.Counting.{count_same, free_most, free_exact}
use Rattle.page_store.proofs.Switching.{after}

module _ (T : Type 0) (slots : Slots) (was : RestartRecord) (s w r : Store) (d0 : Disk) (can : CanSave T slots was s d0) (written : IsWritten s w) (is : r ≡ after s w r.free)
    (sound : IsSoundMaps s.maps) (store : IsStore s) (sound_r : IsSoundMaps r.maps) (store_r : IsStore r) where
  big : 2 ≤ block_count s
  big = omega (arith, store.blocks, can.placed.own 0 can.placed.some, can.placed.below 0)

  own : (q : ℕ) → q < s.maps.conv → 0 < block_of s.maps.present q
  own q lt =
      let same : block_of s.maps.present q ≡ block_of s.maps.saved q = ap (λ (e : ConverterEntry). e.block) (as_saved s.maps sound can.thawed q lt) in
      omega (arith, same, can.placed.own q lt)

  conv_is : r.maps.conv ≡ s.maps.conv
  conv_is = ap (λ (x : Store). x.maps.conv) is ∙ written.conv

  area_is : block_count r ≡ block_count s
  area_is = ap (λ (x : Store). block_count x) is ∙ written.area

  thawed_r : r.maps.frozen_at ≡ None
  thawed_r = ap (λ (x : Store). x.maps.frozen_at) is

  saved_is : (q : ℕ) → block_of r.maps.saved q ≡ block_of w.maps.frozen q
  saved_is q = ap (λ (x : Store). block_of x.maps.saved q) is

  present_is : (q : ℕ) → block_of r.maps.present q ≡ block_of w.maps.present q
  present_is q = ap (λ (x : Store). block_of x.maps.present q) is

  as_saved_r : (q : ℕ) → block_of r.maps.present q ≡ block_of r.maps.saved q
  as_saved_r q = elim (cases_lt q s.maps.conv) [
    | inl lt ↦ ap (λ (e : ConverterEntry). e.block) (as_saved r.maps sound_r thawed_r q (omega (arith, lt, conv_is)))
    | inr le ↦ present_is q ∙ ap (λ (e : ConverterEntry). e.block) (written.present q le ∙ sym (written.frozen q le)) ∙ sym (saved_is q)
  ]

  unmarked_r : (b : ℕ) → IsMarked r.marks b → ⊥
  unmarked_r b marked = can.unmarked b (subst (λ (l : List (List Bool)). IsMarked l b) (ap (λ (x : Store). x.marks) is) marked)

  own_r : (q : ℕ) → q < r.maps.conv → 0 < block_of r.maps.present q
  own_r q lt =
      let same : block_of r.maps.present q ≡ block_of w.maps.frozen q = as_saved_r q ∙ saved_is q in
      omega (arith, same, written.placed.own q (omega (arith, lt, conv_is)))

  kept_r : (q b : ℕ) → 0 < b → HasAt r.maps q b → block_of r.maps.present q ≡ b
  kept_r q b some has = elim has [
    | inl present ↦ present
    | inr kept ↦ elim kept [
      | inl saved ↦ as_saved_r q ∙ saved
      | inr frozen ↦ absurd (omega (arith, some, frozen, store_r.thawed thawed_r q))
    ]
  ]

  live_is : live_below r (block_count r) ≡ live_below s (block_count s)
  live_is = ap (live_below r) area_is ∙ count_same _ _ (block_count s) (λ p lt. ap (nat_lt 0)
      (present_is (r.maps.conv + p) ∙ ap (λ (n : ℕ). block_of w.maps.present (n + p)) conv_is ∙ ap (λ (e : ConverterEntry). e.block) (written.present (s.maps.conv + p) (omega arith))))

  exact : free_count r.free + (2 + s.maps.conv + live_below s (block_count s)) ≡ block_count s
  exact =
      let e = free_exact r sound_r store_r kept_r unmarked_r (omega (arith, area_is, big)) own_r in
      omega (arith, e, live_is, conv_is, area_is)

  pub fits_on : r.maps.conv ≤ free_count r.free
  fits_on = omega (arith, can.fits, exact, free_most s sound store big own, conv_is)

  pub spare_is : spare_of r ≡ spare_after s
  spare_is =
      let e : spare_of r ≡ free_count r.free - w.maps.conv = ap spare_of is in
      omega (arith, e, exact, written.conv)
