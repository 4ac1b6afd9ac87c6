-- What stands on pages is known after each step of a savepoint.
use Rattle.std.proofs.Common.{◌≡◌, inl, inr, ℕ, ◌*◌, ◌<◌, ◌≤◌, List, length, get_or, Bool, ap, sym, subst, ◌∙◌, arith}
use Rattle.std.specs.Prelude.{sum}
use Rattle.mdb_model.specs.declared.fault.Device.{Device}
use Rattle.mdb_model.specs.Images.{Image, size_of}
use Rattle.mdb_host.specs.Disk.{Agree, SameSizes, Torn}
use Rattle.mdb_host.specs.MemoryLaws.{same_device}
use Rattle.mdb_host.proofs.Moments.{same_image}
use Rattle.free_blocks.specs.Free.{IsFree}
use Rattle.mdb_bytes.specs.declared.converter_pages.ConverterEntry.{ConverterEntry}
use Rattle.volume_disk.specs.Blocks.{Writes}
use Rattle.volume_disk.proofs.Writes.{area_same}
use Rattle.gate_slots.specs.declared.place.SlotPlace.{SlotPlace}
use Rattle.gate_slots.specs.Steps.{SlotsTorn}
use Rattle.savepoint.specs.Stands.{restart_place}
use Rattle.savepoint.proofs.StandsSteps.{switch_blocks}
use Rattle.converter.specs.Maps.{Maps, block_of, HasAt, IsSoundMaps, frozen_as_saved}
use Rattle.converter.specs.Own.{OwnOnly}
use Rattle.converter.proofs.Sound.{none_there}
use Rattle.page_store.specs.Store.{Store, IsStore, FramesMatch, IsKnown}
use Rattle.page_store.specs.Steps.{frozen_now}

pub frozen_reads : (s : Store) (seen : Image) → FramesMatch s seen → FramesMatch (frozen_now s) seen
frozen_reads s seen reads q b bytes le some has quiet frame = reads q b bytes le some was quiet frame
  where
    was : HasAt s.maps q b
    was = elim has [
      | inl present ↦ inl present
      | inr kept ↦ elim kept [
        | inl saved ↦ inr (inl saved)
        | inr frozen ↦ inl frozen
      ]
    ]

pub settled_reads : (s : Store) (f : List Bool) (seen : Image) → FramesMatch s seen → FramesMatch record s { maps = frozen_as_saved s.maps; free = f } seen
settled_reads s f seen reads q b bytes le some has quiet frame = reads q b bytes le some was quiet frame
  where
    was : HasAt s.maps q b
    was = elim has [
      | inl present ↦ inl present
      | inr kept ↦ elim kept [
        | inl saved ↦ inr (inr saved)
        | inr none ↦ absurd (omega (arith, some, sym none, ap (λ (e : ConverterEntry). e.block) (none_there (length s.maps.frozen) q)))
      ]
    ]

pub agree_known : (T : Type 0) (s : Store) (a b : Image) → (T → Agree a b) → IsKnown T s a → IsKnown T s b
agree_known T s a b agree known = subst (λ (x : Image). IsKnown T s x) (same_image a b (agree known.told)) known

small_block : (s : Store) (q b : ℕ) → IsSoundMaps s.maps → IsStore s → HasAt s.maps q b → b < sum s.sizes
small_block s q b sound store has = elim has [
  | inl present ↦ omega (arith, present, store.blocks, (sound.present_small q).0)
  | inr kept ↦ elim kept [
    | inl saved ↦ omega (arith, saved, store.blocks, (sound.saved_small q).0)
    | inr frozen ↦ omega (arith, frozen, store.blocks, (sound.frozen_small q).0)
  ]
]

pub own_known : (T : Type 0) (s : Store) (m : Maps) (f : List Bool) (a b : Image) → IsSoundMaps s.maps → IsStore s → OwnOnly s.maps m → (T → Writes s.sizes (IsFree s.free) a b) → IsKnown T s a → IsKnown T record s { maps = m; free = f } b
own_known T s m f a b sound store own writes known = record {
  told = known.told;
  reads = λ q c bytes le some has quiet frame.
      let page : s.maps.conv ≤ q = omega (arith, own.conv, le) in
      let was : HasAt s.maps q c = elim has [
        | inl present ↦ inl (ap (λ (e : ConverterEntry). e.block) (sym (own.present q page)) ∙ present)
        | inr kept ↦ elim kept [
          | inl saved ↦ inr (inl (ap (λ (l : List ConverterEntry). block_of l q) (sym own.saved) ∙ saved))
          | inr frozen ↦ inr (inr (ap (λ (e : ConverterEntry). e.block) (sym (own.pages q page)) ∙ frozen))
        ]
      ] in
      (writes known.told).outside c (small_block s q c sound store was) (λ free. (store.unused c free).1 (q, was)) ∙ known.reads q c bytes page some was quiet frame;
  there = area_same s.sizes a b (writes known.told).same_sizes known.there;
}

torn_sizes : (d : Device) (at n : ℕ) (a b : Image) → Torn d at n a b → SameSizes a b
torn_sizes d at n a b torn e = elim (same_device e d) [
  | inl is ↦ subst (λ (x : Device). size_of (b x) ≡ size_of (a x)) (sym is) torn.size
  | inr other ↦ ap size_of (torn.others e other)
]

pub switch_known : (T : Type 0) (s : Store) (place : SlotPlace) (a b : Image) → IsSoundMaps s.maps → place ≡ restart_place → 2 ≤ get_or s.sizes 0 0 → (T → SlotsTorn place a b) → IsKnown T s a → IsKnown T s b
switch_known T s place a b sound at big torn known = record {
  told = known.told;
  reads = λ q c bytes le some has quiet frame.
      switch_blocks s.sizes a b c big (sound.high q c some has) (subst (λ (p : SlotPlace). SlotsTorn p a b) at (torn known.told)) ∙ known.reads q c bytes le some has quiet frame;
  there = area_same s.sizes a b (torn_sizes place.device (8192 * place.page) 16384 a b (torn known.told)) known.there;
}
