-- The steps of a savepoint up to the switch.
use Rattle.std.proofs.Common.{◌≡◌, ◌∙◌, inl, inr, ℕ, ◌+◌, ◌<◌, ◌≤◌, List, refl, sym, ap, subst, arith}
use Rattle.mdb_model.specs.Images.{Image}
use Rattle.mdb_host.specs.Disk.{Disk, Goes, Agree}
use Rattle.mdb_host.proofs.Moments.{widen, onward, calmly}
use Rattle.mdb_bytes.specs.declared.converter_pages.ConverterEntry.{ConverterEntry}
use Rattle.free_blocks.specs.Free.{IsFree}
use Rattle.free_blocks.specs.Marked.{IsMarked}
use Rattle.volume_disk.specs.Blocks.{IsArea, Writes, block_at}
use Rattle.volume_disk.proofs.Writes.{area_same, writes_agree, writes_on, writes_more}
use Rattle.converter.specs.Maps.{Maps, block_of}
use Rattle.converter.specs.Tree.{HasLeafBytes}
use Rattle.converter.specs.Own.{OwnOnly, SavedLeaves}
use Rattle.savepoint.specs.Stands.{HoldsMap, IsMapPlaced}
use Rattle.page_store.specs.Store.{Store, IsStore, IsKnown, page_block, frozen_block, block_bytes}
use Rattle.page_store.specs.Steps.{MayWrite, KeepsStore, CleansFrames, frozen_now}
use Rattle.page_store.specs.WholeSavepoint.{IsBeside, present_page}

may_beside : (a : Store) (b : ℕ) → MayWrite (frozen_now a) b → IsBeside a b
may_beside a b may = record { high = may.high; unsaved = may.unsaved; unmarked = may.unmarked }

-- a map whose pages are told in other words
pub holds_as : (sizes : List ℕ) (m : List ConverterEntry) (conv : ℕ) (pages other : ℕ → List ℕ) (image : Image) → ((p : ℕ) → 0 < block_of m (conv + p) → pages p ≡ other p) → HoldsMap sizes m conv pages image → HoldsMap sizes m conv other image
holds_as sizes m conv pages other image same holds = record { tree = holds.tree; page = λ p some. holds.page p some ∙ same p some }

abbrev Beside : Store → Image → Image → Type 0
Beside a = Writes a.sizes (IsBeside a)

beside_on : (a : Store) (x y z : Image) → Beside a x y → Beside a y z → Beside a x z
beside_on a = writes_on a.sizes (IsBeside a)

module _ (T : Type 0) (a f t : Store) (d0 d1 : Disk) (is_f : f ≡ frozen_now a) (keeps_f : KeepsStore T f t d0 d1) where
  keeps : KeepsStore T (frozen_now a) t d0 d1
  keeps = subst (λ (s : Store). KeepsStore T s t d0 d1) is_f keeps_f

  pub pages_goes : T → Goes d0 d1 (Writes a.sizes (IsBeside a))
  pages_goes told = widen d0 d1 _ _ (keeps.goes told) (λ x y left w. writes_more a.sizes (MayWrite (frozen_now a)) (IsBeside a) x y (λ k may. may_beside a k may) w)

  pub pages_seen : T → Writes a.sizes (IsBeside a) d0.seen d1.seen
  pages_seen told = writes_more a.sizes (MayWrite (frozen_now a)) (IsBeside a) d0.seen d1.seen (λ k may. may_beside a k may) (keeps.seen told)

  module _ (d2 : Disk) (goes2 : T → Goes d1 d2 Agree) (seen2 : T → Agree d1.seen d2.seen) where
    pub synced_goes : T → Goes d0 d2 (Writes a.sizes (IsBeside a))
    synced_goes told = calmly d0 d1 d2 (Beside a) (λ x y z w same. beside_on a x y z w (writes_agree a.sizes (IsBeside a) y z same)) (pages_goes told) (goes2 told)

    pub synced_seen : T → Writes a.sizes (IsBeside a) d0.seen d2.seen
    synced_seen told = beside_on a d0.seen d1.seen d2.seen (pages_seen told) (writes_agree a.sizes (IsBeside a) d1.seen d2.seen (seen2 told))

    module _ (p : Store) (is_p : p ≡ t) (turned : CleansFrames f t) where
      -- the store, in words of the first one
      p_is : p ≡ record (frozen_now a) { changed = t.changed }
      p_is = is_p ∙ turned.same ∙ ap (λ (s : Store). record s { changed = t.changed }) is_f

      pub synced_there : (T → IsArea a.sizes d0.seen) → T → IsArea p.sizes d2.seen
      synced_there there told = subst (λ (s : Store). IsArea s.sizes d2.seen) (sym p_is) (area_same a.sizes d0.seen d2.seen (synced_seen told).same_sizes (there told))

      pub synced_leaves : (T → IsMapPlaced a.sizes a.maps.saved a.maps.conv) → (T → SavedLeaves a.maps (block_at a.sizes d0.seen)) → T → SavedLeaves p.maps (block_at p.sizes d2.seen)
      synced_leaves placed leaves told = subst (λ (s : Store). SavedLeaves s.maps (block_at s.sizes d2.seen)) (sym p_is) (λ i below some.
          let same : block_at a.sizes d2.seen (block_of a.maps.saved (i + 1)) ≡ block_at a.sizes d0.seen (block_of a.maps.saved (i + 1)) =
          (synced_seen told).outside _ ((placed told).below (i + 1)) (λ is. is.unsaved (i + 1) refl) in
          subst (λ (row : List ℕ). HasLeafBytes a.maps.saved a.maps.conv i row) (sym same) (leaves told i below some))

      module _ (store : IsStore p) (w : Store) (d3 : Disk) (goes3 : T → Goes d2 d3 (Writes p.sizes (IsFree p.free))) (seen3 : T → Writes p.sizes (IsFree p.free) d2.seen d3.seen) where
        free_beside : (b : ℕ) → IsFree p.free b → IsBeside a b
        free_beside b free = record {
          high = (store.unused b free).0;
          unsaved = λ q is. (store.unused b free).1 (q, inr (inl (ap (λ (s : Store). block_of s.maps.saved q) p_is ∙ is)));
          unmarked = λ marked. store.unmarked b free (subst (λ (s : Store). IsMarked s.marks b) (sym p_is) marked);
        }

        written_step : (x y : Image) → Writes p.sizes (IsFree p.free) x y → Beside a x y
        written_step x y writes = subst (λ (s : Store). Writes s.sizes (IsBeside a) x y) p_is (writes_more p.sizes (IsFree p.free) (IsBeside a) x y free_beside writes)

        pub written_goes : T → Goes d0 d3 (Writes a.sizes (IsBeside a))
        written_goes told = onward d0 d2 d3 (Beside a) (beside_on a) (synced_goes told) (widen d2 d3 _ _ (goes3 told) (λ x y left writes. written_step x y writes))

        pub written_seen : T → Writes a.sizes (IsBeside a) d0.seen d3.seen
        written_seen told = beside_on a d0.seen d2.seen d3.seen (synced_seen told) (written_step d2.seen d3.seen (seen3 told))

      module _ (m : Maps) (own : OwnOnly p.maps m) (known : IsKnown T (frozen_now a) d0.seen) where
        -- what the new map holds, in words of the first store
        pub written_holds : (image : Image) → HoldsMap p.sizes m.frozen m.conv (λ page. block_bytes t d1.seen (frozen_block t page)) image → HoldsMap a.sizes m.frozen a.maps.conv (present_page a d0.seen) image
        written_holds image holds =
            let conv : m.conv ≡ a.maps.conv = own.conv ∙ ap (λ (s : Store). s.maps.conv) p_is in
            let t_is : t ≡ record (frozen_now a) { changed = t.changed } = turned.same ∙ ap (λ (s : Store). record s { changed = t.changed }) is_f in
            let moved : HoldsMap a.sizes m.frozen a.maps.conv (λ page. block_bytes t d1.seen (frozen_block t page)) image =
            subst (λ (x : List ℕ × ℕ). HoldsMap x.0 m.frozen x.1 (λ page. block_bytes t d1.seen (frozen_block t page)) image) (λ i. ((p_is i).sizes, conv i)) holds in
            holds_as a.sizes m.frozen a.maps.conv _ _ image
            (λ page some.
            let high : p.maps.conv ≤ a.maps.conv + page = omega (arith, ap (λ (s : Store). s.maps.conv) p_is) in
            let entry : block_of m.frozen (a.maps.conv + page) ≡ page_block a page =
            ap (λ (e : ConverterEntry). e.block) (own.pages (a.maps.conv + page) high) ∙ ap (λ (s : Store). block_of s.maps.frozen (a.maps.conv + page)) p_is in
            let lives : 0 < page_block a page = omega (arith, entry, some) in
            ap (λ (s : Store). block_bytes t d1.seen (frozen_block s page)) t_is ∙ keeps.bytes known page lives)
            moved
