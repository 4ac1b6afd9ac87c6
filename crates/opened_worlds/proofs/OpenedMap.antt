-- The map of a store that was opened on the record in force is the one that its image shows.
--     conv_is, count_is, map_area      it is a map of the record's area
--     kept_is      the image shows it
--     present_is      it is the present map
--     pages_are      and without their stamps its pages are those of the store
use Rattle.std.proofs.Common.{◌≡◌, inl, inr, refl, sym, ap, subst, ◌∙◌, ℕ, ◌+◌, List, replicate, get_or, Option, Some, None, arith, sum}
use Rattle.std.specs.Prelude.{unwrap_or}
use Rattle.std.proofs.lemmas.Bool.{cases_lt}
use Rattle.std.proofs.lemmas.List.{get_or-replicate, get_or_past, length-replicate}
use Rattle.std.proofs.lemmas.Option.{same_Some}
use Rattle.mdb_model.specs.Worlds.{World, Live}
use Rattle.mdb_host.specs.Disk.{Disk}
use Rattle.mdb_bytes.specs.declared.log_info.LogInfo.{LogInfo}
use Rattle.mdb_bytes.specs.declared.restart_record.RestartRecord.{RestartRecord}
use Rattle.mdb_bytes.specs.Firsts.{leaf_count}
use Rattle.mdb_bytes.specs.KeptMaps.{KeptMap}
use Rattle.gate_slots.specs.declared.slots.Slots.{Slots}
use Rattle.volume_disk.specs.Blocks.{block_at}
use Rattle.converter.specs.Maps.{Maps, block_of, entry_at}
use Rattle.converter.specs.Tree.{HasRootBytes}
use Rattle.savepoint.specs.Stands.{HoldsMap, HasSavepoint}
use Rattle.page_store.specs.LogicalPages.{store_pages}
use Rattle.page_store.specs.Store.{Store, block_count, page_block, frame_of}
use Rattle.page_store.specs.WholeSavepoint.{IsInArea, saved_page, present_page}
use Rattle.run_forms.specs.Stampless.{bytes_of_pages}
use Rattle.standing.specs.Looks.{look}
use Rattle.standing.specs.WholeStanding.{AreaIsLive}
use Rattle.shown_maps.specs.ShownMaps.{shown_map}
use Rattle.shown_maps.proofs.Shown.{in_force_shown}
use Rattle.kept_worlds.proofs.MapPages.{pages_shown}
use Rattle.opened_worlds.specs.Opened.{IsOpenedOn}
use Rattle.opened_worlds.proofs.Live.{area}

-- one of some items that are the same
all_same : {A : Type 0} (n i : ℕ) (x : A) → get_or (replicate n x) i x ≡ x
all_same n i x = elim (cases_lt i n) [
  | inl lt ↦ get_or-replicate n i x x lt
  | inr past ↦ get_or_past (replicate n x) i x (omega (arith, length-replicate n x, past))
]

module _ (tells : Type 0) (slots : Slots) (r : RestartRecord) (info : LogInfo) (s : Store) (d : Disk) (w : World) (o : IsOpenedOn tells slots r info s d w) where
  -- The area

  pub conv_is : s.maps.conv ≡ 1 + leaf_count (sum r.volumes.items)
  conv_is = ap (λ (m : Maps). m.conv) o.opened.maps

  pub count_is : block_count s ≡ sum r.volumes.items
  count_is = sym o.store.blocks ∙ ap sum o.opened.sizes_are

  pub map_area : IsInArea s.maps.conv (sum r.volumes.items) s.maps.saved
  map_area = record {
    long = omega (arith, o.sound.saved_long, count_is);
    own = λ q lt. omega (arith, o.own q lt);
    high = λ q some. o.sound.high q (block_of s.maps.saved q) some (inr (inl refl));
    below = λ q. omega (arith, (o.sound.saved_small q).0, count_is);
    apart = λ p q some is. sym (o.sound.owned p (block_of s.maps.saved p) some (inr (inl refl))) ∙ o.sound.owned q (block_of s.maps.saved p) some (inr (inl (sym is)));
  }

  -- The map

  holds : HoldsMap r.volumes.items s.maps.saved s.maps.conv (saved_page s d.seen) d.seen
  holds = record {
    tree = record {
      root = subst (λ b. HasRootBytes s.maps.saved s.maps.conv (block_at r.volumes.items d.seen b)) (sym o.read.at) o.read.held;
      leaves = λ i lt. o.read.leaves i (omega (arith, lt));
    };
    page = λ p some. ap (λ (sizes : List ℕ). block_at sizes d.seen (block_of s.maps.saved (s.maps.conv + p))) (sym o.opened.sizes_are);
  }

  savepoint : HasSavepoint r.volumes.items r s.maps.saved s.maps.conv (saved_page s d.seen) d.seen
  savepoint = record { force = o.restart; root = sym o.read.at; map = holds }

  kept_shown : (look d.seen).kept ≡ Some (shown_map s.maps.conv s.maps.saved (saved_page s d.seen))
  kept_shown = (in_force_shown r s.maps.saved s.maps.conv (saved_page s d.seen) d.seen conv_is map_area savepoint).1

  -- Its pages

  pub present_is : s.maps.present ≡ s.maps.saved
  present_is = ap (λ (m : Maps). m.present) o.opened.maps

  no_frame : (b : ℕ) → frame_of s b ≡ None
  no_frame b = ap (λ (frames : List (Option (List ℕ))). get_or frames b None) o.opened.frames ∙ all_same (sum r.volumes.items) b None

  page_same : (page : ℕ) → saved_page s d.seen page ≡ present_page s d.seen page
  page_same page =
      ap (λ (m : List _). block_at s.sizes d.seen (block_of m (s.maps.conv + page))) (sym present_is)
      ∙ sym (ap (λ (o : Option (List ℕ)). unwrap_or o (block_at s.sizes d.seen (page_block s page))) (no_frame (page_block s page)))

  module _ (live : w.area ≡ Live) where
    abbrev area_now : AreaIsLive (look d.seen) w
    area_now = area d.seen w r o.stands live o.restart

    pub kept_is : area_now.kept ≡ shown_map s.maps.conv s.maps.saved (present_page s d.seen)
    kept_is =
        same_Some area_now.kept (shown_map s.maps.conv s.maps.saved (saved_page s d.seen)) (sym area_now.there ∙ kept_shown)
        ∙ ap (shown_map s.maps.conv s.maps.saved) (λ i page. page_same page i)

    pub pages_are : bytes_of_pages area_now.kept.pages ≡ store_pages s d.seen
    pages_are =
        ap (λ (kept : KeptMap). bytes_of_pages kept.pages) kept_is
        ∙ pages_shown s d.seen s.maps.saved o.sound (λ q past. ap (λ (m : List _). entry_at m q) (sym present_is))
