-- What an image shows of a map on its blocks.
--     under_root, in_force_shown      the law
use Rattle.std.proofs.Common.{◌≡◌, ◌≢◌, refl, sym, ap, subst, ◌∙◌, ℕ, ◌+◌, ◌<◌, ◌==◌, true, false, cond, List, length, map, drop, Option, Some, None, arith, sum}
use Rattle.std.specs.Prelude.{option_and_then, if◌then◌else◌}
use Rattle.std.specs.FinMap.{from_sorted}
use Rattle.std.proofs.lemmas.Bool.{ne_eqb}
use Rattle.std.proofs.lemmas.List.{get_or-drop}
use Rattle.mdb_model.specs.Images.{Image}
use Rattle.mdb_bytes.specs.declared.converter_pages.ConverterEntry.{ConverterEntry}
use Rattle.mdb_bytes.specs.declared.restart_record.RestartRecord.{RestartRecord}
use Rattle.mdb_bytes.specs.Firsts.{leaf_count, no_entry}
use Rattle.mdb_bytes.specs.KeptMaps.{KeptMap, Placed, kept_map, placed, pages_at}
use Rattle.gate_slots.specs.declared.body.SlotBody.TheVariants.{Restart}
use Rattle.volume_disk.specs.Blocks.{block_at}
use Rattle.converter.specs.Maps.{entry_at, block_of}
use Rattle.converter.proofs.Named.{named}
use Rattle.savepoint.specs.Stands.{HoldsMap, HasSavepoint}
use Rattle.standing.specs.Looks.{look, record_of, record_in, map_of_record, map_under}
use Rattle.page_store.specs.WholeSavepoint.{IsInArea}
use Rattle.shown_maps.specs.ShownMaps.{shown_map}
use Rattle.shown_maps.proofs.UsedEntries.{used_map}

module _ (r : RestartRecord) (m : List ConverterEntry) (conv : ℕ) (pages : ℕ → List ℕ) (image : Image) (conv_is : conv ≡ 1 + leaf_count (sum r.volumes.items))
    (area : IsInArea conv (sum r.volumes.items) m) (holds : HoldsMap r.volumes.items m conv pages image) where
  abbrev row : ℕ → List ℕ
  row = block_at r.volumes.items image

  -- the pages that stand on the blocks are those of the map
  pages_same : pages_at row (sum r.volumes.items) (placed (drop conv m)) ≡ (shown_map conv m pages).pages
  pages_same = ap from_sorted (used_map (λ e. (e.0, record { stamp = e.1.stamp; bytes = row e.1.block })) (λ e. (e.0, record { stamp = e.1.stamp; bytes = pages e.0 })) 0 (drop conv m)
      (λ i lt some j. (0 + i, record { stamp = (entry_at (drop conv m) i).stamp; bytes = bytes i some j })))
    where
      bytes : (i : ℕ) → 0 < block_of (drop conv m) i → row (block_of (drop conv m) i) ≡ pages (0 + i)
      bytes i some =
          let at : block_of (drop conv m) i ≡ block_of m (conv + i) = ap (λ (e : ConverterEntry). e.block) (get_or-drop conv m i no_entry) in
          let number : i ≡ 0 + i = omega arith in
          ap row at ∙ holds.page i (omega (arith, some, at)) ∙ ap pages number

  map_is : kept_map row (sum r.volumes.items) (block_of m 0) ≡ Some (shown_map conv m pages)
  map_is = named row m conv (sum r.volumes.items) conv_is area.long holds.tree
      ∙ (λ i. Some (record { converter = (shown_map conv m pages).converter; places = (shown_map conv m pages).places; pages = pages_same i }))

  pub under_root : (next : RestartRecord) → next.volumes ≡ r.volumes → next.root ≡ block_of m 0 → map_of_record image next ≡ Some (shown_map conv m pages)
  under_root next volumes root =
      let some : next.root ≢ 0 = λ z. omega (arith, root, z, area.own 0 (omega (arith, conv_is))) in
      ap (λ b. cond b None (map_under image next next.root)) (ne_eqb next.root 0 some)
      ∙ (λ i. kept_map (block_at (volumes i).items image) (sum (volumes i).items) (root i))
      ∙ map_is

module _ (r : RestartRecord) (m : List ConverterEntry) (conv : ℕ) (pages : ℕ → List ℕ) (image : Image) (conv_is : conv ≡ 1 + leaf_count (sum r.volumes.items))
    (area : IsInArea conv (sum r.volumes.items) m) (stands : HasSavepoint r.volumes.items r m conv pages image) where
  pub in_force_shown : ((look image).restart ≡ Some r) × ((look image).kept ≡ Some (shown_map conv m pages))
  in_force_shown =
      let is : record_in image ≡ Some r = ap (option_and_then record_of) stands.force in
      (is, ap (option_and_then (map_of_record image)) is ∙ under_root r m conv pages image conv_is area stands.map r refl stands.root)
