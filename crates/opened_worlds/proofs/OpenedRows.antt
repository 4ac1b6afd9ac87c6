-- The rows of a store that was opened on an image that stands.
--     tables      its pages are tables in order
--     standing_is, committed_is      what the map says as it stands and as committed are its rows
--     rows_fit      they have room as they are
use Rattle.std.proofs.Common.{◌≡◌, inl, inr, refl, sym, ap, subst, ◌∙◌, ℕ, ◌+◌, ◌<◌, ◌≤◌, ◌++◌, true, [], Option, Some, None, IsSome, is_some, arith}
use Rattle.std.specs.Prelude.{option_map, option_to_list, filter_map, nat_lt, if◌then◌else◌, IsTrue}
use Rattle.std.specs.List.{AllByRecursion}
use Rattle.std.specs.FinMap.{get}
use Rattle.std.proofs.lemmas.Bool.{cases_lt}
use Rattle.std.proofs.lemmas.List.{get_or_past}
use Rattle.mdb_model.specs.Pages.{Page, committed}
use Rattle.mdb_model.specs.Space.{both_have_room, has_room, map_has_room}
use Rattle.mdb_model.specs.Tables.{Tables}
use Rattle.mdb_model.specs.Worlds.{World, Live}
use Rattle.mdb_host.specs.Disk.{Disk}
use Rattle.mdb_bytes.specs.declared.converter_pages.ConverterEntry.{ConverterEntry}
use Rattle.mdb_bytes.specs.declared.log_info.LogInfo.{LogInfo}
use Rattle.mdb_bytes.specs.declared.restart_record.RestartRecord.{RestartRecord}
use Rattle.mdb_bytes.specs.Firsts.{no_entry}
use Rattle.mdb_bytes.specs.Forms.{reading}
use Rattle.mdb_bytes.specs.KeptMaps.{KeptMap}
use Rattle.mdb_bytes.specs.PageReadings.{all_images, undo_page_count}
use Rattle.gate_slots.specs.declared.slots.Slots.{Slots}
use Rattle.page_store.proofs.Views.{get_page}
use Rattle.page_store.specs.LogicalPages.{store_pages}
use Rattle.page_store.specs.Store.{Store, block_bytes, block_count, page_block}
use Rattle.leaf_runs.specs.Runs.{rows_in_pages}
use Rattle.leaf_runs.specs.TableAreas.{IsTableArea}
use Rattle.run_forms.specs.Stampless.{bytes_of_pages}
use Rattle.run_forms.proofs.Areas.{area_from_form}
use Rattle.run_forms.proofs.Standing.{standing_are, committed_are}
use Rattle.run_forms.proofs.Stampless.{get_bytes}
use Rattle.store_rows.specs.StoredRows.{stored_rows}
use Rattle.standing.specs.Looks.{look}
use Rattle.standing.specs.WholeStanding.{AreaIsLive}
use Rattle.opened_worlds.specs.Opened.{IsOpenedOn}
use Rattle.opened_worlds.proofs.Live.{area}
use Rattle.opened_worlds.proofs.NoUndo.{none_counted}
use Rattle.opened_worlds.proofs.OpenedMap.{pages_are}

module _ (tells : Type 0) (slots : Slots) (r : RestartRecord) (info : LogInfo) (s : Store) (d : Disk) (w : World) (o : IsOpenedOn tells slots r info s d w)
    (live : w.area ≡ Live) where
  abbrev area_now : AreaIsLive (look d.seen) w
  area_now = area d.seen w r o.stands live o.restart

  abbrev kept : KeptMap
  kept = area_now.kept

  abbrev rows : Tables
  rows = stored_rows s d.seen

  bytes_are : bytes_of_pages kept.pages ≡ store_pages s d.seen
  bytes_are = pages_are tells slots r info s d w o live

  -- what holds of each kept map holds of the record's
  pub first_kept : (P : KeptMap → Type 0) → AllByRecursion P (option_to_list (look d.seen).kept ++ filter_map (λ e. e.1) (look d.seen).snapshots) → P kept
  first_kept P all = (subst (λ o. AllByRecursion P (option_to_list o ++ filter_map (λ e. e.1) (look d.seen).snapshots)) area_now.there all).0

  no_undo : undo_page_count kept.pages ≡ 0
  no_undo = none_counted kept.pages area_now.in_order.form (first_kept (λ kept. all_images kept.pages ≡ []) (o.stands.stage.images refl).maps)

  -- no page is past the area
  none_past : (n : ℕ) → block_count s ≤ n → get (store_pages s d.seen) n ≡ None
  none_past n past =
      let none : page_block s n ≡ 0 = ap (λ (e : ConverterEntry). e.block) (get_or_past s.maps.present (s.maps.conv + n) no_entry (omega (arith, o.sound.present_long, past))) in
      get_page s d.seen n o.sound ∙ ap (λ b. if nat_lt 0 b then Some (block_bytes s d.seen (page_block s n)) else None) none

  some_bytes : (o : Option Page) → option_map (λ page. page.bytes) o ≡ None → is_some o ≡ true → ⊥
  some_bytes None none some = cc
  some_bytes (Some page) none some = cc

  small : (n : ℕ) → IsSome (get kept.pages n) → n < 65536
  small n some = elim (cases_lt n (block_count s)) [
    | inl lt ↦ omega (arith, lt, o.sound.bound)
    | inr past ↦ absurd (some_bytes (get kept.pages n) (sym (get_bytes kept.pages n) ∙ ap (λ pages. get pages n) bytes_are ∙ none_past n past) some)
  ]

  kept_tables : IsTableArea (bytes_of_pages kept.pages)
  kept_tables = area_from_form kept.pages area_now.in_order.form no_undo small

  pub tables : IsTableArea (store_pages s d.seen)
  tables = subst IsTableArea bytes_are kept_tables

  standing_is : reading.standing kept.pages ≡ Some rows
  standing_is = standing_are kept.pages kept_tables ∙ ap (λ pages. Some (rows_in_pages pages)) bytes_are

  pub committed_is : committed reading kept.pages ≡ Some rows
  committed_is = committed_are kept.pages kept_tables ∙ ap (λ pages. Some (rows_in_pages pages)) bytes_are

  pub rows_fit : has_room rows rows 0 0 w.blocks ≡ true
  rows_fit = (λ i. both_have_room (sym standing_is i) (sym committed_is i) (sym no_undo i) 0 w.blocks)
      ∙ first_kept (λ kept. IsTrue (map_has_room reading kept.pages 0 w.blocks)) area_now.room.maps
