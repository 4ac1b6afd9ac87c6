-- The stamps of a store that was opened on an image that stands.
--     stamped      none is above the savepoint of the record
use Rattle.std.proofs.Common.{◌≡◌, inl, inr, sym, ap, subst, ◌∙◌, ℕ, ◌+◌, ◌<◌, ◌≤◌, ◌==◌, ◌&&◌, true, List, drop, arith, length-drop}
use Rattle.std.specs.Prelude.{nat_lt}
use Rattle.std.specs.List.{AllByRecursion}
use Rattle.std.proofs.lemmas.Bool.{and_parts, cases_lt, eqb-true, ltb-true, or_cases}
use Rattle.std.proofs.lemmas.List.{get_or-drop, get_or_past}
use Rattle.mdb_model.specs.Worlds.{World, Live}
use Rattle.mdb_host.specs.Disk.{Disk}
use Rattle.mdb_bytes.specs.declared.converter_pages.ConverterEntry.{ConverterEntry}
use Rattle.mdb_bytes.specs.declared.log_info.LogInfo.{LogInfo}
use Rattle.mdb_bytes.specs.declared.restart_record.RestartRecord.{RestartRecord}
use Rattle.mdb_bytes.specs.ConverterPages.{converter_entry_fits}
use Rattle.mdb_bytes.specs.Firsts.{no_entry}
use Rattle.mdb_bytes.specs.KeptMaps.{KeptMap, Placed, placed}
use Rattle.gate_slots.specs.declared.slots.Slots.{Slots}
use Rattle.converter.specs.Maps.{Maps, block_of, entry_at}
use Rattle.converter.proofs.Sound.{none_there}
use Rattle.page_store.specs.Stamps.{AreStamped, page_entry}
use Rattle.page_store.specs.Store.{Store, block_count}
use Rattle.shown_maps.proofs.Differ.{used_at}
use Rattle.opened_worlds.specs.Opened.{IsOpenedOn}
use Rattle.opened_worlds.proofs.Live.{area, same_record}
use Rattle.opened_worlds.proofs.OpenedMap.{kept_is, present_is}
use Rattle.opened_worlds.proofs.OpenedRows.{first_kept}

-- an entry in its form has a block, or no stamp
block_or_bare : (e : ConverterEntry) (most : ℕ) → converter_entry_fits e ≡ true → (0 < e.block → e.stamp ≤ most) → e.stamp ≤ most
block_or_bare e most fits small = elim (or_cases (e.block == 0 && e.stamp == 0) (nat_lt 0 e.block && nat_lt 0 e.stamp) fits) [
  | inl none ↦ omega (arith, eqb-true e.stamp 0 (and_parts (e.block == 0) (e.stamp == 0) none).1)
  | inr some ↦ small (ltb-true 0 e.block (and_parts (nat_lt 0 e.block) (nat_lt 0 e.stamp) some).0)
]

module _ (tells : Type 0) (slots : Slots) (r : RestartRecord) (info : LogInfo) (s : Store) (d : Disk) (w : World) (o : IsOpenedOn tells slots r info s d w)
    (live : w.area ≡ Live) where
  -- the entries of the map that have a block
  in_map : AllByRecursion (λ (e : Placed). e.1.stamp ≤ r.savepoint) (placed (drop s.maps.conv s.maps.saved))
  in_map =
      let now = area d.seen w r o.stands live o.restart in
      let of_kept = first_kept tells slots r info s d w o live (λ kept. AllByRecursion (λ e. e.1.stamp ≤ now.rec.savepoint) kept.places) now.numbers.stamps in
      let of_map = subst (λ (kept : KeptMap). AllByRecursion (λ e. e.1.stamp ≤ now.rec.savepoint) kept.places) (kept_is tells slots r info s d w o live) of_kept in
      subst (λ (x : RestartRecord). AllByRecursion (λ (e : Placed). e.1.stamp ≤ x.savepoint) (placed (drop s.maps.conv s.maps.saved))) (same_record d.seen w r o.stands live o.restart) of_map

  entry_is : (page : ℕ) → entry_at (drop s.maps.conv s.maps.saved) page ≡ entry_at s.maps.saved (s.maps.conv + page)
  entry_is page = get_or-drop s.maps.conv s.maps.saved page no_entry

  small : (page : ℕ) → (entry_at s.maps.saved (s.maps.conv + page)).stamp ≤ r.savepoint
  small page = elim (cases_lt page (block_count s)) [
    | inl lt ↦ block_or_bare (entry_at s.maps.saved (s.maps.conv + page)) r.savepoint ((o.sound.saved_small (s.maps.conv + page)).2 (omega arith))
        (λ some.
        let at = ap (λ (e : ConverterEntry). e.stamp) (entry_is page) in
        let has = ap (λ (e : ConverterEntry). e.block) (entry_is page) in
        omega (
          arith,
          at,
          used_at (λ (e : Placed). e.1.stamp ≤ r.savepoint) 0 (drop s.maps.conv s.maps.saved) in_map page
              (omega (arith, lt, o.sound.saved_long, length-drop s.maps.conv s.maps.saved)) (omega (arith, has, some)),
        ))
    | inr past ↦
        let none = ap (λ (e : ConverterEntry). e.stamp) (get_or_past s.maps.saved (s.maps.conv + page) no_entry (omega (arith, past, o.sound.saved_long))) in
        omega (arith, none)
  ]

  same_entry : (page : ℕ) → (page_entry s page).stamp ≡ (entry_at s.maps.saved (s.maps.conv + page)).stamp
  same_entry page = ap (λ (m : List ConverterEntry). (entry_at m (s.maps.conv + page)).stamp) (present_is tells slots r info s d w o)

  none_frozen : (page : ℕ) → (entry_at s.maps.frozen (s.maps.conv + page)).stamp ≡ 0
  none_frozen page =
      ap (λ (m : Maps). (entry_at m.frozen (s.maps.conv + page)).stamp) o.opened.maps
      ∙ ap (λ (e : ConverterEntry). e.stamp) (none_there _ (s.maps.conv + page))

  pub stamped : AreStamped s
  stamped = record {
    present = λ page. omega (arith, o.opened.next, same_entry page, small page);
    frozen = λ page. omega (arith, o.opened.next, none_frozen page);
    saved = λ page. omega (arith, o.opened.next, small page);
    own = λ page lives. inl (inl (s.maps.conv + page, inl (ap (λ (m : List ConverterEntry). block_of m (s.maps.conv + page)) (sym (present_is tells slots r info s d w o)))));
  }
