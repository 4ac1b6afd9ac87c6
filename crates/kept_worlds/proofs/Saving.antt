-- A savepoint of a database in service.
--     each_stands      at each moment of it each image stands for the world
--     shows_either      and shows the last record or the next one
--     service_saved      after it the database is in service, with the next record
use Rattle.std.proofs.Common.{◌≡◌, ◌≢◌, ◌⊎◌, inl, inr, refl, sym, ap, subst, ◌∙◌, ℕ, ◌+◌, ◌-◌, ◌*◌, ◌<◌, ◌≤◌, Bool, true, false, cond, List, [], ◌∷◌, ◌++◌, drop, map, length, get_or, Option, Some, None, arith, sum, length-append}
use Rattle.std.specs.Prelude.{option_and_then, filter_map, IsTrue, IfSome}
use Rattle.std.specs.List.{AllByRecursion, flat_map}
use Rattle.std.specs.Ordering.{nat_cmp}
use Rattle.std.specs.Cmp.{nat_cmp_total}
use Rattle.std.specs.FinMap.{len, len-empty}
use Rattle.std.specs.FinSet as set
use Rattle.std.proofs.lemmas.Bool.{or_cases, leb-true}
use Rattle.std.proofs.lemmas.List.{get_or-drop}
use Rattle.std.proofs.lemmas.List.Sums.{sum_by-append}
use Rattle.std.proofs.lemmas.Option.{same_Some}
use Rattle.mdb_model.specs.declared.change.Commit.{Commit}
use Rattle.mdb_model.specs.History.{last}
use Rattle.mdb_model.specs.Images.{Image}
use Rattle.mdb_model.specs.Sessions.{group_bytes}
use Rattle.mdb_model.specs.Space.{has_room, is_enough, map_has_room, both_have_room, tree_pages, converter_pages, kept_for_snapshots}
use Rattle.mdb_model.specs.Tables.{Tables}
use Rattle.mdb_model.specs.Worlds.{World, Snapshot}
use Rattle.mdb_host.specs.Disk.{Disk, Agree}
use Rattle.mdb_bytes.specs.declared.converter_pages.ConverterEntry.{ConverterEntry}
use Rattle.mdb_bytes.specs.declared.log_info.LogInfo.{LogInfo}
use Rattle.mdb_bytes.specs.declared.restart_record.RestartRecord.{RestartRecord}
use Rattle.mdb_bytes.specs.Firsts.{leaf_count, no_entry}
use Rattle.mdb_bytes.specs.Forms.{reading}
use Rattle.mdb_bytes.specs.KeptMaps.{KeptMap, Placed}
use Rattle.mdb_bytes.specs.LogReading.{log_bytes}
use Rattle.gate_slots.specs.declared.body.SlotBody.TheVariants.{Restart}
use Rattle.gate_slots.specs.declared.slots.Slots.{Slots}
use Rattle.gate_slots.specs.Slots.{IsReady}
use Rattle.gate_slots.specs.Steps.{Switches, SlotsTorn}
use Rattle.volume_disk.specs.Blocks.{Writes}
use Rattle.converter.specs.Maps.{IsSoundMaps, entry_at, block_of}
use Rattle.savepoint.specs.Stands.{HoldsMap, HasSavepoint, IsMapPlaced, KeepsSlots}
use Rattle.savepoint.proofs.StandsSteps.{slots_stay, holds_moved}
use Rattle.page_store.specs.LogicalPages.{store_pages}
use Rattle.page_store.specs.Stamps.{AreStamped}
use Rattle.page_store.specs.Store.{Store, block_count}
use Rattle.page_store.specs.WholeSavepoint.{CanSave, IsBeside, IsInArea, IsSameArea, Saves, WritesThenSwitches, HasNextMap as IsNextMap, next_record, saved_page, present_page}
use Rattle.leaf_runs.specs.TableAreas.{IsTableArea}
use Rattle.leaf_runs.specs.Runs.{rows_in_pages}
use Rattle.run_forms.specs.Stampless.{bytes_of_pages}
use Rattle.run_forms.proofs.Formed.{area_formed}
use Rattle.run_forms.proofs.Standing.{standing_are, images_are, undo_are, committed_are}
use Rattle.run_forms.proofs.PageCounts.{count_within}
use Rattle.store_rows.specs.StoredRows.{stored_rows, HasRows}
use Rattle.standing.specs.Looks.{Look, LogPoint, look, record_in, record_of, log_info_in, map_of_record, open_medium, saved_in_force, saved_point, IsUnused, IsUnusedBy}
use Rattle.standing.specs.WholeStanding.{LookStands, StandsWhole, AreaStands, AreaIsLive, RoomStands, blocks_in_use, kept_maps, HaveRoomToRedo}
use Rattle.standing.specs.Switching.{IsNext, TellsSaved, KeepsSaved, IsMark, IsNewMap, IsSlotBlock, switched}
use Rattle.standing.specs.RedoRoom.{MapHasRows}
use Rattle.standing.proofs.LookLaws.{look_unused}
use Rattle.standing.proofs.RoomKept.{room_by_rows}
use Rattle.standing.proofs.SavepointStands.{told_keeps}
use Rattle.standing.proofs.SlotBlocks.{slots_write}
use Rattle.standing.proofs.SwitchStands.{switch_shows, switch_stands}
use Rattle.shown_maps.specs.ShownMaps.{shown_map}
use Rattle.shown_maps.proofs.Apart.{blocks_apart, shares_none}
use Rattle.shown_maps.proofs.Shown.{under_root, in_force_shown}
use Rattle.shown_maps.proofs.UsedEntries.{used_all}
use Rattle.kept_worlds.specs.InService.{IsShown, IsInService, AllStand, AtEachMoment, EndsAt, IsPlain, LeadsTo}
use Rattle.kept_worlds.proofs.Calls.{unused_saved, no_maps}
use Rattle.kept_worlds.proofs.MapPages.{pages_shown, places_counted}
use Rattle.kept_worlds.proofs.Plain.{kept_none}

one_item : (more before n : ℕ) (b : Bool) → before ≤ n → more ≡ cond b before (before + 1) → more ≤ n + 1
one_item more before n true few is = omega (arith, is, few)
one_item more before n false few is = omega (arith, is, few)

-- a set of the items of a list has no more items
few_items : (xs : List ℕ) → set.len (set.from_list {R = nat_cmp} xs) ≤ length xs
few_items [] = omega (arith, set.len-empty nat_cmp)
few_items (x ∷ xs) =
    (let is : length xs + 1 ≡ length (x ∷ xs) = omega arith in
    subst (λ n. set.len (set.insert (set.from_list {R = nat_cmp} xs) x) ≤ n) is
    (one_item (set.len (set.insert (set.from_list {R = nat_cmp} xs) x)) (set.len (set.from_list {R = nat_cmp} xs)) (length xs) (set.contains (set.from_list {R = nat_cmp} xs) x) (few_items xs) (set.len-insert nat_cmp_total (set.from_list {R = nat_cmp} xs) x)))

-- one block more asks for one page of the converter more at most
one_more : (n : ℕ) → converter_pages n ≤ converter_pages (n - 1) + 1
one_more n = omega arith

enough_blocks : (rows : Tables) (n : ℕ) → has_room rows rows 0 0 n ≡ true → 2 + (2 + tree_pages rows rows) + 2 * converter_pages n ≤ n
enough_blocks t n room = elim (or_cases (is_enough t t 0 0 n) (is_enough t t 0 0 (n - 1)) room) [
  | inl all ↦ omega (arith, leb-true (4 + tree_pages t t + 0 + 2 * converter_pages n + 0 + 160) n all)
  | inr one ↦ omega (arith, one_more n, leb-true (4 + tree_pages t t + 0 + 2 * converter_pages (n - 1) + 0 + 160) (n - 1) one)
]

module _ (tells : Type 0) (slots : Slots) (r : RestartRecord) (info : LogInfo) (saved : LogPoint) (done rest : List Commit) (s : Store) (d e : Disk)
    (commit position : ℕ) (service : IsInService tells slots r info saved (done ++ rest) s d) (sound : IsSoundMaps s.maps) (rows : HasRows tells s d.seen)
    (ends : EndsAt r done position commit) (saves : Saves s slots r commit position d e) where
  abbrev next : RestartRecord
  next = next_record r s.next commit position (block_of saves.map 0)

  abbrev sizes : List ℕ
  sizes = r.volumes.items

  abbrev pages : ℕ → List ℕ
  pages = present_page s d.seen

  abbrev old_map : KeptMap
  old_map = shown_map s.maps.conv s.maps.saved (saved_page s d.seen)

  abbrev new_map : KeptMap
  new_map = shown_map s.maps.conv saves.map pages

  abbrev set_rows : Tables
  set_rows = stored_rows s d.seen

  mark : IsMark r next done
  mark = record { commit = ends.commit; position = ends.position }

  -- One image before and after the step

  module _ (before image : Image) (left : d.may_leave d.now before) (passes : WritesThenSwitches s slots next before image) where
    shown : IsShown r info saved (done ++ rest) (look before)
    shown = service.shown before left

    stands : HasSavepoint sizes r s.maps.saved s.maps.conv (saved_page s d.seen) before
    stands = subst (λ (z : List ℕ). HasSavepoint z r s.maps.saved s.maps.conv (saved_page s d.seen) before) service.sizes ((service.can_save.standing service.told).stands before left)

    abbrev mid : Image
    mid = passes.mid

    big : 2 ≤ get_or sizes 0 0
    big = subst (λ (z : List ℕ). 2 ≤ get_or z 0 0) service.sizes service.can_save.big

    writes : Writes sizes (IsBeside s) before mid
    writes = subst (λ (z : List ℕ). Writes z (IsBeside s) before mid) service.sizes passes.written

    kept : KeepsSlots before mid
    kept = slots_stay sizes (IsBeside s) before mid (λ b is. is.high) writes big

    was_mid : record_in mid ≡ Some r
    was_mid = ap (option_and_then record_of) (kept.force ∙ stands.force)

    there : (look before).kept ≡ Some old_map
    there = (in_force_shown r s.maps.saved s.maps.conv (saved_page s d.seen) before service.conv service.area stands).1

    -- up to the switch an image shows the same
    same : look mid ≡ look before
    same = look_unused before mid r (IsBeside s) writes shown.restart was_mid (record {
      rec = λ some. (old_map, there, unused_saved s.maps.conv (sum sizes) s.maps.saved (saved_page s d.seen) (IsBeside s) service.area (λ q some is. is.unsaved q refl));
      snapshots = no_maps before r _ shown.restart service.bare;
    })

    -- the last record is still in force
    module _ (still : HasSavepoint s.sizes r s.maps.saved s.maps.conv (saved_page s d.seen) image) where
      agreed : Agree mid image → look image ≡ look before
      agreed agree = (λ i. look (λ device. agree device i)) ∙ same

      not_yet : Switches slots (Restart next) mid image → look image ≡ look before
      not_yet switch =
          let is : record_in image ≡ Some r = ap (option_and_then record_of) still.force in
          let torn : Writes sizes IsSlotBlock mid image = slots_write mid image (subst (λ p. SlotsTorn p mid image) service.can_save.place switch.torn) sizes big in
          look_unused mid image r IsSlotBlock torn was_mid is (record {
            rec = λ some. (old_map, ap (λ (l : Look). l.kept) same ∙ there, unused_saved s.maps.conv (sum sizes) s.maps.saved (saved_page s d.seen) IsSlotBlock service.area (λ q some is. omega (arith, is, service.area.high q some)));
            snapshots = no_maps mid r _ was_mid service.bare;
          }) ∙ same

      pub shows_last : look image ≡ look before
      shows_last = elim passes.behind [ inl agree ↦ agreed agree | inr switch ↦ not_yet switch ]

    -- the next record is in force
    module _ (has : IsNextMap s d.seen r commit position saves.map image) (w : World) (st : StandsWhole before w) (plain : IsPlain w) (way : LeadsTo w rest set_rows) where
      there_is : record_in image ≡ Some next
      there_is = ap (option_and_then record_of) has.stands.force

      differ : r ≢ next
      differ e = omega (arith, ap (λ x. x.slot) e)

      not_agreed : Agree mid image → ⊥
      not_agreed agree = differ (same_Some r next (sym was_mid ∙ (λ i. record_in (λ device. sym (agree device) i)) ∙ there_is))

      area : IsInArea s.maps.conv (sum sizes) saves.map
      area = record {
        long = omega (arith, has.area.long, service.blocks);
        own = has.area.own;
        high = has.area.high;
        below = λ q. subst (λ n. block_of saves.map q < n) service.blocks (has.area.below q);
        apart = has.area.apart;
      }

      st_mid : StandsWhole mid w
      st_mid = subst (λ l. LookStands l w) (sym same) st

      live : AreaIsLive (look mid) w
      live = subst (λ a. AreaStands a (look mid) st_mid.info w) plain.live st_mid.area

      shown_mid : IsShown r info saved (done ++ rest) (look mid)
      shown_mid = subst (IsShown r info saved (done ++ rest)) (sym same) shown

      same_record : live.rec ≡ r
      same_record = same_Some live.rec r (sym live.in_force ∙ was_mid)

      same_log : live.rows.log ≡ done ++ rest
      same_log = same_Some live.rows.log (done ++ rest) (sym live.rows.in_log ∙ shown_mid.redo)

      kept_mid : (look mid).kept ≡ Some old_map
      kept_mid = ap (λ (l : Look). l.kept) same ∙ there

      same_map : live.kept ≡ old_map
      same_map = same_Some live.kept old_map (sym live.there ∙ kept_mid)

      blocks_are : w.blocks ≡ sum sizes
      blocks_are = live.sizes.blocks ∙ ap (λ x. sum x.volumes.items) same_record

      kept_is : kept_for_snapshots w ≡ 0
      kept_is = kept_none w plain.no_snapshots

      -- the pages of the new map

      bytes_are : bytes_of_pages new_map.pages ≡ store_pages s d.seen
      bytes_are = pages_shown s d.seen saves.map sound has.entries

      tables_there : IsTableArea (bytes_of_pages new_map.pages)
      tables_there = subst IsTableArea (sym bytes_are) rows.1

      rows_are : rows_in_pages (bytes_of_pages new_map.pages) ≡ set_rows
      rows_are = ap rows_in_pages bytes_are

      map_has : MapHasRows new_map set_rows
      map_has = record {
        standing = standing_are new_map.pages tables_there ∙ ap Some rows_are;
        committed_rows = committed_are new_map.pages tables_there ∙ ap Some rows_are;
        no_undo_pages = undo_are new_map.pages tables_there;
        no_images = images_are new_map.pages tables_there;
      }

      no_shown : (P : _ → Type 0) → AllByRecursion P (look mid).snapshots
      no_shown P = no_maps mid r P was_mid service.bare

      none_beside : (P : KeptMap → Type 0) → AllByRecursion P (filter_map (λ e. e.1) (look mid).snapshots)
      none_beside P = subst (λ xs. AllByRecursion P (filter_map (λ e. e.1) xs)) (sym none) tt
        where
          none : (look mid).snapshots ≡ []
          none = ap (Rattle.standing.specs.Looks.snapshot_maps mid) was_mid ∙ ap (λ xs. map (λ e. (e, Rattle.standing.specs.Looks.map_under mid r e.root)) xs) service.bare

      one_map : (P : KeptMap → Type 0) → P new_map → AllByRecursion P (kept_maps (switched (look mid) next new_map rest))
      one_map P p = (p, none_beside P)

      one_kept : kept_maps (switched (look mid) next new_map rest) ≡ new_map ∷ []
      one_kept = ap (λ xs. new_map ∷ filter_map (λ e. e.1) xs) none
        where
          none : (look mid).snapshots ≡ []
          none = ap (Rattle.standing.specs.Looks.snapshot_maps mid) was_mid ∙ ap (λ xs. map (λ e. (e, Rattle.standing.specs.Looks.map_under mid r e.root)) xs) service.bare

      in_use : blocks_in_use (switched (look mid) next new_map rest) ≤ length new_map.places
      in_use =
          let xs = map (λ (e : Placed). e.1.block) new_map.places in
          let is : blocks_in_use (switched (look mid) next new_map rest) ≡ set.len (set.from_list {R = nat_cmp} (flat_map (λ (kept : KeptMap). map (λ e. e.1.block) kept.places) (new_map ∷ []))) =
          ap (λ (ms : List KeptMap). set.len (set.from_list {R = nat_cmp} (flat_map (λ (kept : KeptMap). map (λ e. e.1.block) kept.places) ms))) one_kept in
          omega (arith, is, few_items (flat_map (λ (kept : KeptMap). map (λ e. e.1.block) kept.places) (new_map ∷ [])), flat_one new_map)
        where
          map_long : (xs : List Placed) → length (map (λ (e : Placed). e.1.block) xs) ≡ length xs
          map_long [] = refl
          map_long (x ∷ xs) = ap Rattle.std.proofs.Common.suc (map_long xs)

          flat_one : (kept : KeptMap) → length (flat_map (λ (kept : KeptMap). map (λ e. e.1.block) kept.places) (kept ∷ [])) ≡ length kept.places
          flat_one kept = length-append (map (λ (e : Placed). e.1.block) kept.places) [] ∙ omega (arith, map_long kept.places)

      room : RoomStands (switched (look mid) next new_map rest) next new_map w
      room = room_by_rows (look mid) w r next old_map new_map done rest set_rows shown_mid.redo mark.commit map_has
          (subst (λ n. HaveRoomToRedo set_rows rest n w.blocks) (sym kept_is) way.to_redo)
          (subst (λ n. has_room set_rows set_rows 0 n w.blocks ≡ true) (sym kept_is) way.fits)
          (subst (λ (x : RestartRecord × KeptMap). RoomStands (look mid) x.0 x.1 w) (λ i. (same_record i, same_map i)) live.room)
          (one_map (λ a. IsTrue (map_has_room reading a.pages 0 w.blocks)) (map_room ∙ way.fits))
          (omega (arith, in_use, places_counted s d.seen saves.map sound has.entries, count_within (store_pages s d.seen) rows.1, enough_blocks set_rows w.blocks way.fits, no_len))
        where
          map_room : map_has_room reading new_map.pages 0 w.blocks ≡ has_room set_rows set_rows 0 0 w.blocks
          map_room = λ i. both_have_room (map_has.standing i) (map_has.committed_rows i) (map_has.no_undo_pages i) 0 w.blocks

          no_len : (len w.snapshots + 2) * converter_pages w.blocks ≡ 2 * converter_pages w.blocks
          no_len = ap (λ n. (n + 2) * converter_pages w.blocks) (ap len plain.no_snapshots ∙ len-empty nat_cmp Snapshot)

      log_long : log_bytes (done ++ rest) ≡ log_bytes done + log_bytes rest
      log_long = sum_by-append (λ (c : Commit). group_bytes c.changes) done rest

      is_new : IsNewMap (look mid) next new_map rest w
      is_new = record {
        in_order = record { blocks_apart = subst (λ n. Rattle.standing.specs.WholeStanding.BlocksAreApart new_map n) (sym blocks_are) (blocks_apart saves.map s.maps.conv (sum sizes) pages area); form = area_formed new_map.pages tables_there };
        start = set_rows;
        in_map = map_has.committed_rows;
        tables = way.aimed;
        number = omega (arith, live.rows.number, mark.commit, ap (λ (x : RestartRecord). x.commit) same_record, ap length same_log, length-append done rest);
        same_end = omega (arith, live.rows.same_end, mark.position, ap (λ (x : RestartRecord). x.position) same_record, ap log_bytes same_log, log_long);
        own = shares_none saves.map s.maps.conv (sum sizes) pages area;
        beside = none_beside _;
        since = subst (λ o. IfSome o (Rattle.standing.specs.WholeStanding.SinceBase new_map)) (sym plain.no_base) tt;
        stamps = used_all (λ (e : Placed). e.1.stamp ≤ s.next) 0 (drop s.maps.conv saves.map)
            (λ i lt some.
            let at : entry_at (drop s.maps.conv saves.map) i ≡ entry_at s.maps.present (s.maps.conv + i) = get_or-drop s.maps.conv saves.map i no_entry ∙ has.entries (s.maps.conv + i) (omega arith) in
            omega (arith, ap (λ (e : ConverterEntry). e.stamp) at, service.stamped.present i));
        room = room;
        images = λ no. map_has.no_images;
      }

      next_one : IsNext (open_medium mid) r next
      next_one = record {
        state = refl;
        name = refl;
        volumes = refl;
        snapshots = refl;
        base = refl;
        pending = λ p. p;
        savepoint = omega (arith, service.can_save.next);
        position = omega (arith, ends.position);
      }

      keeps_saved : KeepsSaved (open_medium mid) (log_info_in mid) r next
      keeps_saved = told_keeps r next (log_info_in mid) (open_medium mid) refl (subst (λ o. TellsSaved o r) (sym shown_mid.log_info) service.tells_saved)

      holds : HoldsMap sizes saves.map s.maps.conv pages image
      holds = subst (λ (z : List ℕ). HoldsMap z saves.map s.maps.conv pages image) service.sizes has.stands.map

      ready_mid : IsReady slots (Restart r) mid
      ready_mid = kept.ready slots (Restart r) service.can_save.place ((service.can_save.standing service.told).ready before left)

      module _ (switch : Switches slots (Restart next) mid image) where
        torn : Writes sizes IsSlotBlock mid image
        torn = slots_write mid image (subst (λ p. SlotsTorn p mid image) service.can_save.place switch.torn) sizes big

        holds_mid : HoldsMap sizes saves.map s.maps.conv pages mid
        holds_mid = holds_moved sizes saves.map s.maps.conv pages image mid (subst (λ (z : List ℕ). IsMapPlaced z saves.map s.maps.conv) service.sizes has.placed)
            (λ c high below q is. sym (torn.outside c below (λ low. omega (arith, low, high)))) holds

        under : map_of_record mid next ≡ Some new_map
        under = under_root r saves.map s.maps.conv pages mid service.conv area holds_mid next refl refl

        shows_next : look image ≡ switched (look mid) next new_map rest
        shows_next = elim (switch_shows slots r next mid image w new_map done rest st_mid plain.live service.can_save.place ready_mid switch next_one keeps_saved shown_mid.redo mark under is_new) [
          | inl last ↦ absurd (differ (same_Some r next (sym was_mid ∙ sym (ap (λ (l : Look). l.restart) last) ∙ there_is)))
          | inr new ↦ new
        ]

        next_stands : StandsWhole image w
        next_stands = switch_stands slots r next mid image w new_map done rest st_mid plain.live service.can_save.place ready_mid switch next_one keeps_saved shown_mid.redo mark under is_new

        next_shown : IsShown next info saved rest (look image)
        next_shown = subst (IsShown next info saved rest) (sym shows_next) (record {
          restart = refl;
          log_info = shown_mid.log_info;
          saved_upto = point;
          redo = refl;
        })
          where
            point : saved_in_force (Some next) (log_info_in mid) (open_medium mid) ≡ saved
            point = keeps_saved ∙ sym (ap (λ o. saved_in_force o (log_info_in mid) (open_medium mid)) was_mid) ∙ shown_mid.saved_upto

      pub stands_next : StandsWhole image w
      stands_next = elim passes.behind [ inl agree ↦ absurd (not_agreed agree) | inr switch ↦ next_stands switch ]

      pub shown_next : IsShown next info saved rest (look image)
      shown_next = elim passes.behind [ inl agree ↦ absurd (not_agreed agree) | inr switch ↦ next_shown switch ]

  -- Each image of each moment

  module _ (w : World) (stand : AllStand w d) (plain : IsPlain w) (way : LeadsTo w rest set_rows) where
    pub each_stands : AtEachMoment d e (λ image. StandsWhole image w)
    each_stands = record {
      keeps = saves.steps.keeps;
      quiet = saves.steps.quiet;
      each = λ at image from upto left.
          let x = saves.steps.since at image from upto left in
          let y = saves.each.since at image from upto left in
          elim y.2 [
            | inl last ↦ subst (λ l. LookStands l w) (sym (shows_last x.0 image x.1 x.2 last)) (stand x.0 x.1)
            | inr has ↦ stands_next x.0 image x.1 x.2 has w (stand x.0 x.1) plain way
          ];
    }

    module _ (t : Store) (slots2 : Slots) (next2 : RestartRecord) (can : CanSave tells slots2 next2 t e) (is : next2 ≡ next_record r s.next commit position (block_of t.maps.saved 0))
        (same_area : IsSameArea s t) (stamped : AreStamped t) (area2 : IsInArea t.maps.conv (block_count t) t.maps.saved) where
      later : r ≢ next2
      later same = omega (arith, ap (λ (x : RestartRecord). x.slot) same, ap (λ (x : RestartRecord). x.slot) is)

      all_shown : (image : Image) → e.may_leave e.now image → IsShown next2 info saved rest (look image)
      all_shown image left =
          let x = saves.steps.since e.now image saves.steps.keeps.later (omega arith) left in
          let y = saves.each.since e.now image saves.steps.keeps.later (omega arith) left in
          let force : record_in image ≡ Some next2 = ap (option_and_then record_of) ((can.standing service.told).stands image left).force in
          elim y.2 [
            | inl last ↦ absurd (later (same_Some r next2 (sym (ap (option_and_then record_of) last.force) ∙ force)))
            | inr has ↦
                subst (λ n. IsShown n info saved rest (look image)) (same_Some next next2 (sym (ap (option_and_then record_of) has.stands.force) ∙ force))
                (shown_next x.0 image x.1 x.2 has w (stand x.0 x.1) plain way)
          ]

      pub service_saved : IsInService tells slots2 next2 info saved rest t e
      service_saved = record {
        told = service.told;
        can_save = can;
        stamped = stamped;
        sizes = same_area.sizes ∙ service.sizes ∙ sym (ap (λ (x : RestartRecord). x.volumes.items) is);
        conv = same_area.conv ∙ service.conv ∙ sym (ap (λ (x : RestartRecord). 1 + leaf_count (sum x.volumes.items)) is);
        blocks = same_area.area ∙ service.blocks ∙ sym (ap (λ (x : RestartRecord). sum x.volumes.items) is);
        area = subst (λ n. IsInArea t.maps.conv n t.maps.saved) (same_area.area ∙ service.blocks ∙ sym (ap (λ (x : RestartRecord). sum x.volumes.items) is)) area2;
        bare = ap (λ (x : RestartRecord). x.snapshots.items) is ∙ service.bare;
        tells_saved = subst (λ (x : RestartRecord). x.name.generation ≤ info.name.generation) (sym is) service.tells_saved;
        shown = all_shown;
      }
