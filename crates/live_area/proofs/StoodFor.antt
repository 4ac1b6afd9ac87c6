-- A world that an image stands for, as far as the program is built.
--     live_now, area_now      its area is in order
--     saved_commits      where its saved commit lies
--     no_images_before, rows_as_they_stand      no before images are kept, so the rows of the map
--         stand as they are committed
--     rows_have_room      its rows have room as they are
use Rattle.std.proofs.Common.{◌≡◌, refl, sym, ap, subst, ◌∙◌, ℕ, ◌+◌, ◌<◌, ◌≤◌, true, List, [], ◌∷◌, ◌++◌, length, Option, Some, None, inr, arith}
use Rattle.std.specs.Prelude.{option_map, option_and_then, option_to_list, filter_map, IfSome, IsTrue}
use Rattle.std.specs.List.{AllByRecursion}
use Rattle.std.specs.FinMap.{FinMap, empty, entries}
use Rattle.std.proofs.lemmas.Option.{same_Some}
use Rattle.mdb_model.specs.declared.change.Commit.{Commit}
use Rattle.mdb_model.specs.History.{last, tables_of, commits_above}
use Rattle.mdb_model.specs.Images.{Image}
use Rattle.mdb_model.specs.Pages.{committed, set_back}
use Rattle.mdb_model.specs.Space.{has_room, map_has_room, both_have_room, kept_for_snapshots}
use Rattle.mdb_model.specs.Tables.{Tables, place_cmp, with_changes, with_commits}
use Rattle.mdb_model.specs.Worlds.{World, Live}
use Rattle.mdb_model.proofs.Computing.{entries-empty}
use Rattle.mdb_bytes.specs.Forms.{reading}
use Rattle.mdb_bytes.specs.KeptMaps.{KeptMap}
use Rattle.mdb_bytes.specs.PageReadings.{all_images, once}
use Rattle.standing.specs.Looks.{look}
use Rattle.standing.specs.RedoRoom.{NoMoreCost}
use Rattle.standing.specs.WholeStanding.{StandsWhole, AreaStands, AreaIsLive, HaveRoomToRedo}
use Rattle.standing.proofs.CostLaws.{room_mono}
use Rattle.kept_worlds.proofs.Plain.{kept_none, saved_within}

abbrev pub BeforeImages : Type 0
BeforeImages = FinMap place_cmp (Option (List ℕ))

-- with no before images rows stand as they are committed
standing_from : (rows : Option Tables) (images : Option BeforeImages) (start : Tables) → images ≡ Some empty → option_and_then (λ rows. option_map (λ images. set_back (entries images) rows) images) rows ≡ Some start → rows ≡ Some start
standing_from None images start none is = absurd cc
standing_from (Some rows) images start none is =
    ap (λ es. Some (set_back es rows)) (sym (entries-empty place_cmp))
    ∙ sym (ap (option_map (λ (images : BeforeImages). set_back (entries images) rows)) none) ∙ is

no_more : (a b : Tables) → NoMoreCost b b a b
no_more a b p = omega arith

same_cost : (a : Tables) → NoMoreCost a a a a
same_cost a p = omega arith

-- rows that have room have it once commits with room were set on them
room_after : (log : List Commit) (rows : Tables) (kept blocks : ℕ) → has_room rows rows 0 kept blocks ≡ true → HaveRoomToRedo rows log kept blocks → has_room (with_commits log rows) (with_commits log rows) 0 kept blocks ≡ true
room_after [] rows kept blocks fits room = fits
room_after (c ∷ cs) rows kept blocks fits room =
    room_after cs (with_changes c.changes rows) kept blocks
    (room_mono (with_changes c.changes rows) (with_changes c.changes rows) rows (with_changes c.changes rows) 0 0 kept blocks (no_more rows (with_changes c.changes rows)) (omega arith) room.0)
    room.1

module _ (image : Image) (w : World) (st : StandsWhole image w) where
  pub live_now : w.area ≡ Live
  live_now = (st.stage.generation refl).0

  abbrev pub area_now : AreaIsLive (look image) w
  area_now = subst (λ a. AreaStands a (look image) st.info w) live_now st.area

  pub saved_commits : (w.history.first ≤ w.saved) × (w.saved ≤ last w.history)
  saved_commits = saved_within w (sym area_now.rows.number ∙ area_now.rows.same_number ∙ ap (λ n. n + length (commits_above w.history w.saved)) st.log.saved)

  abbrev start : Tables
  start = area_now.rows.start

  abbrev kept : KeptMap
  kept = area_now.kept

  -- what holds of each kept map holds of the record's
  first_kept : (P : KeptMap → Type 0) → AllByRecursion P (option_to_list (look image).kept ++ filter_map (λ e. e.1) (look image).snapshots) → P kept
  first_kept P all = (subst (λ o. AllByRecursion P (option_to_list o ++ filter_map (λ e. e.1) (look image).snapshots)) area_now.there all).0

  pub no_images_before : reading.before_images kept.pages ≡ Some empty
  no_images_before = ap once (first_kept (λ kept. all_images kept.pages ≡ []) (st.stage.images refl).maps)

  pub rows_as_they_stand : reading.standing kept.pages ≡ Some start
  rows_as_they_stand = standing_from (reading.standing kept.pages) (reading.before_images kept.pages) start no_images_before area_now.rows.in_map

  start_fits : has_room start start 0 0 w.blocks ≡ true
  start_fits =
      room_mono start start start start 0 (reading.undo_pages kept.pages) 0 w.blocks (same_cost start) (omega arith)
      (sym (λ i. both_have_room (rows_as_they_stand i) (area_now.rows.in_map i) (reading.undo_pages kept.pages) 0 w.blocks)
      ∙ first_kept (λ kept. IsTrue (map_has_room reading kept.pages 0 w.blocks)) area_now.room.maps)

  redo_room : (commits : List Commit) → (look image).redo_log ≡ Some commits → HaveRoomToRedo start commits (kept_for_snapshots w) w.blocks
  redo_room [] is = tt
  redo_room (commit ∷ commits) is =
      let some : IfSome (look image).redo_log (λ log. 0 < length log) = subst (λ o. IfSome o (λ log. 0 < length log)) (sym is) (omega arith) in
      (area_now.room.restart (inr some)).log start (commit ∷ commits) area_now.rows.in_map is

  pub rows_have_room : has_room (tables_of w.history) (tables_of w.history) 0 0 w.blocks ≡ true
  rows_have_room =
      let room = subst (λ n. HaveRoomToRedo start area_now.rows.log n w.blocks) (kept_none w (st.stage.snapshots refl)) (redo_room area_now.rows.log area_now.rows.in_log) in
      subst (λ (x : Tables). has_room x x 0 0 w.blocks ≡ true) area_now.rows.tables (room_after area_now.rows.log start 0 w.blocks start_fits room)
