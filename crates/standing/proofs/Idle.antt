-- The laws' premises can be met: a savepoint that changes no page, from each look that stands.
--     idle_map      its map is a new map
--     idle_stands      so the look with it stands
use Rattle.std.proofs.Common.{◌≡◌, refl, sym, ◌∙◌, subst, ℕ, ◌≤◌, List, [], ◌∷◌, ◌++◌, Option, Some, arith}
use Rattle.std.specs.Prelude.{filter_map, option_to_list}
use Rattle.std.specs.List.{AllByRecursion}
use Rattle.std.proofs.lemmas.Option.{same_Some}
use Rattle.mdb_model.specs.declared.change.Commit.{Commit}
use Rattle.mdb_model.specs.Worlds.{World, Live}
use Rattle.mdb_bytes.specs.declared.restart_record.RestartRecord.{RestartRecord}
use Rattle.mdb_bytes.specs.KeptMaps.{KeptMap}
use Rattle.mdb_bytes.specs.PageReadings.{all_images}
use Rattle.mdb_bytes.proofs.KeptMapLaws.{all_of}
use Rattle.standing.specs.Looks.{Look}
use Rattle.standing.specs.WholeStanding.{LookStands, AreaStands, AreaIsLive, ShareNoBlock, RoomStands}
use Rattle.standing.specs.Switching.{switched, IsNext, IsNewMap, next_idle}
use Rattle.standing.proofs.SavepointStands.{both_of, unmoved_keeps, savepoint_stands}

pub idle_next : (r : RestartRecord) (media : ℕ → Option (List ℕ)) → IsNext media r (next_idle r)
idle_next r media = record { state = refl; name = refl; volumes = refl; snapshots = refl; base = refl; pending = λ z. z; savepoint = omega arith; position = omega arith }

module _ (l : Look) (w : World) (s : LookStands l w) (live : w.area ≡ Live) where
  abbrev pub area : AreaIsLive l w
  area = subst (λ a. AreaStands a l s.info w) live s.area

  abbrev maps : List KeptMap
  maps = filter_map (λ e. e.1) l.snapshots

  abbrev next : RestartRecord
  next = next_idle area.rec

  apart_all : AllByRecursion (λ a. AllByRecursion (ShareNoBlock a) (area.kept ∷ maps)) (area.kept ∷ maps)
  apart_all = subst (λ o. AllByRecursion (λ a. AllByRecursion (ShareNoBlock a) (option_to_list o ++ maps)) (option_to_list o ++ maps)) area.there area.apart

  stamps : AllByRecursion (λ kept. AllByRecursion (λ e. e.1.stamp ≤ area.rec.savepoint) kept.places) (area.kept ∷ maps)
  stamps = subst (λ o. AllByRecursion (λ kept. AllByRecursion (λ e. e.1.stamp ≤ area.rec.savepoint) kept.places) (option_to_list o ++ maps)) area.there area.numbers.stamps

  -- the look with the same map and log, from the look
  same_look : record l { restart = Some next; kept = l.kept; redo_log = l.redo_log } ≡ switched l next area.kept area.rows.log
  same_look = λ i. record l { restart = Some next; kept = area.there i; redo_log = area.rows.in_log i }

  room : RoomStands l area.rec area.kept w → RoomStands (switched l next area.kept area.rows.log) next area.kept w
  room old = subst (λ m. RoomStands m next area.kept w) same_look (record {
    maps = old.maps;
    restart = λ needs. (let r = old.restart needs in record { map = r.map; history = r.history; log = r.log });
    blocks = old.blocks;
  })

  pub idle_map : IsNewMap l next area.kept area.rows.log w
  idle_map = record {
    in_order = area.in_order;
    start = area.rows.start;
    in_map = area.rows.in_map;
    tables = area.rows.tables;
    number = area.rows.number;
    same_end = area.rows.same_end;
    own = apart_all.0.0;
    beside = both_of (ShareNoBlock area.kept) (λ a. AllByRecursion (ShareNoBlock a) (area.kept ∷ maps)) (λ o. ShareNoBlock area.kept o × ShareNoBlock o area.kept) (λ o one all. (one, all.0)) maps apart_all.0.1 apart_all.1;
    since = area.base.since;
    stamps = all_of (λ e. e.1.stamp ≤ area.rec.savepoint) (λ e. e.1.stamp ≤ next.savepoint) (λ e le. omega (arith, le)) area.kept.places stamps.0;
    room = room area.room;
    images = λ asked. (subst (λ o. AllByRecursion (λ kept. all_images kept.pages ≡ []) (option_to_list o ++ maps)) area.there (s.stage.images asked).maps).0;
  }

  pub idle_stands : LookStands (switched l next area.kept area.rows.log) w
  idle_stands = savepoint_stands l w area.rec next area.kept area.rows.log s live area.in_force (idle_next area.rec l.media) (unmoved_keeps area.rec next l.log_info l.media refl refl refl) idle_map

  pub idle_law : (r : RestartRecord) (map : KeptMap) (log : List Commit) → l.restart ≡ Some r → l.kept ≡ Some map → l.redo_log ≡ Some log
      → LookStands (switched l (next_idle r) map log) w
  idle_law r map log at there shown =
      let same_r : area.rec ≡ r = same_Some area.rec r (sym area.in_force ∙ at) in
      let same_map : area.kept ≡ map = same_Some area.kept map (sym area.there ∙ there) in
      let same_log : area.rows.log ≡ log = same_Some area.rows.log log (sym area.rows.in_log ∙ shown) in
      let looks : switched l next area.kept area.rows.log ≡ switched l (next_idle r) map log = λ i. switched l (next_idle (same_r i)) (same_map i) (same_log i) in
      subst (λ m. LookStands m w) looks idle_stands
