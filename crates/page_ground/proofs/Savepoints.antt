-- A savepoint of a ground.
--     way_leads      rows on the way lead to the world
--     save_keeps, save_stands, save_aim, save_undone      what a savepoint leaves of what the devices
--         stand for
--     in_area      the last savepoint's map is in its area
--     rows_saved, held_saved      the rows, and what is held, are as they were
use Rattle.std.proofs.Common.{◌≡◌, inl, inr, refl, sym, ap, subst, ◌∙◌, ℕ, ◌+◌, ◌-◌, ◌^◌, ◌<◌, min, List, [], ◌∷◌, length, arith}
use Rattle.std.specs.Prelude.{unwrap_or}
use Rattle.std.proofs.lemmas.Option.{same_Some}
use Rattle.mdb_model.specs.declared.change.Change.{Change}
use Rattle.mdb_model.specs.declared.change.Commit.{Commit}
use Rattle.mdb_model.specs.declared.fault.Device.TheVariants.{Log}
use Rattle.mdb_model.specs.History.{tables_of}
use Rattle.mdb_model.specs.Images.{Image}
use Rattle.mdb_model.specs.Tables.{Tables, with_changes}
use Rattle.mdb_model.specs.Worlds.{World}
use Rattle.mdb_host.specs.Disk.{Disk}
use Rattle.mdb_bytes.specs.declared.restart_record.RestartRecord.{RestartRecord}
use Rattle.mdb_bytes.specs.LogReading.{log_bytes}
use Rattle.gate_slots.specs.declared.slots.Slots.{Slots}
use Rattle.converter.specs.Maps.{IsSoundMaps, block_of}
use Rattle.leaf_runs.specs.TableAreas.{IsTableArea}
use Rattle.page_store.specs.LogicalPages.{store_pages}
use Rattle.page_store.specs.Stamps.{AreStamped}
use Rattle.page_store.specs.Store.{Store, IsKnown, block_count}
use Rattle.page_store.specs.WholeSavepoint.{CanSave, IsInArea, IsSameArea, Saves, next_record}
use Rattle.redo_ring.specs.declared.reader.RingReader.{RingReader}
use Rattle.restart.specs.Redone.{IsOnTheWay, IsFirstOf}
use Rattle.store_rows.specs.StoredRows.{stored_rows, HasRows}
use Rattle.standing.specs.Looks.{look}
use Rattle.standing.specs.RedoRoom.{IsFirstPart}
use Rattle.standing.specs.WholeStanding.{StandsWhole, AreaStands, AreaIsLive}
use Rattle.kept_worlds.specs.InService.{IsInService, AllStand, EndsAt, IsPlain, LeadsTo, HasRoomToSet}
use Rattle.kept_worlds.proofs.Saving.{each_stands, service_saved}
use Rattle.kept_worlds.proofs.Setting.{part_leads}
use Rattle.page_ground.specs.declared.set_point.SetPoint.{SetPoint}
use Rattle.page_ground.specs.LogKnown.{held_in}
use Rattle.page_ground.specs.Aims.{rows_shown, undone_in, StandsForWorld, KeepsWorlds}
use Rattle.page_ground.proofs.Log.{known_same, left_same}
use Rattle.page_ground.specs.AimLaws.{rows_are, same_rows, undone_same}

-- a first part of the first commit that is not done
first_part : (blocks : ℕ) (before now : Tables) (undone : List Commit) (made : List Change) → HasRoomToSet blocks undone before → IsFirstOf made undone → now ≡ with_changes made before → IsFirstPart before undone now
first_part blocks before now [] made room first is = is ∙ ap (λ cs. with_changes cs before) first
first_part blocks before now (c ∷ cs) made room first is = (made, first.0, first.1, room.differ.0, is)

pub way_leads : (w : World) (aim : Tables) (undone : List Commit) (rows : Tables) → aim ≡ tables_of w.history → IsOnTheWay (HasRoomToSet w.blocks) aim undone rows → LeadsTo w undone rows
way_leads w aim undone rows is way =
    part_leads w undone way.before rows (way.aimed ∙ is) way.room (first_part w.blocks way.before rows undone way.made way.room way.first way.rows_are)

-- The last savepoint's map is in its area

pub in_area : (s : Store) → IsSoundMaps s.maps → ((q : ℕ) → q < s.maps.conv → 1 < block_of s.maps.saved q) → IsInArea s.maps.conv (block_count s) s.maps.saved
in_area s sound own = record {
  long = sound.saved_long;
  own = λ q lt. omega (arith, own q lt);
  high = λ q some. sound.high q (block_of s.maps.saved q) some (inr (inl refl));
  below = λ q. (sound.saved_small q).0;
  apart = λ p q some is. sym (sound.owned p (block_of s.maps.saved p) some (inr (inl refl))) ∙ sound.owned q (block_of s.maps.saved p) some (inr (inl (sym is)));
}

-- The rows are as they were

pub rows_saved : (tells : Type 0) (s t : Store) (before after : Image) → HasRows tells s before → store_pages t after ≡ store_pages s before → IsKnown tells t after → HasRows tells t after × (stored_rows t after ≡ stored_rows s before)
rows_saved tells s t before after rows pages known = (
  (known, subst IsTableArea (sym pages) rows.1),
  ap Rattle.leaf_runs.specs.Runs.rows_in_pages pages,
)

pub held_saved : (s t : Store) (reader : RingReader) (before after : Image) → after Log ≡ before Log → stored_rows t after ≡ stored_rows s before → held_in t reader after ≡ held_in s reader before
held_saved s t reader before after log rows =
    λ i. record { rows = rows i; undo = Rattle.std.specs.FinMap.empty; log = record { name = reader.name; after = reader.number; commits = left_same before after log reader i } }

module _ (tells : Type 0) (slots slots2 : Slots) (r next : RestartRecord) (reader : RingReader) (set : SetPoint) (s t : Store) (d e : Disk) (commit position : ℕ)
    (seen_left : d.may_leave d.now d.seen) (seen_left2 : e.may_leave e.now e.seen) (sound : IsSoundMaps s.maps) (rows : HasRows tells s d.seen)
    (stand : StandsForWorld tells slots r reader set s d) (way : IsOnTheWay (HasRoomToSet (block_count s)) (rows_shown (look d.seen)) (undone_in reader set d.seen) (stored_rows s d.seen))
    (commit_is : commit ≡ min set.commit (2 ^ 62 - 1)) (position_is : position ≡ min set.position (2 ^ 62 - 1)) (saves : Saves s slots r commit position d e) where
  abbrev undone : List Commit
  undone = undone_in reader set d.seen

  abbrev w : World
  w = stand.world

  ends : EndsAt r stand.done position commit
  ends = record { position = omega (arith, position_is, stand.low_end, stand.ends.position); commit = omega (arith, commit_is, stand.low_number, stand.ends.commit) }

  set_commit_is : commit ≡ set.commit
  set_commit_is = omega (arith, commit_is, stand.low_number)

  set_position_is : position ≡ set.position
  set_position_is = omega (arith, position_is, stand.low_end)

  blocks_are : (w : World) → AllStand w d → IsPlain w → w.blocks ≡ block_count s
  blocks_are w all plain =
      let st : StandsWhole d.seen w = all d.seen seen_left in
      let area : AreaIsLive (look d.seen) w = subst (λ a. AreaStands a (look d.seen) st.info w) plain.live st.area in
      let same : area.rec ≡ r = same_Some area.rec r (sym area.in_force ∙ (stand.service.shown d.seen seen_left).restart) in
      area.sizes.blocks ∙ ap (λ x. Rattle.std.specs.Prelude.sum x.volumes.items) same ∙ sym stand.service.blocks

  leads : (w : World) → AllStand w d → IsPlain w → LeadsTo w undone (stored_rows s d.seen)
  leads w all plain =
      way_leads w (rows_shown (look d.seen)) undone (stored_rows s d.seen) (rows_are d.seen w (all d.seen seen_left) plain.live)
      (subst (λ n. IsOnTheWay (HasRoomToSet n) (rows_shown (look d.seen)) undone (stored_rows s d.seen)) (sym (blocks_are w all plain)) way)

  pub save_keeps : KeepsWorlds d e
  save_keeps = record {
    each_world = λ w all plain.
        each_stands tells slots r stand.info stand.saved stand.done undone s d e commit position stand.service sound rows ends saves w all plain (leads w all plain);
  }

  all_after : AllStand w e
  all_after image left =
      let each = save_keeps.each_world w stand.stand stand.plain in
      each.each e.now image each.keeps.later (omega arith) left

  pub save_aim : rows_shown (look e.seen) ≡ rows_shown (look d.seen)
  save_aim = same_rows d.seen e.seen w (stand.stand d.seen seen_left) (all_after e.seen seen_left2) stand.plain.live

  module _ (log : e.seen Log ≡ d.seen Log) where
    pub save_undone : undone_in reader set e.seen ≡ undone
    save_undone = undone_same reader reader set set d.seen e.seen log refl refl refl

    module _ (can : CanSave tells slots2 next t e) (is : next ≡ next_record r s.next commit position (block_of t.maps.saved 0)) (same : IsSameArea s t) (stamped : AreStamped t)
        (area : IsInArea t.maps.conv (block_count t) t.maps.saved) where
      pub save_stands : StandsForWorld tells slots2 next reader set t e
      save_stands = record {
        world = w;
        stand = all_after;
        plain = stand.plain;
        info = stand.info;
        saved = stand.saved;
        done = [];
        service = subst (λ xs. IsInService tells slots2 next stand.info stand.saved xs t e) (sym save_undone)
            (service_saved tells slots r stand.info stand.saved stand.done undone s d e commit position stand.service sound rows ends saves w stand.stand stand.plain (leads w stand.stand stand.plain) t slots2 next can is same stamped area);
        ends = record {
          position = omega (arith, ap (λ (x : RestartRecord). x.position) is, set_position_is);
          commit = omega (arith, ap (λ (x : RestartRecord). x.commit) is, set_commit_is);
        };
        name = stand.name ∙ sym (ap (λ (x : RestartRecord). x.name) is);
        size = stand.size;
        known = known_same d.seen e.seen log tells reader stand.known;
        same_end = (λ i. reader.position + log_bytes (left_same d.seen e.seen log reader i)) ∙ stand.same_end ∙ (λ i. set.position + log_bytes (sym save_undone i));
        same_number = (λ i. reader.number + length (left_same d.seen e.seen log reader i)) ∙ stand.same_number ∙ (λ i. set.commit + length (sym save_undone i));
        low_end = subst (λ (xs : List Commit). set.position + log_bytes xs < 2 ^ 62) (sym save_undone) stand.low_end;
        low_number = subst (λ (xs : List Commit). set.commit + length xs < 2 ^ 62) (sym save_undone) stand.low_number;
      }
