-- A group was appended to the log of a database that serves a world.
--     each_either      at each moment each image stands for the world, or for it with the commit
--     stands, next_one, room_to_set      the commit can be set then
--     serves_after      and is set, the database serves the world with the commit
use Rattle.std.proofs.Common.{◌≡◌, ◌⊎◌, sym, ap, subst, ◌∙◌, ℕ, ◌+◌, ◌-◌, ◌^◌, ◌<◌, ◌≤◌, List, [], ◌∷◌, ◌++◌, length, arith, sum, length-append}
use Rattle.std.specs.Prelude.{unwrap_or}
use Rattle.std.proofs.lemmas.List.Sums.{sum_by-append}
use Rattle.std.proofs.lemmas.Option.{same_Some}
use Rattle.mdb_model.specs.declared.change.Commit.{Commit}
use Rattle.mdb_model.specs.declared.fault.Device.TheVariants.{Log}
use Rattle.mdb_model.specs.History.{tables_of}
use Rattle.mdb_model.specs.Images.{Image}
use Rattle.mdb_model.specs.Sessions.{group_bytes}
use Rattle.mdb_model.specs.Tables.{Tables, with_changes, with_commits}
use Rattle.mdb_model.specs.Worlds.{World}
use Rattle.mdb_host.specs.Disk.{Disk, Goes, Arrives, AgreeBut}
use Rattle.mdb_bytes.specs.declared.restart_record.RestartRecord.{RestartRecord}
use Rattle.mdb_bytes.specs.Fields.{Spells}
use Rattle.mdb_bytes.specs.Groups.{group_format}
use Rattle.mdb_bytes.specs.LogReading.{IsLog, log_bytes}
use Rattle.mdb_bytes.specs.Rings.{HasRing, ring_byte, ring_size}
use Rattle.gate_slots.specs.declared.slots.Slots.{Slots}
use Rattle.leaf_runs.specs.TableAreas.{IsTableArea}
use Rattle.leaf_runs.specs.Runs.{rows_in_pages}
use Rattle.page_store.specs.LogicalPages.{live_pages_below, lives_in, store_pages}
use Rattle.page_store.specs.Store.{Store, block_count, page_block, frame_of}
use Rattle.redo_ring.specs.declared.ring.Ring.{Ring}
use Rattle.redo_ring.specs.declared.reader.RingReader.{RingReader}
use Rattle.redo_ring.specs.Calls.{InOrder}
use Rattle.redo_ring.specs.Ring.{Appends, Appended}
use Rattle.redo_ring.proofs.LaterBeginnings.{later_log}
use Rattle.redo_ring.proofs.Log.{bytes_cons}
use Rattle.restart.specs.Redone.{IsFirstUndone}
use Rattle.store_rows.specs.StoredRows.{stored_rows, HasRows}
use Rattle.standing.specs.Looks.{look, redo_point, redo_after}
use Rattle.standing.specs.WholeStanding.{StandsWhole, AreaStands, AreaIsLive}
use Rattle.standing.specs.Appending.{with_commit}
use Rattle.standing.proofs.AppendStands.{commits-append}
use Rattle.standing.proofs.LookLaws.{log_is}
use Rattle.standing.proofs.RedoRoom.{tables_have_room, redo_room_given}
use Rattle.kept_worlds.specs.InService.{IsShown, IsInService, AllStand, AtEachMoment, EndsAt, IsPlain, HasRoomToCommit, HasRoomToSet}
use Rattle.kept_worlds.proofs.Appending.{each_stands, all_stand, service_appended}
use Rattle.kept_worlds.proofs.Beside.{block_same, known_beside}
use Rattle.page_ground.specs.declared.set_point.SetPoint.{SetPoint}
use Rattle.page_ground.specs.LogKnown.{left_in, IsLogKnown}
use Rattle.page_ground.specs.Aims.{rows_shown, undone_in, StandsForWorld, KeepsWorlds}
use Rattle.page_ground.specs.AimLaws.{rows_are}
use Rattle.page_ground.specs.SetGroups.{HasTheseRows, SetsAll}
use Rattle.page_ground.proofs.Log.{left_is}
use Rattle.live_area.proofs.AllSet.{serves_set}
use Rattle.live_area.specs.Serving.{saved_by, ServesWorld, CanTakeCommit, read_from}

-- the ring with one group more
abbrev pub with_group : Ring → (n : ℕ) → Ring
with_group ring n = record ring { end_position = ring.end_position + n; last_commit = ring.last_commit + 1 }

-- a reader after the group, and the point before it
abbrev pub reader_after : Ring → (n : ℕ) → RingReader
reader_after ring n = record { name = ring.name; size = ring.size; start = ring.end_position + n; position = ring.end_position + n; number = ring.last_commit + 1 }

abbrev pub point_before : Ring → SetPoint
point_before ring = record { commit = ring.last_commit; position = ring.end_position }

-- The pages of a store are as they were where the log volume alone was written
pub pages_beside : (s : Store) (before after : Image) → AgreeBut Log before after → store_pages s after ≡ store_pages s before
pages_beside s before after agree =
    λ i. live_pages_below (lives_in s) (λ page. unwrap_or (frame_of s (page_block s page)) (block_same s.sizes before after agree (page_block s page) i)) (block_count s)

one_log : (c : Commit) → log_bytes (c ∷ []) ≡ group_bytes c.changes
one_log c = omega (arith, bytes_cons c [])

module _ (tells : Type 0) (slots : Slots) (r : RestartRecord) (s : Store) (ring : Ring) (d e : Disk) (w : World) (c : Commit) (n : ℕ) (group : List ℕ)
    (serves : ServesWorld tells slots r s ring d w) (can : CanTakeCommit w c) (order : InOrder ring) (long : n ≡ group_bytes c.changes)
    (low : ring.end_position + n < 2 ^ 62) (unsaved : (ring.end_position - ring.saved_position) + n + 1 ≤ ring.size) (needed : (ring.end_position - ring.redo_position) + n + 1 ≤ ring.size) where
  abbrev size_is : ring.size ≡ ring_size serves.info.pages
  size_is = serves.size

  room : HasRoomToCommit w r (saved_by ring) ring.size ring.end_position c
  room = record {
    unsaved = omega (arith, unsaved, order.saved, long);
    needed = omega (arith, needed, order.redo, serves.redo, long);
    area = can.room;
  }

  pub each_either : Goes d e (Appends ring.size ring.name ring.end_position ring.last_commit c.changes) → AtEachMoment d e (λ image. StandsWhole image w ⊎ StandsWhole image (with_commit w c))
  each_either goes =
      each_stands tells slots r serves.info (saved_by ring) serves.log s d e serves.service w serves.stand serves.plain ring.size ring.name ring.end_position ring.last_commit c serves.size serves.name serves.ends room goes

  module _ (arrives : Arrives d e (Appended ring.size ring.name ring.end_position ring.last_commit c.changes)) (beside : AgreeBut Log d.seen e.seen)
      (there : tells → HasRing ring.size e.seen) (seen_left : d.may_leave d.now d.seen) (seen_left2 : e.may_leave e.now e.seen)
      (spelled : Spells group_format (record { name = ring.name; number = ring.last_commit + 1; changes = c.changes }) group) (low_last : ring.last_commit + 1 < 2 ^ 62) where
    abbrev more : World
    more = with_commit w c

    told : tells
    told = serves.service.told

    pub all_more : AllStand more e
    all_more = all_stand tells slots r serves.info (saved_by ring) serves.log s d e serves.service w serves.stand serves.plain ring.size ring.name ring.end_position ring.last_commit c serves.size serves.name serves.ends room arrives

    pub plain_more : IsPlain more
    plain_more = record { live = serves.plain.live; no_snapshots = serves.plain.no_snapshots; no_base = serves.plain.no_base }

    service : IsInService tells slots r serves.info (saved_by ring) (serves.log ++ c ∷ []) s e
    service = service_appended tells slots r serves.info (saved_by ring) serves.log s d e serves.service w serves.stand serves.plain ring.size ring.name ring.end_position ring.last_commit c serves.size serves.name serves.ends room arrives beside

    shown : IsShown r serves.info (saved_by ring) (serves.log ++ c ∷ []) (look e.seen)
    shown = service.shown e.seen seen_left2

    -- The log

    whole_log : IsLog (ring_byte (ring_size serves.info.pages) e.seen) r.name r.position r.commit (serves.log ++ c ∷ [])
    whole_log = log_is e.seen serves.info r.name (redo_point r) (serves.log ++ c ∷ []) (sym (λ i. redo_after e.seen (shown.log_info i) (shown.restart i)) ∙ shown.redo)

    last_log : IsLog (ring_byte ring.size e.seen) ring.name ring.end_position ring.last_commit (c ∷ [])
    last_log =
        subst (λ (x : ℕ × _ × ℕ × ℕ). IsLog (ring_byte x.0 e.seen) x.1 x.2 x.3 (c ∷ [])) (λ i. (sym serves.size i, sym serves.name i, sym serves.ends.position i, sym serves.ends.commit i))
        (later_log (ring_byte (ring_size serves.info.pages) e.seen) r.name r.position r.commit serves.log (c ∷ []) whole_log)

    abbrev reader : RingReader
    reader = reader_after ring n

    abbrev point : SetPoint
    point = point_before ring

    big : 16384 ≤ ring.size
    big = omega (arith, order.size.is, order.size.least)

    undone_is : undone_in reader point e.seen ≡ c ∷ []
    unfolding undone_in
    undone_is = left_is (record { name = ring.name; size = ring.size; start = ring.end_position; position = ring.end_position; number = ring.last_commit }) e.seen (c ∷ []) last_log (omega (arith, one_log c, long, unsaved))

    rest_log : IsLog (ring_byte ring.size e.seen) ring.name (ring.end_position + n) (ring.last_commit + 1) []
    rest_log = subst (λ k. IsLog (ring_byte ring.size e.seen) ring.name (ring.end_position + k) (ring.last_commit + 1) []) (sym long) last_log.1

    none_left : left_in reader e.seen ≡ []
    none_left = left_is reader e.seen [] rest_log (omega (arith, big))

    pub known : IsLogKnown tells reader e.seen
    known = record {
      told = told;
      ring = there told;
      log = subst (λ xs. IsLog (ring_byte ring.size e.seen) ring.name (ring.end_position + n) (ring.last_commit + 1) xs) (sym none_left) rest_log;
      room = omega (arith, ap log_bytes none_left, big);
    }

    -- The rows

    pages_same : store_pages s e.seen ≡ store_pages s d.seen
    pages_same = pages_beside s d.seen e.seen beside

    pub rows : HasRows tells s e.seen
    rows = (
      known_beside tells slots r s d e beside (λ image left. (let x = arrives image left in (x.0, x.1, x.2.appends.others))) serves.service.can_save serves.rows.0,
      subst IsTableArea (sym pages_same) serves.rows.1,
    )

    rows_set : stored_rows s e.seen ≡ tables_of w.history
    rows_set = ap rows_in_pages pages_same ∙ serves.all_set

    pub tables_more : with_changes c.changes (stored_rows s e.seen) ≡ tables_of more.history
    tables_more = ap (with_changes c.changes) rows_set ∙ sym (commits-append w.history.commits (c ∷ []) w.history.start)

    -- What the devices stand for

    pub stands : StandsForWorld tells slots r reader point s e
    stands = record {
      world = more;
      stand = all_more;
      plain = plain_more;
      info = serves.info;
      saved = saved_by ring;
      done = serves.log;
      service = subst (λ xs. IsInService tells slots r serves.info (saved_by ring) (serves.log ++ xs) s e) (sym undone_is) service;
      ends = serves.ends;
      name = serves.name;
      size = serves.size;
      known = known;
      same_end = omega (arith, ap log_bytes none_left, ap log_bytes undone_is, one_log c, long);
      same_number = omega (arith, ap length none_left, ap length undone_is);
      low_end = omega (arith, ap log_bytes undone_is, one_log c, long, low);
      low_number = omega (arith, ap length undone_is, low_last);
    }

    pub next_one : IsFirstUndone (rows_shown (look e.seen)) (undone_in reader point e.seen) (stored_rows s e.seen) group
    next_one = record {
      name = ring.name;
      number = ring.last_commit + 1;
      commit = c;
      rest = [];
      spells = spelled;
      first = undone_is;
      aimed = ap (λ xs. with_commits xs (stored_rows s e.seen)) undone_is ∙ tables_more ∙ sym (rows_are e.seen more (all_more e.seen seen_left2) plain_more.live);
    }

    pub none_after : next_one.rest ≡ left_in reader e.seen
    unfolding next_one
    none_after = sym none_left

    blocks_are : w.blocks ≡ block_count s
    blocks_are =
        let st : StandsWhole d.seen w = serves.stand d.seen seen_left in
        let area : AreaIsLive (look d.seen) w = subst (λ a. AreaStands a (look d.seen) st.info w) serves.plain.live st.area in
        let same : area.rec ≡ r = same_Some area.rec r (sym area.in_force ∙ (serves.service.shown d.seen seen_left).restart) in
        area.sizes.blocks ∙ ap (λ (x : RestartRecord). sum x.volumes.items) same ∙ sym serves.service.blocks

    one_room : HasRoomToSet w.blocks (c ∷ []) (tables_of w.history)
    one_room = record {
      fits = tables_have_room (tables_of w.history) c.changes 0 w.blocks can.room;
      to_redo = redo_room_given (c ∷ []) (tables_of w.history) 0 w.blocks (can.room, tt);
      differ = (can.differ, tt);
    }

    pub room_for_one : HasRoomToSet (block_count s) (c ∷ []) (stored_rows s e.seen)
    room_for_one = subst (λ (x : ℕ × Tables). HasRoomToSet x.0 (c ∷ []) x.1) (λ i. (blocks_are i, sym rows_set i)) one_room

    pub room_to_set : HasRoomToSet (block_count s) (undone_in reader point e.seen) (stored_rows s e.seen)
    room_to_set = subst (λ xs. HasRoomToSet (block_count s) xs (stored_rows s e.seen)) (sym undone_is) room_for_one

    -- Once the commit is set

    module _ (slots2 : Slots) (r2 : RestartRecord) (t : Store) (f : Disk) (seen_left3 : f.may_leave f.now f.seen) (keeps : KeepsWorlds e f)
        (sets : SetsAll tells slots2 r2 reader (ring.last_commit + 1) t e f) (set_rows : HasTheseRows tells t f.seen (with_changes c.changes (stored_rows s e.seen))) where
      pub each_more : AtEachMoment e f (λ image. StandsWhole image more)
      each_more = keeps.each_world more all_more plain_more

      all_set : AllStand more f
      all_set image left = each_more.each f.now image each_more.keeps.later (omega arith) left

      none_undone : undone_in sets.reader sets.set f.seen ≡ []
      none_undone = sets.rest ∙ none_left

      end_is : sets.set.position ≡ ring.end_position + n
      end_is = omega (arith, sets.stands.same_end, sets.reads.ends known, ap log_bytes none_left, ap log_bytes none_undone)

      ends_more : EndsAt r (serves.log ++ c ∷ []) (ring.end_position + n) (ring.last_commit + 1)
      ends_more =
          let bytes : log_bytes (serves.log ++ c ∷ []) ≡ log_bytes serves.log + log_bytes (c ∷ []) = sum_by-append (λ (x : Commit). group_bytes x.changes) serves.log (c ∷ []) in
          record { position = omega (arith, bytes, one_log c, long, serves.ends.position); commit = omega (arith, length-append serves.log (c ∷ []), serves.ends.commit) }

      pub serves_after : ServesWorld tells slots2 r2 t (read_from (with_group ring n) r2) f more
      serves_after =
          serves_set more plain_more (with_group ring n) r serves.info (serves.log ++ c ∷ []) e seen_left2 all_more shown ends_more tells slots2 r2 t f seen_left3 all_set sets.reader sets.set sets.stands none_undone
          end_is sets.at_number sets.reads.name sets.reads.size (record { known = set_rows.known; are = set_rows.are ∙ tables_more })
