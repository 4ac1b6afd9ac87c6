-- One commit more in the log is one commit more of the world.
--     append_stands      the look with the commit in its logs stands for the world with the commit
use Rattle.std.proofs.Common.{◌≡◌, inl, inr, refl, sym, ap, ◌∙◌, subst, ℕ, ◌+◌, ◌-◌, ◌*◌, true, ◌<◌, ◌≤◌, List, [], ◌∷◌, ◌++◌, length, take, drop, Some, None, arith, length-append, take-append-drop}
use Rattle.std.specs.Prelude.{IsTrue, IfSome}
use Rattle.std.specs.FinMap.{get}
use Rattle.std.proofs.lemmas.Bool.{leb-true, le-leb, or_cases, or_left, or_right}
use Rattle.std.proofs.lemmas.List.{take-append-le, drop-append-le, drop_all}
use Rattle.std.proofs.lemmas.List.Sums.{sum_by-cons, sum_by-append}
use Rattle.std.proofs.lemmas.Option.{same_Some}
use Rattle.mdb_model.specs.declared.change.Commit.{Commit}
use Rattle.mdb_model.specs.declared.fault.Device.TheVariants.{Medium}
use Rattle.mdb_model.specs.History.{History, last, tables_of, cut, commits_above}
use Rattle.mdb_model.specs.Sessions.{group_bytes}
use Rattle.mdb_model.specs.Space.{commit_has_room, has_room, is_enough, map_has_room, kept_for_snapshots, tree_pages, undo_pages, converter_pages}
use Rattle.mdb_model.specs.Tables.{Tables, with_changes, with_commits}
use Rattle.mdb_model.specs.Worlds.{World, Live}
use Rattle.mdb_model.proofs.SerialPlaces.{with_commits-push}
use Rattle.mdb_bytes.specs.declared.restart_record.RestartRecord.{RestartRecord}
use Rattle.mdb_bytes.specs.KeptMaps.{KeptMap}
use Rattle.mdb_bytes.specs.LogReading.{log_bytes}
use Rattle.mdb_bytes.specs.Forms.{reading}
use Rattle.standing.specs.Looks.{Look}
use Rattle.standing.specs.WholeStanding.{LookStands, LogStands, AreaStands, AreaIsLive, RowsStand, HaveRoom, HaveRoomToRedo, RoomStands, RestartHasRoom, MediumStands}
use Rattle.standing.specs.Appending.{appended, with_commit, HasRoomFor}
use Rattle.standing.proofs.SavepointStands.{match_option}
use Rattle.standing.proofs.CostLaws.{room_mono}
use Rattle.standing.proofs.RedoRoom.{redo_room_push}

-- Commits

pub bytes_more : (cs : List Commit) (c : Commit) → log_bytes (cs ++ c ∷ []) ≡ log_bytes cs + group_bytes c.changes
bytes_more cs c =
    let one : log_bytes (c ∷ []) ≡ group_bytes c.changes + log_bytes [] = sum_by-cons (λ (c : Commit). group_bytes c.changes) c [] in
    let all : log_bytes (cs ++ c ∷ []) ≡ log_bytes cs + log_bytes (c ∷ []) = sum_by-append (λ (c : Commit). group_bytes c.changes) cs (c ∷ []) in
    omega (arith, one, all)

pub commits-append : (a b : List Commit) (t : Tables) → with_commits (a ++ b) t ≡ with_commits b (with_commits a t)
commits-append [] b t = refl
commits-append (c ∷ a) b t = commits-append a b (with_changes c.changes t)

-- a history is its part up to a number with the commits above it
pub tables-cut : (h : History) (k : ℕ) → with_commits (commits_above h k) (tables_of (cut h k)) ≡ tables_of h
tables-cut h k = sym (commits-append (take (k - h.first) h.commits) (drop (k - h.first) h.commits) h.start) ∙ ap (λ cs. with_commits cs h.start) (take-append-drop (k - h.first) h.commits)

-- Room

pub room-push : (cs : List Commit) (c : Commit) (t : Tables) (kept blocks : ℕ) → HaveRoom t cs kept blocks → IsTrue (commit_has_room (with_commits cs t) c.changes kept blocks) → HaveRoom t (cs ++ c ∷ []) kept blocks
room-push [] c t kept blocks room more = (more, tt)
room-push (d ∷ cs) c t kept blocks room more = (room.0, room-push cs c (with_changes d.changes t) kept blocks room.1 more)

-- room beside more is room beside less
pub room-less : (a b : Tables) (undo kept less blocks : ℕ) → less ≤ kept → has_room a b undo kept blocks ≡ true → has_room a b undo less blocks ≡ true
room-less a b undo kept less blocks fewer room = elim (or_cases (is_enough a b undo kept blocks) (is_enough a b undo kept (blocks - 1)) room) [
  | inl all ↦ or_left (is_enough a b undo less blocks) (is_enough a b undo less (blocks - 1)) (enough blocks all)
  | inr one ↦ or_right (is_enough a b undo less blocks) (is_enough a b undo less (blocks - 1)) (enough (blocks - 1) one)
]
  where
    enough : (n : ℕ) → is_enough a b undo kept n ≡ true → is_enough a b undo less n ≡ true
    enough n holds = le-leb (4 + tree_pages a b + undo + 2 * converter_pages n + less + 160) n
        (omega (arith, fewer, leb-true (4 + tree_pages a b + undo + 2 * converter_pages n + kept + 160) n holds))

module _ (l : Look) (w : World) (c : Commit) (r : RestartRecord) (kept : KeptMap) (redo : List Commit)
    (s : LookStands l w) (live : w.area ≡ Live) (at : l.restart ≡ Some r) (there : l.kept ≡ Some kept) (shown : l.redo_log ≡ Some redo)
    (from : w.history.first ≤ w.saved) (upto : w.saved ≤ last w.history) (room : HasRoomFor l kept c w) where
  abbrev above : List Commit
  above = commits_above w.history w.saved

  abbrev l2 : Look
  l2 = appended l above redo c

  abbrev w2 : World
  w2 = with_commit w c

  area : AreaIsLive l w
  area = subst (λ a. AreaStands a l s.info w) live s.area

  same_record : area.rec ≡ r
  same_record = same_Some area.rec r (sym area.in_force ∙ at)

  same_kept : kept ≡ area.kept
  same_kept = same_Some kept area.kept (sym there ∙ area.there)

  same_log : area.rows.log ≡ redo
  same_log = same_Some area.rows.log redo (sym area.rows.in_log ∙ shown)

  within : w.saved - w.history.first ≤ length w.history.commits
  within = omega (arith, upto)

  above_more : commits_above w2.history w2.saved ≡ above ++ c ∷ []
  above_more = drop-append-le (w.saved - w.history.first) w.history.commits (c ∷ []) within

  cut_same : tables_of (cut w2.history w.saved) ≡ tables_of (cut w.history w.saved)
  cut_same = ap (λ cs. with_commits cs w.history.start) (take-append-le (w.saved - w.history.first) w.history.commits (c ∷ []) within)

  tables_more : tables_of w2.history ≡ with_changes c.changes (tables_of w.history)
  tables_more = with_commits-push w.history.commits c w.history.start

  last_more : last w2.history ≡ last w.history + 1
  last_more = omega (arith, length-append w.history.commits (c ∷ []))

  bytes_above : log_bytes (commits_above w2.history w2.saved) ≡ log_bytes above + group_bytes c.changes
  bytes_above = ap (λ (cs : List Commit). log_bytes cs) above_more ∙ bytes_more above c

  log_stands : LogStands l2 w2
  log_stands = record {
    saved = s.log.saved;
    commits = ap Some (sym above_more);
    fits = omega (arith, room.ring, bytes_above);
  }

  rows_tables : with_commits redo area.rows.start ≡ tables_of w.history
  rows_tables = ap (λ cs. with_commits cs area.rows.start) (sym same_log) ∙ area.rows.tables

  rows : RowsStand l2 area.rec area.kept w2
  rows = record {
    start = area.rows.start;
    log = redo ++ c ∷ [];
    in_map = area.rows.in_map;
    in_log = refl;
    tables = with_commits-push redo c area.rows.start ∙ ap (with_changes c.changes) rows_tables ∙ sym tables_more;
    number = omega (arith, area.rows.number, ap length same_log, length-append redo (c ∷ []), last_more);
    same_number = omega (arith, area.rows.same_number, ap length same_log, length-append redo (c ∷ []), ap length above_more, length-append above (c ∷ []));
    same_end = omega (arith, area.rows.same_end, ap (λ (cs : List Commit). log_bytes cs) same_log, bytes_more redo c, bytes_above);
  }

  -- the history after the record, with the commit
  history_more : r.commit ≤ last w.history → (commits_above w2.history r.commit ≡ commits_above w.history r.commit ++ c ∷ []) × (tables_of (cut w2.history r.commit) ≡ tables_of (cut w.history r.commit))
  history_more up =
      let inside : r.commit - w.history.first ≤ length w.history.commits = omega (arith, up) in
      (drop-append-le (r.commit - w.history.first) w.history.commits (c ∷ []) inside, ap (λ cs. with_commits cs w.history.start) (take-append-le (r.commit - w.history.first) w.history.commits (c ∷ []) inside))

  no_later : r.commit ≤ last w.history
  no_later = omega (arith, area.rows.number, ap (λ x. x.commit) same_record)

  -- the commits that were to be redone had room, or there were none
  redo_had_room : RoomStands l area.rec area.kept w → (cs : List Commit) → redo ≡ cs → HaveRoomToRedo area.rows.start cs (kept_for_snapshots w) w.blocks
  redo_had_room old [] none = tt
  redo_had_room old (d ∷ cs) some =
      (old.restart (inr (subst (λ o. IfSome o (λ log. 0 < length log)) (sym (shown ∙ ap Some some)) (omega arith)))).log area.rows.start (d ∷ cs) area.rows.in_map (shown ∙ ap Some some)

  -- and so had those of the history after the record, or there were none
  history_had_room : RoomStands l area.rec area.kept w → (cs : List Commit) → redo ≡ cs → HaveRoom (tables_of (cut w.history r.commit)) (commits_above w.history r.commit) (kept_for_snapshots w) w.blocks
  history_had_room old [] none =
      let nothing : commits_above w.history r.commit ≡ [] = drop_all (r.commit - w.history.first) w.history.commits (omega (arith, area.rows.number, ap (λ x. x.commit) same_record, ap length (same_log ∙ none))) in
      subst (λ cs. HaveRoom (tables_of (cut w.history r.commit)) cs (kept_for_snapshots w) w.blocks) (sym nothing) tt
  history_had_room old (d ∷ cs) some =
      subst (λ (x : RestartRecord). HaveRoom (tables_of (cut w.history x.commit)) (commits_above w.history x.commit) (kept_for_snapshots w) w.blocks) same_record
      (old.restart (inr (subst (λ o. IfSome o (λ log. 0 < length log)) (sym (shown ∙ ap Some some)) (omega arith)))).history

  restart_room : RoomStands l area.rec area.kept w → IsTrue (map_has_room reading area.kept.pages (kept_for_snapshots w) w.blocks) → IsTrue (commit_has_room (tables_of w.history) c.changes (kept_for_snapshots w) w.blocks)
      → RestartHasRoom l2 area.rec area.kept w2
  restart_room old map commit = record {
    map = map;
    history =
        let all : HaveRoom (tables_of (cut w.history r.commit)) (commits_above w.history r.commit ++ c ∷ []) (kept_for_snapshots w) w.blocks =
        room-push (commits_above w.history r.commit) c (tables_of (cut w.history r.commit)) (kept_for_snapshots w) w.blocks (history_had_room old redo refl)
        (subst (λ t. IsTrue (commit_has_room t c.changes (kept_for_snapshots w) w.blocks)) (sym (tables-cut w.history r.commit)) commit) in
        let h = history_more no_later in
        subst (λ (x : RestartRecord). HaveRoom (tables_of (cut w2.history x.commit)) (commits_above w2.history x.commit) (kept_for_snapshots w) w.blocks) (sym same_record)
        (subst (λ (x : Tables × List Commit). HaveRoom x.0 x.1 (kept_for_snapshots w) w.blocks) (λ i. (sym h.1 i, sym h.0 i)) all);
    log = λ start log in_map in_log.
        let same_start : area.rows.start ≡ start = same_Some area.rows.start start (sym area.rows.in_map ∙ in_map) in
        let same : redo ++ c ∷ [] ≡ log = same_Some (redo ++ c ∷ []) log in_log in
        let given : has_room (tables_of w.history) (with_changes c.changes (tables_of w.history)) 0 (kept_for_snapshots w) w.blocks ≡ true =
        room_mono (tables_of w.history) (with_changes c.changes (tables_of w.history)) (tables_of w.history) (with_changes c.changes (tables_of w.history)) 0 (undo_pages (tables_of w.history) c.changes) (kept_for_snapshots w) w.blocks (λ p. omega arith) (omega arith) commit in
        let all : HaveRoomToRedo area.rows.start (redo ++ c ∷ []) (kept_for_snapshots w) w.blocks =
        redo_room_push redo c area.rows.start (kept_for_snapshots w) w.blocks (redo_had_room old redo refl) (subst (λ t. IsTrue (has_room t (with_changes c.changes t) 0 (kept_for_snapshots w) w.blocks)) (sym rows_tables) given) in
        subst (λ (x : Tables × List Commit). HaveRoomToRedo x.0 x.1 (kept_for_snapshots w) w.blocks) (λ i. (same_start i, same i)) all;
  }

  room_stands : RoomStands l2 area.rec area.kept w2
  room_stands =
      let old = area.room in
      record {
        maps = old.maps;
        restart = λ needs. restart_room old (subst (λ k. IsTrue (map_has_room reading k.pages (kept_for_snapshots w) w.blocks)) same_kept room.map) room.commit;
        blocks = old.blocks;
      }

  live_area : AreaIsLive l2 w2
  live_area = record {
    rec = area.rec;
    kept = area.kept;
    in_force = area.in_force;
    normal = area.normal;
    name = area.name;
    sizes = record { limits = area.sizes.limits; blocks = area.sizes.blocks; there = area.sizes.there };
    there = area.there;
    in_order = area.in_order;
    rows = rows;
    snapshots = area.snapshots;
    apart = area.apart;
    base = record { in_force = area.base.in_force; since = area.base.since };
    room = room_stands;
    numbers = record { base = area.numbers.base; stamps = area.numbers.stamps; media = area.numbers.media };
  }

  all_room : HaveRoom (tables_of (cut w2.history w2.saved)) (commits_above w2.history w2.saved) 0 w2.blocks
  all_room =
      let beside : has_room (tables_of w.history) (with_changes c.changes (tables_of w.history)) (undo_pages (tables_of w.history) c.changes) 0 w.blocks ≡ true =
      room-less (tables_of w.history) (with_changes c.changes (tables_of w.history)) (undo_pages (tables_of w.history) c.changes) (kept_for_snapshots w) 0 w.blocks (omega arith) room.commit in
      let more : HaveRoom (tables_of (cut w.history w.saved)) (above ++ c ∷ []) 0 w.blocks =
      room-push above c (tables_of (cut w.history w.saved)) 0 w.blocks s.room (subst (λ t. IsTrue (commit_has_room t c.changes 0 w.blocks)) (sym (tables-cut w.history w.saved)) beside) in
      subst (λ (x : Tables × List Commit). HaveRoom x.0 x.1 0 w.blocks) (λ i. (sym cut_same i, sym above_more i)) more

  pub append_stands : LookStands l2 w2
  append_stands = record {
    offline = s.offline;
    info = s.info;
    in_force = s.in_force;
    birth = s.birth;
    generation = s.generation;
    log_size = record { there = s.log_size.there; least = s.log_size.least; most = s.log_size.most; ring = s.log_size.ring };
    log = log_stands;
    area = subst (λ a. AreaStands a l2 s.info w2) (sym live) live_area;
    media = record {
      numbers = s.media.numbers;
      each = λ number low high. match_option (l.sizes (Medium number) ≡ None) (MediumStands l number) (MediumStands l2 number)
          (λ medium stands. record { there = stands.there; least = stands.least; most = stands.most; blank = stands.blank; holds = stands.holds })
          (get w.media number) (s.media.each number low high);
    };
    room = all_room;
    stage = record {
      backups = λ asked.
          let old = s.stage.backups asked in
          record { blank = old.blank; saved = old.saved; base = old.base; record_pending = old.record_pending; log_pending = old.log_pending };
      generation = s.stage.generation;
      snapshots = s.stage.snapshots;
      images = λ asked. record { maps = (s.stage.images asked).maps; media = (s.stage.images asked).media };
      changed_pages = s.stage.changed_pages;
    };
  }
