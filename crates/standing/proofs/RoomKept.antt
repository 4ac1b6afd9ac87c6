-- A savepoint keeps the room of a restart, also inside a commit.
--     room_later      the commits of a history after a later number have room
--     restart_room_kept, room_kept      the law
--     room_by_rows      the same where the rows of the new map have room to redo what is left
use Rattle.std.proofs.Common.{◌≡◌, ◌⊎◌, inl, inr, refl, sym, ap, ◌∙◌, subst, ℕ, zero, suc, ◌+◌, ◌-◌, ◌*◌, ◌<◌, ◌≤◌, true, List, [], ◌∷◌, ◌++◌, length, take, drop, Some, arith, length-append}
use Rattle.std.specs.Prelude.{IsTrue, IfSome}
use Rattle.std.specs.List.{AllByRecursion}
use Rattle.std.specs.FinMap.{len}
use Rattle.std.proofs.lemmas.Option.{same_Some}
use Rattle.mdb_model.specs.declared.change.Commit.{Commit}
use Rattle.mdb_model.specs.History.{History, tables_of, cut, commits_above}
use Rattle.mdb_model.specs.Pages.{committed}
use Rattle.mdb_model.specs.Space.{has_room, map_has_room, both_have_room, kept_for_snapshots, converter_pages}
use Rattle.mdb_model.specs.Tables.{Tables, with_changes, with_commits}
use Rattle.mdb_model.specs.Worlds.{World}
use Rattle.mdb_bytes.specs.declared.restart_record.RestartRecord.{RestartRecord}
use Rattle.mdb_bytes.specs.Forms.{reading}
use Rattle.mdb_bytes.specs.KeptMaps.{KeptMap}
use Rattle.mdb_bytes.specs.PageReadings.{all_images}
use Rattle.standing.specs.Looks.{Look}
use Rattle.standing.specs.WholeStanding.{HaveRoom, HaveRoomToRedo, RestartHasRoom, RoomStands, blocks_in_use, kept_maps}
use Rattle.standing.specs.Switching.{switched}
use Rattle.standing.specs.RedoRoom.{AllApart, places_of, IsFirstPart, MapHasRows}
use Rattle.standing.proofs.RedoRoom.{redo_room_kept, mixed_has_room}

-- The history

take-zero : (xs : List Commit) → take 0 xs ≡ []
take-zero [] = refl
take-zero (x ∷ xs) = refl

drop-zero : (xs : List Commit) → drop 0 xs ≡ xs
drop-zero [] = refl
drop-zero (x ∷ xs) = refl

later_of : (xs : List Commit) (t : Tables) (i j kept blocks : ℕ) → i ≤ j → HaveRoom (with_commits (take i xs) t) (drop i xs) kept blocks → HaveRoom (with_commits (take j xs) t) (drop j xs) kept blocks
later_of [] t i zero kept blocks le room = tt
later_of [] t i (suc j) kept blocks le room = tt
later_of (x ∷ xs) t zero zero kept blocks le room = room
later_of (x ∷ xs) t zero (suc j) kept blocks le room =
    let at_zero : HaveRoom (with_commits (take 0 xs) (with_changes x.changes t)) (drop 0 xs) kept blocks =
    subst (λ (e : List Commit × List Commit). HaveRoom (with_commits e.0 (with_changes x.changes t)) e.1 kept blocks) (λ i. (sym (take-zero xs) i, sym (drop-zero xs) i)) room.1 in
    later_of xs (with_changes x.changes t) 0 j kept blocks (omega arith) at_zero
later_of (x ∷ xs) t (suc i) zero kept blocks le room = absurd (omega (arith, le))
later_of (x ∷ xs) t (suc i) (suc j) kept blocks le room = later_of xs (with_changes x.changes t) i j kept blocks (omega (arith, le)) room

pub room_later : (h : History) (k n kept blocks : ℕ) → k ≤ n → HaveRoom (tables_of (cut h k)) (commits_above h k) kept blocks → HaveRoom (tables_of (cut h n)) (commits_above h n) kept blocks
room_later h k n kept blocks le room = later_of h.commits h.start (k - h.first) (n - h.first) kept blocks (omega (arith, le)) room

-- Redo

redo_tail : (done rest : List Commit) (t : Tables) (kept blocks : ℕ) → HaveRoomToRedo t (done ++ rest) kept blocks → HaveRoomToRedo (with_commits done t) rest kept blocks
redo_tail [] rest t kept blocks room = room
redo_tail (c ∷ done) rest t kept blocks room = redo_tail done rest (with_changes c.changes t) kept blocks room.1

pub redo_part : (rest : List Commit) (t now : Tables) (kept blocks : ℕ) → IsFirstPart t rest now → HaveRoomToRedo t rest kept blocks → HaveRoomToRedo now rest kept blocks
redo_part [] t now kept blocks part room = tt
redo_part (c ∷ cs) t now kept blocks part room =
    let a = part.0 in
    let b = part.1 in
    let same : c ≡ record { changes = a ++ b } = λ i. record { changes = part.2 i } in
    let apart : AllApart (places_of (a ++ b)) = subst (λ cs. AllApart (places_of cs)) part.2 part.3 in
    subst (λ (x : Commit × Tables). HaveRoomToRedo x.1 (x.0 ∷ cs) kept blocks) (λ i. (sym same i, sym part.4 i))
    (redo_room_kept a b cs t kept blocks apart (subst (λ (x : Commit). HaveRoomToRedo t (x ∷ cs) kept blocks) same room))

pub part_has_room : (c : Commit) (cs : List Commit) (t now : Tables) (kept blocks : ℕ) → IsFirstPart t (c ∷ cs) now → HaveRoomToRedo t (c ∷ cs) kept blocks → has_room now now 0 kept blocks ≡ true
part_has_room c cs t now kept blocks part room =
    let a = part.0 in
    let b = part.1 in
    let same : c ≡ record { changes = a ++ b } = λ i. record { changes = part.2 i } in
    let apart : AllApart (places_of (a ++ b)) = subst (λ cs. AllApart (places_of cs)) part.2 part.3 in
    subst (λ (x : Tables). has_room x x 0 kept blocks ≡ true) (sym part.4)
    (mixed_has_room a b cs t kept blocks apart (subst (λ (x : Commit). HaveRoomToRedo t (x ∷ cs) kept blocks) same room))

-- The law

module _ (l : Look) (w : World) (r next : RestartRecord) (old new : KeptMap) (done rest : List Commit) (start now : Tables)
    (in_map : committed reading old.pages ≡ Some start) (in_log : l.redo_log ≡ Some (done ++ rest)) (mark : next.commit ≡ r.commit + length done)
    (rows : MapHasRows new now) (part : IsFirstPart (with_commits done start) rest now) where
  map_is : (kept blocks : ℕ) → map_has_room reading new.pages kept blocks ≡ has_room now now 0 kept blocks
  map_is kept blocks = λ i. both_have_room (rows.standing i) (rows.committed_rows i) (rows.no_undo_pages i) kept blocks

  pub restart_room_kept : (c : Commit) (cs : List Commit) → rest ≡ c ∷ cs → RestartHasRoom l r old w → RestartHasRoom (switched l next new rest) next new w
  restart_room_kept c cs is room =
      let to_redo : HaveRoomToRedo (with_commits done start) rest (kept_for_snapshots w) w.blocks =
      redo_tail done rest start (kept_for_snapshots w) w.blocks (room.log start (done ++ rest) in_map in_log) in
      record {
        map = map_is (kept_for_snapshots w) w.blocks
            ∙ part_has_room c cs (with_commits done start) now (kept_for_snapshots w) w.blocks (subst (λ x. IsFirstPart (with_commits done start) x now) is part)
            (subst (λ x. HaveRoomToRedo (with_commits done start) x (kept_for_snapshots w) w.blocks) is to_redo);
        history = room_later w.history r.commit next.commit (kept_for_snapshots w) w.blocks (omega (arith, mark)) room.history;
        log = λ start2 log2 in_map2 in_log2.
            let same_start : now ≡ start2 = same_Some now start2 (sym rows.committed_rows ∙ in_map2) in
            let same_log : rest ≡ log2 = same_Some rest log2 in_log2 in
            subst (λ (x : Tables × List Commit). HaveRoomToRedo x.0 x.1 (kept_for_snapshots w) w.blocks) (λ i. (same_start i, same_log i))
            (redo_part rest (with_commits done start) now (kept_for_snapshots w) w.blocks part to_redo);
      }

  -- of a restart there is something to redo only where there was before
  restart_after : RoomStands l r old w → (rest2 : List Commit) → rest ≡ rest2 → (0 < length (all_images new.pages)) ⊎ (0 < length rest2) → RestartHasRoom (switched l next new rest) next new w
  restart_after room rest2 is (inl images) = absurd (omega (arith, images, ap length rows.no_images))
  restart_after room [] is (inr some) = absurd (omega (arith, some))
  restart_after room (c ∷ cs) is (inr some) =
      let before : 0 < length (done ++ rest) = omega (arith, length-append done rest, ap length is) in
      restart_room_kept c cs is (room.restart (inr (subst (λ o. IfSome o (λ log. 0 < length log)) (sym in_log) before)))

  pub room_kept : RoomStands l r old w → AllByRecursion (λ a. IsTrue (map_has_room reading a.pages 0 w.blocks)) (kept_maps (switched l next new rest))
      → 2 + blocks_in_use (switched l next new rest) + (len w.snapshots + 2) * converter_pages w.blocks ≤ w.blocks → RoomStands (switched l next new rest) next new w
  room_kept room maps blocks = record { maps = maps; restart = λ needs. restart_after room rest refl needs; blocks = blocks }

-- By the rows of the new map alone
module _ (l : Look) (w : World) (r next : RestartRecord) (old new : KeptMap) (done rest : List Commit) (now : Tables)
    (in_log : l.redo_log ≡ Some (done ++ rest)) (mark : next.commit ≡ r.commit + length done) (rows : MapHasRows new now)
    (to_redo : HaveRoomToRedo now rest (kept_for_snapshots w) w.blocks) (fits : has_room now now 0 (kept_for_snapshots w) w.blocks ≡ true) where
  map_has : (kept blocks : ℕ) → map_has_room reading new.pages kept blocks ≡ has_room now now 0 kept blocks
  map_has kept blocks = λ i. both_have_room (rows.standing i) (rows.committed_rows i) (rows.no_undo_pages i) kept blocks

  restart_has : RestartHasRoom l r old w → RestartHasRoom (switched l next new rest) next new w
  restart_has room = record {
    map = map_has (kept_for_snapshots w) w.blocks ∙ fits;
    history = room_later w.history r.commit next.commit (kept_for_snapshots w) w.blocks (omega (arith, mark)) room.history;
    log = λ start2 log2 in_map2 in_log2.
        let same_start : now ≡ start2 = same_Some now start2 (sym rows.committed_rows ∙ in_map2) in
        let same_log : rest ≡ log2 = same_Some rest log2 in_log2 in
        subst (λ (x : Tables × List Commit). HaveRoomToRedo x.0 x.1 (kept_for_snapshots w) w.blocks) (λ i. (same_start i, same_log i)) to_redo;
  }

  restart_later : RoomStands l r old w → (rest2 : List Commit) → rest ≡ rest2 → (0 < length (all_images new.pages)) ⊎ (0 < length rest2) → RestartHasRoom (switched l next new rest) next new w
  restart_later room rest2 is (inl images) = absurd (omega (arith, images, ap length rows.no_images))
  restart_later room [] is (inr some) = absurd (omega (arith, some))
  restart_later room (c ∷ cs) is (inr some) =
      let before : 0 < length (done ++ rest) = omega (arith, length-append done rest, ap length is) in
      restart_has (room.restart (inr (subst (λ o. IfSome o (λ log. 0 < length log)) (sym in_log) before)))

  pub room_by_rows : RoomStands l r old w → AllByRecursion (λ a. IsTrue (map_has_room reading a.pages 0 w.blocks)) (kept_maps (switched l next new rest))
      → 2 + blocks_in_use (switched l next new rest) + (len w.snapshots + 2) * converter_pages w.blocks ≤ w.blocks → RoomStands (switched l next new rest) next new w
  room_by_rows room maps blocks = record { maps = maps; restart = λ needs. restart_later room rest refl needs; blocks = blocks }
