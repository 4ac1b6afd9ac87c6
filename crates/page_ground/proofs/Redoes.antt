-- All commits of a log are set.
--     set_done      what has room has it once the first commits are set
--     never_short_of_log      room is never short where the commits have room
use Rattle.std.proofs.Common.{◌≡◌, refl, sym, ap, subst, ◌∙◌, ℕ, ◌<◌, true, List, [], ◌∷◌, ◌++◌, arith}
use Rattle.mdb_model.specs.declared.change.Commit.{Commit}
use Rattle.mdb_model.specs.Images.{Image}
use Rattle.mdb_model.specs.Space.{has_room}
use Rattle.mdb_model.specs.Tables.{Tables, with_changes, with_commits}
use Rattle.mdb_bytes.specs.Held.{Holding}
use Rattle.page_store.specs.Opens.{own_pages}
use Rattle.page_store.specs.Store.{Store, block_count}
use Rattle.page_store.specs.WholeSavepoint.{IsSameArea, spare_after}
use Rattle.restart.specs.Redone.{IsFirstOf, IsPartSet}
use Rattle.row_spare.proofs.Spare.{spare_left}
use Rattle.store_rows.specs.StoredRows.{stored_rows, HasRows}
use Rattle.standing.proofs.RoomKept.{part_has_room}
use Rattle.kept_worlds.specs.InService.{HasRoomToSet}
use Rattle.kept_worlds.proofs.Setting.{set_rest}
use Rattle.page_ground.specs.LogKnown.{left_in}
use Rattle.page_ground.specs.Aims.{undone_in}
use Rattle.page_ground.specs.SetGroups.{set_at}
use Rattle.redo_ring.specs.declared.reader.RingReader.{RingReader}

-- the commits behind where a reader stands are those that it has left
pub undone_is_left : (reader : RingReader) (seen : Image) → undone_in reader (set_at reader) seen ≡ left_in reader seen
unfolding undone_in
undone_is_left reader seen = refl

pub set_done : (blocks : ℕ) (done rest : List Commit) (rows : Tables) → HasRoomToSet blocks (done ++ rest) rows → HasRoomToSet blocks rest (with_commits done rows)
set_done blocks [] rest rows room = room
set_done blocks (c ∷ cs) rest rows room = set_done blocks cs rest (with_changes c.changes rows) (set_rest blocks c (cs ++ rest) rows room)

-- rows with a first part of the next commit have room
part_room : (blocks : ℕ) (left : List Commit) (made : List _) (rows : Tables) → IsFirstOf made left → HasRoomToSet blocks left rows → has_room (with_changes made rows) (with_changes made rows) 0 0 blocks ≡ true
part_room blocks [] made rows first room = subst (λ m. has_room (with_changes m rows) (with_changes m rows) 0 0 blocks ≡ true) (sym first) room.fits
part_room blocks (c ∷ cs) made rows first room = part_has_room c cs rows (with_changes made rows) 0 blocks (made, first.0, first.1, room.differ.0, refl) room.to_redo

pub never_short_of_log : (tells : Type 0) (old at : Store) (before after : Image) (start : Holding)
    → start.rows ≡ stored_rows old before → HasRoomToSet (block_count old) start.log.commits (stored_rows old before)
    → old.maps.conv ≡ own_pages (block_count old) → IsSameArea old at → HasRows tells at after
    → IsPartSet start (stored_rows at after) → spare_after at < 64 → ⊥
never_short_of_log tells old at before after start same_rows room conv same rows part few =
    let here : HasRoomToSet (block_count old) (part.done ++ part.left) start.rows = subst (λ (x : List Commit × Tables). HasRoomToSet (block_count old) x.0 x.1) (λ i. (part.log i, sym same_rows i)) room in
    let fits : has_room (stored_rows at after) (stored_rows at after) 0 0 (block_count old) ≡ true =
    subst (λ (x : Tables). has_room x x 0 0 (block_count old) ≡ true) (sym part.rows_are)
    (part_room (block_count old) part.left part.made (with_commits part.done start.rows) part.first (set_done (block_count old) part.done part.left start.rows here)) in
    let conv_at : at.maps.conv ≡ own_pages (block_count at) = same.conv ∙ conv ∙ sym (ap own_pages same.area) in
    let enough = spare_left at after 0 rows.1 conv_at (subst (λ n. has_room (stored_rows at after) (stored_rows at after) 0 0 n ≡ true) (sym same.area) fits) in
    omega (arith, enough, few)
