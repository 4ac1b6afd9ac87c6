-- One commit is set.
--     made_rows      its changes are in the rows
--     sets_all      what the devices stand for then
--     never_short      room is never short where the commit has room
use Rattle.std.proofs.Common.{Result, Ok, Err, ◌≡◌, sym, ap, subst, ◌∙◌, ℕ, ◌<◌, true, List, ◌∷◌, arith}
use Rattle.std.specs.Prelude.{OnOk, IfErr}
use Rattle.mdb_model.specs.declared.change.Change.{Change}
use Rattle.mdb_model.specs.declared.change.Commit.{Commit}
use Rattle.mdb_model.specs.declared.name.Name.{Name}
use Rattle.mdb_model.specs.Images.{Image}
use Rattle.mdb_model.specs.Space.{has_room}
use Rattle.mdb_model.specs.Tables.{with_changes}
use Rattle.mdb_bytes.specs.Fields.{Spells}
use Rattle.mdb_bytes.specs.Groups.{group_format}
use Rattle.mdb_bytes.specs.Held.{Holding}
use Rattle.page_store.specs.Opens.{own_pages}
use Rattle.page_store.specs.Store.{Store, block_count}
use Rattle.page_store.specs.WholeSavepoint.{IsSameArea, spare_after}
use Rattle.restart.specs.Redone.{IsMade, IsPartMade}
use Rattle.row_spare.proofs.Spare.{spare_left}
use Rattle.store_rows.specs.StoredRows.{stored_rows, HasRows}
use Rattle.standing.specs.RedoRoom.{IsFirstPart}
use Rattle.standing.proofs.RoomKept.{part_has_room}
use Rattle.kept_worlds.specs.InService.{HasRoomToSet}

pub ok_both : {T E : Type 0} (P Q R : Type 0) (result : Result T E) → (P → Q → R) → OnOk result P → OnOk result Q → OnOk result R
ok_both P Q R (Ok value) join p q = join p q
ok_both P Q R (Err fault) join p q = tt

pub err_to : {T E : Type 0} (P Q : E → Type 0) (result : Result T E) → ((fault : E) → P fault → Q fault) → IfErr result P → IfErr result Q
err_to P Q (Ok value) step p = tt
err_to P Q (Err fault) step p = step fault p

pub made_rows : (old new : Holding) (group : List ℕ) → IsMade old new group → (name : Name) (number : ℕ) (changes : List Change) → Spells group_format (record { name = name; number = number; changes = changes }) group → new.rows ≡ with_changes changes old.rows
made_rows old new group made name number changes spelled = ap (λ (h : Holding). h.rows) (made name number changes spelled)

-- where a commit has room, its first changes leave room for a savepoint
pub never_short : (tells : Type 0) (old at : Store) (before after : Image) (group : List ℕ) (name : Name) (number : ℕ) (changes : List Change) (commits : List Commit)
    → Spells group_format (record { name = name; number = number; changes = changes }) group
    → HasRoomToSet (block_count old) (record { changes = changes } ∷ commits) (stored_rows old before)
    → old.maps.conv ≡ own_pages (block_count old) → IsSameArea old at → HasRows tells at after
    → IsPartMade (stored_rows old before) (stored_rows at after) group → spare_after at < 64 → ⊥
never_short tells old at before after group name number changes commits spelled room conv same rows part few =
    let made = part name number changes spelled in
    let first : IsFirstPart (stored_rows old before) (record { changes = changes } ∷ commits) (stored_rows at after) = (made.0, made.1, made.2, room.differ.0, made.3) in
    let fits : has_room (stored_rows at after) (stored_rows at after) 0 0 (block_count old) ≡ true =
    part_has_room (record { changes = changes }) commits (stored_rows old before) (stored_rows at after) 0 (block_count old) first room.to_redo in
    let conv_at : at.maps.conv ≡ own_pages (block_count at) = same.conv ∙ conv ∙ sym (ap own_pages same.area) in
    let enough = spare_left at after 0 rows.1 conv_at (subst (λ n. has_room (stored_rows at after) (stored_rows at after) 0 0 n ≡ true) (sym same.area) fits) in
    omega (arith, enough, few)
