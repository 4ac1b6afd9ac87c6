-- Commits that are set on rows, one after the other.
--     set_rest      what has room, has it once the first commit is set
--     part_leads      rows with a first part of the first commit lead to the world
use Rattle.std.proofs.Common.{◌≡◌, sym, ap, subst, ◌∙◌, ℕ, List, [], ◌∷◌, arith}
use Rattle.mdb_model.specs.declared.change.Commit.{Commit}
use Rattle.mdb_model.specs.History.{tables_of}
use Rattle.mdb_model.specs.Tables.{Tables, with_changes, with_commits}
use Rattle.mdb_model.specs.Worlds.{World}
use Rattle.standing.specs.RedoRoom.{IsFirstPart, NoMoreCost}
use Rattle.standing.proofs.CostLaws.{room_mono}
use Rattle.standing.proofs.RedoRoom.{made_rest}
use Rattle.standing.proofs.RoomKept.{redo_part, part_has_room}
use Rattle.kept_worlds.specs.InService.{LeadsTo, HasRoomToSet}

no_more : (a b : Tables) → NoMoreCost b b a b
no_more a b p = omega arith

pub set_rest : (blocks : ℕ) (c : Commit) (cs : List Commit) (rows : Tables) → HasRoomToSet blocks (c ∷ cs) rows → HasRoomToSet blocks cs (with_changes c.changes rows)
set_rest blocks c cs rows room = record {
  fits = room_mono (with_changes c.changes rows) (with_changes c.changes rows) rows (with_changes c.changes rows) 0 0 0 blocks (no_more rows (with_changes c.changes rows)) (omega arith) room.to_redo.0;
  to_redo = room.to_redo.1;
  differ = room.differ.1;
}

pub part_leads : (w : World) (undone : List Commit) (before now : Tables) → with_commits undone before ≡ tables_of w.history → HasRoomToSet w.blocks undone before → IsFirstPart before undone now → LeadsTo w undone now
part_leads w [] before now aimed room part = subst (LeadsTo w []) (sym part) (record { aimed = aimed; fits = room.fits; to_redo = tt })
part_leads w (c ∷ cs) before now aimed room part = record {
  aimed =
      let a = part.0 in
      let b = part.1 in
      (λ i. with_commits cs (with_changes (part.2 i) (part.4 i)))
      ∙ ap (with_commits cs) (made_rest a b before)
      ∙ (λ i. with_commits cs (with_changes (sym part.2 i) before))
      ∙ aimed;
  fits = part_has_room c cs before now 0 w.blocks part room.to_redo;
  to_redo = redo_part (c ∷ cs) before now 0 w.blocks part room.to_redo;
}
