use Rattle.std.proofs.Common.{◌≡◌, ◌+◌, ◌≤◌, ℕ, List, length}
use Rattle.mdb_model.specs.declared.change.Change.{Change}
use Rattle.mdb_model.specs.declared.name.Name.{Name}
use Rattle.mdb_bytes.specs.Fields.{Spells}
use Rattle.mdb_bytes.specs.Groups.{group_format}
use Rattle.restart.specs.Redone.{IsFirstUndone}
use Rattle.restart.proofs.Making.{Making}
use Rattle.restart.proofs.redoing.redo_group.Given as goal

abbrev pub invariant-loop-change : goal.invariant-loop-change
invariant-loop-change g l = record {
  known : g.G.Held.is_known l.fn.ground → g.G.Held.is_known l.ground;
  making : g.G.Held.is_known l.fn.ground → (name : Name) (number : ℕ) (changes : List Change) → Spells group_format (record { name = name; number = number; changes = changes }) l.fn.group
      → Making l.changes (g.G.Held.held l.fn.ground) (g.G.Held.held l.ground) changes;
  kept : g.G.Held.is_known l.fn.ground → g.G.Ground.stands l.fn.ground
      → IsFirstUndone (g.G.Ground.aim l.fn.ground) (g.G.Ground.undone l.fn.ground) (g.G.Held.held l.fn.ground).rows l.fn.group
      → g.G.Ground.fits l.fn.ground (g.G.Ground.undone l.fn.ground) (g.G.Held.held l.fn.ground).rows
      → g.G.Ground.keeps_aim l.fn.ground l.ground × (g.G.Ground.stands l.ground × (g.G.Ground.aim l.ground ≡ g.G.Ground.aim l.fn.ground) × (g.G.Ground.undone l.ground ≡ g.G.Ground.undone l.fn.ground));
  ready : g.G.Ground.can_save l.ground;
  numbers : g.G.Ground.numbers l.fn.ground + length l.changes ≤ g.G.Ground.numbers l.ground + length l.fn.group;
  left : g.G.LogRead.left l.ground ≤ g.G.LogRead.left l.fn.ground;
  last : g.G.Ground.last_done l.ground ≡ g.G.Ground.last_done l.fn.ground;
  comes : g.G.Ground.comes_after l.fn.ground l.ground;
  faults : g.G.Held.faults l.fn.ground ≤ g.G.Held.faults l.ground;
}

abbrev pub decreases-loop-change : goal.decreases-loop-change
decreases-loop-change g l = length l.changes
