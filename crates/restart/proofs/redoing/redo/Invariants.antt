use Rattle.std.proofs.Common.{◌≡◌, ◌+◌, ◌≤◌, ◌<◌, ◌^◌, ℕ, Some}
use Rattle.std.specs.Prelude.{unwrap_or}
use Rattle.mdb_model.specs.Tables.{with_commits}
use Rattle.restart.specs.Redone.{IsReadyToRedo, commits_upto, commits_behind, last_number}
use Rattle.restart.proofs.LeftToRedo.{last_or, SetSoFar}
use Rattle.restart.proofs.redoing.redo.Given as goal

abbrev pub invariant-loop-count : goal.invariant-loop-count
invariant-loop-count g l = record {
  known : g.G.Held.is_known l.fn.ground → g.G.Held.is_known l.ground;
  rows : g.G.Held.is_known l.fn.ground → with_commits (commits_upto l.until (g.G.Held.held l.ground).log) (g.G.Held.held l.ground).rows
      ≡ with_commits (commits_upto l.until (g.G.Held.held l.fn.ground).log) (g.G.Held.held l.fn.ground).rows;
  undo : g.G.Held.is_known l.fn.ground → (g.G.Held.held l.ground).undo ≡ (g.G.Held.held l.fn.ground).undo;
  last : g.G.Held.is_known l.fn.ground → last_or l.last (g.G.Held.held l.ground).log.after (commits_upto l.until (g.G.Held.held l.ground).log)
      ≡ last_number (g.G.Held.held l.fn.ground).log.after (commits_upto l.until (g.G.Held.held l.fn.ground).log);
  number : g.G.Held.is_known l.fn.ground → (n : ℕ) → l.last ≡ Some n → n ≡ (g.G.Held.held l.ground).log.after;
  count : g.G.Held.is_known l.fn.ground → l._count ≤ (g.G.Held.held l.ground).log.after;
  few : g.G.Held.is_known l.fn.ground → 0 < l._count → (g.G.Held.held l.ground).log.after < 2 ^ 62;
  behind : g.G.Held.is_known l.fn.ground → commits_behind l.until (g.G.Held.held l.ground).log ≡ commits_behind l.until (g.G.Held.held l.fn.ground).log;
  set : g.G.Held.is_known l.fn.ground → SetSoFar (g.G.Held.held l.fn.ground) (g.G.Held.held l.ground);
  kept : g.G.Held.is_known l.fn.ground → g.G.Ground.stands l.fn.ground → IsReadyToRedo (g.G.Ground.aim l.fn.ground) (g.G.Ground.undone l.fn.ground) (g.G.Ground.last_done l.fn.ground) (g.G.Held.held l.fn.ground)
      → g.G.Ground.fits l.fn.ground (g.G.Ground.undone l.fn.ground) (g.G.Held.held l.fn.ground).rows
      → g.G.Ground.keeps_aim l.fn.ground l.ground × (g.G.Ground.stands l.ground × (g.G.Ground.aim l.ground ≡ g.G.Ground.aim l.fn.ground) × IsReadyToRedo (g.G.Ground.aim l.ground) (g.G.Ground.undone l.ground) (g.G.Ground.last_done l.ground) (g.G.Held.held l.ground)
      × g.G.Ground.fits l.ground (g.G.Ground.undone l.ground) (g.G.Held.held l.ground).rows);
  ready : g.G.Ground.can_save l.ground;
  numbers : g.G.Ground.numbers l.fn.ground + g.G.LogRead.left l.ground ≤ g.G.Ground.numbers l.ground + g.G.LogRead.left l.fn.ground;
  told : g.G.Ground.last_done l.ground ≡ unwrap_or l.last (g.G.Ground.last_done l.fn.ground);
  comes : g.G.Ground.comes_after l.fn.ground l.ground;
  faults : g.G.Held.faults l.fn.ground ≤ g.G.Held.faults l.ground;
}
