use Rattle.std.proofs.Common.{◌-◌, ◌≤◌, length, take}
use Rattle.script_lines.specs.Reading.{Pulls, HasNoNewline}
use Rattle.script_lines.proofs.lines.scan.Given as goal

abbrev pub invariant-loop-place : goal.invariant-loop-place
invariant-loop-place g l = record {
  within : l.searched ≤ length l.window;
  none : HasNoNewline (take l.searched l.window);
  pulls : Pulls (g.S.Source.left l.initial.source) (g.S.Source.left l.source) l.initial.window l.window;
  later : g.S.Source.faults l.initial.source ≤ g.S.Source.faults l.source;
}

abbrev pub decreases-loop-place : goal.decreases-loop-place
decreases-loop-place g l = 16384 - length l.window
