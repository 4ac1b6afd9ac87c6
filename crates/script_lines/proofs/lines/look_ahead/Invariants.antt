use Rattle.std.proofs.Common.{◌-◌, ◌≤◌, ◌<◌}
use Rattle.script_lines.specs.Reading.{Drops, HasNoNewline}
use Rattle.script_lines.proofs.lines.look_ahead.Given as goal

abbrev pub invariant-loop-dropped : goal.invariant-loop-dropped
invariant-loop-dropped g l = record {
  drops : Drops (g.S.Source.left l.initial.source) (g.S.Source.left l.source) l.initial.window l.dropped l.window;
  none : 0 < l.dropped → HasNoNewline l.window;
  few : l.dropped ≤ 35184372105216;
  later : g.S.Source.faults l.initial.source ≤ g.S.Source.faults l.source;
}

abbrev pub decreases-loop-dropped : goal.decreases-loop-dropped
decreases-loop-dropped g l = 35184372088832 - l.dropped
