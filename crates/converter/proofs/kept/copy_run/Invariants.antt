use Rattle.converter.proofs.Runs.{Copied}
use Rattle.converter.proofs.kept.copy_run.Given as goal

abbrev pub invariant-loop-q : goal.invariant-loop-q
invariant-loop-q l = Copied l.fn.into l.from l.at l.q l.into
