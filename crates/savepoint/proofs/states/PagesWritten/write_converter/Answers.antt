use Rattle.savepoint.proofs.StandsSteps.{free_writes}
use Rattle.savepoint.proofs.states.PagesWritten.write_converter.Goals as goal

pub returns-in-Ok-clause-kept : goal.returns-in-Ok-clause-kept
returns-in-Ok-clause-kept g c told = free_writes c.args.volumes.now c.args.free.now c.args.converter.now _ _ c.requires.may.unused (c.write_settled.ensures.writes.goes told)

pub returns-in-Err-clause-kept : goal.returns-in-Err-clause-kept
returns-in-Err-clause-kept g c told = free_writes c.args.volumes.now c.args.free.now c.args.converter.now _ _ c.requires.may.unused (c.write_settled.ensures.writes.goes told)
