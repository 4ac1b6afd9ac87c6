use Rattle.restore_chain.proofs.reached.Reached.with_area.Goals as goal

pub returns-in-Some : goal.returns-in-Some
returns-in-Some c links r = rw c.in-Some.is (c.with_log.ensures links 0 r)
