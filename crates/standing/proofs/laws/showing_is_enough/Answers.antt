use Rattle.std.specs.Prelude.{IsTrue}
use Rattle.standing.proofs.LookLaws.{stands_unused}
use Rattle.standing.proofs.NamedDevices.{shown_by_named}
use Rattle.standing.proofs.WholeLaw.{same_look}
use Rattle.standing.proofs.laws.showing_is_enough.Goals as goal

pub returns-clause-look : goal.returns-clause-look
returns-clause-look c = same_look

pub returns-clause-unused : goal.returns-clause-unused
returns-clause-unused c old new r set w change was is unused = stands_unused old new r (λ block. IsTrue (set block)) change w was is unused

pub returns-clause-named : goal.returns-clause-named
returns-clause-named c = shown_by_named
