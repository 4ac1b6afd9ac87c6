use Rattle.std.proofs.Common.{◌<◌, length, subst, sym}
use Rattle.mdb_bytes.specs.LoggedChanges.{change_of, HasChanges}
use Rattle.mdb_bytes.proofs.ChangeRuns.{gives_none, gives_some, shorter}
use Rattle.mdb_bytes.proofs.changes.ChangeReader.next.Goals as goal

pub returns-in_default-clause-gives : goal.returns-in_default-clause-gives
returns-in_default-clause-gives c = λ cs h. gives_none c.self.inside.left.now c.in_default.ensures.first cs (subst (λ t. HasChanges t cs) (sym c.self.view_is) h)

pub returns-clause-gives : goal.returns-clause-gives
returns-clause-gives c =
    λ cs h. gives_some (change_of c.in-Some.change) c.self.inside.left.now c.in-Some.rest.now c.in-Some.ensures.first cs (subst (λ t. HasChanges t cs) (sym c.self.view_is) h)

pub returns-clause-shorter : goal.returns-clause-shorter
returns-clause-shorter c =
    subst (λ t. length c.in-Some.rest.now < length t) c.self.view_is (shorter (change_of c.in-Some.change) c.self.inside.left.now c.in-Some.rest.now c.in-Some.ensures.first)
