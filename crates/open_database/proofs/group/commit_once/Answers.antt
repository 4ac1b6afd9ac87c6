use Rattle.std.proofs.Common.{subst, Err}
use Rattle.live_area.specs.declared.fault.CommitFault.{CommitFault}
use Rattle.live_area.specs.Serving.{ServesWorld, CommitLeaves}
use Rattle.open_database.proofs.group.commit_once.Goals as goal

pub returns-in-Ok-clause-leaves : goal.returns-in-Ok-clause-leaves
returns-in-Ok-clause-leaves g c told w commit spelled serves can = c.in-Ok.ensures.leaves told w commit spelled serves can

pub returns-in-Err-Failed-clause-leaves : goal.returns-in-Err-Failed-clause-leaves
returns-in-Err-Failed-clause-leaves g c told w commit spelled serves can =
    let area = c.commit.new.self in
    let d0 = g.H.Host.disk c.args.host.now in
    let d1 = g.H.Host.disk c.commit.new.host in
    subst (λ (f : CommitFault). CommitLeaves d0 d1 w commit (ServesWorld g.H.Host.tells area.in_force.slots area.in_force.record area.store area.ring d1) (Err f)) c.in-Err-Failed.field-0-is
    (c.in-Err-Failed.ensures.leaves told w commit spelled serves can)
