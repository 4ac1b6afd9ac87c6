use Rattle.std.proofs.Common.{Err, sym, subst}
use Rattle.page_ground.proofs.Passing.{err_passed}
use Rattle.live_area.specs.Serving.{ServesWorld, SavepointLeaves}
use Rattle.live_area.proofs.Saved.{sound_after, saves_each, saves_all}
use Rattle.live_area.proofs.area.LiveArea.savepoint.Goals as goal

pub returns-in_err-savepoint-clause-leaves : goal.returns-in_err-savepoint-clause-leaves
returns-in_err-savepoint-clause-leaves g c told w serves fits low_end low_last =
    let leaves = SavepointLeaves (g.H.Host.disk c.args.host.now) (g.H.Host.disk c.savepoint.new.host) w (ServesWorld g.H.Host.tells c.savepoint.new.self.slots c.savepoint.new.self.record c.savepoint.new.store c.args.self.now.ring (g.H.Host.disk c.savepoint.new.host)) in
    err_passed leaves c.in_err-savepoint.field-0.0 c.from_residual.result c.from_residual.ensures.1
    (subst (λ f. leaves (Err f)) (sym c.in_err-savepoint.ensures.fault)
    (saves_each g.H.Host.tells c.args.self.now.in_force.slots c.savepoint.new.self.slots c.args.self.now.in_force.record c.savepoint.new.self.record c.args.self.now.store c.savepoint.new.store c.args.self.now.ring (g.H.Host.disk c.args.host.now) (g.H.Host.disk c.savepoint.new.host) c.min-commit.result c.min-position.result w
    serves c.blocks-before.ensures.sound fits low_end low_last c.min-commit.ensures c.min-position.ensures (c.savepoint.ensures.saves told)))

pub returns-clause-sound : goal.returns-clause-sound
returns-clause-sound g c =
    sound_after g.H.Host.tells c.args.self.now.in_force.slots c.savepoint.new.self.slots c.args.self.now.in_force.record c.savepoint.new.self.record c.args.self.now.store c.savepoint.new.store c.args.self.now.ring (g.H.Host.disk c.args.host.now) (g.H.Host.disk c.savepoint.new.host)
    c.requires.sound c.in_ok-savepoint.ensures.ready c.savepoint.ensures.elsewhere

pub returns-clause-leaves : goal.returns-clause-leaves
returns-clause-leaves g c told w serves fits low_end low_last = (
  saves_each g.H.Host.tells c.args.self.now.in_force.slots c.savepoint.new.self.slots c.args.self.now.in_force.record c.savepoint.new.self.record c.args.self.now.store c.savepoint.new.store c.args.self.now.ring (g.H.Host.disk c.args.host.now) (g.H.Host.disk c.savepoint.new.host) c.min-commit.result c.min-position.result w
      serves c.blocks-before.ensures.sound fits low_end low_last c.min-commit.ensures c.min-position.ensures (c.savepoint.ensures.saves told),
  saves_all g.H.Host.tells c.args.self.now.in_force.slots c.savepoint.new.self.slots c.args.self.now.in_force.record c.savepoint.new.self.record c.args.self.now.store c.savepoint.new.store c.args.self.now.ring (g.H.Host.disk c.args.host.now) (g.H.Host.disk c.savepoint.new.host) c.min-commit.result c.min-position.result w
      serves c.blocks-before.ensures.sound fits low_end low_last c.min-commit.ensures c.min-position.ensures (c.savepoint.ensures.saves told) c.in_ok-savepoint.ensures.ready c.in_ok-savepoint.ensures.named c.savepoint.ensures.area (c.in_ok-savepoint.ensures.stamped serves.service.stamped) c.blocks-after.ensures.sound (c.in_ok-savepoint.ensures.pages told),
)
