use Rattle.std.proofs.Common.{sym, subst, ap, Err, arith}
use Rattle.page_ground.proofs.Passing.{err_passed}
use Rattle.redo_ring.specs.declared.ring.Ring.{Ring}
use Rattle.live_area.specs.Serving.{ServesWorld, SavepointLeaves}
use Rattle.live_area.proofs.CaughtUp.{sound_redone, each_kept, only_failed, served, fits, then_saves}
use Rattle.page_ground.specs.AimLaws.{keeps_through}
use Rattle.live_area.proofs.area.LiveArea.catch_up.Goals as goal

pub returns-in_err-redo-clause-leaves : goal.returns-in_err-redo-clause-leaves
returns-in_err-redo-clause-leaves g c told w awaits low_end low_last =
    let serves = ServesWorld g.H.Host.tells c.redo.new.self.in_force.slots c.redo.new.self.in_force.record c.redo.new.self.store c.redo.new.self.ring (g.H.Host.disk c.redo.new.host) in
    let leaves = SavepointLeaves (g.H.Host.disk c.args.host.now) (g.H.Host.disk c.redo.new.host) w serves in
    let failed =
    only_failed g.H.Host.tells c.args.self.now.in_force c.redo.new.self.in_force c.args.self.now.store c.redo.new.self.store c.args.self.now.ring c.redo.new.self.ring (g.H.Host.disk c.args.host.now) (g.H.Host.disk c.redo.new.host) w _
    awaits c.requires.sound.there (g.met.H.Host.seen_left c.args.host.now told) (g.met.H.Host.seen_left c.redo.new.host told) low_end low_last c.in_err-redo.ensures.redone c.redo.ensures.ring in
    err_passed leaves c.in_err-redo.field-0.0 c.from_residual.result c.from_residual.ensures.1
    (subst (λ f. leaves (Err f)) (sym failed)
    (each_kept g.H.Host.tells c.args.self.now.in_force c.redo.new.self.in_force c.args.self.now.store c.redo.new.self.store c.args.self.now.ring c.redo.new.self.ring (g.H.Host.disk c.args.host.now) (g.H.Host.disk c.redo.new.host) w _
    awaits c.requires.sound.there (g.met.H.Host.seen_left c.args.host.now told) (g.met.H.Host.seen_left c.redo.new.host told) low_end low_last c.in_err-redo.ensures.redone c.redo.ensures.ring))

pub savepoint-requires-clause-sound : goal.savepoint-requires-clause-sound
savepoint-requires-clause-sound g c =
    sound_redone g.H.Host.tells c.redo.new.self.in_force.slots c.redo.new.self.in_force.record c.redo.new.self.store c.args.self.now.ring c.redo.new.self.ring (g.H.Host.disk c.args.host.now) (g.H.Host.disk c.redo.new.host)
    c.requires.sound.order c.redo.ensures.ring c.in_ok-redo.ensures.can_save c.requires.sound.there c.redo.ensures.log

pub returns-clause-leaves : goal.returns-clause-leaves
returns-clause-leaves g c told w awaits low_end low_last =
    let left = g.met.H.Host.seen_left c.args.host.now told in
    let left2 = g.met.H.Host.seen_left c.redo.new.host told in
    then_saves (g.H.Host.disk c.args.host.now) (g.H.Host.disk c.redo.new.host) (g.H.Host.disk c.savepoint.new.host) w (ServesWorld g.H.Host.tells c.savepoint.new.self.in_force.slots c.savepoint.new.self.in_force.record c.savepoint.new.self.store c.savepoint.new.self.ring (g.H.Host.disk c.savepoint.new.host)) c.savepoint.result
    (each_kept g.H.Host.tells c.args.self.now.in_force c.redo.new.self.in_force c.args.self.now.store c.redo.new.self.store c.args.self.now.ring c.redo.new.self.ring (g.H.Host.disk c.args.host.now) (g.H.Host.disk c.redo.new.host) w _
    awaits c.requires.sound.there left left2 low_end low_last c.in_ok-redo.ensures.redone c.redo.ensures.ring)
    (c.savepoint.ensures.leaves told w
    (served g.H.Host.tells c.args.self.now.in_force c.redo.new.self.in_force c.args.self.now.store c.redo.new.self.store c.args.self.now.ring c.redo.new.self.ring (g.H.Host.disk c.args.host.now) (g.H.Host.disk c.redo.new.host) w _
    awaits c.requires.sound.there left left2 low_end low_last c.in_ok-redo.ensures.redone c.redo.ensures.ring)
    (fits g.H.Host.tells c.args.self.now.in_force c.redo.new.self.in_force c.args.self.now.store c.redo.new.self.store c.args.self.now.ring c.redo.new.self.ring (g.H.Host.disk c.args.host.now) (g.H.Host.disk c.redo.new.host) w _
    awaits c.requires.sound.there left left2 low_end low_last c.in_ok-redo.ensures.redone c.redo.ensures.ring)
    (let e = ap (λ (x : Ring). x.end_position) c.redo.ensures.ring in omega (arith, e, low_end)) (let e = ap (λ (x : Ring). x.last_commit) c.redo.ensures.ring in omega (arith, e, low_last)))

pub returns-clause-keeps : goal.returns-clause-keeps
returns-clause-keeps g c told =
    keeps_through (g.H.Host.disk c.args.host.now) (g.H.Host.disk c.redo.new.host) (g.H.Host.disk c.savepoint.new.host) (c.redo.ensures.keeps told) (c.savepoint.ensures.keeps told)
