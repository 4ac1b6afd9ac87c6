use Rattle.std.proofs.Common.{refl, sym}
use Rattle.page_ground.specs.AimLaws.{keeps_still}
use Rattle.page_ground.proofs.SetPoints.{set_stands, set_undone}
use Rattle.page_ground.specs.declared.set_point.SetPoint.{SetPoint}
use Rattle.page_ground.proofs.saving.PageGroundGround.done.Goals as goal

pub returns-clause-kept : goal.returns-clause-kept
returns-clause-kept g c known stand whole =
    let now : SetPoint = record { commit = c.args.commit; position = c.args.self.now.reader.position } in (
      keeps_still (g.H.Host.disk c.args.self.now.host.now),
      (
        set_stands g.H.Host.tells c.args.self.now.in_force.now.slots c.args.self.now.in_force.now.record c.args.self.now.reader c.args.self.now.set now c.args.self.now.store.now (g.H.Host.disk c.args.self.now.host.now) stand whole.commit whole.first (sym whole.read) whole.next refl,
        refl,
        set_undone g.H.Host.tells c.args.self.now.in_force.now.slots c.args.self.now.in_force.now.record c.args.self.now.reader c.args.self.now.set now c.args.self.now.store.now (g.H.Host.disk c.args.self.now.host.now) stand whole.commit whole.first (sym whole.read) whole.next refl,
      ),
    )
