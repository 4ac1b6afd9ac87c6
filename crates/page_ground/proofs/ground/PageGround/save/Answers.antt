use Rattle.page_ground.proofs.Log.{known_same, reads_stay}
use Rattle.page_ground.proofs.Passing.{ok_none}
use Rattle.page_ground.proofs.Savepoints.{rows_saved, held_saved, save_keeps, save_stands, save_aim, save_undone, in_area}
use Rattle.page_ground.proofs.ground.PageGround.save.Goals as goal

pub returns-in_err-savepoint-clause-kept : goal.returns-in_err-savepoint-clause-kept
returns-in_err-savepoint-clause-kept g c rows stand way =
    let told = stand.service.told in (
      save_keeps g.H.Host.tells c.args.self.now.in_force.now.slots c.savepoint.new.self.slots c.args.self.now.in_force.now.record c.savepoint.new.self.record c.args.self.now.reader c.args.self.now.set c.args.self.now.store.now c.savepoint.new.store (g.H.Host.disk c.args.self.now.host.now) (g.H.Host.disk c.savepoint.new.host) c.min-commit.result c.min-position.result
          (g.met.H.Host.seen_left c.args.self.now.host.now told) (g.met.H.Host.seen_left c.savepoint.new.host told) c.blocks-before.ensures.sound rows stand way c.min-commit.ensures c.min-position.ensures (c.savepoint.ensures.saves told),
      ok_none _ _ c.from_residual.result c.from_residual.ensures.1,
    )

pub returns-clause-same : goal.returns-clause-same
returns-clause-same g c rows known =
    let told = known.told in
    let saved = rows_saved g.H.Host.tells c.args.self.now.store.now c.savepoint.new.store (g.H.Host.disk c.args.self.now.host.now).seen (g.H.Host.disk c.savepoint.new.host).seen rows (c.in_ok-savepoint.ensures.pages told) ((c.in_ok-savepoint.ensures.ready.standing told).known) in (
      (saved.0, known_same (g.H.Host.disk c.args.self.now.host.now).seen (g.H.Host.disk c.savepoint.new.host).seen (c.savepoint.ensures.elsewhere told) g.H.Host.tells c.args.self.now.reader known),
      held_saved c.args.self.now.store.now c.savepoint.new.store c.args.self.now.reader (g.H.Host.disk c.args.self.now.host.now).seen (g.H.Host.disk c.savepoint.new.host).seen (c.savepoint.ensures.elsewhere told) saved.1,
    )

pub returns-clause-kept : goal.returns-clause-kept
returns-clause-kept g c rows stand way =
    let told = stand.service.told in
    let left = g.met.H.Host.seen_left c.args.self.now.host.now told in
    let left2 = g.met.H.Host.seen_left c.savepoint.new.host told in
    let log = c.savepoint.ensures.elsewhere told in
    let can = c.in_ok-savepoint.ensures.ready in
    let area = in_area c.savepoint.new.store c.blocks-after.ensures.sound can.placed.own in (
      save_keeps g.H.Host.tells c.args.self.now.in_force.now.slots c.savepoint.new.self.slots c.args.self.now.in_force.now.record c.savepoint.new.self.record c.args.self.now.reader c.args.self.now.set c.args.self.now.store.now c.savepoint.new.store (g.H.Host.disk c.args.self.now.host.now) (g.H.Host.disk c.savepoint.new.host) c.min-commit.result c.min-position.result left left2 c.blocks-before.ensures.sound rows stand way c.min-commit.ensures c.min-position.ensures (c.savepoint.ensures.saves told),
      (
        save_stands g.H.Host.tells c.args.self.now.in_force.now.slots c.savepoint.new.self.slots c.args.self.now.in_force.now.record c.savepoint.new.self.record c.args.self.now.reader c.args.self.now.set c.args.self.now.store.now c.savepoint.new.store (g.H.Host.disk c.args.self.now.host.now) (g.H.Host.disk c.savepoint.new.host) c.min-commit.result c.min-position.result left left2 c.blocks-before.ensures.sound rows stand way c.min-commit.ensures c.min-position.ensures (c.savepoint.ensures.saves told) log can c.in_ok-savepoint.ensures.named c.savepoint.ensures.area (c.in_ok-savepoint.ensures.stamped stand.service.stamped) area,
        save_aim g.H.Host.tells c.args.self.now.in_force.now.slots c.savepoint.new.self.slots c.args.self.now.in_force.now.record c.savepoint.new.self.record c.args.self.now.reader c.args.self.now.set c.args.self.now.store.now c.savepoint.new.store (g.H.Host.disk c.args.self.now.host.now) (g.H.Host.disk c.savepoint.new.host) c.min-commit.result c.min-position.result left left2 c.blocks-before.ensures.sound rows stand way c.min-commit.ensures c.min-position.ensures (c.savepoint.ensures.saves told),
        save_undone g.H.Host.tells c.args.self.now.in_force.now.slots c.savepoint.new.self.slots c.args.self.now.in_force.now.record c.savepoint.new.self.record c.args.self.now.reader c.args.self.now.set c.args.self.now.store.now c.savepoint.new.store (g.H.Host.disk c.args.self.now.host.now) (g.H.Host.disk c.savepoint.new.host) c.min-commit.result c.min-position.result left left2 c.blocks-before.ensures.sound rows stand way c.min-commit.ensures c.min-position.ensures (c.savepoint.ensures.saves told) log,
      ),
    )

pub returns-in_err-savepoint-clause-reads : goal.returns-in_err-savepoint-clause-reads
returns-in_err-savepoint-clause-reads g c = reads_stay g.H.Host.tells c.args.self.now.reader (g.H.Host.disk c.args.self.now.host.now).seen (g.H.Host.disk c.savepoint.new.host).seen c.savepoint.ensures.elsewhere

pub returns-clause-reads : goal.returns-clause-reads
returns-clause-reads g c = reads_stay g.H.Host.tells c.args.self.now.reader (g.H.Host.disk c.args.self.now.host.now).seen (g.H.Host.disk c.savepoint.new.host).seen c.savepoint.ensures.elsewhere
