use Rattle.std.proofs.Common.{subst, Err}
use Rattle.mdb_model.specs.Worlds.{World}
use Rattle.mdb_model.specs.declared.fault.PageFault.{PageFault}
use Rattle.page_ground.proofs.Passing.{err_passed}
use Rattle.live_area.specs.declared.area.LiveArea.{LiveArea}
use Rattle.live_area.specs.Serving.{ServesWorld, SavepointLeaves}
use Rattle.live_area.specs.Awaiting.{OpenLeaves}
use Rattle.live_area.proofs.Found.{reads_each}
use Rattle.live_area.proofs.Opened.{not_opened, low_end, low_last, then_opens}
use Rattle.page_ground.specs.AimLaws.{keeps_through}
use Rattle.live_area.proofs.area.LiveArea.open.Goals as goal

pub returns-in_err-area-clause-opens : goal.returns-in_err-area-clause-opens
returns-in_err-area-clause-opens g c told w found =
    let serves : LiveArea → Type 0 = λ area. ServesWorld g.H.Host.tells area.in_force.slots area.in_force.record area.store area.ring (g.H.Host.disk c.read.new.host) w in
    err_passed (OpenLeaves (g.H.Host.disk c.args.host.now) (g.H.Host.disk c.read.new.host) w serves) c.in_err-area.field-0.0 c.from_residual.result c.from_residual.ensures.1
    (not_opened (g.H.Host.disk c.args.host.now) (g.H.Host.disk c.read.new.host) w serves c.in_err-area.field-0.0 (c.in_err-area.ensures.whole told w found)
    (reads_each c.args.in_force.record c.args.start.now (g.H.Host.disk c.args.host.now) (g.H.Host.disk c.read.new.host) w found (c.read.ensures.reads.calm told)))

pub returns-in-Ok-clause-opens : goal.returns-in-Ok-clause-opens
returns-in-Ok-clause-opens g c told w found =
    let leaves =
    c.in-Ok.ensures.leaves told w (c.in_ok-area.ensures.awaits told w found) (low_end c.args.start.now c.in_ok-area.area.ring c.requires.start c.in_ok-area.ensures.opened c.requires.low)
    (low_last c.args.start.now c.in_ok-area.area.ring c.requires.start c.in_ok-area.ensures.opened c.requires.low c.requires.few) in (
      then_opens c.args.in_force.record c.args.start.now (g.H.Host.disk c.args.host.now) (g.H.Host.disk c.read.new.host) (g.H.Host.disk c.catch_up.new.host) w found (c.read.ensures.reads.calm told) leaves.0,
      leaves.1,
    )

pub returns-in-Err-Failed-clause-opens : goal.returns-in-Err-Failed-clause-opens
returns-in-Err-Failed-clause-opens g c told w found =
    let serves : World → Type 0 = ServesWorld g.H.Host.tells c.catch_up.new.self.in_force.slots c.catch_up.new.self.in_force.record c.catch_up.new.self.store c.catch_up.new.self.ring (g.H.Host.disk c.catch_up.new.host) in
    then_opens c.args.in_force.record c.args.start.now (g.H.Host.disk c.args.host.now) (g.H.Host.disk c.read.new.host) (g.H.Host.disk c.catch_up.new.host) w found (c.read.ensures.reads.calm told)
    (subst (λ (f : PageFault). SavepointLeaves (g.H.Host.disk c.read.new.host) (g.H.Host.disk c.catch_up.new.host) w serves (Err f)) c.in-Err-Failed.field-0-is
    (c.in-Err-Failed.ensures.leaves told w (c.in_ok-area.ensures.awaits told w found) (low_end c.args.start.now c.in_ok-area.area.ring c.requires.start c.in_ok-area.ensures.opened c.requires.low)
    (low_last c.args.start.now c.in_ok-area.area.ring c.requires.start c.in_ok-area.ensures.opened c.requires.low c.requires.few)))

pub returns-clause-opens : goal.returns-clause-opens
returns-clause-opens g c told w found =
    let serves : World → Type 0 = ServesWorld g.H.Host.tells c.catch_up.new.self.in_force.slots c.catch_up.new.self.in_force.record c.catch_up.new.self.store c.catch_up.new.self.ring (g.H.Host.disk c.catch_up.new.host) in
    subst (λ (f : PageFault). SavepointLeaves (g.H.Host.disk c.read.new.host) (g.H.Host.disk c.catch_up.new.host) w serves (Err f)) c.in-Err-Damaged.field-0-is
    (c.in-Err-Damaged.ensures.leaves told w (c.in_ok-area.ensures.awaits told w found) (low_end c.args.start.now c.in_ok-area.area.ring c.requires.start c.in_ok-area.ensures.opened c.requires.low)
    (low_last c.args.start.now c.in_ok-area.area.ring c.requires.start c.in_ok-area.ensures.opened c.requires.low c.requires.few))

pub returns-in-Ok-clause-keeps : goal.returns-in-Ok-clause-keeps
returns-in-Ok-clause-keeps g c told =
    keeps_through (g.H.Host.disk c.args.host.now) (g.H.Host.disk c.read.new.host) (g.H.Host.disk c.catch_up.new.host) (c.read.ensures.reads.calm told).keeps (c.catch_up.ensures.keeps told)

pub returns-in-Err-Failed-clause-keeps : goal.returns-in-Err-Failed-clause-keeps
returns-in-Err-Failed-clause-keeps g c told =
    keeps_through (g.H.Host.disk c.args.host.now) (g.H.Host.disk c.read.new.host) (g.H.Host.disk c.catch_up.new.host) (c.read.ensures.reads.calm told).keeps (c.catch_up.ensures.keeps told)

pub returns-clause-keeps : goal.returns-clause-keeps
returns-clause-keeps g c told =
    keeps_through (g.H.Host.disk c.args.host.now) (g.H.Host.disk c.read.new.host) (g.H.Host.disk c.catch_up.new.host) (c.read.ensures.reads.calm told).keeps (c.catch_up.ensures.keeps told)
