use Rattle.std.proofs.Common.{◌≡◌, ◌∙◌, sym, subst, ap, ◌-◌, length, Err, arith}
use Rattle.mdb_model.specs.declared.fault.PageFault.{PageFault}
use Rattle.mdb_model.specs.Images.{Image}
use Rattle.mdb_model.specs.Worlds.{World}
use Rattle.mdb_host.specs.Disk.{Disk}
use Rattle.page_ground.proofs.Passing.{err_passed}
use Rattle.page_ground.specs.AimLaws.{keeps_through}
use Rattle.standing.specs.WholeStanding.{StandsWhole}
use Rattle.kept_worlds.specs.InService.{AtEachMoment}
use Rattle.live_area.specs.declared.area.LiveArea.{LiveArea}
use Rattle.live_area.specs.declared.fault.CommitFault.{CommitFault}
use Rattle.live_area.specs.Serving.{ServesWorld, CommitAnswer, CommitLeaves, SavepointLeaves, IsRefusal}
use Rattle.open_database.specs.Groups.{GroupLeaves}
use Rattle.open_database.proofs.GroupSteps.{both, room_answer, spells_moved, group_behind, none_behind}
use Rattle.open_database.proofs.group.commit_group.Goals as goal

pub returns-in-Ok-clause-leaves : goal.returns-in-Ok-clause-leaves
returns-in-Ok-clause-leaves g c told w commit spelled serves can room = c.in-Ok.ensures.leaves told w commit spelled serves can

pub returns-in-Err-Full-clause-leaves : goal.returns-in-Err-Full-clause-leaves
returns-in-Err-Full-clause-leaves g c told w commit spelled serves can room =
    let area = c.commit.new.self in
    let d0 = g.H.Host.disk c.args.host.now in
    let d1 = g.H.Host.disk c.commit.new.host in
    subst (λ (f : CommitFault). CommitLeaves d0 d1 w commit (ServesWorld g.H.Host.tells area.in_force.slots area.in_force.record area.store area.ring d1) (Err f)) c.in-Err-Full.field-0-is
    (c.in-Err-Full.ensures.leaves told w commit spelled serves can)

pub returns-in-Err-Failed-clause-leaves : goal.returns-in-Err-Failed-clause-leaves
returns-in-Err-Failed-clause-leaves g c told w commit spelled serves can room =
    let area = c.commit.new.self in
    let d0 = g.H.Host.disk c.args.host.now in
    let d1 = g.H.Host.disk c.commit.new.host in
    subst (λ (f : CommitFault). CommitLeaves d0 d1 w commit (ServesWorld g.H.Host.tells area.in_force.slots area.in_force.record area.store area.ring d1) (Err f)) c.in-Err-Failed.field-0-is
    (c.in-Err-Failed.ensures.leaves told w commit spelled serves can)

pub returns-in_err-savepoint-in-Err-Pinned-clause-leaves : goal.returns-in_err-savepoint-in-Err-Pinned-clause-leaves
returns-in_err-savepoint-in-Err-Pinned-clause-leaves g c told w commit spelled serves can room =
    let area = c.savepoint.new.self in
    let d0 = g.H.Host.disk c.args.host.now in
    let d1 = g.H.Host.disk c.commit.new.host in
    let d2 = g.H.Host.disk c.savepoint.new.host in
    let same = subst (λ (f : CommitFault). IsRefusal f → (c.commit.new.self ≡ c.args.area.now) × (c.commit.new.host ≡ c.args.host.now)) c.in-Err-Pinned.field-0-is c.in-Err-Pinned.ensures.refused tt in
    let still = ap g.H.Host.disk same.1 in
    let served = both (λ (a : LiveArea) (d : Disk). ServesWorld g.H.Host.tells a.in_force.slots a.in_force.record a.store a.ring d w) c.args.area.now c.commit.new.self d0 d1 same.0 still serves in
    let serves2 : World → Type 0 = ServesWorld g.H.Host.tells area.in_force.slots area.in_force.record area.store area.ring d2 in
    let failed = c.in_err-savepoint-in-Err-Pinned.ensures.fault in
    let saves = c.in_err-savepoint-in-Err-Pinned.ensures.leaves told w served room (let e = ap (λ (x : LiveArea). x.ring.end_position) same.0 in omega (arith, e, c.requires.low))
    (let e = ap (λ (x : LiveArea). x.ring.last_commit) same.0 in omega (arith, e, c.requires.few)) in
    let moments = subst (λ (f : PageFault). SavepointLeaves d1 d2 w serves2 (Err f)) failed saves in
    err_passed (GroupLeaves d0 d2 w commit serves2) c.in_err-savepoint-in-Err-Pinned.field-0.0 c.from_residual.result c.from_residual.ensures.1
    (subst (λ (f : PageFault). GroupLeaves d0 d2 w commit serves2 (Err f)) (sym failed)
    (none_behind d0 d2 w commit serves2 (subst (λ (d : Disk). AtEachMoment d d2 (λ (image : Image). StandsWhole image w)) still moments)))

pub commit_once-requires-clause-due : goal.commit_once-requires-clause-due
commit_once-requires-clause-due g c =
    let same = subst (λ (f : CommitFault). IsRefusal f → (c.commit.new.self ≡ c.args.area.now) × (c.commit.new.host ≡ c.args.host.now)) c.in-Err-Pinned.field-0-is c.in-Err-Pinned.ensures.refused tt in (
      c.requires.due.0,
      spells_moved c.args.area.now.ring.name c.savepoint.new.self.ring.name c.args.area.now.ring.last_commit c.savepoint.new.self.ring.last_commit c.requires.due.0 c.args.group.now
          (c.savepoint.ensures.same_log.0 ∙ ap (λ (x : LiveArea). x.ring.name) same.0) (c.savepoint.ensures.log.1 ∙ ap (λ (x : LiveArea). x.ring.last_commit) same.0) c.requires.due.1,
    )

pub returns-in_ok-savepoint-in-Err-Pinned-clause-answer : goal.returns-in_ok-savepoint-in-Err-Pinned-clause-answer
returns-in_ok-savepoint-in-Err-Pinned-clause-answer g c =
    let ring = c.args.area.now.ring in
    let answer = subst (λ (f : CommitFault). CommitAnswer ring.size (ring.end_position - ring.saved_position) (ring.end_position - ring.redo_position) (length c.args.group.now) (Err f)) c.in-Err-Pinned.field-0-is c.in-Err-Pinned.ensures.answer in
    room_answer ring.size (ring.end_position - ring.saved_position) (length c.args.group.now) c.commit_once.result c.commit_once.ensures.sure answer.0

pub returns-in_ok-savepoint-in-Err-Pinned-clause-leaves : goal.returns-in_ok-savepoint-in-Err-Pinned-clause-leaves
returns-in_ok-savepoint-in-Err-Pinned-clause-leaves g c told w commit spelled serves can room =
    let area = c.commit_once.new.area in
    let d0 = g.H.Host.disk c.args.host.now in
    let d1 = g.H.Host.disk c.commit.new.host in
    let d2 = g.H.Host.disk c.savepoint.new.host in
    let d3 = g.H.Host.disk c.commit_once.new.host in
    let same = subst (λ (f : CommitFault). IsRefusal f → (c.commit.new.self ≡ c.args.area.now) × (c.commit.new.host ≡ c.args.host.now)) c.in-Err-Pinned.field-0-is c.in-Err-Pinned.ensures.refused tt in
    let still = ap g.H.Host.disk same.1 in
    let served = both (λ (a : LiveArea) (d : Disk). ServesWorld g.H.Host.tells a.in_force.slots a.in_force.record a.store a.ring d w) c.args.area.now c.commit.new.self d0 d1 same.0 still serves in
    let saves = c.in_ok-savepoint-in-Err-Pinned.ensures.leaves told w served room (let e = ap (λ (x : LiveArea). x.ring.end_position) same.0 in omega (arith, e, c.requires.low))
    (let e = ap (λ (x : LiveArea). x.ring.last_commit) same.0 in omega (arith, e, c.requires.few)) in
    group_behind d0 d2 w commit (ServesWorld g.H.Host.tells area.in_force.slots area.in_force.record area.store area.ring d3) d3 c.commit_once.result
    (subst (λ (d : Disk). AtEachMoment d d2 (λ (image : Image). StandsWhole image w)) still saves.0)
    (c.commit_once.ensures.leaves told w commit
    (spells_moved c.args.area.now.ring.name c.savepoint.new.self.ring.name c.args.area.now.ring.last_commit c.savepoint.new.self.ring.last_commit commit.changes c.args.group.now
    (c.savepoint.ensures.same_log.0 ∙ ap (λ (x : LiveArea). x.ring.name) same.0) (c.savepoint.ensures.log.1 ∙ ap (λ (x : LiveArea). x.ring.last_commit) same.0) spelled)
    saves.1 can)

pub returns-in_ok-savepoint-in-Err-Pinned-clause-keeps : goal.returns-in_ok-savepoint-in-Err-Pinned-clause-keeps
returns-in_ok-savepoint-in-Err-Pinned-clause-keeps g c told =
    let d1 = g.H.Host.disk c.commit.new.host in
    let d2 = g.H.Host.disk c.savepoint.new.host in
    let d3 = g.H.Host.disk c.commit_once.new.host in
    keeps_through (g.H.Host.disk c.args.host.now) d1 d3 (c.commit.ensures.keeps told) (keeps_through d1 d2 d3 (c.savepoint.ensures.keeps told) (c.commit_once.ensures.keeps told))
