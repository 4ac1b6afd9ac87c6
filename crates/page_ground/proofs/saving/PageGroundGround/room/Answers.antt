use Rattle.std.proofs.Common.{refl, arith}
use Rattle.mdb_bytes.specs.Held.{HasRoomCause}
use Rattle.page_store.specs.WholeSavepoint.{spare_after}
use Rattle.page_ground.specs.AimLaws.{keeps_still}
use Rattle.page_ground.proofs.Passing.{ok_none, err_passed, failed_cause, room_cause}
use Rattle.page_ground.proofs.saving.PageGroundGround.room.Goals as goal

pub returns-then-spare-ge-SPARE_PAGES-clause-kept : goal.returns-then-spare-ge-SPARE_PAGES-clause-kept
returns-then-spare-ge-SPARE_PAGES-clause-kept g c known stand way = (keeps_still (g.H.Host.disk c.args.self.now.host.now), (stand, refl, refl))

pub returns-in_err-save-clause-kept : goal.returns-in_err-save-clause-kept
returns-in_err-save-clause-kept g c known stand way = ((c.save.ensures.kept known.0 stand way).0, ok_none _ _ c.from_residual.result c.from_residual.ensures.1)

pub returns-in_err-save-clause-cause : goal.returns-in_err-save-clause-cause
returns-in_err-save-clause-cause g c =
    err_passed (HasRoomCause _ (spare_after c.args.self.now.store.now) (g.H.Host.faults c.args.self.now.host.now) (g.H.Host.faults c.save.new.self.host.now)) c.in_err-save.field-0.0 c.from_residual.result c.from_residual.ensures.1
    (failed_cause _ (spare_after c.args.self.now.store.now) (g.H.Host.faults c.args.self.now.host.now) (g.H.Host.faults c.save.new.self.host.now) c.in_err-save.field-0.0 c.save.ensures.cause.later c.in_err-save.ensures.cause.failed c.in_err-save.ensures.fault)

pub returns-then-spare-ge-SPARE_PAGES-2-clause-same : goal.returns-then-spare-ge-SPARE_PAGES-2-clause-same
returns-then-spare-ge-SPARE_PAGES-2-clause-same g c known = c.in_ok-save.ensures.same known.0 known.1

pub returns-then-spare-ge-SPARE_PAGES-2-clause-kept : goal.returns-then-spare-ge-SPARE_PAGES-2-clause-kept
returns-then-spare-ge-SPARE_PAGES-2-clause-kept g c known stand way = c.in_ok-save.ensures.kept known.0 stand way

pub returns-clause-kept : goal.returns-clause-kept
returns-clause-kept g c known stand way = ((c.in_ok-save.ensures.kept known.0 stand way).0, tt)

pub returns-clause-cause : goal.returns-clause-cause
returns-clause-cause g c =
    room_cause _ (spare_after c.args.self.now.store.now) (g.H.Host.faults c.args.self.now.host.now) (g.H.Host.faults c.save.new.self.host.now) c.save.ensures.cause.later
    (omega (arith, c.in_ok-save.ensures.spare, c.spare-2.ensures, c.if-spare-ge-SPARE_PAGES-2.false))
