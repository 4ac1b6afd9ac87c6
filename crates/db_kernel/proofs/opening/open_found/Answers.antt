use Rattle.std.proofs.Common.{◌≡◌, sym, ap, subst, ◌∙◌, Err, arith}
use Rattle.mdb_model.specs.Images.{Image}
use Rattle.standing.specs.Looks.{look, record_of}
use Rattle.std.specs.Prelude.{option_and_then}
use Rattle.db_kernel.specs.Opening.{IsBehindRecords, OpensSynced}
use Rattle.db_kernel.proofs.FoundRecords.{named_same, is_found, is_start, area_there, all_durable}
use Rattle.db_kernel.proofs.WholeRecords.{few_volumes}
use Rattle.db_kernel.proofs.Opens.{opens_failed, behind_records, is_failed}
use Rattle.db_kernel.proofs.opening.open_found.Goals as goal

pub open-requires-clause-start : goal.open-requires-clause-start
open-requires-clause-start g c = is_start c.args.found.start c.requires.start

pub open-requires-clause-there : goal.open-requires-clause-there
open-requires-clause-there g c told = area_there c.args.found.in_force.record (g.H.Host.disk c.args.host.now).seen (c.requires.area told)

pub open-requires-clause-durable : goal.open-requires-clause-durable
open-requires-clause-durable g c told = all_durable c.args.found.in_force.record.volumes.items c.requires.sound.few (g.H.Host.disk c.args.host.now) (c.requires.synced told)

pub returns-in-Ok-clause-opens : goal.returns-in-Ok-clause-opens
returns-in-Ok-clause-opens g c told w rest stands =
    let d = g.H.Host.disk c.args.host.now in
    let found = c.requires.found told in
    let looks = λ (image : Image) (left : d.may_leave d.now image). c.showing_is_enough.ensures.named d.seen image found.restart w (ap (option_and_then record_of) found.has_restart) (few_volumes d.seen w stands found.restart found.has_restart)
    (g.met.H.Host.sizes c.args.host.now image told left) (named_same d (c.requires.synced told) image left) stands in
    c.in-Ok.ensures.opens told w rest (is_found d w c.args.found found stands looks)

pub returns-in-Err-clause-opens : goal.returns-in-Err-clause-opens
returns-in-Err-clause-opens g c told w rest stands =
    let d = g.H.Host.disk c.args.host.now in
    let found = c.requires.found told in
    let looks = λ (image : Image) (left : d.may_leave d.now image). c.showing_is_enough.ensures.named d.seen image found.restart w (ap (option_and_then record_of) found.has_restart) (few_volumes d.seen w stands found.restart found.has_restart)
    (g.met.H.Host.sizes c.args.host.now image told left) (named_same d (c.requires.synced told) image left) stands in
    subst (λ r. OpensSynced g.H.Host.tells d (g.H.Host.disk c.open.new.host) w c.args.access (Err r)) (sym c.refusal_of.ensures)
    (opens_failed g.H.Host.tells d (g.H.Host.disk c.open.new.host) w c.args.access c.in-Err.fault (c.in-Err.ensures.opens told w rest (is_found d w c.args.found found stands looks)))

pub returns-in-Err-clause-behind : goal.returns-in-Err-clause-behind
returns-in-Err-clause-behind g c = subst IsBehindRecords (sym c.refusal_of.ensures) (behind_records c.in-Err.fault)
