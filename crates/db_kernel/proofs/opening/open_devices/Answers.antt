use Rattle.std.proofs.Common.{◌≡◌, sym, ap, subst, ◌∙◌, true, Result, Err, arith}
use Rattle.std.specs.Prelude.{IfErr, OnOk, option_and_then}
use Rattle.mdb_model.specs.Images.{Image}
use Rattle.mdb_model.specs.declared.script.Refusal.{Refusal}
use Rattle.mdb_model.specs.declared.script.Refusal.TheVariants.{NumberEnd}
use Rattle.mdb_host.proofs.Moments.{same_image, keeps_on}
use Rattle.open_database.specs.Outside.{StandsFor}
use Rattle.open_database.specs.Stretch.{EachLeft}
use Rattle.standing.specs.Looks.{record_of}
use Rattle.standing.specs.WholeStanding.{LookStands}
use Rattle.db_kernel.specs.Damages.{HasRestart, RefusesInFront, Refuses, past_end_in}
use Rattle.db_kernel.specs.Kept.{opens}
use Rattle.db_kernel.specs.Opening.{OpensWorld}
use Rattle.db_kernel.specs.Reading.{FindsRecords, VolumeFits}
use Rattle.db_kernel.specs.Taking.{WasInReach}
use Rattle.db_kernel.proofs.FoundRecords.{named_same}
use Rattle.db_kernel.proofs.WholeRecords.{few_volumes}
use Rattle.db_kernel.proofs.Opens.{opens_after, front_opens, front_refuses, behind_refuses, never_end}
use Rattle.db_kernel.proofs.Reaching.{each_in_reach, each_past_end}
use Rattle.db_kernel.proofs.Results.{if_passed, err_passed, on_any}
use Rattle.db_kernel.proofs.opening.open_devices.Goals as goal

pub open_found-requires-clause-found : goal.open_found-requires-clause-found
open_found-requires-clause-found g c told =
    subst (λ (i : Image). FindsRecords c.in_ok-found.found i) (same_image (g.H.Host.disk c.args.host.now).seen (g.H.Host.disk c.find_records.new.host).seen (c.find_records.ensures.seen told)) (c.in_ok-found.ensures.found told)

pub open_found-requires-clause-area : goal.open_found-requires-clause-area
open_found-requires-clause-area g c told volume inside =
    subst (λ (i : Image). VolumeFits c.in_ok-found.found.in_force.record volume i) (same_image (g.H.Host.disk c.args.host.now).seen (g.H.Host.disk c.find_records.new.host).seen (c.find_records.ensures.seen told)) (c.in_ok-found.ensures.area told volume inside)

pub returns-in_err-found-clause-opens : goal.returns-in_err-found-clause-opens
returns-in_err-found-clause-opens g c told w rest stands =
    let d0 = g.H.Host.disk c.args.host.now in
    let d1 = g.H.Host.disk c.find_records.new.host in
    let refusal = c.in_err-found.field-0.0 in
    let why = c.in_err-found.ensures.refuses told in
    let same = same_image d0.seen d1.seen (c.find_records.ensures.seen told) in
    let stands_now : StandsFor d1.seen w = subst (λ (i : Image). StandsFor i w) same stands in
    err_passed (λ result. OpensWorld g.H.Host.tells d0 d1 w c.args.access result) refusal c.from_residual.result c.from_residual.ensures.1
    (front_opens g.H.Host.tells d0 d1 w c.args.access refusal (c.find_records.ensures.calm told) stands why
    (λ end image left.
    let past = subst (λ (r : Refusal). RefusesInFront d0.seen r) end why in
    let synced = c.in_err-found.ensures.past_end (ap Err end) told in
    let has = subst (λ (i : Image). HasRestart i past.0) same past.1 in
    let shown = c.showing_is_enough.ensures.named d1.seen image past.0 w (ap (option_and_then record_of) has) (few_volumes d1.seen w stands_now past.0 has)
    (g.met.H.Host.sizes c.find_records.new.host image told left) (named_same d1 synced image left) stands_now in
    subst (λ l. LookStands l w) (sym shown) stands_now))

pub returns-in_err-found-clause-refuses : goal.returns-in_err-found-clause-refuses
returns-in_err-found-clause-refuses g c told =
    if_passed (Refuses (g.H.Host.disk c.args.host.now).seen) c.in_err-found.field-0.0 c.from_residual.result c.from_residual.ensures.1
    (front_refuses (g.H.Host.disk c.args.host.now).seen c.in_err-found.field-0.0 (c.in_err-found.ensures.refuses told))

pub returns-in_err-found-clause-past_end : goal.returns-in_err-found-clause-past_end
returns-in_err-found-clause-past_end g c told =
    let d0 = g.H.Host.disk c.args.host.now in
    let d1 = g.H.Host.disk c.find_records.new.host in
    let refusal = c.in_err-found.field-0.0 in
    err_passed (λ answer. answer ≡ Err NumberEnd → EachLeft d1 (λ image. past_end_in (opens c.args.access) image ≡ true)) refusal c.from_residual.result c.from_residual.ensures.1
    (λ is.
    let end : refusal ≡ NumberEnd = cc is in
    each_past_end d0 d1 (c.find_records.ensures.seen told) (c.in_err-found.ensures.past_end (λ i. Err (end i)) told)
    (subst (λ (r : Refusal). RefusesInFront d0.seen r) end (c.in_err-found.ensures.refuses told)) (opens c.args.access))

pub returns-clause-opens : goal.returns-clause-opens
returns-clause-opens g c told w rest stands =
    let d0 = g.H.Host.disk c.args.host.now in
    let d1 = g.H.Host.disk c.find_records.new.host in
    opens_after g.H.Host.tells d0 d1 (g.H.Host.disk c.open_found.new.host) w c.args.access (c.find_records.ensures.calm told) c.open_found.result
    (c.open_found.ensures.opens told w rest (subst (λ (i : Image). StandsFor i w) (same_image d0.seen d1.seen (c.find_records.ensures.seen told)) stands))

pub returns-clause-refuses : goal.returns-clause-refuses
returns-clause-refuses g c told =
    behind_refuses (g.H.Host.disk c.args.host.now).seen c.in_ok-found.found c.open_found.result (c.in_ok-found.ensures.found told) c.open_found.ensures.behind

pub returns-clause-in_reach : goal.returns-clause-in_reach
returns-clause-in_reach g c told =
    let d0 = g.H.Host.disk c.args.host.now in
    let d1 = g.H.Host.disk c.find_records.new.host in
    let d2 = g.H.Host.disk c.open_found.new.host in
    let kept = c.open_found.ensures.keeps told in
    on_any c.open_found.result (WasInReach d0 d2) (record {
      at = d1.now;
      from = (c.find_records.ensures.calm told).keeps.later;
      upto = kept.later;
      each = λ image left. each_in_reach d0 d1 (c.find_records.ensures.seen told) (c.in_ok-found.ensures.synced told) c.in_ok-found.found (c.in_ok-found.ensures.found told) image (kept.no_more d1.now image (omega arith) left);
    })

pub returns-clause-past_end : goal.returns-clause-past_end
returns-clause-past_end g c told is = absurd (never_end c.open_found.result c.open_found.ensures.behind is)

pub returns-clause-keeps : goal.returns-clause-keeps
returns-clause-keeps g c told =
    keeps_on (g.H.Host.disk c.args.host.now) (g.H.Host.disk c.find_records.new.host) (g.H.Host.disk c.open_found.new.host) (c.find_records.ensures.calm told).keeps (c.open_found.ensures.keeps told)
