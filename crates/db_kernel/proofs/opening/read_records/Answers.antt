use Rattle.std.proofs.Common.{rules, refl, sym, ap, subst, ◌∙◌, ◌≤◌, length, arith}
use Rattle.mdb_model.specs.Images.{Image}
use Rattle.mdb_host.proofs.Moments.{same_image}
use Rattle.gate_slots.specs.declared.body.SlotBody.TheVariants.{Restart}
use Rattle.gate_slots.specs.Slots.{IsReady}
use Rattle.redo_ring.specs.declared.open.LogStart.{LogStart}
use Rattle.redo_ring.proofs.Places.{agree_on}
use Rattle.db_kernel.specs.Damages.{RefusesInFront, HasRestart, HasLogInfo}
use Rattle.db_kernel.specs.Reading.{VolumeFits}
use Rattle.db_kernel.proofs.FoundRecords.{some_volume, ring_there, still_each}
use Rattle.db_kernel.proofs.Results.{if_passed}
use Rattle.db_kernel.proofs.opening.read_records.Goals as goal

pub returns-in_err-blocks-clause-refuses : goal.returns-in_err-blocks-clause-refuses
returns-in_err-blocks-clause-refuses g c told =
    let first = (g.H.Host.disk c.args.host.now).seen in
    let same = same_image first (g.H.Host.disk c.read_restart_record.new.host).seen (c.read_restart_record.ensures.seen told) in
    if_passed (RefusesInFront first) c.in_err-blocks.field-0.0 c.from_residual-in_err-blocks.result c.from_residual-in_err-blocks.ensures.1
    (subst (λ (i : Image). RefusesInFront i c.in_err-blocks.field-0.0) (sym same)
    (c.in_err-blocks.ensures.refuses told (subst (λ (i : Image). HasRestart i c.in_ok-in_force.in_force.record) same (c.in_ok-in_force.ensures.force told))))

pub returns-in_err-info-clause-refuses : goal.returns-in_err-info-clause-refuses
returns-in_err-info-clause-refuses g c told =
    let first = (g.H.Host.disk c.args.host.now).seen in
    let same = same_image first (g.H.Host.disk c.read_restart_record.new.host).seen (c.read_restart_record.ensures.seen told) in
    if_passed (RefusesInFront first) c.in_err-info.field-0.0 c.from_residual-in_err-info.result c.from_residual-in_err-info.ensures.1
    (subst (λ (i : Image). RefusesInFront i c.in_err-info.field-0.0) (sym same) (c.in_err-info.ensures.refuses told))

pub returns-in_err-info-clause-calm : goal.returns-in_err-info-clause-calm
returns-in_err-info-clause-calm g c told =
    agree_on (g.H.Host.disk c.args.host.now) (g.H.Host.disk c.read_restart_record.new.host) (g.H.Host.disk c.read_log_info.new.host) (c.read_restart_record.ensures.calm told) (c.read_log_info.ensures.calm told)

pub returns-in_err-start-clause-refuses : goal.returns-in_err-start-clause-refuses
returns-in_err-start-clause-refuses g c told =
    let first = (g.H.Host.disk c.args.host.now).seen in
    let same = same_image first (g.H.Host.disk c.read_restart_record.new.host).seen (c.read_restart_record.ensures.seen told) in
    if_passed (RefusesInFront first) c.in_err-start.field-0.0 c.from_residual-in_err-start.result c.from_residual-in_err-start.ensures.1
    (c.in_err-start.ensures.refuses first (c.in_ok-in_force.ensures.force told)
    (subst (λ (i : Image). HasLogInfo i c.in_ok-info.info) (sym same) (c.in_ok-info.ensures.force told)))

pub returns-in_err-start-clause-calm : goal.returns-in_err-start-clause-calm
returns-in_err-start-clause-calm g c told =
    agree_on (g.H.Host.disk c.args.host.now) (g.H.Host.disk c.read_restart_record.new.host) (g.H.Host.disk c.read_log_info.new.host) (c.read_restart_record.ensures.calm told) (c.read_log_info.ensures.calm told)

pub returns-clause-found : goal.returns-clause-found
returns-clause-found g c told =
    let same = same_image (g.H.Host.disk c.args.host.now).seen (g.H.Host.disk c.read_restart_record.new.host).seen (c.read_restart_record.ensures.seen told) in
    record {
      restart = c.in_ok-in_force.in_force.record;
      has_restart = c.in_ok-in_force.ensures.force told;
      info = c.in_ok-info.info;
      has_info = subst (λ (i : Image). HasLogInfo i c.in_ok-info.info) (sym same) (c.in_ok-info.ensures.force told);
      is = refl;
      start = c.in_ok-start.ensures.start;
      blocks = c.in_ok-blocks.ensures.blocks.is;
      normal = c.in_ok-start.ensures.normal.0;
      low = c.in_ok-start.ensures.normal.1;
    }

pub returns-clause-sound : goal.returns-clause-sound
returns-clause-sound g c =
    let items = c.in_ok-in_force.in_force.record.volumes.items in
    let few : length items ≤ 8 = search rules in
    record {
      body = c.in_ok-in_force.ensures.body;
      keeps = c.in_ok-in_force.ensures.keeps;
      blocks = c.in_ok-blocks.ensures.blocks;
      few = few;
      big = c.in_ok-blocks.ensures.least 0 (some_volume items (omega (arith, c.in_ok-blocks.ensures.blocks.is, c.in_ok-blocks.ensures.blocks.least)));
      savepoint = c.in_ok-start.ensures.numbers.0;
      slot = c.in_ok-start.ensures.numbers.1;
      position = ap (λ (start : LogStart). start.position) c.in_ok-start.ensures.start;
      commit = ap (λ (start : LogStart). start.commit) c.in_ok-start.ensures.start;
    }

pub returns-clause-area : goal.returns-clause-area
returns-clause-area g c told volume inside =
    let same = same_image (g.H.Host.disk c.args.host.now).seen (g.H.Host.disk c.read_restart_record.new.host).seen (c.read_restart_record.ensures.seen told) in
    subst (λ (i : Image). VolumeFits c.in_ok-in_force.in_force.record volume i) (sym same) (c.in_ok-blocks.ensures.fits told volume inside)

pub returns-clause-ready : goal.returns-clause-ready
returns-clause-ready g c told synced =
    still_each (g.H.Host.disk c.read_restart_record.new.host) (g.H.Host.disk c.read_log_info.new.host) (IsReady c.in_ok-in_force.in_force.slots (Restart c.in_ok-in_force.in_force.record)) (c.read_log_info.ensures.calm told)
    (c.in_ok-in_force.ensures.ready told synced)

pub returns-clause-ring : goal.returns-clause-ring
returns-clause-ring g c told =
    ring_there (g.H.Host.disk c.read_restart_record.new.host).seen (g.H.Host.disk c.read_log_info.new.host).seen (c.read_log_info.ensures.seen told) c.in_ok-info.info.pages c.in_ok-info.ensures.pages.0
    c.in_ok-start.start.pages (ap (λ (start : LogStart). start.pages) c.in_ok-start.ensures.start) (c.in_ok-info.ensures.size told)

pub returns-clause-calm : goal.returns-clause-calm
returns-clause-calm g c told =
    agree_on (g.H.Host.disk c.args.host.now) (g.H.Host.disk c.read_restart_record.new.host) (g.H.Host.disk c.read_log_info.new.host) (c.read_restart_record.ensures.calm told) (c.read_log_info.ensures.calm told)

pub returns-clause-seen : goal.returns-clause-seen
returns-clause-seen g c told e = c.read_log_info.ensures.seen told e ∙ c.read_restart_record.ensures.seen told e
