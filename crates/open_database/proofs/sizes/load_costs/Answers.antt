use Rattle.std.proofs.Common.{◌≡◌, ◌∙◌, refl, ap, ◌<◌, List, Err, IfErr, length, arith}
use Rattle.mdb_model.specs.Space.{table_cost}
use Rattle.mdb_model.specs.Tables.{Tables}
use Rattle.mdb_model.specs.declared.fault.PageFault.TheVariants.{Failed}
use Rattle.page_ground.proofs.Passing.{err_passed}
use Rattle.page_store.specs.StepLaws.{keeps_itself, keeps_further}
use Rattle.store_rows.specs.StoredRows.{stored_rows}
use Rattle.space_rule.specs.KnownCosts.{changes_at}
use Rattle.space_rule.specs.Spaces.{known_costs}
use Rattle.space_rule.specs.declared.open_change.OpenChange.{OpenChange}
use Rattle.open_database.proofs.Loading.{loaded_itself, loaded_more, loaded_same, costs_more, cost_is, rose_after, passed_fault}
use Rattle.open_database.proofs.sizes.load_costs.Goals as goal

pub loop-number-init : goal.loop-number-init
loop-number-init g c = record {
  kept = loaded_itself (known_costs c.args.space.now);
  told = λ known table from upto. absurd (omega (arith, from, upto));
  same = λ known. (known, refl);
  later = omega arith;
  keeps = keeps_itself g.H.Host.tells c.args.store.now (g.H.Host.disk c.args.host.now);
  say_faults = refl;
}

pub load_cost-requires-clause-none : goal.load_cost-requires-clause-none
load_cost-requires-clause-none g c session =
    ap (λ (sessions : List (List OpenChange)). changes_at sessions session) c.loop-number.invariant.kept.sessions ∙ c.requires.none session

pub loop-number-preserved : goal.loop-number-preserved
loop-number-preserved g c =
    let so_far = c.loop-number.invariant in
    let call = c.load_cost in
    let told = c.in_ok-load_cost.ensures.loaded in
    let first : Tables = stored_rows c.args.store.now (g.H.Host.disk c.args.host.now).seen in
    let inside : c.loop-number.number < length (known_costs c.loop-number.space).committed =
    (let long : length (known_costs c.loop-number.space).committed ≡ 501 = so_far.kept.long ∙ c.requires.long in omega (arith, long)) in
    record {
      kept = loaded_more (known_costs c.args.space.now) (known_costs c.loop-number.space) (known_costs call.new.space) c.loop-number.number told.0 so_far.kept told.1;
      told = λ known.
          let here = so_far.same known in
          costs_more (known_costs c.loop-number.space) (known_costs call.new.space) c.loop-number.number told.0 (λ table. table_cost first first table) inside told.1
          (cost_is told.0 c.loop-number.number (stored_rows c.loop-number.store (g.H.Host.disk c.loop-number.host).seen) first (told.2 here.0) here.1) (so_far.told known);
      same = λ known.
          let here = so_far.same known in
          let next = c.in_ok-load_cost.ensures.same here.0 in
          (next.0, next.1 ∙ here.1);
      later = omega (arith, so_far.later, call.ensures.later);
      keeps = keeps_further g.H.Host.tells c.args.store.now c.loop-number.store call.new.store (g.H.Host.disk c.args.host.now) (g.H.Host.disk c.loop-number.host) (g.H.Host.disk call.new.host) so_far.keeps call.ensures.keeps;
      say_faults = call.ensures.say_faults ∙ so_far.say_faults;
    }

pub returns-in_err-load_cost-clause-kept : goal.returns-in_err-load_cost-clause-kept
returns-in_err-load_cost-clause-kept g c =
    loaded_same (known_costs c.args.space.now) (known_costs c.loop-number.space) (known_costs c.load_cost.new.space) c.loop-number.invariant.kept c.in_err-load_cost.ensures.unread

pub returns-in_err-load_cost-clause-whole : goal.returns-in_err-load_cost-clause-whole
returns-in_err-load_cost-clause-whole g c known =
    err_passed (λ r. IfErr r (λ fault. fault ≡ Failed)) c.in_err-load_cost.field-0.0 c.from_residual.result c.from_residual.ensures.1
    (c.in_err-load_cost.ensures.whole (c.loop-number.invariant.same known).0)

pub returns-in_err-load_cost-clause-cause : goal.returns-in_err-load_cost-clause-cause
returns-in_err-load_cost-clause-cause g c is =
    rose_after (g.H.Host.faults c.args.host.now) (g.H.Host.faults c.loop-number.host) (g.H.Host.faults c.load_cost.new.host) c.loop-number.invariant.later
    (c.in_err-load_cost.ensures.cause (ap Err (passed_fault c.from_residual.result c.in_err-load_cost.field-0.0 Failed c.from_residual.ensures.1 is)))

pub returns-in_err-load_cost-clause-keeps : goal.returns-in_err-load_cost-clause-keeps
returns-in_err-load_cost-clause-keeps g c =
    keeps_further g.H.Host.tells c.args.store.now c.loop-number.store c.load_cost.new.store (g.H.Host.disk c.args.host.now) (g.H.Host.disk c.loop-number.host) (g.H.Host.disk c.load_cost.new.host) c.loop-number.invariant.keeps c.load_cost.ensures.keeps

pub returns-clause-loaded : goal.returns-clause-loaded
returns-clause-loaded g c known table from upto = c.loop-number.invariant.told known table from (omega (arith, upto, c.loop-number-test.false))
