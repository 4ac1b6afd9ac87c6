use Rattle.std.proofs.Common.{ℕ, List, refl, sym, subst, ◌∙◌, arith}
use Rattle.volume_disk.specs.Blocks.{IsArea}
use Rattle.volume_disk.proofs.Writes.{area_same}
use Rattle.page_store.specs.StepLaws.{keeps_itself, keeps_further}
use Rattle.page_store.proofs.Settling.{turned_on}
use Rattle.page_store.proofs.keeping.write_pages.Goals as goal

pub loop-left-init : goal.loop-left-init
loop-left-init g c = record {
  turned = record { same = refl; only = λ b is. is };
  keeps = keeps_itself g.H.Host.tells c.args.store.now (g.H.Host.disk c.args.host.now);
  faults = omega arith;
  say_faults = refl;
}

pub turn_savepoint-requires : goal.turn_savepoint-requires
turn_savepoint-requires g c told =
    let k = c.loop-left.invariant.keeps in
    let before = (g.H.Host.disk c.args.host.now).seen in
    let after = (g.H.Host.disk c.loop-left.host).seen in
    subst (λ (l : List ℕ). IsArea l after) (sym k.maps.sizes) (area_same c.args.store.now.sizes before after (k.seen told).same_sizes (c.requires told))

pub loop-left-preserved : goal.loop-left-preserved
loop-left-preserved g c =
    let i = c.loop-left.invariant in
    let e = c.turn_savepoint.ensures in
    record {
      turned = turned_on c.args.store.now c.loop-left.store c.turn_savepoint.new.self i.turned e.turned;
      keeps = keeps_further g.H.Host.tells c.args.store.now c.loop-left.store c.turn_savepoint.new.self (g.H.Host.disk c.args.host.now) (g.H.Host.disk c.loop-left.host) (g.H.Host.disk c.turn_savepoint.new.host) i.keeps e.keeps;
      faults = omega (arith, i.faults, e.cause.later);
      say_faults = e.say_faults ∙ i.say_faults;
    }

pub returns-then-left-eq0-clause-keeps : goal.returns-then-left-eq0-clause-keeps
returns-then-left-eq0-clause-keeps g c = keeps_further g.H.Host.tells c.args.store.now c.loop-left.store c.turn_savepoint.new.self (g.H.Host.disk c.args.host.now) (g.H.Host.disk c.loop-left.host) (g.H.Host.disk c.turn_savepoint.new.host) c.loop-left.invariant.keeps c.turn_savepoint.ensures.keeps

pub returns-in_err-left-clause-keeps : goal.returns-in_err-left-clause-keeps
returns-in_err-left-clause-keeps g c = keeps_further g.H.Host.tells c.args.store.now c.loop-left.store c.turn_savepoint.new.self (g.H.Host.disk c.args.host.now) (g.H.Host.disk c.loop-left.host) (g.H.Host.disk c.turn_savepoint.new.host) c.loop-left.invariant.keeps c.turn_savepoint.ensures.keeps
