use Rattle.std.proofs.Common.{◌≡◌, ◌∙◌, ◌+◌, ◌-◌, ◌<◌, ◌≤◌, ℕ, List, Bool, true, false, refl, ap, sym, subst, inl, inr, arith}
use Rattle.volume_disk.specs.Blocks.{IsArea}
use Rattle.volume_disk.proofs.Writes.{area_same}
use Rattle.std.proofs.lemmas.Bool.{cases_lt, lt-ltb, le-ltb}
use Rattle.page_store.specs.Store.{block_count}
use Rattle.page_store.specs.Steps.{is_unwritten, unwritten_below}
use Rattle.page_store.specs.StepLaws.{keeps_itself, keeps_further}
use Rattle.page_store.proofs.Settling.{bit, turned_on, same_below, below_more, none_below, none_past}
use Rattle.page_store.proofs.store.PageStore.turn_savepoint.Goals as goal

pub loop-page-init : goal.loop-page-init
loop-page-init g c = record {
  turned = record { same = refl; only = λ b is. is };
  keeps = keeps_itself g.H.Host.tells c.args.self.now (g.H.Host.disk c.args.host.now);
  rest = λ k le. refl;
  still = refl;
  total = refl;
  over = omega arith;
  few = omega arith;
  faults = omega arith;
  say_faults = refl;
}

over_more : (written left done kept most was now x : ℕ) → now ≡ was + x → written + left ≡ was → left ≡ was - most → done + kept ≡ x → x ≤ 1 → (written < most → kept ≡ 0) → (most ≤ written → done ≡ 0) → left + kept ≡ now - most
over_more written left done kept most was now x grown total over sum small all none = elim (cases_lt written most) [
  | inl lt ↦ omega (arith, grown, total, over, sum, small, all lt, lt)
  | inr le ↦ omega (arith, grown, total, over, sum, none le, le)
]

bit_small : (t : Bool) → bit t ≤ 1
bit_small true = omega arith
bit_small false = omega arith

pub loop-page-preserved : goal.loop-page-preserved
loop-page-preserved g c =
    let s = c.args.self.now in
    let a = c.loop-page.self in
    let b = c.turn_page.new.self in
    let p = c.loop-page.page in
    let i = c.loop-page.invariant in
    let t = c.turn_page.ensures.turns in
    let r = c.in_ok-done.ensures in
    let same : is_unwritten a p ≡ is_unwritten s p = i.rest p (omega arith) in
    let before : unwritten_below b p ≡ unwritten_below a p = same_below a b p (λ k lt. t.others k (λ is. omega (arith, is, lt))) in
    let grown = below_more s p in
    let all : c.loop-page.written < c.args.most → c.in_ok-done.kept ≡ 0 = λ lt. r.all (lt-ltb c.loop-page.written c.args.most lt) in
    let total = ap bit same in
    let none : c.args.most ≤ c.loop-page.written → c.in_ok-done.done ≡ 0 = λ le. r.none (le-ltb c.loop-page.written c.args.most le) in
    record {
      turned = turned_on s a b i.turned t.turned;
      keeps = keeps_further g.H.Host.tells s a b (g.H.Host.disk c.args.host.now) (g.H.Host.disk c.loop-page.host) (g.H.Host.disk c.turn_page.new.host) i.keeps t.keeps;
      rest = λ k le. t.others k (λ is. omega (arith, is, le)) ∙ i.rest k (omega (arith, le));
      still = omega (arith, below_more b p, before, i.still, r.left);
      total = omega (arith, grown, i.total, r.done, total);
      over = over_more c.loop-page.written c.loop-page.left c.in_ok-done.done c.in_ok-done.kept c.args.most (unwritten_below s p) (unwritten_below s (p + 1)) (bit (is_unwritten s p)) grown i.total i.over (r.done ∙ total) (bit_small (is_unwritten s p)) all none;
      few = omega (arith, i.few, r.done, bit_small (is_unwritten a p));
      faults = omega (arith, c.turn_page.ensures.cause.later, i.faults);
      say_faults = c.turn_page.ensures.say_faults ∙ i.say_faults;
    }

pub turn_page-requires-clause-there : goal.turn_page-requires-clause-there
turn_page-requires-clause-there g c told =
    let k = c.loop-page.invariant.keeps in
    let before = (g.H.Host.disk c.args.host.now).seen in
    let after = (g.H.Host.disk c.loop-page.host).seen in
    subst (λ (l : List ℕ). IsArea l after) (sym k.maps.sizes) (area_same c.args.self.now.sizes before after (k.seen told).same_sizes (c.requires told))

pub returns-clause-left : goal.returns-clause-left
returns-clause-left g c =
    let s = c.args.self.now in
    let i = c.loop-page.invariant in
    let end : c.loop-page.page ≡ block_count s = omega (arith, c.loop-page-test.false, c.loop-page.auto.page-end, c.blocks-page-end.ensures.count) in
    i.over ∙ ap (λ (n : ℕ). unwritten_below s n - c.args.most) end

pub returns-clause-now : goal.returns-clause-now
returns-clause-now g c =
    let i = c.loop-page.invariant in
    let end : c.loop-page.page ≡ block_count c.loop-page.self = omega (arith, c.loop-page-test.false, c.loop-page.auto.page-end, c.blocks-page-end.ensures.count, i.keeps.maps.area) in
    ap (unwritten_below c.loop-page.self) (sym end) ∙ sym i.still

pub returns-clause-done : goal.returns-clause-done
returns-clause-done g c none page =
    let i = c.loop-page.invariant in
    let u = c.loop-page.self in
    let e = c.blocks-blocks.ensures in
    let end : c.loop-page.page ≡ block_count u = omega (arith, c.loop-page-test.false, c.loop-page.auto.page-end, c.blocks-page-end.ensures.count, i.keeps.maps.area) in
    elim (cases_lt page (block_count u)) [
      | inl lt ↦ none_below u c.loop-page.page page (omega (arith, i.still, none)) (omega (arith, lt, end))
      | inr past ↦ none_past u page e.sound e.store past
    ]

pub returns-in_err-done-clause-turned : goal.returns-in_err-done-clause-turned
returns-in_err-done-clause-turned g c = turned_on c.args.self.now c.loop-page.self c.turn_page.new.self c.loop-page.invariant.turned c.turn_page.ensures.turns.turned

pub returns-in_err-done-clause-keeps : goal.returns-in_err-done-clause-keeps
returns-in_err-done-clause-keeps g c =
    keeps_further g.H.Host.tells c.args.self.now c.loop-page.self c.turn_page.new.self (g.H.Host.disk c.args.host.now) (g.H.Host.disk c.loop-page.host) (g.H.Host.disk c.turn_page.new.host)
    c.loop-page.invariant.keeps c.turn_page.ensures.turns.keeps
