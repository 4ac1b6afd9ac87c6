use Rattle.std.proofs.Common.{◌≡◌, ◌+◌, ◌++◌, ◌∙◌, List, ℕ, ap, sym, subst, take, arith, append_assoc}
use Rattle.std.proofs.lemmas.List.{take_all}
use Rattle.std.proofs.Math.Seq.{take-add}
use Rattle.log_backup.specs.Packing.{Packs}
use Rattle.log_backup.proofs.Pages.{writes_on_same, same_twice}
use Rattle.log_backup.proofs.packing.Packing.put.Goals as goal

pub returns-in_err-done-clause-writes : goal.returns-in_err-done-clause-writes
returns-in_err-done-clause-writes g c =
    let inv = c.loop-done.invariant in
    writes_on_same g.H.Host c.args.self.now.writer c.loop-done.self.writer c.args.host.now c.loop-done.host c.put_some.new.host inv.same inv.writes c.put_some.ensures.writes

pub loop-done-preserved : goal.loop-done-preserved
loop-done-preserved g c =
    let inv = c.loop-done.invariant in
    let count = c.in_ok-done.field-0 in
    let counted = c.in_ok-done.ensures.count in
    record {
      within = omega (arith, counted.1, c.split_at.ensures.back_len, inv.within);
      packing = c.in_ok-done.ensures.packing;
      same = same_twice _ _ _ inv.same c.put_some.ensures.same;
      len = omega (arith, counted.2, inv.len);
      packs = λ told before packs.
          let bytes = c.args.bytes.now in
          let parts : (before ++ take c.loop-done.done bytes) ++ take count c.split_at.result.1.now ≡ before ++ take (c.loop-done.done + count) bytes =
          append_assoc before (take c.loop-done.done bytes) (take count c.split_at.result.1.now) ∙ ap (λ (l : List ℕ). before ++ l) (ap (λ (l : List ℕ). take c.loop-done.done bytes ++ take count l) c.split_at.ensures.back ∙ sym (take-add c.loop-done.done count bytes)) in
          subst (λ (l : List ℕ). Packs c.put_some.new.self c.put_some.new.page l (g.H.Host.disk c.put_some.new.host)) parts (c.in_ok-done.ensures.packs told _ (inv.packs told before packs));
      writes = writes_on_same g.H.Host c.args.self.now.writer c.loop-done.self.writer c.args.host.now c.loop-done.host c.put_some.new.host inv.same inv.writes c.put_some.ensures.writes;
    }

pub returns-clause-packs : goal.returns-clause-packs
returns-clause-packs g c told before packs =
    subst (λ (l : List ℕ). Packs c.loop-done.self c.loop-done.page (before ++ l) (g.H.Host.disk c.loop-done.host)) (take_all c.loop-done.done c.args.bytes.now c.loop-done-test.false) (c.loop-done.invariant.packs told before packs)
