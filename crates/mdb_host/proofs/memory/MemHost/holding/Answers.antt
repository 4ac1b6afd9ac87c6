use Rattle.std.proofs.Common.{◌∙◌, sym, ap, List, ap, subst}
use Rattle.mdb_host.specs.declared.call.Call.{Call}
use Rattle.mdb_host.specs.Memory.{AllWhole, image_of, shape, at_first}
use Rattle.mdb_host.proofs.Kept.{fresh}
use Rattle.mdb_host.proofs.memory.MemHost.holding.Goals as goal

pub invariant_of-result : goal.invariant_of-result
invariant_of-result c = record {
  seen = sym c.in_ok-start.ensures ∙ ap (λ (l : List Call). (shape l (at_first (image_of c.in_ok-start.start.slots.items))).seen) (sym c.new-2.ensures.items);
  whole = subst AllWhole (sym c.in_ok-start.ensures) c.requires;
  said = c.new-3.ensures.items ∙ ap (λ (l : List Call). (shape l (at_first (image_of c.in_ok-start.start.slots.items))).said) (sym c.new-2.ensures.items);
}

pub returns-clause-fresh : goal.returns-clause-fresh
returns-clause-fresh c = fresh (image_of c.in_ok-start.start.slots.items) (image_of c.args.held.slots.items) c.new-2.result.items c.new-2.ensures.items c.in_ok-start.ensures
