use Rattle.std.proofs.Common.{◌≡◌, sym, ap, ◌∙◌, subst, ℕ, ◌≤◌}
use Rattle.std.specs.FinMap.{FinMap, insert, put}
use Rattle.std.specs.Map.{values_of}
use Rattle.mdb_model.specs.declared.change.Change.{Change}
use Rattle.mdb_model.specs.Tables.{Place, place_cmp, place_of}
use Rattle.mdb_model.specs.Sessions.{group_bytes}
use Rattle.mdb_bytes.specs.Groups.{longest_group}
use Rattle.transactions.proofs.NetLists.{insert-put, put-map, put-values, put-kept}
use Rattle.transactions.proofs.transaction.OpenTransaction.change.Goals as goal

pub invariant_of-self-2 : goal.invariant_of-self-2
invariant_of-self-2 c =
    let change = c.args.change in
    let es = c.self.inside.changes.entries in
    let fs = c.set_change.new.changes.entries in
    let kept = c.self.invariant.kept in
    let is : fs ≡ put place_cmp (place_of change) change es =
    c.in_ok-set_change.ensures.ok ∙ insert-put place_cmp (c.args.table.0, c.args.key.now) change es
    ∙ ap (λ (p : Place). put place_cmp p change es) (sym c.requires.place) in
    let counted : c.args.bytes ≡ group_bytes (values_of fs) = c.requires.bytes
    ∙ ap group_bytes (sym (put-values es fs kept change is c.args.self.now c.self.view_is)) in
    record {
      kept = put-kept es fs kept change is c.requires.limits (subst (λ
          (n : ℕ). n ≤ longest_group) counted c.requires.room);
      counted = counted;
    }

pub returns-clause-ok : goal.returns-clause-ok
returns-clause-ok c =
    let change = c.args.change in
    let es = c.self.inside.changes.entries in
    let is : c.set_change.new.changes.entries ≡ put place_cmp (place_of change) change es =
    c.in_ok-set_change.ensures.ok ∙ insert-put place_cmp (c.args.table.0, c.args.key.now) change es
    ∙ ap (λ (p : Place). put place_cmp p change es) (sym c.requires.place) in
    put-map es c.set_change.new.changes.entries c.self.invariant.kept change is
    ∙ ap (λ (m : FinMap place_cmp Change). insert m (place_of change) change) c.self.view_is
