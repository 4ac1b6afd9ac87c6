use Rattle.std.proofs.Common.{◌≡◌, ap, ◌∙◌, subst, List, ℕ, IsTrue, map, drop}
use Rattle.std.specs.Map.{values_of}
use Rattle.std.specs.BTreeMap.Range.{entries_between}
use Rattle.std.specs.declared.ops.Bound.TheVariants.{Excluded, Unbounded}
use Rattle.mdb_model.specs.declared.change.Change.{Change}
use Rattle.mdb_model.specs.Tables.{place_cmp, place_of}
use Rattle.mdb_bytes.specs.Fields.{rises}
use Rattle.sorted_places.specs.Search.{IsPast}
use Rattle.sorted_places.proofs.Sorted.{sorted_from_rises}
use Rattle.transactions.specs.Net.{keyed_change}
use Rattle.transactions.proofs.NetLists.{kept_values, rest_behind}
use Rattle.transactions.proofs.transaction.OpenTransaction.behind.Goals as goal

pub returns-clause-behind : goal.returns-clause-behind
returns-clause-behind c =
    let es = c.self.inside.changes.entries in
    let kept = c.self.invariant.kept in
    let cs = values_of es in
    let rest = rest_behind c.args.table.0 c.args.after.now.items cs
    (sorted_from_rises place_cmp place_of (λ change. change) cs kept.net.ascend) in
    let place : c.new-place.result ≡
    (c.args.table.0, c.args.after.now.items) = c.new-place.ensures
    ∙ ap (λ (k : List ℕ). (c.args.table.0, k)) c.copied_key.ensures in
    let between : c.range.result ≡ drop rest.0 (map keyed_change cs) =
    c.range.ensures.between tt
    ∙ (λ i. entries_between place_cmp (Excluded (place i)) Unbounded (kept.own i))
    ∙ rest.2 in
    let whole : (at : ℕ) × IsPast place_of cs c.args.table.0 c.args.after.now.items at ×
    (c.range.result ≡ drop at (map keyed_change cs)) = (rest.0, rest.1, between) in
    subst (λ (vs : List Change).
    (at : ℕ) × IsPast place_of vs c.args.table.0 c.args.after.now.items at × (c.range.result
    ≡ drop at (map keyed_change vs)))
    (kept_values es kept c.args.self.now c.self.view_is) whole

pub returns-clause-ascend : goal.returns-clause-ascend
returns-clause-ascend c =
    subst (λ (vs : List Change). IsTrue (rises place_cmp (map place_of vs)))
    (kept_values c.self.inside.changes.entries c.self.invariant.kept c.args.self.now c.self.view_is) c.self.invariant.kept.net.ascend
