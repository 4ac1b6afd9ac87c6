use Rattle.std.proofs.Common.{◌≡◌, ℕ, List, sym, subst, arith}
use Rattle.mdb_model.specs.Tables.{place_cmp}
use Rattle.sorted_places.specs.Search.{IsAt, IsGap}
use Rattle.space_rule.specs.declared.open_change.OpenChange.{OpenChange}
use Rattle.space_rule.specs.KnownCosts.{open_place}
use Rattle.space_rule.specs.Weighing.{IsInOrder}
use Rattle.space_rule.proofs.Opens.{with-found, with-gap, order-at, order-gap}
use Rattle.space_rule.proofs.open_change.put_open.Goals as goal

found : (xs ys : List OpenChange) (x : OpenChange) (key : List ℕ) (i : ℕ) → ys ≡ xs → key ≡ x.key → IsAt place_cmp open_place ys (x.table.0, key) i → IsAt place_cmp open_place xs (open_place x) i
found xs ys x key i e f is =
    subst (λ zs. IsAt place_cmp open_place zs (open_place x) i) e (subst (λ k. IsAt place_cmp open_place ys (x.table.0, k) i) f is)

absent : (xs ys : List OpenChange) (x : OpenChange) (key : List ℕ) (i : ℕ) → ys ≡ xs → key ≡ x.key → IsGap place_cmp open_place ys (x.table.0, key) i → IsGap place_cmp open_place xs (open_place x) i
absent xs ys x key i e f is =
    subst (λ zs. IsGap place_cmp open_place zs (open_place x) i) e (subst (λ k. IsGap place_cmp open_place ys (x.table.0, k) i) f is)

pub returns-in-Ok-clause-items : goal.returns-in-Ok-clause-items
returns-in-Ok-clause-items c =
    let is = found c.args.changes.now.items _ c.args.change _ c.in-Ok.at c.deref.ensures.value c.bytes.ensures c.in-Ok.ensures.found in
    sym (with-found c.args.change c.args.changes.now.items c.in-Ok.at c.index_mut.result.now is c.index_mut.ensures.value)

pub returns-in-Ok-clause-order : goal.returns-in-Ok-clause-order
returns-in-Ok-clause-order c =
    let is = found c.args.changes.now.items _ c.args.change _ c.in-Ok.at c.deref.ensures.value c.bytes.ensures c.in-Ok.ensures.found in
    subst IsInOrder (with-found c.args.change c.args.changes.now.items c.in-Ok.at c.index_mut.result.now is c.index_mut.ensures.value)
    (order-at c.args.change c.args.changes.now.items c.in-Ok.at c.args.change c.requires.table is c.requires.order)

pub returns-in-Err-clause-items : goal.returns-in-Err-clause-items
returns-in-Err-clause-items c =
    let is = absent c.args.changes.now.items _ c.args.change _ c.in-Err.at c.deref.ensures.value c.bytes.ensures c.in-Err.ensures.absent in
    let gap = with-gap c.args.change c.args.changes.now.items c.in-Err.at is in
    grind (arith, gap, c.insert.ensures.items, c.insert.ensures.succeeds c.requires.room)

pub returns-in-Err-clause-order : goal.returns-in-Err-clause-order
returns-in-Err-clause-order c =
    let is = absent c.args.changes.now.items _ c.args.change _ c.in-Err.at c.deref.ensures.value c.bytes.ensures c.in-Err.ensures.absent in
    subst IsInOrder (sym (returns-in-Err-clause-items c)) (order-gap c.args.change c.args.changes.now.items c.in-Err.at c.requires.table is c.requires.order)
