use Rattle.std.proofs.Common.{true, false, arith}
use Rattle.leaf_runs.proofs.PlacedRows.{has_named, second_kept, put_as, put_first, put_second, full_twice}
use Rattle.leaf_runs.proofs.placing.put_on_either.Goals as goal

pub returns-then-branch-clause-put : goal.returns-then-branch-clause-put
returns-then-branch-clause-put g c = λ known a b halves.
    let p0 = g.P.Pages.pages c.args.pages.now in
    let p1 = g.P.Pages.pages c.put_on_leaf.new.pages in
    let p = c.in_ok-put_on_leaf.ensures.put known (has_named p0 c.args.table.0 c.args.first a halves.first) in
    put_first p0 p1 c.args.table.0 c.args.first c.args.second c.args.key.now c.args.value.now a b halves p.0 p.1
    (put_as c.in_ok-put_on_leaf.field-0 true p0 p1 c.args.first p.0 c.args.key.now c.args.value.now c.if-branch.true p.2)

pub returns-then-not-branch-clause-cause : goal.returns-then-not-branch-clause-cause
returns-then-not-branch-clause-cause g c = record {
  later = omega (arith, c.put_on_leaf.ensures.cause.later, c.put_on_leaf-2.ensures.cause.later);
  failed = λ e. absurd (c.broken.ensures e);
  whole = λ k. absurd (let p0 = g.P.Pages.pages c.args.pages.now in
      let p1 = g.P.Pages.pages c.put_on_leaf.new.pages in
      let p2 = g.P.Pages.pages c.put_on_leaf-2.new.pages in
      let h = k.1 in
      let p = c.in_ok-put_on_leaf.ensures.put k.0 (has_named p0 c.args.table.0 c.args.first h.0 h.2.first) in
      let miss = put_as c.in_ok-put_on_leaf.field-0 false p0 p1 c.args.first p.0 c.args.key.now c.args.value.now c.if-branch.false p.2 in
      let q = c.in_ok-put_on_leaf-2.ensures.put (c.in_ok-put_on_leaf.ensures.known k.0) (second_kept p0 p1 c.args.table.0 c.args.first c.args.second c.args.key.now h.0 h.1 h.2 _ miss.0) in
      full_twice p0 p1 c.args.table.0 c.args.first c.args.second c.args.key.now c.args.value.now h.0 h.1 h.2 p.0 p.1
      (put_as c.in_ok-put_on_leaf.field-0 false p0 p1 c.args.first p.0 c.args.key.now c.args.value.now c.if-branch.false p.2) p2 q.0 c.requires.key c.requires.value q.1
      (put_as c.in_ok-put_on_leaf-2.field-0 false p1 p2 c.args.second q.0 c.args.key.now c.args.value.now c.if-not-branch.true q.2));
}

pub returns-clause-put : goal.returns-clause-put
returns-clause-put g c = λ known a b halves.
    let p0 = g.P.Pages.pages c.args.pages.now in
    let p1 = g.P.Pages.pages c.put_on_leaf.new.pages in
    let p2 = g.P.Pages.pages c.put_on_leaf-2.new.pages in
    let p = c.in_ok-put_on_leaf.ensures.put known (has_named p0 c.args.table.0 c.args.first a halves.first) in
    let miss = put_as c.in_ok-put_on_leaf.field-0 false p0 p1 c.args.first p.0 c.args.key.now c.args.value.now c.if-branch.false p.2 in
    let q = c.in_ok-put_on_leaf-2.ensures.put (c.in_ok-put_on_leaf.ensures.known known) (second_kept p0 p1 c.args.table.0 c.args.first c.args.second c.args.key.now a b halves _ miss.0) in
    put_second p0 p1 c.args.table.0 c.args.first c.args.second c.args.key.now c.args.value.now a b halves p.0 p.1
    (put_as c.in_ok-put_on_leaf.field-0 false p0 p1 c.args.first p.0 c.args.key.now c.args.value.now c.if-branch.false p.2) p2 q.0 q.1
    (put_as c.in_ok-put_on_leaf-2.field-0 true p1 p2 c.args.second q.0 c.args.key.now c.args.value.now c.if-not-branch.false q.2)
