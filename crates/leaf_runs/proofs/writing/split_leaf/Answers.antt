use Rattle.leaf_runs.proofs.PageSteps.{split_off}
use Rattle.leaf_runs.proofs.writing.split_leaf.Goals as goal

pub returns-then-not-branch-clause-cause : goal.returns-then-not-branch-clause-cause
returns-then-not-branch-clause-cause g c = record {
  later = c.write_pair.ensures.cause.later;
  failed = λ e. absurd (c.broken-then-not-branch.ensures e);
  whole = λ k. absurd (let e = (c.in_ok-write_pair.ensures.edited.edited k.0).1 in
      let m = k.1 in
      let s = split_off (g.P.Pages.pages c.args.pages.now) (g.P.Pages.pages c.write_pair.new.self) c.args.edit.now.table.0 c.args.edit.now.from c.args.edit.now.to c.args.edit.now.at c.in_ok-write_pair.field-0
      e.0 e.1 e.2 e.3 m.0 m.1 e.4 e.5 e.6 e.7 c.requires.differ m.2 m.3 m.4 m.5 in
      let yes = s.0 in
      let no = c.if-not-branch.true in
      cc);
}

pub returns-clause-split : goal.returns-clause-split
returns-clause-split g c = λ known leaf blank named named2 none le.
    let e = (c.in_ok-write_pair.ensures.edited.edited known).1 in
    (split_off (g.P.Pages.pages c.args.pages.now) (g.P.Pages.pages c.write_pair.new.self) c.args.edit.now.table.0 c.args.edit.now.from c.args.edit.now.to c.args.edit.now.at c.in_ok-write_pair.field-0
    e.0 e.1 e.2 e.3 leaf blank e.4 e.5 e.6 e.7 c.requires.differ named named2 none le).1
