use Rattle.std.proofs.Common.{inl, sym, ◌∙◌}
use Rattle.leaf_runs.proofs.LeafLaw.{leaf_page_of}
use Rattle.leaf_runs.proofs.LeafReads.{next_is, here_by}
use Rattle.leaf_runs.proofs.leaf.stands_here.Goals as goal

pub returns-then-next_of-eq0 : goal.returns-then-next_of-eq0
returns-then-next_of-eq0 c = λ leaf there some. inl (sym (next_is c.args.page.now leaf (leaf_page_of _ _ there) _ c.next_of.ensures) ∙ c.if-next_of-eq0.true)

pub returns : goal.returns
returns c = λ leaf there some.
    here_by leaf c.args.key.now c.ends_below.result (λ e. c.if-next_of-eq0.false (next_is c.args.page.now leaf (leaf_page_of _ _ there) _ c.next_of.ensures ∙ e)) (c.ends_below.ensures leaf there some)
