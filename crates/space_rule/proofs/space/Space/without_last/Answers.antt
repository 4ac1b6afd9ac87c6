use Rattle.std.proofs.Common.{[], ◌∷◌, ◌++◌, sym, ap, subst, ◌∙◌, arith}
use Rattle.space_rule.specs.Weighing.{lists}
use Rattle.space_rule.specs.Settling.{IsChangeSettled}
use Rattle.space_rule.proofs.Noting.{lists-at, lists-length}
use Rattle.space_rule.proofs.Settling.{last-found}
use Rattle.space_rule.proofs.space.Space.without_last.Goals as goal

pub returns-clause-some : goal.returns-clause-some
returns-clause-some c xs x popped =
    let self = c.args.self.now in
    let many = self.sums.many_sessions in
    let are = c.as_slice-changes.ensures.value ∙ lists-at self.sessions c.args.session c.index-self-session.result (omega (arith, many.0, c.requires, lists-length self.sessions)) in
    let same = last-found c.as_slice-changes.result.now xs x c.index-changes-changes.result (are ∙ popped) c.index-changes-changes.is in
    subst (λ y. IsChangeSettled self.committed self.grown (lists self.sessions) self.undo_bytes c.args.session c.args.is_commit xs y c.settled.result) same
    (c.settled.ensures.sums xs (popped ∙ ap (λ y. xs ++ y ∷ []) (sym same)))
