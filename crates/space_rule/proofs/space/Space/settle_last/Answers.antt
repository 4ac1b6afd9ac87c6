use Rattle.std.proofs.Common.{◌-◌, ◌<◌, refl, ap, ◌∙◌, get_or, set, length, take, arith}
use Rattle.space_rule.specs.KnownCosts.{changes_at, cost_now, cost_before}
use Rattle.space_rule.specs.Weighing.{lists}
use Rattle.space_rule.proofs.Noting.{lists-at, lists-set, lists-length}
use Rattle.space_rule.proofs.Settling.{no_change, last-parts, growth-le, not-more, after-settle, ended-rest, fewer-now}
use Rattle.space_rule.proofs.space.Space.settle_last.Goals as goal

pub invariant_of-self-2-clause-sums : goal.invariant_of-self-2-clause-sums
invariant_of-self-2-clause-sums c =
    let self = c.args.self.now in
    let sessions = lists self.sessions in
    let s = c.args.session in
    let ys = changes_at sessions s in
    let xs = take (length ys - 1) ys in
    let x = get_or ys (length ys - 1) no_change in
    let popped = last-parts ys no_change c.in-Some.ensures.one in
    let is = c.in-Some.ensures.some xs x popped in
    let many = self.sums.many_sessions in
    let inside : s < length sessions = (let len = many.0 in let low = c.requires in omega arith) in
    let items = c.drop_last.ensures xs x (lists-at self.sessions s c.index-self-session.result (omega (arith, inside, lists-length self.sessions)) ∙ popped) in
    let more = lists-set self.sessions s c.drop_last.new.changes ∙ ap (set sessions s) items in
    let no_more = not-more c.args.is_commit c.in-Some.settled.committed (get_or self.committed x.table.0 0) (cost_now x) (cost_before x) (get_or self.grown x.table.0 0) is.cost
    (growth-le self.committed self.grown sessions self.undo_bytes self.pages self.undo s x xs self.sums c.requires popped) in
    rw (is.index, more, is.growth, is.bytes) (after-settle self.committed self.grown sessions self.undo_bytes self.pages self.undo s x xs self.sums c.requires popped
    c.in-Some.settled.committed no_more c.in-Some.settled.pages c.in-Some.settled.undo is.pages is.undo)

pub returns-clause-settled : goal.returns-clause-settled
returns-clause-settled c =
    let self = c.args.self.now in
    let sessions = lists self.sessions in
    let s = c.args.session in
    let ys = changes_at sessions s in
    let xs = take (length ys - 1) ys in
    let x = get_or ys (length ys - 1) no_change in
    let popped = last-parts ys no_change c.in-Some.ensures.one in
    let is = c.in-Some.ensures.some xs x popped in
    let many = self.sums.many_sessions in
    let inside : s < length sessions = (let len = many.0 in let low = c.requires in omega arith) in
    let items = c.drop_last.ensures xs x (lists-at self.sessions s c.index-self-session.result (omega (arith, inside, lists-length self.sessions)) ∙ popped) in
    let more = lists-set self.sessions s c.drop_last.new.changes ∙ ap (set sessions s) items in
    let rest = ended-rest c.args.is_commit self.committed sessions s x xs c.in-Some.settled.index c.in-Some.settled.committed inside popped is.index is.cost in
    rw (more, rest.0, rest.1) refl

pub returns-clause-fewer : goal.returns-clause-fewer
returns-clause-fewer c =
    let self = c.args.self.now in
    let sessions = lists self.sessions in
    let s = c.args.session in
    let ys = changes_at sessions s in
    let xs = take (length ys - 1) ys in
    let x = get_or ys (length ys - 1) no_change in
    let popped = last-parts ys no_change c.in-Some.ensures.one in
    let is = c.in-Some.ensures.some xs x popped in
    let many = self.sums.many_sessions in
    let inside : s < length sessions = (let len = many.0 in let low = c.requires in omega arith) in
    let items = c.drop_last.ensures xs x (lists-at self.sessions s c.index-self-session.result (omega (arith, inside, lists-length self.sessions)) ∙ popped) in
    let more = lists-set self.sessions s c.drop_last.new.changes ∙ ap (set sessions s) items in
    fewer-now sessions (lists (set self.sessions s c.drop_last.new.changes)) s xs x inside more popped
