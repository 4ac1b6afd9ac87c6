use Rattle.std.proofs.Common.{set, refl, sym, ap, subst, ◌∙◌, arith}
use Rattle.mdb_model.specs.declared.name.Table.{Table}
use Rattle.space_rule.specs.KnownCosts.{opened_change, growth_of, with_noted, with_open}
use Rattle.space_rule.specs.Weighing.{lists, IsInOrder}
use Rattle.space_rule.proofs.Opens.{table-range}
use Rattle.space_rule.proofs.Noting.{after-note, before-is, taken-is, lists-at, lists-set, lists-length, open-table, session-inside}
use Rattle.space_rule.proofs.space.Space.note.Goals as goal

pub invariant_of-self-2-clause-sums : goal.invariant_of-self-2-clause-sums
invariant_of-self-2-clause-sums c =
    let self = c.args.self.now in
    let x = opened_change c.args.change.now c.args.before in
    let inside = session-inside c.args.session.0 c.requires.session in
    let range = table-range x.table.0 (open-table c.args.change.now c.args.before c.requires.limits) in
    let table = ap (λ (t : Table). t.0) (c.table_of-index.ensures.table c.args.before) in
    let many = self.sums.many_sessions in
    let taken = c.take-taken.ensures.value ∙ taken-is self.prepared c.args.change.now c.args.before c.requires.prepared in
    let items = c.place_open.ensures.one x taken (before-is c.args.change.now c.args.before ∙ sym c.short_len.ensures) (sym (c.len_after.ensures c.args.before))
    ∙ ap (with_open x) (lists-at self.sessions c.args.session.0 c.index-self-number.result (omega (arith, many.0, inside, lists-length self.sessions))) in
    let more = lists-set self.sessions c.args.session.0 c.place_open.new.changes ∙ ap (set (lists self.sessions) c.args.session.0) items in
    let grown_is = c.weighed-weighed.ensures.grown ∙ ap (λ t. growth_of t (with_noted (lists self.sessions) c.args.session.0 c.args.change.now c.args.before)) (sym c.table_of-index.ensures.place ∙ table) in
    let few = c.requires.small in
    rw (more, table) (after-note self.committed self.grown (lists self.sessions) self.undo_bytes self.pages self.undo c.args.session.0 x c.weighed-weighed.result.weight.grown c.weighed-weighed.result.weight.bytes
    self.sums inside range.0 range.1 c.weighed-weighed.result.pages c.weighed-weighed.result.undo grown_is c.weighed-weighed.ensures.bytes c.weighed-weighed.ensures.pages c.weighed-weighed.ensures.undo
    (omega (arith, few, c.weighed-weighed.ensures.pages)) (omega (arith, few, c.weighed-weighed.ensures.undo)) (subst IsInOrder items c.place_open.ensures.order))

pub invariant_of-self-2-clause-has_room : goal.invariant_of-self-2-clause-has_room
invariant_of-self-2-clause-has_room c x is = absurd (let wrong = sym is ∙ c.take-taken.ensures.after in cc)

pub returns : goal.returns
returns c =
    let self = c.args.self.now in
    let x = opened_change c.args.change.now c.args.before in
    let inside = session-inside c.args.session.0 c.requires.session in
    let range = table-range x.table.0 (open-table c.args.change.now c.args.before c.requires.limits) in
    let table = ap (λ (t : Table). t.0) (c.table_of-index.ensures.table c.args.before) in
    let many = self.sums.many_sessions in
    let taken = c.take-taken.ensures.value ∙ taken-is self.prepared c.args.change.now c.args.before c.requires.prepared in
    let items = c.place_open.ensures.one x taken (before-is c.args.change.now c.args.before ∙ sym c.short_len.ensures) (sym (c.len_after.ensures c.args.before))
    ∙ ap (with_open x) (lists-at self.sessions c.args.session.0 c.index-self-number.result (omega (arith, many.0, inside, lists-length self.sessions))) in
    let more = lists-set self.sessions c.args.session.0 c.place_open.new.changes ∙ ap (set (lists self.sessions) c.args.session.0) items in
    rw (more, c.take-taken.ensures.after) refl
