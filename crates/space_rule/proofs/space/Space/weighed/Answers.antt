use Rattle.std.proofs.Common.{◌≡◌, ℕ, ◌+◌, ◌≤◌, get_or, sym, ap, ◌∙◌, arith}
use Rattle.mdb_model.specs.declared.name.Table.{Table}
use Rattle.mdb_model.specs.Space.{table_pages}
use Rattle.space_rule.specs.KnownCosts.{opened_change, growth_of, with_noted}
use Rattle.space_rule.specs.Weighing.{lists}
use Rattle.space_rule.proofs.Opens.{table-range}
use Rattle.space_rule.proofs.Noting.{same-open, grows-same, weighs-same, lists-at, lists-length, open-table, session-inside, new-grown, new-bytes, old-pages, new-pages, new-undo}
use Rattle.space_rule.proofs.space.Space.weighed.Goals as goal

c_le : (a b n : ℕ) → a ≡ b → b ≤ n → a ≤ n
c_le a b n e le = omega arith

pub overflow_sub-result : goal.overflow_sub-result
overflow_sub-result c =
    let self = c.args.self.now in
    let x = opened_change c.args.change.now c.args.before in
    let inside = session-inside c.args.session.0 c.requires.session in
    let range = table-range x.table.0 (open-table c.args.change.now c.args.before c.requires.limits) in
    let table = ap (λ (t : Table). t.0) (c.table_of-table.ensures.table c.args.before) in
    let old = old-pages self.committed self.grown (lists self.sessions) self.undo_bytes self.pages self.undo c.args.session.0 x 0 0 self.sums inside range.0 range.1 in
    c_le _ _ _ (c.table_page_count.ensures.count ∙ ap (λ t. table_pages (get_or self.committed t 0 + get_or self.grown t 0)) table) old

pub returns-clause-grown : goal.returns-clause-grown
returns-clause-grown c =
    let self = c.args.self.now in
    let x = opened_change c.args.change.now c.args.before in
    let inside = session-inside c.args.session.0 c.requires.session in
    let range = table-range x.table.0 (open-table c.args.change.now c.args.before c.requires.limits) in
    let table = ap (λ (t : Table). t.0) (c.table_of-table.ensures.table c.args.before) in
    let same = same-open c.args.change.now c.args.before _ _ _ _ (c.table_of-table.ensures.table c.args.before) (c.bytes-key.ensures ∙ c.key_of.ensures.key c.args.before) c.short_len.ensures (c.len_after.ensures c.args.before) in
    let many = self.sums.many_sessions in
    let are = c.deref.ensures.value ∙ lists-at self.sessions c.args.session.0 c.index-self-number.result (omega (arith, many.0, inside, lists-length self.sessions)) in
    let grows = grows-same self.grown c.weight_with-weight.result.grown _ x _ _ same are c.weight_with-weight.ensures.grown in
    let weighs = weighs-same _ c.weight_with-weight.result.bytes _ x _ _ same are c.weight_with-weight.ensures.bytes in
    new-grown self.committed self.grown (lists self.sessions) self.undo_bytes self.pages self.undo c.args.session.0 x c.weight_with-weight.result.grown c.weight_with-weight.result.bytes self.sums inside range.0 range.1 grows weighs ∙ ap (λ t. growth_of t (with_noted (lists self.sessions) c.args.session.0 c.args.change.now c.args.before)) (sym table ∙ c.table_of-table.ensures.place)

pub returns-clause-bytes : goal.returns-clause-bytes
returns-clause-bytes c =
    let self = c.args.self.now in
    let x = opened_change c.args.change.now c.args.before in
    let inside = session-inside c.args.session.0 c.requires.session in
    let range = table-range x.table.0 (open-table c.args.change.now c.args.before c.requires.limits) in
    let table = ap (λ (t : Table). t.0) (c.table_of-table.ensures.table c.args.before) in
    let same = same-open c.args.change.now c.args.before _ _ _ _ (c.table_of-table.ensures.table c.args.before) (c.bytes-key.ensures ∙ c.key_of.ensures.key c.args.before) c.short_len.ensures (c.len_after.ensures c.args.before) in
    let many = self.sums.many_sessions in
    let are = c.deref.ensures.value ∙ lists-at self.sessions c.args.session.0 c.index-self-number.result (omega (arith, many.0, inside, lists-length self.sessions)) in
    let grows = grows-same self.grown c.weight_with-weight.result.grown _ x _ _ same are c.weight_with-weight.ensures.grown in
    let weighs = weighs-same _ c.weight_with-weight.result.bytes _ x _ _ same are c.weight_with-weight.ensures.bytes in
    new-bytes self.committed self.grown (lists self.sessions) self.undo_bytes self.pages self.undo c.args.session.0 x c.weight_with-weight.result.grown c.weight_with-weight.result.bytes self.sums inside range.0 range.1 grows weighs

pub returns-clause-pages : goal.returns-clause-pages
returns-clause-pages c =
    let self = c.args.self.now in
    let x = opened_change c.args.change.now c.args.before in
    let inside = session-inside c.args.session.0 c.requires.session in
    let range = table-range x.table.0 (open-table c.args.change.now c.args.before c.requires.limits) in
    let table = ap (λ (t : Table). t.0) (c.table_of-table.ensures.table c.args.before) in
    let same = same-open c.args.change.now c.args.before _ _ _ _ (c.table_of-table.ensures.table c.args.before) (c.bytes-key.ensures ∙ c.key_of.ensures.key c.args.before) c.short_len.ensures (c.len_after.ensures c.args.before) in
    let many = self.sums.many_sessions in
    let are = c.deref.ensures.value ∙ lists-at self.sessions c.args.session.0 c.index-self-number.result (omega (arith, many.0, inside, lists-length self.sessions)) in
    let grows = grows-same self.grown c.weight_with-weight.result.grown _ x _ _ same are c.weight_with-weight.ensures.grown in
    let weighs = weighs-same _ c.weight_with-weight.result.bytes _ x _ _ same are c.weight_with-weight.ensures.bytes in
    let new = new-pages self.committed self.grown (lists self.sessions) self.undo_bytes self.pages self.undo c.args.session.0 x c.weight_with-weight.result.grown c.weight_with-weight.result.bytes self.sums inside range.0 range.1 grows weighs in
    let first = c.table_page_count.ensures.count ∙ ap (λ t. table_pages (get_or self.committed t 0 + get_or self.grown t 0)) table in
    let second = c.table_page_count-2.ensures.count ∙ ap (λ t. table_pages (get_or self.committed t 0 + c.weight_with-weight.result.grown)) table in
    rw (first, second) new

pub returns-clause-undo : goal.returns-clause-undo
returns-clause-undo c =
    let self = c.args.self.now in
    let x = opened_change c.args.change.now c.args.before in
    let inside = session-inside c.args.session.0 c.requires.session in
    let range = table-range x.table.0 (open-table c.args.change.now c.args.before c.requires.limits) in
    let table = ap (λ (t : Table). t.0) (c.table_of-table.ensures.table c.args.before) in
    let same = same-open c.args.change.now c.args.before _ _ _ _ (c.table_of-table.ensures.table c.args.before) (c.bytes-key.ensures ∙ c.key_of.ensures.key c.args.before) c.short_len.ensures (c.len_after.ensures c.args.before) in
    let many = self.sums.many_sessions in
    let are = c.deref.ensures.value ∙ lists-at self.sessions c.args.session.0 c.index-self-number.result (omega (arith, many.0, inside, lists-length self.sessions)) in
    let grows = grows-same self.grown c.weight_with-weight.result.grown _ x _ _ same are c.weight_with-weight.ensures.grown in
    let weighs = weighs-same _ c.weight_with-weight.result.bytes _ x _ _ same are c.weight_with-weight.ensures.bytes in
    let new = new-undo self.committed self.grown (lists self.sessions) self.undo_bytes self.pages self.undo c.args.session.0 x c.weight_with-weight.result.grown c.weight_with-weight.result.bytes self.sums inside range.0 range.1 grows weighs in
    rw (c.undo_page_count.ensures.count, c.undo_page_count-2.ensures.count) new
