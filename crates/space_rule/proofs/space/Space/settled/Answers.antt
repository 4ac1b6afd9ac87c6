use Rattle.std.proofs.Common.{◌+◌, ◌-◌, get_or, length, cond, refl, ap, ◌∙◌, arith}
use Rattle.std.specs.Prelude.{unwrap_or}
use Rattle.space_rule.specs.KnownCosts.{cost_of_lengths, cost_now, cost_before}
use Rattle.space_rule.specs.Weighing.{lists}
use Rattle.space_rule.proofs.Settling.{range, key-small, growth-le, old-pages, small, new-pages, new-undo, not-more, no-more-along}
use Rattle.space_rule.proofs.space.Space.settled.Goals as goal

pub settled_cost-committed-requires : goal.settled_cost-committed-requires
settled_cost-committed-requires c =
    let self = c.args.self.now in
    let x = c.args.change.now in
    let range = range self.committed self.grown (lists self.sessions) self.undo_bytes self.pages self.undo c.args.session x c.requires.last.0 self.sums c.requires.session c.requires.last.1 in
    let high = range.1 in
    let costs = self.sums.costs_small x.table.0 (omega arith) in
    let key = key-small self.committed self.grown (lists self.sessions) self.undo_bytes self.pages self.undo c.args.session x c.requires.last.0 self.sums c.requires.session c.requires.last.1 in
    let len = ap length c.bytes-key.ensures in
    let now = c.row_cost-now.ensures.small in
    (omega arith, omega arith)

pub bounds-self-index-4 : goal.bounds-self-index-4
bounds-self-index-4 c =
    let self = c.args.self.now in
    let x = c.args.change.now in
    let range = range self.committed self.grown (lists self.sessions) self.undo_bytes self.pages self.undo c.args.session x c.requires.last.0 self.sums c.requires.session c.requires.last.1 in
    let high = range.1 in
    omega arith

pub overflow_sub-grown : goal.overflow_sub-grown
overflow_sub-grown c =
    let self = c.args.self.now in
    let x = c.args.change.now in
    let range = range self.committed self.grown (lists self.sessions) self.undo_bytes self.pages self.undo c.args.session x c.requires.last.0 self.sums c.requires.session c.requires.last.1 in
    let growth_is = c.growth.ensures ∙ ap (λ k. cost_of_lengths (length k) x.now - cost_of_lengths (length k) x.before) c.bytes-key.ensures in
    no-more-along _ _ _ growth_is (growth-le self.committed self.grown (lists self.sessions) self.undo_bytes self.pages self.undo c.args.session x c.requires.last.0 self.sums c.requires.session c.requires.last.1)

pub overflow_sub-result : goal.overflow_sub-result
overflow_sub-result c =
    let self = c.args.self.now in
    let x = c.args.change.now in
    let range = range self.committed self.grown (lists self.sessions) self.undo_bytes self.pages self.undo c.args.session x c.requires.last.0 self.sums c.requires.session c.requires.last.1 in
    no-more-along _ _ _ c.table_page_count.ensures.count (old-pages self.committed self.grown (lists self.sessions) self.undo_bytes self.pages self.undo c.args.session x c.requires.last.0 self.sums c.requires.session c.requires.last.1)

pub table_page_count-requires-2 : goal.table_page_count-requires-2
table_page_count-requires-2 c =
    let self = c.args.self.now in
    let x = c.args.change.now in
    let range = range self.committed self.grown (lists self.sessions) self.undo_bytes self.pages self.undo c.args.session x c.requires.last.0 self.sums c.requires.session c.requires.last.1 in
    let growth_is = c.growth.ensures ∙ ap (λ k. cost_of_lengths (length k) x.now - cost_of_lengths (length k) x.before) c.bytes-key.ensures in
    let now_is = c.row_cost-now.ensures.cost ∙ ap (λ k. cost_of_lengths (length k) x.now) c.bytes-key.ensures in
    let before_is = c.row_cost-before.ensures.cost ∙ ap (λ k. cost_of_lengths (length k) x.before) c.bytes-key.ensures in
    let cost_is = c.settled_cost-committed.ensures ∙ ap (λ n. cond c.args.is_commit ((get_or self.committed x.table.0 0 + n) - c.row_cost-before.result) (get_or self.committed x.table.0 0)) now_is
    ∙ ap (λ n. cond c.args.is_commit ((get_or self.committed x.table.0 0 + cost_now x) - n) (get_or self.committed x.table.0 0)) before_is in
    let no_more = not-more c.args.is_commit c.settled_cost-committed.result (get_or self.committed x.table.0 0) (cost_now x) (cost_before x) (get_or self.grown x.table.0 0) cost_is (growth-le self.committed self.grown (lists self.sessions) self.undo_bytes self.pages self.undo c.args.session x c.requires.last.0 self.sums c.requires.session c.requires.last.1) in
    let few = small self.committed self.grown (lists self.sessions) self.undo_bytes self.pages self.undo c.args.session x c.requires.last.0 self.sums c.requires.session c.requires.last.1 c.settled_cost-committed.result no_more in
    let here = ap (λ n. c.settled_cost-committed.result + (get_or self.grown x.table.0 0 - n)) growth_is in
    omega arith

pub returns-clause-sums : goal.returns-clause-sums
returns-clause-sums c xs popped =
    let self = c.args.self.now in
    let x = c.args.change.now in
    let range = range self.committed self.grown (lists self.sessions) self.undo_bytes self.pages self.undo c.args.session x xs self.sums c.requires.session popped in
    let growth_is = c.growth.ensures ∙ ap (λ k. cost_of_lengths (length k) x.now - cost_of_lengths (length k) x.before) c.bytes-key.ensures in
    let now_is = c.row_cost-now.ensures.cost ∙ ap (λ k. cost_of_lengths (length k) x.now) c.bytes-key.ensures in
    let before_is = c.row_cost-before.ensures.cost ∙ ap (λ k. cost_of_lengths (length k) x.before) c.bytes-key.ensures in
    let cost_is = c.settled_cost-committed.ensures ∙ ap (λ n. cond c.args.is_commit ((get_or self.committed x.table.0 0 + n) - c.row_cost-before.result) (get_or self.committed x.table.0 0)) now_is
    ∙ ap (λ n. cond c.args.is_commit ((get_or self.committed x.table.0 0 + cost_now x) - n) (get_or self.committed x.table.0 0)) before_is in
    let no_more = not-more c.args.is_commit c.settled_cost-committed.result (get_or self.committed x.table.0 0) (cost_now x) (cost_before x) (get_or self.grown x.table.0 0) cost_is (growth-le self.committed self.grown (lists self.sessions) self.undo_bytes self.pages self.undo c.args.session x xs self.sums c.requires.session popped) in
    let image_is = c.image_cost.ensures ∙ ap (λ k. 16 + length k + unwrap_or x.before 0) c.bytes-key.ensures in
    let pages = new-pages self.committed self.grown (lists self.sessions) self.undo_bytes self.pages self.undo c.args.session x xs self.sums c.requires.session popped c.settled_cost-committed.result no_more in
    let undo = new-undo self.committed self.grown (lists self.sessions) self.undo_bytes self.pages self.undo c.args.session x xs self.sums c.requires.session popped c.settled_cost-committed.result no_more in
    let grown_is = ap (λ n. get_or self.grown x.table.0 0 - n) growth_is in
    let bytes_is = ap (λ n. get_or self.undo_bytes c.args.session 0 - n) image_is in
    record {
      index = refl;
      cost = cost_is;
      growth = grown_is;
      bytes = bytes_is;
      pages = rw (c.table_page_count.ensures.count, c.table_page_count-2.ensures.count, grown_is) pages;
      undo = rw (c.undo_page_count.ensures.count, c.undo_page_count-2.ensures.count, bytes_is) undo;
    }
