use Rattle.std.proofs.Common.{arith}
use Rattle.space_rule.specs.Weighing.{lists}
use Rattle.space_rule.proofs.Opens.{table-range}
use Rattle.space_rule.proofs.Settling.{cost-in, after-load, none-grown}
use Rattle.space_rule.proofs.space.Space.load.Goals as goal

pub overflow_sub-self : goal.overflow_sub-self
overflow_sub-self c =
    let self = c.args.self.now in
    let range = table-range c.args.table.0 c.requires.table in
    let a = cost-in self.committed self.grown (lists self.sessions) self.undo_bytes self.pages self.undo c.args.table.0 self.sums range.0 range.1 in
    omega (arith, c.table_page_count-old.ensures.count)

pub invariant_of-self-clause-sums : goal.invariant_of-self-clause-sums
invariant_of-self-clause-sums c =
    let self = c.args.self.now in
    let range = table-range c.args.table.0 c.requires.table in
    after-load self.committed self.grown (lists self.sessions) self.undo_bytes self.pages self.undo c.args.table.0 self.sums range.0 range.1 c.args.bytes c.requires.small
    (none-grown c.args.table.0 (lists self.sessions) c.requires.none) c.table_page_count-old.result c.table_page_count.result c.table_page_count-old.ensures.count c.table_page_count.ensures.count
