use Rattle.std.proofs.Common.{arith}
use Rattle.page_store.proofs.Readying.{not_all}
use Rattle.page_store.proofs.store.PageStore.dead_page.Goals as goal

pub unreachable-requires : goal.unreachable-requires
unreachable-requires c =
    let e = c.blocks-blocks.ensures in
    not_all c.args.self.now e.sound (λ p lt. c.in_default-dead_between.ensures p (omega arith) (omega (arith, lt, e.count)))
