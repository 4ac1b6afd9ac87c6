use Rattle.std.proofs.Common.{sym}
use Rattle.page_store.proofs.Readying.{shows_is}
use Rattle.page_store.proofs.store.PageStore.filled.Goals as goal

pub returns-clause-shows : goal.returns-clause-shows
returns-clause-shows g c =
    let e = c.block_of-block.ensures in
    shows_is g.H.Host.tells c.args.self.now c.fill.new.self c.args.page c.block_of-block.result (g.H.Host.disk c.args.host.now).seen e.sound e.store c.blocks-blocks.ensures.sound (sym e.block) e.below c.in_ok-fill.ensures.ok
