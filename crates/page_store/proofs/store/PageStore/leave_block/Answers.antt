use Rattle.page_store.proofs.Moves.{bare_store}
use Rattle.page_store.proofs.Changes.{bare_kept}
use Rattle.page_store.proofs.store.PageStore.leave_block.Goals as goal

pub invariant_of-self : goal.invariant_of-self
invariant_of-self c =
    let i = c.self.inside in
    let e = c.block_of-block.ensures in
    bare_kept i.converter i.free i.marks i.volumes i.frames.items i.states.items i.next i.is_pinned i.pinned.items c.args.self.now c.self.view_is c.self.invariant c.args.page c.clear.new.self c.clear.ensures
    (bare_store c.args.self.now c.args.page e.sound e.store e.page c.requires.lives c.requires.held)
