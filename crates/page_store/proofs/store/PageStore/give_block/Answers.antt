use Rattle.page_store.proofs.Moves.{given_store}
use Rattle.page_store.proofs.Changes.{given_is, given_kept}
use Rattle.page_store.proofs.store.PageStore.give_block.Goals as goal

pub invariant_of-self : goal.invariant_of-self
invariant_of-self c =
    let i = c.self.inside in
    let e = c.block_of-block.ensures in
    given_kept i.converter i.free i.marks i.volumes i.frames.items i.states.items i.next i.is_pinned i.pinned.items c.args.self.now c.self.view_is c.self.invariant c.args.page c.clear.new.self c.clear.ensures c.args.block c.give.new.self c.give.ensures
    (given_store c.args.self.now c.args.page e.sound e.store e.page c.requires.lives c.args.block c.requires.block c.requires.owned)

pub returns : goal.returns
returns c =
    let i = c.self.inside in
    given_is i.converter i.free i.marks i.volumes i.frames.items i.states.items i.next i.is_pinned i.pinned.items c.args.self.now c.self.view_is c.self.invariant c.args.page c.clear.new.self c.clear.ensures c.args.block c.give.new.self c.give.ensures
