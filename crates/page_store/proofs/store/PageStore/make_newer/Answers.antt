use Rattle.page_store.proofs.Moves.{newer_store}
use Rattle.page_store.proofs.Changes.{newer_is, newer_kept}
use Rattle.page_store.proofs.store.PageStore.make_newer.Goals as goal

pub invariant_of-self : goal.invariant_of-self
invariant_of-self c =
    let i = c.self.inside in
    newer_kept i.converter i.free i.marks i.volumes i.frames.items i.states.items i.next i.is_pinned i.pinned.items c.args.self.now c.self.view_is c.self.invariant c.args.block c.requires.framed.0 c.requires.framed.1
    (newer_store c.args.self.now c.args.page c.args.block c.requires.framed.0 c.blocks-blocks.ensures.sound c.blocks-blocks.ensures.store c.requires.some c.requires.block c.requires.owned c.requires.framed.1)

pub returns : goal.returns
returns c =
    let i = c.self.inside in
    newer_is i.converter i.free i.marks i.volumes i.frames.items i.states.items i.next i.is_pinned i.pinned.items c.args.self.now c.self.view_is c.self.invariant c.args.block c.requires.framed.0 c.requires.framed.1
