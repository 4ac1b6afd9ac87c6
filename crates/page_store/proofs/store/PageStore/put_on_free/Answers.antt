use Rattle.std.proofs.Common.{◌≡◌, get_or, true, false, subst}
use Rattle.page_store.specs.Store.{Store}
use Rattle.page_store.proofs.Moves.{moved_store}
use Rattle.page_store.proofs.Changes.{moved_is, moved_kept}
use Rattle.page_store.proofs.store.PageStore.put_on_free.Goals as goal

pub invariant_of-self : goal.invariant_of-self
invariant_of-self c =
    let i = c.self.inside in
    let b = c.in-Some.block in
    let free = subst (λ (s : Store). get_or s.free b false ≡ true) c.self.view_is c.in-Some.ensures.0.0 in
    moved_kept i.converter i.free i.marks i.volumes i.frames.items i.states.items i.next i.is_pinned i.pinned.items c.args.self.now c.self.view_is c.self.invariant c.args.page b c.args.bytes.now c.set.new.self c.take.new.self c.set.ensures c.in-Some.ensures.1
    (moved_store c.args.self.now c.args.page b c.args.bytes.now c.blocks-blocks.ensures.sound c.blocks-blocks.ensures.store c.requires.below free c.requires.left)

pub returns-clause-put : goal.returns-clause-put
returns-clause-put c =
    let i = c.self.inside in
    moved_is i.converter i.free i.marks i.volumes i.frames.items i.states.items i.next i.is_pinned i.pinned.items c.args.self.now c.self.view_is c.self.invariant c.args.page c.in-Some.block c.args.bytes.now c.set.new.self c.take.new.self c.set.ensures c.in-Some.ensures.1
