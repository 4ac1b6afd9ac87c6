use Rattle.std.proofs.Common.{◌∙◌, ap, sym, subst, arith}
use Rattle.converter.specs.Maps.{Maps, IsSoundMaps}
use Rattle.page_store.specs.Store.{Store, FramesMatch}
use Rattle.page_store.proofs.Knowing.{frozen_reads}
use Rattle.page_store.specs.Steps.{OwnAsSaved}
use Rattle.page_store.proofs.Settling.{frozen_store, as_saved, frozen_is, frozen_kept}
use Rattle.page_store.proofs.store.PageStore.begin_savepoint.Goals as goal

pub invariant_of-self : goal.invariant_of-self
invariant_of-self c =
    let i = c.self.inside in
    let e = c.blocks-blocks.ensures in
    frozen_kept i.converter i.free i.marks i.volumes i.frames.items i.states.items i.next i.is_pinned i.pinned.items c.args.self.now c.self.view_is c.self.invariant c.freeze-map.new.self c.args.mark.savepoint c.requires.next c.freeze-map.ensures.maps
    (frozen_store c.args.self.now e.sound c.requires.none (omega (arith, c.requires.small, c.requires.next)) e.store)

pub returns-clause-frozen : goal.returns-clause-frozen
returns-clause-frozen c =
    let i = c.self.inside in
    frozen_is i.converter i.free i.marks i.volumes i.frames.items i.states.items i.next i.is_pinned i.pinned.items c.args.self.now c.self.view_is c.self.invariant c.freeze-map.new.self c.args.mark.savepoint c.requires.next c.freeze-map.ensures.maps

pub returns-clause-own : goal.returns-clause-own
returns-clause-own c =
    let maps : Maps = c.self.inside.converter in
    let none = ap (λ (s : Store). s.maps.frozen_at) c.self.view_is ∙ c.requires.none in
    let sound = subst (λ (s : Store). IsSoundMaps s.maps) (sym c.self.view_is) c.blocks-blocks.ensures.sound in
    subst (λ (m : Maps). OwnAsSaved m) (sym c.freeze-map.ensures.maps) (as_saved maps sound none)

pub returns-clause-reads : goal.returns-clause-reads
returns-clause-reads c seen reads =
    let i = c.self.inside in
    subst (λ (t : Store). FramesMatch t seen) (sym (frozen_is i.converter i.free i.marks i.volumes i.frames.items i.states.items i.next i.is_pinned i.pinned.items c.args.self.now c.self.view_is c.self.invariant c.freeze-map.new.self c.args.mark.savepoint c.requires.next c.freeze-map.ensures.maps)) (frozen_reads c.args.self.now seen reads)
