use Rattle.std.proofs.Common.{◌≡◌, ◌∙◌, length, ap, sym, subst}
use Rattle.converter.specs.Maps.{Maps, FreesLeaving, Leaves, frozen_as_saved}
use Rattle.page_store.specs.Store.{Store, IsStore, FramesMatch}
use Rattle.page_store.proofs.Knowing.{settled_reads}
use Rattle.page_store.proofs.Released.{settled_store, maps_kept}
use Rattle.page_store.proofs.store.PageStore.release.Goals as goal

pub invariant_of-self : goal.invariant_of-self
invariant_of-self c =
    let i = c.self.inside in
    let s = c.args.self.now in
    let v = c.self.view_is in
    let e = c.blocks-blocks.ensures in
    let f = c.release.new.free in
    let maps : c.release.new.converter ≡ frozen_as_saved s.maps = c.release.ensures.maps ∙ ap (λ (t : Store). frozen_as_saved t.maps) v in
    let given = subst (λ (t : Store). FreesLeaving (Leaves t.maps t.marks) 0 (length t.maps.saved) t.free f) v c.release.ensures.given in
    maps_kept i.converter i.free i.marks i.volumes i.frames.items i.states.items i.next i.is_pinned i.pinned.items c.args.self.now c.self.view_is c.self.invariant c.release.new.converter f (ap (λ (m : Maps). length m.owner) c.release.ensures.maps) (ap (λ (m : Maps). m.conv) c.release.ensures.maps)
    (subst (λ (m : Maps). IsStore record s { maps = m; free = f }) (sym maps) (settled_store s f c.args.state.map.savepoint e.sound e.store c.requires.frozen c.requires.written given))

pub returns-clause-reads : goal.returns-clause-reads
returns-clause-reads c seen reads =
    let s = c.args.self.now in
    let f = c.release.new.free in
    let maps : c.release.new.converter ≡ frozen_as_saved s.maps = c.release.ensures.maps ∙ ap (λ (t : Store). frozen_as_saved t.maps) c.self.view_is in
    let is = ap (λ (t : Store). record t { maps = c.release.new.converter; free = f }) c.self.view_is in
    subst (λ (t : Store). FramesMatch t seen) (sym is) (subst (λ (m : Maps). FramesMatch record s { maps = m; free = f } seen) (sym maps) (settled_reads s f seen reads))
