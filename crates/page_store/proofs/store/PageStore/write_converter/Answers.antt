use Rattle.std.proofs.Common.{ap, sym, subst}
use Rattle.savepoint.specs.Calls.{MayWriteConverter, WritesConverter}
use Rattle.converter.specs.Own.{OwnOnly, Fewer, TakesForFrozen}
use Rattle.mdb_host.specs.Disk.{Goes}
use Rattle.mdb_host.proofs.Moments.{on_ok}
use Rattle.free_blocks.specs.Free.{IsFree}
use Rattle.converter.specs.Tree.{HasTree}
use Rattle.volume_disk.specs.Blocks.{Writes, block_at}
use Rattle.page_store.specs.Store.{Store, IsKnown}
use Rattle.page_store.proofs.Knowing.{own_known}
use Rattle.page_store.proofs.Released.{own_store, maps_kept, holds_after}
use Rattle.page_store.proofs.store.PageStore.write_converter.Goals as goal

pub write_converter-written-requires-clause-may : goal.write_converter-written-requires-clause-may
write_converter-written-requires-clause-may g c =
    let seen = (g.H.Host.disk c.args.host.now).seen in
    subst (λ (s : Store). MayWriteConverter g.H.Host.tells s.sizes s.maps s.free c.args.state.map.savepoint seen) (sym c.self.view_is) (record {
      frozen = c.requires.frozen;
      area = (c.blocks-blocks.ensures.store.area, c.blocks-blocks.ensures.store.blocks);
      unused = c.blocks-blocks.ensures.store.unused;
      later = c.requires.later;
      there = c.requires.there;
      saved = c.requires.saved;
    })

pub invariant_of-self : goal.invariant_of-self
invariant_of-self g c =
    let i = c.self.inside in
    let s = c.args.self.now in
    let v = c.self.view_is in
    let e = c.blocks-blocks.ensures in
    let w = c.write_converter-written.ensures in
    let m = c.write_converter-written.new.converter in
    let f = c.write_converter-written.new.free in
    let own = subst (λ (t : Store). OwnOnly t.maps m) v w.writes.own in
    let fewer = subst (λ (t : Store). Fewer t.free f t.maps.conv) v w.writes.fewer in
    let taken = subst (λ (t : Store). TakesForFrozen 0 t.free f m) v w.writes.taken in
    maps_kept i.converter i.free i.marks i.volumes i.frames.items i.states.items i.next i.is_pinned i.pinned.items c.args.self.now c.self.view_is c.self.invariant m f w.writes.own.area w.writes.own.conv
    (own_store s m f c.args.state.map.savepoint s.maps.conv e.sound c.leaves-leaves.ensures.sound e.store own fewer w.writes.unused taken c.requires.later c.requires.frozen)

pub returns-clause-holds : goal.returns-clause-holds
returns-clause-holds g c = on_ok c.write_converter-written.result _ _ (λ held told pages has image left.
    let s = c.args.self.now in
    let v = c.self.view_is in
    let e = c.blocks-blocks.ensures in
    let w = c.write_converter-written.ensures in
    let m = c.write_converter-written.new.converter in
    let d0 = g.H.Host.disk c.args.host.now in
    let d1 = g.H.Host.disk c.write_converter-written.new.host in
    let own = subst (λ (t : Store). OwnOnly t.maps m) v w.writes.own in
    let goes = subst (λ (t : Store). Goes d0 d1 (Writes t.sizes (IsFree t.free))) v (w.writes.goes told) in
    let tree = subst (λ (t : Store). HasTree m.frozen m.conv (block_at t.sizes image)) v (held told image left) in
    holds_after s m d0 d1 e.sound e.store own goes pages has image left tree) c.write_converter-written.ensures.held

pub returns-clause-known : goal.returns-clause-known
returns-clause-known g c known =
    let s = c.args.self.now in
    let v = c.self.view_is in
    let e = c.blocks-blocks.ensures in
    let w = c.write_converter-written.ensures in
    let m = c.write_converter-written.new.converter in
    let f = c.write_converter-written.new.free in
    let a = (g.H.Host.disk c.args.host.now).seen in
    let b = (g.H.Host.disk c.write_converter-written.new.host).seen in
    let own = subst (λ (t : Store). OwnOnly t.maps m) v w.writes.own in
    subst (λ (t : Store). IsKnown g.H.Host.tells t b) (sym (ap (λ (t : Store). record t { maps = m; free = f }) v))
    (own_known g.H.Host.tells s m f a b e.sound e.store own (λ told. subst (λ (t : Store). Writes t.sizes (IsFree t.free) a b) v (w.writes.seen told)) known)

pub returns-clause-writes : goal.returns-clause-writes
returns-clause-writes g c =
    let w = c.write_converter-written in
    subst (λ (s : Store). WritesConverter g.H.Host.tells s.sizes s.maps w.new.converter s.free w.new.free (g.H.Host.disk c.args.host.now) (g.H.Host.disk w.new.host) w.result) c.self.view_is w.ensures.writes
