use Rattle.std.proofs.Common.{◌≡◌, ◌∙◌, ℕ, List, sym, ap, subst}
use Rattle.mdb_model.specs.Images.{Image}
use Rattle.volume_disk.specs.Blocks.{IsArea}
use Rattle.volume_disk.proofs.Writes.{area_same}
use Rattle.page_store.specs.Store.{Store, IsKnown, block_bytes, frozen_block}
use Rattle.page_store.specs.Steps.{HasPages, frozen_now}
use Rattle.page_store.proofs.MapSteps.{pages_goes, pages_seen, synced_goes, synced_seen, synced_there, synced_leaves, written_goes, written_seen, written_holds}
use Rattle.page_store.proofs.keeping.keep_map.Goals as goal

pub write_pages-requires : goal.write_pages-requires
write_pages-requires g c told = subst (λ (s : Store). IsArea s.sizes (g.H.Host.disk c.args.host.now).seen) (sym c.begin_savepoint-state.ensures.frozen) (c.requires.there told)

pub pages_done-requires : goal.pages_done-requires
pages_done-requires g c told =
    let k = c.write_pages.ensures.keeps in
    subst (λ (l : List ℕ). IsArea l (g.H.Host.disk c.write_pages.new.host).seen) (sym (k.maps.sizes ∙ ap (λ (s : Store). s.sizes) c.begin_savepoint-state.ensures.frozen))
    (area_same c.args.store.now.sizes (g.H.Host.disk c.args.host.now).seen (g.H.Host.disk c.write_pages.new.host).seen
    (pages_seen g.H.Host.tells c.args.store.now c.begin_savepoint-state.new.self c.write_pages.new.store (g.H.Host.disk c.args.host.now) (g.H.Host.disk c.write_pages.new.host) c.begin_savepoint-state.ensures.frozen k told).same_sizes
    (c.requires.there told))

pub returns-in_err-write_pages-clause-goes : goal.returns-in_err-write_pages-clause-goes
returns-in_err-write_pages-clause-goes g c = pages_goes g.H.Host.tells c.args.store.now c.begin_savepoint-state.new.self c.write_pages.new.store (g.H.Host.disk c.args.host.now) (g.H.Host.disk c.write_pages.new.host) c.begin_savepoint-state.ensures.frozen c.write_pages.ensures.keeps

pub returns-in_err-write_pages-clause-seen : goal.returns-in_err-write_pages-clause-seen
returns-in_err-write_pages-clause-seen g c = pages_seen g.H.Host.tells c.args.store.now c.begin_savepoint-state.new.self c.write_pages.new.store (g.H.Host.disk c.args.host.now) (g.H.Host.disk c.write_pages.new.host) c.begin_savepoint-state.ensures.frozen c.write_pages.ensures.keeps

pub returns-in_default-clause-goes : goal.returns-in_default-clause-goes
returns-in_default-clause-goes g c =
    synced_goes g.H.Host.tells c.args.store.now c.begin_savepoint-state.new.self c.write_pages.new.store (g.H.Host.disk c.args.host.now) (g.H.Host.disk c.write_pages.new.host) c.begin_savepoint-state.ensures.frozen c.write_pages.ensures.keeps
    (g.H.Host.disk c.pages_done.new.host) c.pages_done.ensures.goes c.pages_done.ensures.seen

pub returns-in_default-clause-seen : goal.returns-in_default-clause-seen
returns-in_default-clause-seen g c =
    synced_seen g.H.Host.tells c.args.store.now c.begin_savepoint-state.new.self c.write_pages.new.store (g.H.Host.disk c.args.host.now) (g.H.Host.disk c.write_pages.new.host) c.begin_savepoint-state.ensures.frozen c.write_pages.ensures.keeps
    (g.H.Host.disk c.pages_done.new.host) c.pages_done.ensures.goes c.pages_done.ensures.seen

pub write_converter-requires-clause-there : goal.write_converter-requires-clause-there
write_converter-requires-clause-there g c =
    synced_there g.H.Host.tells c.args.store.now c.begin_savepoint-state.new.self c.write_pages.new.store (g.H.Host.disk c.args.host.now) (g.H.Host.disk c.write_pages.new.host) c.begin_savepoint-state.ensures.frozen c.write_pages.ensures.keeps
    (g.H.Host.disk c.pages_done.new.host) c.pages_done.ensures.goes c.pages_done.ensures.seen c.pages_done.new.self c.pages_done.ensures.same c.write_pages.ensures.turned c.requires.there

pub write_converter-requires-clause-saved : goal.write_converter-requires-clause-saved
write_converter-requires-clause-saved g c =
    synced_leaves g.H.Host.tells c.args.store.now c.begin_savepoint-state.new.self c.write_pages.new.store (g.H.Host.disk c.args.host.now) (g.H.Host.disk c.write_pages.new.host) c.begin_savepoint-state.ensures.frozen c.write_pages.ensures.keeps
    (g.H.Host.disk c.pages_done.new.host) c.pages_done.ensures.goes c.pages_done.ensures.seen c.pages_done.new.self c.pages_done.ensures.same c.write_pages.ensures.turned c.requires.placed c.requires.leaves

pub returns-in-Ok-write_converter-clause-goes : goal.returns-in-Ok-write_converter-clause-goes
returns-in-Ok-write_converter-clause-goes g c =
    written_goes g.H.Host.tells c.args.store.now c.begin_savepoint-state.new.self c.write_pages.new.store (g.H.Host.disk c.args.host.now) (g.H.Host.disk c.write_pages.new.host) c.begin_savepoint-state.ensures.frozen c.write_pages.ensures.keeps
    (g.H.Host.disk c.pages_done.new.host) c.pages_done.ensures.goes c.pages_done.ensures.seen c.pages_done.new.self c.pages_done.ensures.same c.write_pages.ensures.turned
    c.blocks-old.ensures.store c.write_converter.new.self (g.H.Host.disk c.write_converter.new.host) c.write_converter.ensures.writes.goes c.write_converter.ensures.writes.seen

pub returns-in-Ok-write_converter-clause-seen : goal.returns-in-Ok-write_converter-clause-seen
returns-in-Ok-write_converter-clause-seen g c =
    written_seen g.H.Host.tells c.args.store.now c.begin_savepoint-state.new.self c.write_pages.new.store (g.H.Host.disk c.args.host.now) (g.H.Host.disk c.write_pages.new.host) c.begin_savepoint-state.ensures.frozen c.write_pages.ensures.keeps
    (g.H.Host.disk c.pages_done.new.host) c.pages_done.ensures.goes c.pages_done.ensures.seen c.pages_done.new.self c.pages_done.ensures.same c.write_pages.ensures.turned
    c.blocks-old.ensures.store c.write_converter.new.self (g.H.Host.disk c.write_converter.new.host) c.write_converter.ensures.writes.goes c.write_converter.ensures.writes.seen

pub returns-in-Err-clause-goes : goal.returns-in-Err-clause-goes
returns-in-Err-clause-goes g c =
    written_goes g.H.Host.tells c.args.store.now c.begin_savepoint-state.new.self c.write_pages.new.store (g.H.Host.disk c.args.host.now) (g.H.Host.disk c.write_pages.new.host) c.begin_savepoint-state.ensures.frozen c.write_pages.ensures.keeps
    (g.H.Host.disk c.pages_done.new.host) c.pages_done.ensures.goes c.pages_done.ensures.seen c.pages_done.new.self c.pages_done.ensures.same c.write_pages.ensures.turned
    c.blocks-old.ensures.store c.write_converter.new.self (g.H.Host.disk c.write_converter.new.host) c.write_converter.ensures.writes.goes c.write_converter.ensures.writes.seen

pub returns-in-Err-clause-seen : goal.returns-in-Err-clause-seen
returns-in-Err-clause-seen g c =
    written_seen g.H.Host.tells c.args.store.now c.begin_savepoint-state.new.self c.write_pages.new.store (g.H.Host.disk c.args.host.now) (g.H.Host.disk c.write_pages.new.host) c.begin_savepoint-state.ensures.frozen c.write_pages.ensures.keeps
    (g.H.Host.disk c.pages_done.new.host) c.pages_done.ensures.goes c.pages_done.ensures.seen c.pages_done.new.self c.pages_done.ensures.same c.write_pages.ensures.turned
    c.blocks-old.ensures.store c.write_converter.new.self (g.H.Host.disk c.write_converter.new.host) c.write_converter.ensures.writes.goes c.write_converter.ensures.writes.seen

frozen_known : (T : Type 0) (a f : Store) (seen : Image) → f ≡ frozen_now a → ((x : Image) → Rattle.page_store.specs.Store.FramesMatch a x → Rattle.page_store.specs.Store.FramesMatch f x) → IsKnown T a seen → IsKnown T f seen
frozen_known T a f seen is reads known = record { told = known.told; reads = reads seen known.reads; there = subst (λ (s : Store). IsArea s.sizes seen) (sym is) known.there }

pub returns-in-Ok-write_converter-clause-known : goal.returns-in-Ok-write_converter-clause-known
returns-in-Ok-write_converter-clause-known g c known =
    c.write_converter.ensures.known (c.pages_done.ensures.known (c.write_pages.ensures.keeps.known
    (frozen_known g.H.Host.tells c.args.store.now c.begin_savepoint-state.new.self (g.H.Host.disk c.args.host.now).seen c.begin_savepoint-state.ensures.frozen c.begin_savepoint-state.ensures.reads known)))

pub returns-in-Ok-write_converter-clause-holds : goal.returns-in-Ok-write_converter-clause-holds
returns-in-Ok-write_converter-clause-holds g c known image left =
    let T = g.H.Host.tells in
    let t = c.write_pages.new.store in
    let d1 = g.H.Host.disk c.write_pages.new.host in
    let f_known = frozen_known T c.args.store.now c.begin_savepoint-state.new.self (g.H.Host.disk c.args.host.now).seen c.begin_savepoint-state.ensures.frozen c.begin_savepoint-state.ensures.reads known in
    let t_known = c.write_pages.ensures.keeps.known f_known in
    written_holds T c.args.store.now c.begin_savepoint-state.new.self t (g.H.Host.disk c.args.host.now) d1 c.begin_savepoint-state.ensures.frozen c.write_pages.ensures.keeps
    (g.H.Host.disk c.pages_done.new.host) c.pages_done.ensures.goes c.pages_done.ensures.seen c.pages_done.new.self c.pages_done.ensures.same c.write_pages.ensures.turned
    c.write_converter.new.self.maps c.write_converter.ensures.writes.own (subst (λ (s : Store). IsKnown T s (g.H.Host.disk c.args.host.now).seen) c.begin_savepoint-state.ensures.frozen f_known) image
    (c.in-Ok-write_converter.ensures.holds known.told (λ page. block_bytes t d1.seen (frozen_block t page))
    (λ before was. subst (λ (s : Store). HasPages s.sizes s.maps.frozen s.maps.conv (λ page. block_bytes t d1.seen (frozen_block t page)) before) (sym c.pages_done.ensures.same)
    (c.in-Ok.ensures.pages t_known c.in_ok-write_pages.ensures.done before was))
    image left)
