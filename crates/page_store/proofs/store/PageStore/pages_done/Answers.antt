use Rattle.std.proofs.Common.{sym, subst}
use Rattle.mdb_host.proofs.Moments.{on_ok}
use Rattle.volume_disk.specs.Blocks.{IsArea, IsDurable}
use Rattle.page_store.specs.Store.{Store}
use Rattle.page_store.proofs.Knowing.{agree_known}
use Rattle.page_store.proofs.Released.{frozen_pages}
use Rattle.page_store.proofs.store.PageStore.pages_done.Goals as goal

pub pages_done-requires : goal.pages_done-requires
pages_done-requires g c told = subst (λ (s : Store). IsArea s.sizes (g.H.Host.disk c.args.host.now).seen) (sym c.self.view_is) (c.requires told)

pub returns-clause-pages : goal.returns-clause-pages
returns-clause-pages g c = on_ok c.pages_done.result _ _ (λ done known.
    let s = c.args.self.now in
    let e = c.blocks-blocks.ensures in
    let after = g.H.Host.disk c.pages_done.new.host in
    frozen_pages g.H.Host.tells s (g.H.Host.disk c.args.host.now) after e.sound e.store c.pages_done.ensures.seen (λ told. subst (λ (t : Store). IsDurable t.sizes after) c.self.view_is (done told)) known) c.pages_done.ensures.settled

pub returns-clause-known : goal.returns-clause-known
returns-clause-known g c known =
    let after = (g.H.Host.disk c.pages_done.new.host).seen in
    agree_known g.H.Host.tells c.args.self.now (g.H.Host.disk c.args.host.now).seen after c.pages_done.ensures.seen known
