use Rattle.std.proofs.Common.{ℕ, refl, arith}
use Rattle.mdb_host.specs.Disk.{Agree}
use Rattle.std.proofs.lemmas.List.{length-replicate}
use Rattle.page_store.proofs.Spares.{some_free, spare_less}
use Rattle.page_store.proofs.Views.{view_new}
use Rattle.page_store.proofs.Follows.{made_is, made_room, keeps_page}
use Rattle.mdb_host.proofs.Moments.{stays}
use Rattle.page_store.proofs.view.StoreViewPages.new_page.Goals as goal

pub make_new-page-requires : goal.make_new-page-requires
make_new-page-requires g c = omega (arith, some_free c.args.self.now.store.now c.requires)

pub returns-clause-fresh : goal.returns-clause-fresh
returns-clause-fresh g c =
    let s = c.args.self.now.store.now in
    let seen = (g.H.Host.disk c.args.self.now.host.now).seen in
    let e = c.make_new-page.ensures in
    let made = made_is g.H.Host.tells s c.make_new-page.new.self c.make_new-page.result seen e.sound.0 e.store e.made in
    view_new g.H.Host.tells s c.make_new-page.new.self c.make_new-page.result seen seen (λ told d. refl) e.sound.0 e.sound.1 made.step _ (omega (arith, e.made.below, e.sound.0.bound)) e.made.dead made.lives made.owned made.bytes (length-replicate {A = ℕ} 8192 0)

pub returns-clause-spare : goal.returns-clause-spare
returns-clause-spare g c =
    let s = c.args.self.now.store.now in
    let e = c.make_new-page.ensures in
    let made = made_is g.H.Host.tells s c.make_new-page.new.self c.make_new-page.result (g.H.Host.disk c.args.self.now.host.now).seen e.sound.0 e.store e.made in
    spare_less s c.make_new-page.new.self 1 made.step.keeps made.less

pub returns-clause-follows : goal.returns-clause-follows
returns-clause-follows g c =
    let s = c.args.self.now.store.now in
    let d = g.H.Host.disk c.args.self.now.host.now in
    let e = c.make_new-page.ensures in
    let made = made_is g.H.Host.tells s c.make_new-page.new.self c.make_new-page.result d.seen e.sound.0 e.store e.made in (
      refl,
      refl,
      keeps_page g.H.Host.tells s c.make_new-page.new.self c.make_new-page.result d d made.step (λ told. stays d Agree (λ image x. refl)) (λ told x. refl)
          (λ fits. made_room s c.make_new-page.new.self made.step.keeps made.less c.requires),
      refl,
    )
