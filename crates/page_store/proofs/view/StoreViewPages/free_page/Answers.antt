use Rattle.std.proofs.Common.{refl, arith}
use Rattle.mdb_host.specs.Disk.{Agree}
use Rattle.page_store.proofs.Spares.{spare_less}
use Rattle.page_store.proofs.Views.{live_needs, removed, still_known, live_but, other_paid}
use Rattle.page_store.proofs.Follows.{freed_is, keeps_page}
use Rattle.mdb_host.proofs.Moments.{stays}
use Rattle.page_store.proofs.view.StoreViewPages.free_page.Goals as goal

pub make_free-requires : goal.make_free-requires
make_free-requires g c = (live_needs c.args.self.now.store.now (g.H.Host.disk c.args.self.now.host.now).seen c.args.page c.requires).0

pub returns-clause-freed : goal.returns-clause-freed
returns-clause-freed g c known =
    let s = c.args.self.now.store.now in
    let seen = (g.H.Host.disk c.args.self.now.host.now).seen in
    let e = c.make_free.ensures in
    let freed = freed_is g.H.Host.tells s c.make_free.new.self c.args.page seen e.sound.0 e.store e.below (live_needs s seen c.args.page c.requires).0 e.given in (
      still_known g.H.Host.tells s c.make_free.new.self c.args.page seen seen (λ told d. refl) e.sound.0 e.sound.1 freed.0 known,
      removed g.H.Host.tells s c.make_free.new.self c.args.page seen seen (λ told d. refl) e.sound.0 e.sound.1 freed.0 known freed.1,
    )

pub returns-clause-gone : goal.returns-clause-gone
returns-clause-gone g c =
    let s = c.args.self.now.store.now in
    let seen = (g.H.Host.disk c.args.self.now.host.now).seen in
    let e = c.make_free.ensures in
    let freed = freed_is g.H.Host.tells s c.make_free.new.self c.args.page seen e.sound.0 e.store e.below (live_needs s seen c.args.page c.requires).0 e.given in
    live_but g.H.Host.tells s c.make_free.new.self c.args.page seen seen (λ told d. refl) e.sound.0 e.sound.1 freed.0 freed.1

pub returns-clause-stay_paid : goal.returns-clause-stay_paid
returns-clause-stay_paid g c other away =
    let s = c.args.self.now.store.now in
    let seen = (g.H.Host.disk c.args.self.now.host.now).seen in
    let e = c.make_free.ensures in
    let freed = freed_is g.H.Host.tells s c.make_free.new.self c.args.page seen e.sound.0 e.store e.below (live_needs s seen c.args.page c.requires).0 e.given in
    other_paid g.H.Host.tells s c.make_free.new.self c.args.page seen seen (λ told d. refl) e.sound.0 e.sound.1 freed.0 other away

pub returns-clause-spare : goal.returns-clause-spare
returns-clause-spare g c =
    let s = c.args.self.now.store.now in
    let seen = (g.H.Host.disk c.args.self.now.host.now).seen in
    let e = c.make_free.ensures in
    let freed = freed_is g.H.Host.tells s c.make_free.new.self c.args.page seen e.sound.0 e.store e.below (live_needs s seen c.args.page c.requires).0 e.given in
    omega (arith, spare_less s c.make_free.new.self 0 freed.0.keeps (omega (arith, freed.2)))

pub returns-clause-follows : goal.returns-clause-follows
returns-clause-follows g c =
    let s = c.args.self.now.store.now in
    let d = g.H.Host.disk c.args.self.now.host.now in
    let e = c.make_free.ensures in
    let freed = freed_is g.H.Host.tells s c.make_free.new.self c.args.page d.seen e.sound.0 e.store e.below (live_needs s d.seen c.args.page c.requires).0 e.given in (
      refl,
      refl,
      keeps_page g.H.Host.tells s c.make_free.new.self c.args.page d d freed.0 (λ told. stays d Agree (λ image x. refl)) (λ told x. refl)
          (λ fits. omega (arith, freed.0.keeps.conv, freed.2, fits)),
      refl,
    )
