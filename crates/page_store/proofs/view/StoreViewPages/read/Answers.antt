use Rattle.std.proofs.Common.{◌∙◌, List, Bool, refl, ap, arith}
use Rattle.free_blocks.specs.Free.{free_count}
use Rattle.std.specs.Prelude.{Err}
use Rattle.std.proofs.lemmas.Result.{err_from_is_err_and}
use Rattle.page_store.proofs.Views.{live_needs}
use Rattle.page_store.proofs.Lending.{kept_same, keeps_none, kept_shown, bytes_shown}
use Rattle.page_store.proofs.Follows.{keeps_page}
use Rattle.page_store.proofs.view.StoreViewPages.read.Goals as goal

pub filled-requires : goal.filled-requires
filled-requires g c = (live_needs c.args.self.now.store.now (g.H.Host.disk c.args.self.now.host.now).seen c.args.page c.requires).0

pub returns : goal.returns
returns g c =
    let s = c.args.self.now.store.now in
    let m = c.filled.new.self in
    let before = g.H.Host.disk c.args.self.now.host.now in
    let after = g.H.Host.disk c.filled.new.host in
    let lives = (live_needs s before.seen c.args.page c.requires).0 in
    let e = c.filled.ensures in
    let shows = c.in_ok-block.ensures.shows in (
      (
        refl,
        λ x. tt,
        (
          kept_shown g.H.Host.tells s m c.args.page c.in_ok-block.block before.seen after.seen e.reads.seen lives shows,
          record { later = e.reads.later; failed = tt; whole = λ known. tt },
          (refl, refl, keeps_page g.H.Host.tells s m c.args.page before after shows.step e.reads.calm e.reads.seen (λ fits. omega (arith, fits, shows.step.keeps.conv, ap (λ (l : List Bool). free_count l) shows.free)), e.reads.say_faults),
        ),
      ),
      record { lends = tt; bytes = bytes_shown g.H.Host.tells s m c.args.page c.in_ok-block.block before.seen c.frame.result.now lives shows c.frame.ensures },
    )

pub returns-in_err-block : goal.returns-in_err-block
returns-in_err-block g c =
    let s = c.args.self.now.store.now in
    let m = c.filled.new.self in
    let before = g.H.Host.disk c.args.self.now.host.now in
    let after = g.H.Host.disk c.filled.new.host in
    let e = c.filled.ensures in
    let passed = err_from_is_err_and c.from_residual.result c.from_residual.ensures.1 in rw (passed.1, passed.2) (
      (
        refl,
        λ x. tt,
        (
          kept_same g.H.Host.tells 0 s m before.seen after.seen c.in_err-block.ensures.err e.sound e.reads.seen,
          record { later = e.reads.later; failed = λ is. e.cause (c.in_err-block.was ∙ ap (λ x. Err x) is); whole = λ known. c.in_err-block.ensures.whole known.told known.there },
          (refl, refl, keeps_none g.H.Host.tells s m before after c.in_err-block.ensures.err e.reads.calm e.reads.seen, e.reads.say_faults),
        ),
      ),
      record { lends = tt; bytes = tt },
    )
