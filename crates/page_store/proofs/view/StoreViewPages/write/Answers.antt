use Rattle.std.proofs.Common.{◌∙◌, refl, ap}
use Rattle.mdb_bytes.specs.Paged.{price}
use Rattle.page_store.specs.LogicalPages.{paid_pages}
use Rattle.std.specs.Prelude.{Err}
use Rattle.std.proofs.lemmas.Result.{err_from_is_err_and}
use Rattle.page_store.proofs.Views.{live_needs, spare_for}
use Rattle.page_store.proofs.Lending.{kept_same, keeps_none, written_lent, keeps_lent, bytes_ready}
use Rattle.page_store.proofs.view.StoreViewPages.write.Goals as goal

pub ready-requires-clause-lives : goal.ready-requires-clause-lives
ready-requires-clause-lives g c = (live_needs c.args.self.now.store.now (g.H.Host.disk c.args.self.now.host.now).seen c.args.page c.requires.lives).0

pub ready-requires-clause-spare : goal.ready-requires-clause-spare
ready-requires-clause-spare g c = spare_for c.args.self.now.store.now (g.H.Host.disk c.args.self.now.host.now).seen c.args.page c.requires.lives c.requires.room

pub returns : goal.returns
returns g c =
    let s = c.args.self.now.store.now in
    let m = c.ready.new.self in
    let before = g.H.Host.disk c.args.self.now.host.now in
    let after = g.H.Host.disk c.ready.new.host in
    let lives = (live_needs s before.seen c.args.page c.requires.lives).0 in
    let e = c.ready.ensures in
    let ready = c.in_ok-block.ensures.ready in (
      (
        refl,
        λ w is. (
          written_lent g.H.Host.tells s m c.args.page c.in_ok-block.block before.seen after.seen e.reads.seen lives ready c.in_ok-block.ensures.store w,
          record { later = e.reads.later; failed = tt; whole = λ known. tt },
          (refl, refl, keeps_lent g.H.Host.tells s m c.args.page c.in_ok-block.block before.seen after.seen e.reads.seen lives ready c.in_ok-block.ensures.store before after refl refl e.reads.calm c.requires.room w, e.reads.say_faults),
        ),
        tt,
      ),
      record { lends = tt; bytes = bytes_ready g.H.Host.tells s m c.args.page c.in_ok-block.block before.seen after.seen e.reads.seen lives ready c.in_ok-block.ensures.store c.frame_mut.result.now c.frame_mut.ensures.value },
    )

pub returns-in_err-block : goal.returns-in_err-block
returns-in_err-block g c =
    let s = c.args.self.now.store.now in
    let m = c.ready.new.self in
    let before = g.H.Host.disk c.args.self.now.host.now in
    let after = g.H.Host.disk c.ready.new.host in
    let e = c.ready.ensures in
    let passed = err_from_is_err_and c.from_residual.result c.from_residual.ensures.1 in rw (passed.1, passed.2) (
      (
        refl,
        λ w is. absurd (cc is),
        (
          kept_same g.H.Host.tells (price (paid_pages s) c.args.page) s m before.seen after.seen c.in_err-block.ensures.err e.sound e.reads.seen,
          record { later = e.reads.later; failed = λ is. e.cause (c.in_err-block.was ∙ ap (λ x. Err x) is); whole = λ known. c.in_err-block.ensures.whole known.told known.there },
          (refl, refl, keeps_none g.H.Host.tells s m before after c.in_err-block.ensures.err e.reads.calm e.reads.seen, e.reads.say_faults),
        ),
      ),
      record { lends = tt; bytes = tt },
    )
