use Rattle.std.proofs.Common.{◌≡◌, sym, subst, arith}
use Rattle.mdb_host.proofs.Reading.{reads_on}
use Rattle.mdb_bytes.specs.Paged.{price}
use Rattle.mdb_model.specs.Images.{Image}
use Rattle.mdb_host.proofs.Moments.{same_image}
use Rattle.volume_disk.specs.Blocks.{IsArea}
use Rattle.page_store.specs.Store.{Store}
use Rattle.page_store.specs.LogicalPages.{paid_pages}
use Rattle.page_store.specs.Steps.{KeepsPages}
use Rattle.page_store.proofs.Spares.{some_free}
use Rattle.page_store.proofs.Views.{price_held}
use Rattle.page_store.proofs.Pairs.{ready_seen, same_pages, ready_keeps, second_spare}
use Rattle.mdb_model.specs.declared.fault.PageFault.TheVariants.{Failed}
use Rattle.page_store.proofs.Answering.{on_passed, if_passed}
use Rattle.page_store.proofs.store.PageStore.ready_both.Goals as goal

pub ready-requires-clause-spare : goal.ready-requires-clause-spare
ready-requires-clause-spare g c held =
    let s = c.args.self.now in
    omega (arith, some_free s (omega (arith, c.requires.room, price_held s c.args.one c.blocks-before.ensures.sound c.requires.lives.0 held)))

pub ready-requires-2-clause-spare : goal.ready-requires-2-clause-spare
ready-requires-2-clause-spare g c =
    second_spare g.H.Host.tells c.args.self.now c.ready.new.self c.args.one c.args.other c.in_ok-first.first c.in_ok-first.first (g.H.Host.disk c.args.host.now).seen c.requires.differ c.requires.lives.0 c.requires.lives.1 c.requires.room
    c.ready.new.self c.in_ok-first.ensures.ready

pub returns-clause-both : goal.returns-clause-both
returns-clause-both g c = record {
  mid = c.ready.new.self;
  first = c.in_ok-first.ensures.ready;
  second = ready_seen g.H.Host.tells c.ready.new.self c.ready-2.new.self c.args.other c.in_ok-second.second (g.H.Host.disk c.args.host.now).seen (g.H.Host.disk c.ready.new.host).seen c.ready.ensures.reads.seen c.in_ok-second.ensures.ready;
}

pub returns-clause-reads : goal.returns-clause-reads
returns-clause-reads g c = reads_on _ _ _ _ c.ready.ensures.reads c.ready-2.ensures.reads

pub returns-in_err-first-clause-kept : goal.returns-in_err-first-clause-kept
returns-in_err-first-clause-kept g c =
    let s = c.args.self.now in
    on_passed c.in_err-first.field-0.0 c.from_residual.result c.from_residual.ensures.1
    (same_pages g.H.Host.tells s c.ready.new.self c.args.one (price (paid_pages s) c.args.one) (g.H.Host.disk c.args.host.now).seen c.in_err-first.ensures.err c.blocks-before.ensures.sound)

pub returns-in_err-second-clause-kept : goal.returns-in_err-second-clause-kept
returns-in_err-second-clause-kept g c =
    let s = c.args.self.now in
    let seen = (g.H.Host.disk c.args.host.now).seen in
    on_passed c.in_err-second.field-0.0 c.from_residual-in_err-second.result c.from_residual-in_err-second.ensures.1
    (subst (λ (t : Store). KeepsPages g.H.Host.tells s t c.args.one (price (paid_pages s) c.args.one) seen) (sym c.in_err-second.ensures.err)
    (ready_keeps g.H.Host.tells s c.ready.new.self c.args.one c.in_ok-first.first seen c.requires.lives.0 (omega (arith, c.requires.room)) c.in_ok-first.ensures.ready))

pub returns-in_err-second-clause-reads : goal.returns-in_err-second-clause-reads
returns-in_err-second-clause-reads g c = reads_on _ _ _ _ c.ready.ensures.reads c.ready-2.ensures.reads

pub returns-in_err-second-clause-whole : goal.returns-in_err-second-clause-whole
returns-in_err-second-clause-whole g c known =
    let seen = (g.H.Host.disk c.args.host.now).seen in
    let then = (g.H.Host.disk c.ready.new.host).seen in
    let there = (c.in_ok-first.ensures.ready.step.known known).there in
    if_passed (λ fault. fault ≡ Failed) c.in_err-second.field-0.0 c.from_residual-in_err-second.result c.from_residual-in_err-second.ensures.1
    (c.in_err-second.ensures.whole known.told (subst (λ (x : Image). IsArea c.ready.new.self.sizes x) (same_image seen then (c.ready.ensures.reads.seen known.told)) there))
