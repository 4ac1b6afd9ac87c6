use Rattle.std.proofs.Common.{◌+◌, ◌≤◌, refl, sym, subst, arith}
use Rattle.mdb_bytes.specs.Paged.{price, AreEdited, StayPaid}
use Rattle.page_store.specs.Store.{Store, IsKnown, spare_of}
use Rattle.page_store.specs.LogicalPages.{store_pages, paid_pages}
use Rattle.page_store.specs.Steps.{KeepsStore}
use Rattle.page_store.proofs.Answering.{on_passed}
use Rattle.page_store.proofs.Views.{live_needs}
use Rattle.page_store.proofs.Follows.{keeps_page}
use Rattle.page_store.proofs.Pairs.{apart, changed_a, below_a, bytes_a, bytes_b, pair_paid, pair_spare, pair_edited, pair_keeps, kept_pages}
use Rattle.page_store.proofs.view.StoreViewPages.write_pair.Goals as goal

pub ready_both-requires-clause-lives : goal.ready_both-requires-clause-lives
ready_both-requires-clause-lives g c =
    let s = c.args.self.now.store.now in
    let seen = (g.H.Host.disk c.args.self.now.host.now).seen in
    ((live_needs s seen c.args.one c.requires.lives.0).0, (live_needs s seen c.args.other c.requires.lives.1).0)

pub ready_both-requires-clause-room : goal.ready_both-requires-clause-room
ready_both-requires-clause-room g c = c.requires.room

pub edit_both-answer-requires-clause-below : goal.edit_both-answer-requires-clause-below
edit_both-answer-requires-clause-below g c =
    let s = c.args.self.now.store.now in
    let u = c.ready_both.new.self in
    let before = g.H.Host.disk c.args.self.now.host.now in
    let after = g.H.Host.disk c.ready_both.new.host in
    let la = (live_needs s before.seen c.args.one c.requires.lives.0).0 in
    let lb = (live_needs s before.seen c.args.other c.requires.lives.1).0 in
    let both = c.in_ok-first.ensures.both in
    (below_a g.H.Host.tells s u c.args.one c.args.other c.in_ok-first.first c.in_ok-first.second before.seen c.requires.differ la lb c.requires.room both.mid both.first both.second c.in_ok-first.ensures.store, both.second.below)

pub edit_both-answer-requires-clause-changed : goal.edit_both-answer-requires-clause-changed
edit_both-answer-requires-clause-changed g c =
    let s = c.args.self.now.store.now in
    let u = c.ready_both.new.self in
    let before = g.H.Host.disk c.args.self.now.host.now in
    let after = g.H.Host.disk c.ready_both.new.host in
    let la = (live_needs s before.seen c.args.one c.requires.lives.0).0 in
    let lb = (live_needs s before.seen c.args.other c.requires.lives.1).0 in
    let both = c.in_ok-first.ensures.both in
    (changed_a g.H.Host.tells s u c.args.one c.args.other c.in_ok-first.first c.in_ok-first.second before.seen c.requires.differ la lb c.requires.room both.mid both.first both.second c.in_ok-first.ensures.store, both.second.changed)

pub edit_both-answer-requires-clause-differ : goal.edit_both-answer-requires-clause-differ
edit_both-answer-requires-clause-differ g c =
    let s = c.args.self.now.store.now in
    let u = c.ready_both.new.self in
    let before = g.H.Host.disk c.args.self.now.host.now in
    let after = g.H.Host.disk c.ready_both.new.host in
    let la = (live_needs s before.seen c.args.one c.requires.lives.0).0 in
    let lb = (live_needs s before.seen c.args.other c.requires.lives.1).0 in
    let both = c.in_ok-first.ensures.both in
    apart g.H.Host.tells s u c.args.one c.args.other c.in_ok-first.first c.in_ok-first.second before.seen c.requires.differ la lb c.requires.room both.mid both.first both.second c.in_ok-first.ensures.store

pub edit_both-answer-requires-clause-may : goal.edit_both-answer-requires-clause-may
edit_both-answer-requires-clause-may g c one two lone ltwo fone ftwo =
    let s = c.args.self.now.store.now in
    let u = c.ready_both.new.self in
    let before = g.H.Host.disk c.args.self.now.host.now in
    let after = g.H.Host.disk c.ready_both.new.host in
    let la = (live_needs s before.seen c.args.one c.requires.lives.0).0 in
    let lb = (live_needs s before.seen c.args.other c.requires.lives.1).0 in
    let both = c.in_ok-first.ensures.both in
    c.requires.may one two lone ltwo (λ known. (bytes_a g.H.Host.tells s u c.args.one c.args.other c.in_ok-first.first c.in_ok-first.second before.seen c.requires.differ la lb c.requires.room both.mid both.first both.second c.in_ok-first.ensures.store one fone known, bytes_b g.H.Host.tells s u c.args.one c.args.other c.in_ok-first.first c.in_ok-first.second before.seen c.requires.differ la lb c.requires.room both.mid both.first both.second c.in_ok-first.ensures.store two ftwo known))

pub returns-clause-edited : goal.returns-clause-edited
returns-clause-edited g c =
    let s = c.args.self.now.store.now in
    let u = c.ready_both.new.self in
    let before = g.H.Host.disk c.args.self.now.host.now in
    let after = g.H.Host.disk c.ready_both.new.host in
    let la = (live_needs s before.seen c.args.one c.requires.lives.0).0 in
    let lb = (live_needs s before.seen c.args.other c.requires.lives.1).0 in
    let both = c.in_ok-first.ensures.both in
    let e = c.edit_both-answer.ensures in
    let does = g.E.PairEdit.does c.args.edit.now c.edit_both-answer.result in
    subst (λ (t : Store). AreEdited does c.args.one c.args.other (IsKnown g.H.Host.tells s before.seen) (IsKnown g.H.Host.tells t after.seen) (store_pages s before.seen) (store_pages t after.seen) (paid_pages s) (paid_pages t)) (sym e.is)
    (pair_edited g.H.Host.tells s u c.args.one c.args.other c.in_ok-first.first c.in_ok-first.second before.seen c.requires.differ la lb c.requires.room both.mid both.first both.second c.in_ok-first.ensures.store e.one_now e.two_now does e.one e.two after.seen c.ready_both.ensures.reads.seen e.one_was e.two_was e.edited)

pub returns-clause-stay_paid : goal.returns-clause-stay_paid
returns-clause-stay_paid g c =
    let s = c.args.self.now.store.now in
    let u = c.ready_both.new.self in
    let before = g.H.Host.disk c.args.self.now.host.now in
    let after = g.H.Host.disk c.ready_both.new.host in
    let la = (live_needs s before.seen c.args.one c.requires.lives.0).0 in
    let lb = (live_needs s before.seen c.args.other c.requires.lives.1).0 in
    let both = c.in_ok-first.ensures.both in
    let e = c.edit_both-answer.ensures in
    subst (λ (t : Store). StayPaid (paid_pages s) (paid_pages t)) (sym e.is) (pair_paid g.H.Host.tells s u c.args.one c.args.other c.in_ok-first.first c.in_ok-first.second before.seen c.requires.differ la lb c.requires.room both.mid both.first both.second c.in_ok-first.ensures.store e.one_now e.two_now)

pub returns-clause-spare : goal.returns-clause-spare
returns-clause-spare g c =
    let s = c.args.self.now.store.now in
    let u = c.ready_both.new.self in
    let before = g.H.Host.disk c.args.self.now.host.now in
    let after = g.H.Host.disk c.ready_both.new.host in
    let la = (live_needs s before.seen c.args.one c.requires.lives.0).0 in
    let lb = (live_needs s before.seen c.args.other c.requires.lives.1).0 in
    let both = c.in_ok-first.ensures.both in
    let e = c.edit_both-answer.ensures in
    subst (λ (t : Store). spare_of s ≤ spare_of t + price (paid_pages s) c.args.one + price (paid_pages s) c.args.other) (sym e.is) (pair_spare g.H.Host.tells s u c.args.one c.args.other c.in_ok-first.first c.in_ok-first.second before.seen c.requires.differ la lb c.requires.room both.mid both.first both.second c.in_ok-first.ensures.store e.one_now e.two_now)

pub returns-clause-follows : goal.returns-clause-follows
returns-clause-follows g c =
    let s = c.args.self.now.store.now in
    let u = c.ready_both.new.self in
    let before = g.H.Host.disk c.args.self.now.host.now in
    let after = g.H.Host.disk c.ready_both.new.host in
    let la = (live_needs s before.seen c.args.one c.requires.lives.0).0 in
    let lb = (live_needs s before.seen c.args.other c.requires.lives.1).0 in
    let both = c.in_ok-first.ensures.both in
    let e = c.edit_both-answer.ensures in
    (refl, refl, subst (λ (t : Store). KeepsStore g.H.Host.tells s t before after) (sym e.is) (pair_keeps g.H.Host.tells s u c.args.one c.args.other c.in_ok-first.first c.in_ok-first.second before.seen c.requires.differ la lb c.requires.room both.mid both.first both.second c.in_ok-first.ensures.store e.one_now e.two_now before after refl c.ready_both.ensures.reads.calm c.ready_both.ensures.reads.seen), c.ready_both.ensures.reads.say_faults)

pub returns-in_err-first-clause-kept : goal.returns-in_err-first-clause-kept
returns-in_err-first-clause-kept g c =
    let s = c.args.self.now.store.now in
    let u = c.ready_both.new.self in
    let before = g.H.Host.disk c.args.self.now.host.now in
    let after = g.H.Host.disk c.ready_both.new.host in
    let la = (live_needs s before.seen c.args.one c.requires.lives.0).0 in
    let most = price (paid_pages s) c.args.one in
    let kept = c.in_err-first.ensures.kept in
    on_passed c.in_err-first.field-0.0 c.from_residual.result c.from_residual.ensures.1
    (kept_pages g.H.Host.tells s u c.args.one most (most + price (paid_pages s) c.args.other) before.seen after.seen c.ready_both.ensures.reads.seen c.ready_both.ensures.sound la (omega arith) kept)

pub returns-in_err-first-clause-stay_paid : goal.returns-in_err-first-clause-stay_paid
returns-in_err-first-clause-stay_paid g c =
    let s = c.args.self.now.store.now in
    let u = c.ready_both.new.self in
    let before = g.H.Host.disk c.args.self.now.host.now in
    let after = g.H.Host.disk c.ready_both.new.host in
    let la = (live_needs s before.seen c.args.one c.requires.lives.0).0 in
    let most = price (paid_pages s) c.args.one in
    let kept = c.in_err-first.ensures.kept in
    (kept_pages g.H.Host.tells s u c.args.one most most before.seen after.seen c.ready_both.ensures.reads.seen c.ready_both.ensures.sound la (omega arith) kept).stay_paid

pub returns-in_err-first-clause-spare : goal.returns-in_err-first-clause-spare
returns-in_err-first-clause-spare g c =
    let s = c.args.self.now.store.now in
    let u = c.ready_both.new.self in
    let before = g.H.Host.disk c.args.self.now.host.now in
    let after = g.H.Host.disk c.ready_both.new.host in
    let la = (live_needs s before.seen c.args.one c.requires.lives.0).0 in
    let most = price (paid_pages s) c.args.one in
    let kept = c.in_err-first.ensures.kept in
    omega (arith, (kept_pages g.H.Host.tells s u c.args.one most most before.seen after.seen c.ready_both.ensures.reads.seen c.ready_both.ensures.sound la (omega arith) kept).left)

pub returns-in_err-first-clause-follows : goal.returns-in_err-first-clause-follows
returns-in_err-first-clause-follows g c =
    let s = c.args.self.now.store.now in
    let u = c.ready_both.new.self in
    let before = g.H.Host.disk c.args.self.now.host.now in
    let after = g.H.Host.disk c.ready_both.new.host in
    let la = (live_needs s before.seen c.args.one c.requires.lives.0).0 in
    let most = price (paid_pages s) c.args.one in
    let kept = c.in_err-first.ensures.kept in
    (refl, refl, keeps_page g.H.Host.tells s u c.args.one before after kept.step c.ready_both.ensures.reads.calm c.ready_both.ensures.reads.seen kept.room, c.ready_both.ensures.reads.say_faults)
