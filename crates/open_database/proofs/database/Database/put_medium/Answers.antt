use Rattle.std.proofs.Common.{◌≡◌, refl, sym, ap, ◌∙◌, ◌*◌, true, false, Some, arith, rules}
use Rattle.std.specs.Prelude.{is_some, replicate}
use Rattle.std.specs.FinMap.{contains_key}
use Rattle.mdb_host.specs.Disk.{page_count}
use Rattle.mdb_model.specs.declared.fault.Device.TheVariants.{Medium as OnMedium}
use Rattle.mdb_model.specs.Answers.{plain, refused}
use Rattle.mdb_model.specs.Worlds.{off}
use Rattle.mdb_model.specs.declared.script.Command.TheVariants.{MediumPut}
use Rattle.mdb_model.specs.declared.script.Refusal.TheVariants.{DeviceFailed, MediumUsed}
use Rattle.mdb_model.specs.declared.script.Reply.TheVariants.{MediumMade}
use Rattle.standing.specs.MediaComing.{with_medium}
use Rattle.open_database.specs.Outside.{page_reading, StandsFor}
use Rattle.open_database.specs.Serving.{FitsOpen, AreOff}
use Rattle.open_database.specs.Stretch.{Completes}
use Rattle.open_database.proofs.MediaLines.{takes_beside, sound_beside_media, is_there, comes_all, absent_each, absent_seen, medium_from, medium_to, pages_from, pages_to, serves_media, put_refused, put_fails, put_done}
use Rattle.open_database.proofs.StateLines.{on_one}
use Rattle.open_database.proofs.database.Database.put_medium.Goals as goal

pub returns-in-Ok-clause-takes : goal.returns-in-Ok-clause-takes
returns-in-Ok-clause-takes g c =
    let database = c.args.self.now in
    let d = g.H.Host.disk c.args.host.now in
    let e = g.H.Host.disk c.make.new.self in
    takes_beside g.H.Host.tells database d e (g.H.Host.faults c.args.host.now) (g.H.Host.faults c.make.new.self) _
    (sound_beside_media g.H.Host.tells database d e c.requires.sound
    (c.media_come_and_go_beside.ensures.sound database.area.in_force.slots database.area.in_force.record database.area.store database.area.ring c.args.host.now c.make.new.self c.args.medium
    (λ told. (let calls = c.make.ensures.calls told in record { seen = calls.seen.others; left = λ image left. (let x = calls.goes.since e.now image calls.goes.keeps.later (omega arith) left in (x.0, x.1, x.2.others)) })) c.requires.sound.area))
    (λ told. (c.make.ensures.calls told).goes.keeps) tt (search rules) (λ wrong. absurd cc)

pub returns-then-is_some-clause-does : goal.returns-then-is_some-clause-does
returns-then-is_some-clause-does g c built told ws fit =
    let database = c.args.self.now in
    let d = g.H.Host.disk c.args.host.now in
    let there : is_some (page_count (d.seen (OnMedium c.args.medium))) ≡ true = ap is_some (sym (c.size.ensures.pages told)) ∙ sym c.is_some.ensures ∙ c.if-is_some.true in
    let known : contains_key fit.w.media c.args.medium ≡ true = is_there d.seen (off fit.w) c.args.medium (medium_from c.args.medium c.requires.medium) (medium_to c.args.medium c.requires.medium) (fit.serves.area.stand d.seen (g.met.H.Host.seen_left c.args.host.now told)) ∙ there in
    on_one (λ vs. Completes page_reading StandsFor d d vs (Some (MediumPut c.args.medium c.args.pages)) (refused MediumUsed) (FitsOpen g.H.Host.tells database d)) ws fit.w fit.is
    (put_refused fit.w database.access fit.serves.state fit.serves.no_backup c.args.medium c.args.pages built d (FitsOpen g.H.Host.tells database d) known fit.serves.area.stand (record { w = fit.w; is = refl; serves = fit.serves }))

pub returns-in-Ok-clause-does : goal.returns-in-Ok-clause-does
returns-in-Ok-clause-does g c built told ws fit =
    let database = c.args.self.now in
    let m = c.args.medium in
    let pages = c.args.pages in
    let from = medium_from m c.requires.medium in
    let to = medium_to m c.requires.medium in
    let least = pages_from pages c.requires.pages in
    let most = pages_to pages c.requires.pages in
    let d = g.H.Host.disk c.args.host.now in
    let e = g.H.Host.disk c.make.new.self in
    let calls = c.make.ensures.calls told in
    let none : is_some (page_count (d.seen (OnMedium m))) ≡ false = ap is_some (sym (c.size.ensures.pages told)) ∙ sym c.is_some.ensures ∙ c.if-is_some.false in
    let absent : contains_key fit.w.media m ≡ false = is_there d.seen (off fit.w) m from to (fit.serves.area.stand d.seen (g.met.H.Host.seen_left c.args.host.now told)) ∙ none in
    let each = absent_each d m (λ image left. g.met.H.Host.sizes c.args.host.now image told left) none in
    let made : e.seen (OnMedium m) ≡ Some (replicate (8192 * pages) 0) = c.in-Ok.ensures.made told in
    let arrives = comes_all d e m pages calls.goes each (λ image left. g.met.H.Host.sizes c.make.new.self image told left (OnMedium m)) made in
    let law = c.media_come_and_go_beside.ensures in
    let moments = law.each_more database.area.in_force.slots database.area.in_force.record database.area.store database.area.ring c.args.host.now c.make.new.self (off fit.w) m pages fit.serves.area from to least most calls.goes each in
    let area = law.serves_more database.area.in_force.slots database.area.in_force.record database.area.store database.area.ring c.args.host.now c.make.new.self (off fit.w) m pages fit.serves.area from to least most (record { others = calls.seen.others; absent = absent_seen d m none; here = made }) arrives in
    on_one (λ vs. Completes page_reading StandsFor d e vs (Some (MediumPut m pages)) (plain MediumMade) (FitsOpen g.H.Host.tells database e)) ws fit.w fit.is
    (put_done fit.w database.access fit.serves.state fit.serves.no_backup m pages built absent d e moments (FitsOpen g.H.Host.tells database e) area.stand
    (record { w = with_medium fit.w m pages; is = refl; serves = serves_media g.H.Host.tells database d e fit.w (with_medium fit.w m pages).media fit.serves area }))

pub returns-in-Err-clause-does : goal.returns-in-Err-clause-does
returns-in-Err-clause-does g c built told ws fit =
    let database = c.args.self.now in
    let m = c.args.medium in
    let pages = c.args.pages in
    let from = medium_from m c.requires.medium in
    let to = medium_to m c.requires.medium in
    let d = g.H.Host.disk c.args.host.now in
    let e = g.H.Host.disk c.make.new.self in
    let none : is_some (page_count (d.seen (OnMedium m))) ≡ false = ap is_some (sym (c.size.ensures.pages told)) ∙ sym c.is_some.ensures ∙ c.if-is_some.false in
    let absent : contains_key fit.w.media m ≡ false = is_there d.seen (off fit.w) m from to (fit.serves.area.stand d.seen (g.met.H.Host.seen_left c.args.host.now told)) ∙ none in
    let moments = c.media_come_and_go_beside.ensures.each_more database.area.in_force.slots database.area.in_force.record database.area.store database.area.ring c.args.host.now c.make.new.self (off fit.w) m pages fit.serves.area from to (pages_from pages c.requires.pages) (pages_to pages c.requires.pages) (c.make.ensures.calls told).goes
    (absent_each d m (λ image left. g.met.H.Host.sizes c.args.host.now image told left) none) in
    on_one (λ vs. Completes page_reading StandsFor d e vs (Some (MediumPut m pages)) (refused DeviceFailed) AreOff) ws fit.w fit.is
    (put_fails fit.w database.access fit.serves.state fit.serves.no_backup m pages built absent d e moments)
