use Rattle.std.proofs.Common.{◌≡◌, refl, sym, ap, ◌∙◌, true, false, not, None, Some, arith, rules}
use Rattle.std.specs.Prelude.{is_some}
use Rattle.std.specs.FinMap.{contains_key}
use Rattle.mdb_host.specs.Disk.{page_count}
use Rattle.mdb_model.specs.declared.fault.Device.TheVariants.{Medium as OnMedium}
use Rattle.mdb_model.specs.Answers.{plain, refused}
use Rattle.mdb_model.specs.Worlds.{off}
use Rattle.mdb_model.specs.declared.script.Command.TheVariants.{MediumDelete}
use Rattle.mdb_model.specs.declared.script.Refusal.TheVariants.{DeviceFailed, NoMedium}
use Rattle.mdb_model.specs.declared.script.Reply.TheVariants.{MediumDeleted}
use Rattle.mdb_model.specs.Images.{Image}
use Rattle.standing.specs.Looks.{open_medium}
use Rattle.standing.specs.MediaComing.{without_medium}
use Rattle.open_database.specs.Outside.{page_reading, StandsFor}
use Rattle.open_database.specs.Serving.{FitsOpen, AreOff}
use Rattle.open_database.specs.Stretch.{Completes}
use Rattle.open_database.proofs.MediaLines.{takes_beside, sound_beside_media, is_there, goes_all, holds_nothing, medium_from, medium_to, serves_media, deleted_refused, deleted_fails, deleted_done}
use Rattle.open_database.proofs.StateLines.{on_one}
use Rattle.open_database.proofs.database.Database.delete_medium.Goals as goal

pub returns-in-Ok-clause-takes : goal.returns-in-Ok-clause-takes
returns-in-Ok-clause-takes g c =
    let database = c.args.self.now in
    let d = g.H.Host.disk c.args.host.now in
    let e = g.H.Host.disk c.remove.new.self in
    takes_beside g.H.Host.tells database d e (g.H.Host.faults c.args.host.now) (g.H.Host.faults c.remove.new.self) _
    (sound_beside_media g.H.Host.tells database d e c.requires.sound
    (c.media_come_and_go_beside.ensures.sound database.area.in_force.slots database.area.in_force.record database.area.store database.area.ring c.args.host.now c.remove.new.self c.args.medium
    (λ told. (let calls = c.remove.ensures.calls told in record { seen = calls.seen.others; left = λ image left. (let x = calls.goes.since e.now image calls.goes.keeps.later (omega arith) left in (x.0, x.1, x.2.others)) })) c.requires.sound.area))
    (λ told. (c.remove.ensures.calls told).goes.keeps) tt (search rules) (λ wrong. absurd cc)

pub returns-then-is_none-clause-does : goal.returns-then-is_none-clause-does
returns-then-is_none-clause-does g c built told ws fit =
    let database = c.args.self.now in
    let d = g.H.Host.disk c.args.host.now in
    let none : is_some (page_count (d.seen (OnMedium c.args.medium))) ≡ false = ap is_some (sym (c.size.ensures.pages told)) ∙ (c.is_none.ensures ∙ ap not c.if-is_none.true)
    in
    let absent : contains_key fit.w.media c.args.medium ≡ false = is_there d.seen (off fit.w) c.args.medium (medium_from c.args.medium c.requires.medium) (medium_to c.args.medium c.requires.medium) (fit.serves.area.stand d.seen (g.met.H.Host.seen_left c.args.host.now told)) ∙ none in
    on_one (λ vs. Completes page_reading StandsFor d d vs (Some (MediumDelete c.args.medium)) (refused NoMedium) (FitsOpen g.H.Host.tells database d)) ws fit.w fit.is
    (deleted_refused fit.w database.access fit.serves.state fit.serves.no_backup c.args.medium built d (FitsOpen g.H.Host.tells database d) absent fit.serves.area.stand (record { w = fit.w; is = refl; serves = fit.serves }))

pub returns-in-Ok-clause-does : goal.returns-in-Ok-clause-does
returns-in-Ok-clause-does g c built told ws fit =
    let database = c.args.self.now in
    let m = c.args.medium in
    let d = g.H.Host.disk c.args.host.now in
    let e = g.H.Host.disk c.remove.new.self in
    let calls = c.remove.ensures.calls told in
    let some : is_some (page_count (d.seen (OnMedium m))) ≡ true = ap is_some (sym (c.size.ensures.pages told)) ∙ (c.is_none.ensures ∙ ap not c.if-is_none.false)
    in
    let there : contains_key fit.w.media m ≡ true = is_there d.seen (off fit.w) m (medium_from m c.requires.medium) (medium_to m c.requires.medium) (fit.serves.area.stand d.seen (g.met.H.Host.seen_left c.args.host.now told)) ∙ some in
    let blank : (image : Image) → d.may_leave d.now image → open_medium image m ≡ None = λ image left. holds_nothing image (off fit.w) m ((c.a_world_that_stands.ensures.media d.seen (off fit.w) (fit.serves.area.stand d.seen (g.met.H.Host.seen_left c.args.host.now told)))) there (fit.serves.area.stand image left) in
    let law = c.media_come_and_go_beside.ensures in
    let moments = law.each_less database.area.in_force.slots database.area.in_force.record database.area.store database.area.ring c.args.host.now c.remove.new.self (off fit.w) m fit.serves.area there calls.goes blank in
    let arrives = goes_all d e m calls.goes blank (λ image left. g.met.H.Host.sizes c.remove.new.self image told left (OnMedium m)) (c.in-Ok.ensures.removed told) in
    let area = law.serves_less database.area.in_force.slots database.area.in_force.record database.area.store database.area.ring c.args.host.now c.remove.new.self (off fit.w) m fit.serves.area there calls.seen.others arrives in
    on_one (λ vs. Completes page_reading StandsFor d e vs (Some (MediumDelete m)) (plain MediumDeleted) (FitsOpen g.H.Host.tells database e)) ws fit.w fit.is
    (deleted_done fit.w database.access fit.serves.state fit.serves.no_backup m built there d e moments (FitsOpen g.H.Host.tells database e) area.stand
    (record { w = without_medium fit.w m; is = refl; serves = serves_media g.H.Host.tells database d e fit.w (without_medium fit.w m).media fit.serves area }))

pub returns-in-Err-clause-does : goal.returns-in-Err-clause-does
returns-in-Err-clause-does g c built told ws fit =
    let database = c.args.self.now in
    let m = c.args.medium in
    let d = g.H.Host.disk c.args.host.now in
    let e = g.H.Host.disk c.remove.new.self in
    let some : is_some (page_count (d.seen (OnMedium m))) ≡ true = ap is_some (sym (c.size.ensures.pages told)) ∙ (c.is_none.ensures ∙ ap not c.if-is_none.false)
    in
    let there : contains_key fit.w.media m ≡ true = is_there d.seen (off fit.w) m (medium_from m c.requires.medium) (medium_to m c.requires.medium) (fit.serves.area.stand d.seen (g.met.H.Host.seen_left c.args.host.now told)) ∙ some in
    let blank : (image : Image) → d.may_leave d.now image → open_medium image m ≡ None = λ image left. holds_nothing image (off fit.w) m ((c.a_world_that_stands.ensures.media d.seen (off fit.w) (fit.serves.area.stand d.seen (g.met.H.Host.seen_left c.args.host.now told)))) there (fit.serves.area.stand image left) in
    let moments = c.media_come_and_go_beside.ensures.each_less database.area.in_force.slots database.area.in_force.record database.area.store database.area.ring c.args.host.now c.remove.new.self (off fit.w) m fit.serves.area there (c.remove.ensures.calls told).goes blank in
    on_one (λ vs. Completes page_reading StandsFor d e vs (Some (MediumDelete m)) (refused DeviceFailed) AreOff) ws fit.w fit.is
    (deleted_fails fit.w database.access fit.serves.state fit.serves.no_backup m built there d e moments)
