use Rattle.std.proofs.Common.{◌≡◌, sym, ap, subst, ◌∙◌, Option, Some, None, Err}
use Rattle.mdb_model.specs.Answers.{plain, refused}
use Rattle.mdb_model.specs.Worlds.{World, off}
use Rattle.mdb_model.specs.declared.script.Reply.{Reply}
use Rattle.mdb_model.specs.declared.script.Reply.TheVariants.{Refused}
use Rattle.std.proofs.lemmas.List.Elements.{All-contains}
use Rattle.open_database.specs.declared.database.Database.{Database}
use Rattle.open_database.specs.Opened.{opened_world}
use Rattle.open_database.specs.Outside.{page_reading, StandsFor}
use Rattle.open_database.specs.Stretch.{Completes}
use Rattle.db_kernel.specs.Kept.{FitsWorlds, opens, opened_reply}
use Rattle.db_kernel.specs.Taking.{TakesLine}
use Rattle.db_kernel.proofs.Fitting.{fits_out}
use Rattle.db_kernel.proofs.OffLines.{takes_opened, takes_refused}
use Rattle.db_kernel.proofs.Restarting.{opening_done, opening_refused}
use Rattle.db_kernel.proofs.kernel.Kernel.restart.Goals as goal

pub returns-in-Ok-clause-takes : goal.returns-in-Ok-clause-takes
returns-in-Ok-clause-takes g c =
    let tells = g.H.Host.tells in
    let d0 = g.H.Host.disk c.args.host.now in
    let d1 = g.H.Host.disk c.open_devices.new.host in
    let f0 = g.H.Host.faults c.args.host.now in
    let f1 = g.H.Host.faults c.open_devices.new.host in
    let database = c.in-Ok.database in
    subst (λ (r : Reply). TakesLine tells d0 d1 f0 f1 c.args.self.now.database (Some database) (opens c.args.access) r) (sym c.opened.ensures)
    (subst (λ (o : Option Database). TakesLine tells d0 d1 f0 f1 o (Some database) (opens c.args.access) (opened_reply c.args.access database.area.ring.last_commit)) (sym c.requires.off)
    (takes_opened tells d0 d1 f0 f1 c.args.access c.open_devices.ensures.keeps c.open_devices.ensures.later database database.area.ring.last_commit c.in-Ok.ensures.sound c.in-Ok.ensures.numbers c.in-Ok.ensures.in_reach))

pub returns-in-Ok-clause-does : goal.returns-in-Ok-clause-does
returns-in-Ok-clause-does g c told ws fit stand =
    let tells = g.H.Host.tells in
    let d0 = g.H.Host.disk c.args.host.now in
    let d1 = g.H.Host.disk c.open_devices.new.host in
    let database = c.in-Ok.database in
    let rest = fits_out None d0 ws fit in
    let h = stand d0.seen (g.met.H.Host.seen_left c.args.host.now told) in
    let v = h.0 in
    let is_rest = All-contains (λ w. off w ≡ w) ws v rest h.1 in
    let stands : StandsFor d0.seen v = subst (λ (u : World). StandsFor d0.seen u) is_rest h.2 in
    let opening = c.in-Ok.ensures.opens told v is_rest stands in
    let live = c.a_world_that_stands.ensures.area d0.seen v stands in
    let number = c.what_is_served.ensures.last_commit database.area.in_force.slots database.area.in_force.record database.area.store database.area.ring c.open_devices.new.host (off (opened_world c.args.access v)) opening.1.area in
    subst (λ (r : Reply). Completes page_reading StandsFor d0 d1 ws (Some (opens c.args.access)) (plain r) (FitsWorlds (Some database) d1)) (sym c.opened.ensures)
    (opening_done tells c.args.access d0 d1 ws rest stand v h.1 opening.0 told database live number opening.1 opening.2)

pub returns-in-Err-clause-takes : goal.returns-in-Err-clause-takes
returns-in-Err-clause-takes g c =
    let tells = g.H.Host.tells in
    let d0 = g.H.Host.disk c.args.host.now in
    let d1 = g.H.Host.disk c.open_devices.new.host in
    let f0 = g.H.Host.faults c.args.host.now in
    let f1 = g.H.Host.faults c.open_devices.new.host in
    subst (λ (o : Option Database). TakesLine tells d0 d1 f0 f1 o o (opens c.args.access) (Refused c.in-Err.refusal)) (sym c.requires.off)
    (takes_refused tells d0 d1 f0 f1 c.args.access c.open_devices.ensures.keeps c.open_devices.ensures.later c.in-Err.refusal c.in-Err.ensures.refuses
    (λ told is. c.in-Err.ensures.past_end told (ap Err is)) (λ is. c.in-Err.ensures.cause (ap Err is)))

pub returns-in-Err-clause-does : goal.returns-in-Err-clause-does
returns-in-Err-clause-does g c told ws fit stand =
    let tells = g.H.Host.tells in
    let d0 = g.H.Host.disk c.args.host.now in
    let d1 = g.H.Host.disk c.open_devices.new.host in
    let rest = fits_out None d0 ws fit in
    let h = stand d0.seen (g.met.H.Host.seen_left c.args.host.now told) in
    let v = h.0 in
    let is_rest = All-contains (λ w. off w ≡ w) ws v rest h.1 in
    let stands : StandsFor d0.seen v = subst (λ (u : World). StandsFor d0.seen u) is_rest h.2 in
    subst (λ (o : Option Database). Completes page_reading StandsFor d0 d1 ws (Some (opens c.args.access)) (refused c.in-Err.refusal) (FitsWorlds o d1)) (sym c.requires.off)
    (opening_refused tells c.args.access d0 d1 ws rest stand v h.1 (c.a_world_that_stands.ensures.area d0.seen v stands) c.in-Err.refusal (c.in-Err.ensures.opens told v is_rest stands))
