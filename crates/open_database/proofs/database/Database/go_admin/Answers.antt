use Rattle.std.proofs.Common.{◌∙◌, refl, ap, Some}
use Rattle.mdb_model.specs.Answers.{refused}
use Rattle.mdb_model.specs.declared.name.State.TheVariants as state
use Rattle.mdb_model.specs.declared.script.Command.TheVariants.{DbAdmin}
use Rattle.mdb_model.specs.declared.script.Refusal.TheVariants.{WrongState}
use Rattle.open_database.specs.Outside.{page_reading, StandsFor}
use Rattle.open_database.specs.Serving.{FitsOpen, open_state}
use Rattle.open_database.specs.Stretch.{Completes}
use Rattle.open_database.proofs.StateLines.{on_one, admin_unties, wrong_state}
use Rattle.open_database.proofs.database.Database.go_admin.Goals as goal

pub returns-in-Admin-clause-does : goal.returns-in-Admin-clause-does
returns-in-Admin-clause-does g c told ws fit =
    let d = g.H.Host.disk c.args.host.now in
    let w = fit.w in
    on_one (λ vs. Completes page_reading StandsFor d d vs (Some DbAdmin) (refused (WrongState state.Admin)) (FitsOpen g.H.Host.tells c.args.self.now d)) ws w fit.is
    (wrong_state d w DbAdmin state.Admin (FitsOpen g.H.Host.tells c.args.self.now d) refl refl (fit.serves.state ∙ ap open_state c.in-Admin.is) (admin_unties (WrongState state.Admin)) fit.serves.area.stand (record { w = w; is = refl; serves = fit.serves }))
