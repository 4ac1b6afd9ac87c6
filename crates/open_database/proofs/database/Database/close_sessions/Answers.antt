use Rattle.std.proofs.Common.{◌∙◌, refl, sym, subst, ap, Ok, Err, Some, ◌∷◌, [], ℕ}
use Rattle.mdb_model.specs.Answers.{plain}
use Rattle.mdb_model.specs.Worlds.{off, stopped}
use Rattle.mdb_model.specs.declared.name.State.TheVariants as state
use Rattle.mdb_model.specs.declared.script.Command.TheVariants.{DbAdmin}
use Rattle.mdb_model.specs.declared.script.Reply.TheVariants.{AdminAt}
use Rattle.live_area.specs.declared.area.LiveArea.{LiveArea}
use Rattle.page_ground.proofs.Passing.{err_passed}
use Rattle.open_database.specs.Saving.{SaveLeaves}
use Rattle.open_database.specs.Serving.{Serves, LineDoes, open_state, FitsOpen}
use Rattle.open_database.specs.Outside.{page_reading, StandsFor}
use Rattle.open_database.specs.Stretch.{Completes}
use Rattle.open_database.proofs.StateLines.{on_one, admin_line, admin_fails}
use Rattle.open_database.proofs.database.Database.close_sessions.Goals as goal

pub returns-in_err-save-clause-does : goal.returns-in_err-save-clause-does
returns-in_err-save-clause-does g c told ws fit =
    let d0 = g.H.Host.disk c.args.host.now in
    let d1 = g.H.Host.disk c.save.new.host in
    let w = fit.w in
    on_one (λ vs. LineDoes g.H.Host.tells d0 d1 vs DbAdmin plain c.save.new.self c.from_residual.result) ws w fit.is
    (err_passed (LineDoes g.H.Host.tells d0 d1 (w ∷ []) DbAdmin plain c.save.new.self) c.in_err-save.field-0.0 c.from_residual.result c.from_residual.ensures.1
    (subst (λ f. LineDoes g.H.Host.tells d0 d1 (w ∷ []) DbAdmin plain c.save.new.self (Err f)) (sym c.in_err-save.ensures.fault)
    (admin_fails w (fit.serves.state ∙ ap open_state c.requires.online) d0 d1
    (subst (λ f. SaveLeaves d0 d1 w (Serves g.H.Host.tells c.save.new.self d1) (Err f)) c.in_err-save.ensures.fault (c.in_err-save.ensures.leaves told w fit.serves)))))

pub returns-clause-does : goal.returns-clause-does
returns-clause-does g c told ws fit =
    let d0 = g.H.Host.disk c.args.host.now in
    let d1 = g.H.Host.disk c.save.new.host in
    let w = fit.w in
    let leaves = c.in_ok-save.ensures.leaves told w fit.serves in
    let ring = c.what_is_served.ensures.ring _ _ _ _ c.save.new.host (off w) leaves.1.area in
    let number = c.what_is_served.ensures.last_commit _ _ _ _ c.save.new.host (off w) leaves.1.area in
    on_one (λ vs. LineDoes g.H.Host.tells d0 d1 vs DbAdmin plain c.dismiss_sessions.new.self (Ok (AdminAt c.dismiss_sessions.new.self.area.ring.last_commit))) ws w fit.is
    (subst (λ (n : ℕ). Completes page_reading StandsFor d0 d1 (w ∷ []) (Some DbAdmin) (plain (AdminAt n)) (FitsOpen g.H.Host.tells c.dismiss_sessions.new.self d1)) (number ∙ ap (λ (a : LiveArea). a.ring.last_commit) (sym c.dismiss_sessions.ensures.area))
    (admin_line w (fit.serves.state ∙ ap open_state c.requires.online) d0 d1 (FitsOpen g.H.Host.tells c.dismiss_sessions.new.self d1) leaves.0 leaves.2 (record { w = stopped state.Admin w; is = refl; serves = c.dismiss_sessions.ensures.serves w ring leaves.1 })))
