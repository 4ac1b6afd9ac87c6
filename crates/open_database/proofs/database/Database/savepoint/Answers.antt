use Rattle.std.proofs.Common.{refl, sym, subst, Ok, Err, ◌∷◌, []}
use Rattle.mdb_model.specs.Answers.{plain}
use Rattle.mdb_model.specs.declared.script.Command.TheVariants.{MakeSavepoint}
use Rattle.mdb_model.specs.declared.script.Reply.TheVariants.{SavepointDone}
use Rattle.page_ground.proofs.Passing.{err_passed}
use Rattle.open_database.specs.Saving.{SaveLeaves}
use Rattle.open_database.specs.Serving.{Serves, FitsOpen, LineDoes}
use Rattle.open_database.proofs.StateLines.{on_one, saved_line, saved_fails}
use Rattle.open_database.proofs.database.Database.savepoint.Goals as goal

pub returns-in_err-save-clause-does : goal.returns-in_err-save-clause-does
returns-in_err-save-clause-does g c stage told ws fit =
    let d0 = g.H.Host.disk c.args.host.now in
    let d1 = g.H.Host.disk c.save.new.host in
    let w = fit.w in
    on_one (λ vs. LineDoes g.H.Host.tells d0 d1 vs MakeSavepoint plain c.save.new.self c.from_residual.result) ws w fit.is
    (err_passed (LineDoes g.H.Host.tells d0 d1 (w ∷ []) MakeSavepoint plain c.save.new.self) c.in_err-save.field-0.0 c.from_residual.result c.from_residual.ensures.1
    (subst (λ f. LineDoes g.H.Host.tells d0 d1 (w ∷ []) MakeSavepoint plain c.save.new.self (Err f)) (sym c.in_err-save.ensures.fault)
    (saved_fails c.args.self.now.access w fit.serves.state fit.serves.no_savepoint stage.savepoint d0 d1
    (subst (λ f. SaveLeaves d0 d1 w (Serves g.H.Host.tells c.save.new.self d1) (Err f)) c.in_err-save.ensures.fault (c.in_err-save.ensures.leaves told w fit.serves)))))

pub returns-clause-does : goal.returns-clause-does
returns-clause-does g c stage told ws fit =
    let d0 = g.H.Host.disk c.args.host.now in
    let d1 = g.H.Host.disk c.save.new.host in
    let w = fit.w in
    let leaves = c.in_ok-save.ensures.leaves told w fit.serves in
    on_one (λ vs. LineDoes g.H.Host.tells d0 d1 vs MakeSavepoint plain c.save.new.self (Ok SavepointDone)) ws w fit.is
    (saved_line c.args.self.now.access w fit.serves.state fit.serves.no_savepoint stage.savepoint d0 d1 (FitsOpen g.H.Host.tells c.save.new.self d1) leaves.0 leaves.2 (record { w = w; is = refl; serves = leaves.1 }))
