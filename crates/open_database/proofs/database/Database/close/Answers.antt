use Rattle.std.proofs.Common.{sym, subst, Ok, Err, ◌∷◌, []}
use Rattle.mdb_model.specs.declared.script.Reply.TheVariants.{OfflineNow}
use Rattle.page_ground.proofs.Passing.{err_passed}
use Rattle.open_database.specs.Saving.{SaveLeaves, CloseDoes}
use Rattle.open_database.specs.Serving.{Serves}
use Rattle.open_database.proofs.StateLines.{on_one, closed_line, closed_fails}
use Rattle.open_database.proofs.database.Database.close.Goals as goal

pub returns-in_err-save-clause-does : goal.returns-in_err-save-clause-does
returns-in_err-save-clause-does g c told ws fit =
    let d0 = g.H.Host.disk c.args.host.now in
    let d1 = g.H.Host.disk c.save.new.host in
    let w = fit.w in
    on_one (λ vs. CloseDoes d0 d1 vs c.from_residual.result) ws w fit.is
    (err_passed (CloseDoes d0 d1 (w ∷ [])) c.in_err-save.field-0.0 c.from_residual.result c.from_residual.ensures.1
    (subst (λ f. CloseDoes d0 d1 (w ∷ []) (Err f)) (sym c.in_err-save.ensures.fault)
    (closed_fails c.args.self.now.access w fit.serves.state fit.serves.no_savepoint d0 d1
    (subst (λ f. SaveLeaves d0 d1 w (Serves g.H.Host.tells c.save.new.self d1) (Err f)) c.in_err-save.ensures.fault (c.in_err-save.ensures.leaves told w fit.serves)))))

pub returns-clause-does : goal.returns-clause-does
returns-clause-does g c told ws fit =
    let d0 = g.H.Host.disk c.args.host.now in
    let d1 = g.H.Host.disk c.save.new.host in
    let w = fit.w in
    let leaves = c.in_ok-save.ensures.leaves told w fit.serves in
    on_one (λ vs. CloseDoes d0 d1 vs (Ok OfflineNow)) ws w fit.is
    (closed_line c.args.self.now.access w fit.serves.state fit.serves.no_savepoint d0 d1 leaves.0 leaves.2)
