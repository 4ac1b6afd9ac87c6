use Rattle.std.proofs.Common.{rules, refl, sym, subst, false, ◌≡◌, Ok, Some}
use Rattle.mdb_model.specs.Answers.{plain, refused}
use Rattle.mdb_model.specs.Stages.{is_built}
use Rattle.mdb_model.specs.declared.name.State.{State}
use Rattle.mdb_model.specs.declared.script.Command.{Command}
use Rattle.mdb_model.specs.declared.script.Command.TheVariants.{GetRow, PutRow, DelRow, CommitWork, DbAdmin, DbState, Kill, MakeSavepoint}
use Rattle.mdb_model.specs.declared.script.Refusal.TheVariants.{Syntax}
use Rattle.mdb_model.specs.declared.script.Reply.TheVariants.{Refused, StateIs, OfflineNow, SavepointDone}
use Rattle.session_rows.specs.Replies.{IsRefusal}
use Rattle.open_database.specs.Outside.{page_reading, StandsFor}
use Rattle.open_database.specs.Refusing.{KeepsDatabase}
use Rattle.open_database.specs.Replies.{IsInside}
use Rattle.open_database.specs.Serving.{FitsOpen, AreOff, open_state}
use Rattle.open_database.specs.Stretch.{Completes}
use Rattle.open_database.specs.Taking.{CanAskFor, DoesLine}
use Rattle.open_database.proofs.AnyLine.{takes_open, takes_still, takes_done, takes_saved, does_line, does_close, on_reply}
use Rattle.open_database.proofs.OtherLines.{killed_line, state_line, unbuilt_line, unbuilt_does}
use Rattle.open_database.proofs.RowLines.{keeps_itself}
use Rattle.open_database.proofs.StateLines.{on_one}
use Rattle.open_database.proofs.database.Database.command.Goals as goal

pub returns-in-GetRow-clause-takes : goal.returns-in-GetRow-clause-takes
returns-in-GetRow-clause-takes g c =
    takes_open g.H.Host.tells (g.H.Host.disk c.args.host.now) (g.H.Host.disk c.get.new.host) (g.H.Host.faults c.args.host.now) (g.H.Host.faults c.get.new.host) c.args.self.now c.get.new.self c.get.result c.get.ensures.takes

pub returns-in-GetRow-clause-does : goal.returns-in-GetRow-clause-does
returns-in-GetRow-clause-does g c stage told ws fit =
    let d0 = g.H.Host.disk c.args.host.now in
    let d1 = g.H.Host.disk c.get.new.host in
    subst (λ (line : Command). DoesLine g.H.Host.tells d0 d1 ws line c.get.new.self c.get.result) (sym c.in-GetRow.is)
    (does_line g.H.Host.tells d0 d1 ws (GetRow c.in-GetRow.session c.in-GetRow.table c.in-GetRow.key) plain c.get.new.self c.get.result refl (λ reply. refl) (c.get.ensures.does told ws fit))

pub returns-in-PutRow-clause-takes : goal.returns-in-PutRow-clause-takes
returns-in-PutRow-clause-takes g c =
    takes_open g.H.Host.tells (g.H.Host.disk c.args.host.now) (g.H.Host.disk c.put.new.host) (g.H.Host.faults c.args.host.now) (g.H.Host.faults c.put.new.host) c.args.self.now c.put.new.self c.put.result c.put.ensures.takes

pub returns-in-PutRow-clause-does : goal.returns-in-PutRow-clause-does
returns-in-PutRow-clause-does g c stage told ws fit =
    let d0 = g.H.Host.disk c.args.host.now in
    let d1 = g.H.Host.disk c.put.new.host in
    subst (λ (line : Command). DoesLine g.H.Host.tells d0 d1 ws line c.put.new.self c.put.result) (sym c.in-PutRow.is)
    (does_line g.H.Host.tells d0 d1 ws (PutRow c.in-PutRow.session c.in-PutRow.table c.in-PutRow.key c.in-PutRow.value) plain c.put.new.self c.put.result refl (λ reply. refl) (c.put.ensures.does stage told ws fit))

pub returns-in-DelRow-clause-takes : goal.returns-in-DelRow-clause-takes
returns-in-DelRow-clause-takes g c =
    takes_open g.H.Host.tells (g.H.Host.disk c.args.host.now) (g.H.Host.disk c.del.new.host) (g.H.Host.faults c.args.host.now) (g.H.Host.faults c.del.new.host) c.args.self.now c.del.new.self c.del.result c.del.ensures.takes

pub returns-in-DelRow-clause-does : goal.returns-in-DelRow-clause-does
returns-in-DelRow-clause-does g c stage told ws fit =
    let d0 = g.H.Host.disk c.args.host.now in
    let d1 = g.H.Host.disk c.del.new.host in
    subst (λ (line : Command). DoesLine g.H.Host.tells d0 d1 ws line c.del.new.self c.del.result) (sym c.in-DelRow.is)
    (does_line g.H.Host.tells d0 d1 ws (DelRow c.in-DelRow.session c.in-DelRow.table c.in-DelRow.key) plain c.del.new.self c.del.result refl (λ reply. refl) (c.del.ensures.does stage told ws fit))

pub returns-in-CommitWork-clause-takes : goal.returns-in-CommitWork-clause-takes
returns-in-CommitWork-clause-takes g c =
    takes_done g.H.Host.tells (g.H.Host.disk c.args.host.now) (g.H.Host.disk c.commit.new.host) (g.H.Host.faults c.args.host.now) (g.H.Host.faults c.commit.new.host) c.args.self.now c.commit.new.self c.commit.result
    c.commit.ensures.sound c.commit.ensures.numbers c.commit.ensures.keeps c.commit.ensures.refused c.commit.ensures.inside c.commit.ensures.later c.commit.ensures.cause

pub returns-in-CommitWork-clause-does : goal.returns-in-CommitWork-clause-does
returns-in-CommitWork-clause-does g c stage told ws fit =
    let d0 = g.H.Host.disk c.args.host.now in
    let d1 = g.H.Host.disk c.commit.new.host in
    subst (λ (line : Command). DoesLine g.H.Host.tells d0 d1 ws line c.commit.new.self c.commit.result) (sym c.in-CommitWork.is)
    (does_line g.H.Host.tells d0 d1 ws (CommitWork c.in-CommitWork.session) plain c.commit.new.self c.commit.result refl (λ reply. refl) (c.commit.ensures.does told ws fit))

pub returns-in-DbAdmin-clause-takes : goal.returns-in-DbAdmin-clause-takes
returns-in-DbAdmin-clause-takes g c =
    takes_saved g.H.Host.tells (g.H.Host.disk c.args.host.now) (g.H.Host.disk c.go_admin.new.host) (g.H.Host.faults c.args.host.now) (g.H.Host.faults c.go_admin.new.host) c.args.self.now c.go_admin.new.self c.go_admin.result
    c.go_admin.ensures.sound c.go_admin.ensures.numbers c.go_admin.ensures.keeps c.go_admin.ensures.refused c.go_admin.ensures.inside c.go_admin.ensures.cause

pub returns-in-DbAdmin-clause-does : goal.returns-in-DbAdmin-clause-does
returns-in-DbAdmin-clause-does g c stage told ws fit =
    let d0 = g.H.Host.disk c.args.host.now in
    let d1 = g.H.Host.disk c.go_admin.new.host in
    subst (λ (line : Command). DoesLine g.H.Host.tells d0 d1 ws line c.go_admin.new.self c.go_admin.result) (sym c.in-DbAdmin.is)
    (does_line g.H.Host.tells d0 d1 ws DbAdmin plain c.go_admin.new.self c.go_admin.result refl (λ reply. refl) (c.go_admin.ensures.does told ws fit))

pub returns-in-MakeSavepoint-clause-takes : goal.returns-in-MakeSavepoint-clause-takes
returns-in-MakeSavepoint-clause-takes g c =
    takes_saved g.H.Host.tells (g.H.Host.disk c.args.host.now) (g.H.Host.disk c.savepoint.new.host) (g.H.Host.faults c.args.host.now) (g.H.Host.faults c.savepoint.new.host) c.args.self.now c.savepoint.new.self c.savepoint.result
    c.savepoint.ensures.sound c.savepoint.ensures.numbers c.savepoint.ensures.keeps (on_reply c.savepoint.result SavepointDone (λ reply. IsRefusal reply → KeepsDatabase c.args.self.now c.savepoint.new.self) c.savepoint.ensures.done (λ none. absurd none)) (on_reply c.savepoint.result SavepointDone IsInside c.savepoint.ensures.done tt) c.savepoint.ensures.cause

pub returns-in-MakeSavepoint-clause-does : goal.returns-in-MakeSavepoint-clause-does
returns-in-MakeSavepoint-clause-does g c stage told ws fit =
    let d0 = g.H.Host.disk c.args.host.now in
    let d1 = g.H.Host.disk c.savepoint.new.host in
    subst (λ (line : Command). DoesLine g.H.Host.tells d0 d1 ws line c.savepoint.new.self c.savepoint.result) (sym c.in-MakeSavepoint.is)
    (does_line g.H.Host.tells d0 d1 ws MakeSavepoint plain c.savepoint.new.self c.savepoint.result refl (λ reply. refl) (c.savepoint.ensures.does stage told ws fit))

pub returns-in-DbOffline-clause-takes : goal.returns-in-DbOffline-clause-takes
returns-in-DbOffline-clause-takes g c =
    takes_saved g.H.Host.tells (g.H.Host.disk c.args.host.now) (g.H.Host.disk c.close.new.host) (g.H.Host.faults c.args.host.now) (g.H.Host.faults c.close.new.host) c.args.self.now c.close.new.self c.close.result
    c.close.ensures.sound c.close.ensures.numbers c.close.ensures.keeps (on_reply c.close.result OfflineNow (λ reply. IsRefusal reply → KeepsDatabase c.args.self.now c.close.new.self) c.close.ensures.done (λ none. absurd none)) (on_reply c.close.result OfflineNow IsInside c.close.ensures.done tt) c.close.ensures.cause

pub returns-in-DbOffline-clause-does : goal.returns-in-DbOffline-clause-does
returns-in-DbOffline-clause-does g c stage told ws fit =
    let d0 = g.H.Host.disk c.args.host.now in
    let d1 = g.H.Host.disk c.close.new.host in
    subst (λ (line : Command). DoesLine g.H.Host.tells d0 d1 ws line c.close.new.self c.close.result) (sym c.in-DbOffline.is)
    (does_close g.H.Host.tells d0 d1 ws c.close.new.self c.close.result (c.close.ensures.does told ws fit))

pub returns-in-ScanTable-clause-takes : goal.returns-in-ScanTable-clause-takes
returns-in-ScanTable-clause-takes g c =
    takes_still g.H.Host.tells (g.H.Host.disk c.args.host.now) (g.H.Host.faults c.args.host.now) c.args.self.now c.scan.new.self c.scan.result c.scan.ensures.sound c.scan.ensures.numbers c.scan.ensures.refused c.scan.ensures.inside

pub returns-in-ScanTable-clause-does : goal.returns-in-ScanTable-clause-does
returns-in-ScanTable-clause-does g c stage told ws fit =
    let d = g.H.Host.disk c.args.host.now in
    subst (λ (line : Command). DoesLine g.H.Host.tells d d ws line c.scan.new.self (Ok c.scan.result)) (sym c.in-ScanTable.is)
    (c.scan.ensures.does told ws fit)

pub returns-in-ScanTable-clause-can_ask : goal.returns-in-ScanTable-clause-can_ask
returns-in-ScanTable-clause-can_ask g c told ws fit =
    subst (λ (line : Command). CanAskFor line c.scan.new.self (g.H.Host.disk c.args.host.now)) (sym c.in-ScanTable.is) (c.scan.ensures.can_scan told ws fit)

pub returns-in-RollbackWork-clause-takes : goal.returns-in-RollbackWork-clause-takes
returns-in-RollbackWork-clause-takes g c =
    takes_still g.H.Host.tells (g.H.Host.disk c.args.host.now) (g.H.Host.faults c.args.host.now) c.args.self.now c.rollback.new.self c.rollback.result c.rollback.ensures.sound c.rollback.ensures.numbers c.rollback.ensures.refused c.rollback.ensures.inside

pub returns-in-RollbackWork-clause-does : goal.returns-in-RollbackWork-clause-does
returns-in-RollbackWork-clause-does g c stage told ws fit =
    let d = g.H.Host.disk c.args.host.now in
    subst (λ (line : Command). DoesLine g.H.Host.tells d d ws line c.rollback.new.self (Ok c.rollback.result)) (sym c.in-RollbackWork.is)
    (c.rollback.ensures.does told ws fit)

pub returns-in-DbOnline-clause-takes : goal.returns-in-DbOnline-clause-takes
returns-in-DbOnline-clause-takes g c =
    takes_still g.H.Host.tells (g.H.Host.disk c.args.host.now) (g.H.Host.faults c.args.host.now) c.args.self.now c.go_online.new.self c.go_online.result (c.go_online.ensures.sound c.requires.sound) c.go_online.ensures.numbers c.go_online.ensures.refused c.go_online.ensures.inside

pub returns-in-DbOnline-clause-does : goal.returns-in-DbOnline-clause-does
returns-in-DbOnline-clause-does g c stage told ws fit =
    let d = g.H.Host.disk c.args.host.now in
    subst (λ (line : Command). DoesLine g.H.Host.tells d d ws line c.go_online.new.self (Ok c.go_online.result)) (sym c.in-DbOnline.is)
    (c.go_online.ensures.does told ws fit)

pub returns-in-Info-clause-takes : goal.returns-in-Info-clause-takes
returns-in-Info-clause-takes g c =
    takes_still g.H.Host.tells (g.H.Host.disk c.args.host.now) (g.H.Host.faults c.args.host.now) c.args.self.now c.args.self.now c.info.result c.requires.sound refl (λ any. keeps_itself c.args.self.now) c.info.ensures.inside

pub returns-in-Info-clause-does : goal.returns-in-Info-clause-does
returns-in-Info-clause-does g c stage told ws fit =
    let d = g.H.Host.disk c.args.host.now in
    subst (λ (line : Command). DoesLine g.H.Host.tells d d ws line c.args.self.now (Ok c.info.result)) (sym c.in-Info.is)
    (c.info.ensures.does stage told ws fit)

pub returns-in-DbState-clause-takes : goal.returns-in-DbState-clause-takes
returns-in-DbState-clause-takes g c =
    takes_still g.H.Host.tells (g.H.Host.disk c.args.host.now) (g.H.Host.faults c.args.host.now) c.args.self.now c.args.self.now (StateIs c.state.result) c.requires.sound refl (λ any. keeps_itself c.args.self.now) tt

pub returns-in-DbState-clause-does : goal.returns-in-DbState-clause-does
returns-in-DbState-clause-does g c stage told ws fit =
    let d = g.H.Host.disk c.args.host.now in
    let now = c.args.self.now in
    subst (λ (line : Command). DoesLine g.H.Host.tells d d ws line now (Ok (StateIs c.state.result))) (sym c.in-DbState.is)
    (subst (λ (s : State). Completes page_reading StandsFor d d ws (Some DbState) (plain (StateIs s)) (FitsOpen g.H.Host.tells now d)) (sym c.state.ensures)
    (on_one (λ vs. Completes page_reading StandsFor d d vs (Some DbState) (plain (StateIs (open_state now.access))) (FitsOpen g.H.Host.tells now d)) ws fit.w fit.is
    (state_line now.access fit.w fit.serves.state d (FitsOpen g.H.Host.tells now d) fit.serves.area.stand (record { w = fit.w; is = refl; serves = fit.serves }))))

pub returns-in-Kill-clause-takes : goal.returns-in-Kill-clause-takes
returns-in-Kill-clause-takes g c =
    takes_still g.H.Host.tells (g.H.Host.disk c.args.host.now) (g.H.Host.faults c.args.host.now) c.args.self.now c.args.self.now OfflineNow c.requires.sound refl (λ any. keeps_itself c.args.self.now) tt

pub returns-in-Kill-clause-does : goal.returns-in-Kill-clause-does
returns-in-Kill-clause-does g c stage told ws fit =
    let d = g.H.Host.disk c.args.host.now in
    subst (λ (line : Command). DoesLine g.H.Host.tells d d ws line c.args.self.now (Ok OfflineNow)) (sym c.in-Kill.is)
    (on_one (λ vs. Completes page_reading StandsFor d d vs (Some Kill) (plain OfflineNow) AreOff) ws fit.w fit.is
    (killed_line c.args.self.now.access fit.w fit.serves.state d fit.serves.area.stand))

pub returns-in-TaskSavepoint-clause-takes : goal.returns-in-TaskSavepoint-clause-takes
returns-in-TaskSavepoint-clause-takes g c =
    takes_still g.H.Host.tells (g.H.Host.disk c.args.host.now) (g.H.Host.faults c.args.host.now) c.args.self.now c.args.self.now (Refused Syntax) c.requires.sound refl (λ any. keeps_itself c.args.self.now) tt

pub returns-in-TaskSavepoint-clause-does : goal.returns-in-TaskSavepoint-clause-does
returns-in-TaskSavepoint-clause-does g c stage told ws fit =
    let d = g.H.Host.disk c.args.host.now in
    let now = c.args.self.now in
    let unbuilt : is_built c.args.line.now ≡ false = search rules in
    unbuilt_does g.H.Host.tells d ws c.args.line.now now unbuilt
    (on_one (λ vs. Completes page_reading StandsFor d d vs (Some c.args.line.now) (refused Syntax) (FitsOpen g.H.Host.tells now d)) ws fit.w fit.is
    (unbuilt_line d fit.w c.args.line.now (FitsOpen g.H.Host.tells now d) unbuilt fit.serves.area.stand (record { w = fit.w; is = refl; serves = fit.serves })))
