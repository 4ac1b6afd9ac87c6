use Rattle.std.proofs.Common.{◌∙◌, refl, sym, subst, List, Some}
use Rattle.mdb_model.specs.Answers.{plain}
use Rattle.mdb_model.specs.Worlds.{World}
use Rattle.mdb_model.specs.declared.script.Command.TheVariants.{CommitWork}
use Rattle.mdb_model.specs.declared.script.Reply.TheVariants.{NothingToCommit}
use Rattle.store_rows.specs.StoredRows.{stored_rows}
use Rattle.open_database.specs.declared.database.Database.{Database}
use Rattle.open_database.specs.Outside.{page_reading, StandsFor}
use Rattle.open_database.specs.Serving.{FitsOpen}
use Rattle.open_database.specs.Stretch.{Completes}
use Rattle.open_database.proofs.Answering.{served}
use Rattle.open_database.proofs.CommitLines.{commit_nothing}
use Rattle.open_database.proofs.database.Database.commit_work.Goals as goal

pub returns-then-changed-eq0-clause-does : goal.returns-then-changed-eq0-clause-does
returns-then-changed-eq0-clause-does g c told ws fit =
    let old = c.args.self.now in
    let call = c.give_up in
    let d = g.H.Host.disk c.args.host.now in
    let new : Database = record old { transactions = call.new.transactions; space = call.new.space } in
    subst (λ (vs : List World). Completes page_reading StandsFor d d vs (Some (CommitWork c.args.session)) (plain NothingToCommit) (FitsOpen g.H.Host.tells new d)) (sym fit.is)
    (commit_nothing g.H.Host.tells old d c.args.session c.requires.session fit.w fit.serves c.requires.online new (sym c.changed.ensures.count ∙ c.if-changed-eq0.true) refl refl
    (call.ensures.given_up (stored_rows old.area.store d.seen) fit.w (served g.H.Host.tells old d fit.w fit.serves c.requires.online) fit.serves.counted))
