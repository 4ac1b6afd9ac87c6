use Rattle.std.proofs.Common.{refl, sym, subst, List, Some}
use Rattle.mdb_model.specs.declared.script.Command.TheVariants.{RollbackWork}
use Rattle.mdb_model.specs.Answers.{plain}
use Rattle.mdb_model.specs.Tables.{Tables}
use Rattle.mdb_model.specs.Worlds.{World}
use Rattle.store_rows.specs.StoredRows.{stored_rows}
use Rattle.open_database.specs.declared.database.Database.{Database}
use Rattle.open_database.specs.Outside.{page_reading, StandsFor}
use Rattle.open_database.specs.Serving.{FitsOpen}
use Rattle.open_database.specs.Stretch.{Completes}
use Rattle.open_database.proofs.Answering.{still_moments, served, answered_line}
use Rattle.open_database.proofs.database.Database.give_up.Goals as goal

pub returns-clause-does : goal.returns-clause-does
returns-clause-does g c told ws fit =
    let old = c.args.self.now in
    let call = c.give_up in
    let d = g.H.Host.disk c.args.host.now in
    let new : Database = record old { transactions = call.new.transactions; space = call.new.space } in
    let rows : Tables = stored_rows old.area.store d.seen in
    let is_served = served g.H.Host.tells old d fit.w fit.serves c.requires.online in
    subst (λ (vs : List World). Completes page_reading StandsFor d d vs (Some (RollbackWork c.args.session)) (plain call.result) (FitsOpen g.H.Host.tells new d)) (sym fit.is)
    (answered_line g.H.Host.tells old d fit.w fit.serves c.requires.online new d refl fit.serves.area rows (RollbackWork c.args.session) (plain call.result) tt (still_moments d fit.w fit.serves.area.stand)
    (call.ensures.answered rows fit.w is_served fit.serves.counted))
