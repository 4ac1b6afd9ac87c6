use Rattle.std.proofs.Common.{refl, sym, subst, List, Some}
use Rattle.mdb_model.specs.declared.script.Command.TheVariants.{ScanTable}
use Rattle.mdb_model.specs.Answers.{Answer}
use Rattle.mdb_model.specs.Tables.{Tables}
use Rattle.mdb_model.specs.Worlds.{World}
use Rattle.session_rows.specs.Replies.{scan_answer, IsOfSession}
use Rattle.session_rows.specs.Scan.{seen_rows}
use Rattle.space_rule.specs.Spaces.{known_costs}
use Rattle.store_rows.specs.StoredRows.{stored_rows}
use Rattle.open_database.specs.declared.database.Database.{Database}
use Rattle.open_database.specs.Outside.{page_reading, StandsFor}
use Rattle.open_database.specs.Serving.{FitsOpen}
use Rattle.open_database.specs.Stretch.{Completes}
use Rattle.open_database.proofs.Answering.{still_moments, served, answered_line, counted_read, scan_reply_is}
use Rattle.open_database.proofs.database.Database.lock_table.Goals as goal

pub returns-clause-does : goal.returns-clause-does
returns-clause-does g c told ws fit =
    let old = c.args.self.now in
    let call = c.open_scan in
    let d = g.H.Host.disk c.args.host.now in
    let new : Database = record old { transactions = call.new.transactions } in
    let rows : Tables = stored_rows old.area.store d.seen in
    let answer : Answer = scan_answer (seen_rows rows call.new.transactions c.args.session.0) c.args.table call.result in
    let inside : IsOfSession answer.reply = subst IsOfSession (sym (scan_reply_is (seen_rows rows call.new.transactions c.args.session.0) c.args.table call.result)) call.ensures.inside in
    let is_served = served g.H.Host.tells old d fit.w fit.serves c.requires.online in
    subst (λ (vs : List World). Completes page_reading StandsFor d d vs (Some (ScanTable c.args.session c.args.table)) answer (FitsOpen g.H.Host.tells new d)) (sym fit.is)
    (answered_line g.H.Host.tells old d fit.w fit.serves c.requires.online new d refl fit.serves.area rows (ScanTable c.args.session c.args.table) answer tt (still_moments d fit.w fit.serves.area.stand)
    (counted_read fit.w (ScanTable c.args.session c.args.table) answer rows call.new.transactions (known_costs old.space)
    (λ after entry. c.a_read_leaves_it_counted.ensures.table (known_costs old.space) fit.w after c.args.session c.args.table answer c.requires.session inside fit.serves.counted entry)
    (call.ensures.answered rows fit.w is_served)))
