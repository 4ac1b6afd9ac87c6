use Rattle.std.proofs.Common.{sym, subst, ap, Result, IfOk, Bool}
use Rattle.mdb_model.specs.declared.change.Change.TheVariants.{Put}
use Rattle.mdb_model.specs.declared.fault.PageFault.{PageFault}
use Rattle.mdb_model.specs.declared.script.Command.TheVariants.{PutRow}
use Rattle.mdb_model.specs.declared.script.Reply.{Reply}
use Rattle.mdb_model.specs.Answers.{plain}
use Rattle.mdb_model.specs.Tables.{Tables}
use Rattle.transactions.specs.Calls.{PutDoes}
use Rattle.session_rows.specs.Serving.{no_pages, IsAnswered, IsServed}
use Rattle.session_rows.proofs.Answering.{put_answered}
use Rattle.session_rows.proofs.changing.put_row.Goals as goal

pub returns-clause-answered : goal.returns-clause-answered
returns-clause-answered g c known w served rule =
    let call = c.put-done in
    subst (λ (a : Result Reply PageFault). IfOk a (λ reply. IsAnswered no_pages w (PutRow c.args.session c.args.table c.args.key.now c.args.value.now) (plain reply)
    (IsServed (g.R.Held.held call.new.rows).rows call.new.self))) (sym c.put_answer.ensures)
    (put_answered no_pages (g.R.Held.held call.new.rows).rows c.args.transactions.now call.new.self w
    (subst (λ (rows : Tables). IsServed rows c.args.transactions.now w) (sym (ap (λ x. (g.R.Held.held x).rows) call.ensures.rows)) served) c.args.session c.requires.session
    c.args.room c.args.table c.args.key.now c.args.value.now call.result rule
    (subst (λ (fits : Bool). PutDoes c.args.transactions.now call.new.self c.args.session.0 (Put c.args.table c.args.key.now c.args.value.now) fits call.result) c.suffices.ensures call.ensures.does))
