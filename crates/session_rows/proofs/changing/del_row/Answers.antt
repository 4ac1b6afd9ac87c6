use Rattle.std.proofs.Common.{sym, subst, Result, IfOk, Bool}
use Rattle.mdb_model.specs.declared.change.Change.TheVariants.{Del}
use Rattle.mdb_model.specs.declared.fault.PageFault.{PageFault}
use Rattle.mdb_model.specs.declared.script.Command.TheVariants.{DelRow}
use Rattle.mdb_model.specs.declared.script.Reply.{Reply}
use Rattle.mdb_model.specs.Answers.{plain}
use Rattle.transactions.specs.Calls.{DelDoes}
use Rattle.session_rows.specs.Serving.{no_pages, IsAnswered, IsServed}
use Rattle.session_rows.proofs.Answering.{del_answered}
use Rattle.session_rows.proofs.changing.del_row.Goals as goal

pub returns-clause-answered : goal.returns-clause-answered
returns-clause-answered g c known w served rule =
    let call = c.del-found in
    let does = call.ensures.does in
    subst (λ (a : Result Reply PageFault). IfOk a (λ reply. IsAnswered no_pages w (DelRow c.args.session c.args.table c.args.key.now) (plain reply)
    (IsServed (g.R.Held.held call.new.rows).rows call.new.self))) (sym c.del_answer.ensures)
    (del_answered no_pages (g.R.Held.is_known call.new.rows) (g.R.Held.held c.args.rows.now) (g.R.Held.held call.new.rows) c.args.transactions.now call.new.self w served c.args.session c.requires.session
    c.args.room c.args.table c.args.key.now does.0 call.result rule
    (subst (λ (fits : Bool). DelDoes c.args.transactions.now call.new.self c.args.session.0 (Del c.args.table c.args.key.now) fits does.0 call.result) c.suffices.ensures does.1)
    (does.2 known) (call.ensures.same known))
