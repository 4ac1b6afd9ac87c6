use Rattle.std.proofs.Common.{sym, refl, ap, ◌∙◌, subst, ℕ, List, Result, IfOk}
use Rattle.mdb_model.specs.declared.fault.PageFault.{PageFault}
use Rattle.mdb_model.specs.declared.script.Command.TheVariants.{GetRow}
use Rattle.mdb_model.specs.declared.script.Reply.{Reply}
use Rattle.mdb_model.specs.Answers.{plain}
use Rattle.session_rows.specs.Replies.{reply_of, got}
use Rattle.session_rows.specs.declared.room.Room.TheVariants.{Enough}
use Rattle.session_rows.specs.Serving.{no_pages, IsAnswered, IsServed}
use Rattle.session_rows.proofs.Answering.{get_answered, get_starved}
use Rattle.session_rows.proofs.reading.get_row.Goals as goal

pub returns-clause-answered : goal.returns-clause-answered
returns-clause-answered g c known w served =
    let call = c.get-found in
    subst (λ (a : Result Reply PageFault). IfOk a (λ reply. IsAnswered no_pages w (GetRow c.args.session c.args.table c.args.key.now) (plain reply)
    (IsServed (g.R.Held.held call.new.rows).rows call.new.self))) (sym (c.get_answer.ensures ∙ ap (λ (v : List ℕ). reply_of (got v) Enough call.result) c.new.ensures))
    (get_answered no_pages (g.R.Held.is_known call.new.rows) (g.R.Held.held c.args.rows.now) (g.R.Held.held call.new.rows) c.args.transactions.now call.new.self w served c.args.session c.requires.session
    c.args.table c.args.key.now call.new.into.items call.result call.ensures.locks (call.ensures.found known) (call.ensures.same known))

pub returns-in_default-clause-answered : goal.returns-in_default-clause-answered
returns-in_default-clause-answered g c known w served = get_starved no_pages (g.R.Held.held c.args.rows.now).rows c.args.transactions.now c.args.transactions.now w served c.args.session c.requires.session c.args.table c.args.key.now refl
