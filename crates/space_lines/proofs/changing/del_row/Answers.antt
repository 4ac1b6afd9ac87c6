use Rattle.std.proofs.Common.{◌≡◌, refl, sym, ◌∙◌, subst, ℕ, ◌+◌, Bool, true, Option, Some, Ok, Err, Result, IfOk}
use Rattle.std.specs.FinMap.{get}
use Rattle.mdb_model.specs.declared.change.Change.{Change}
use Rattle.mdb_model.specs.declared.change.Change.TheVariants.{Del}
use Rattle.mdb_model.specs.declared.fault.PageFault.{PageFault}
use Rattle.mdb_model.specs.declared.script.Command.{Command}
use Rattle.mdb_model.specs.declared.script.Command.TheVariants.{DelRow}
use Rattle.mdb_model.specs.declared.script.Refusal.TheVariants.{MemoryWanting}
use Rattle.mdb_model.specs.declared.script.Reply.{Reply}
use Rattle.mdb_model.specs.declared.script.Reply.TheVariants.{DelDone}
use Rattle.mdb_model.specs.Answers.{plain, refused}
use Rattle.mdb_model.specs.Tables.{place_of}
use Rattle.mdb_bytes.specs.Held.{Holding}
use Rattle.transactions.specs.Calls.{DelDoes}
use Rattle.transactions.specs.Net.{seen_length}
use Rattle.transactions.specs.Ongoing.{changes_of}
use Rattle.session_rows.specs.Replies.{refusal_of, reply_of, deleted}
use Rattle.session_rows.specs.declared.room.Room.TheVariants.{Enough}
use Rattle.session_rows.specs.Serving.{no_pages, IsAnswered}
use Rattle.space_rule.specs.KnownCosts.{KnownCosts, need_of, noted, prepared_for}
use Rattle.space_rule.specs.Spaces.{known_costs}
use Rattle.space_lines.specs.Weighed.{room_for, IsWeighed}
use Rattle.space_lines.proofs.Lines.{Serves, starved, moved, del_none, del_done, del_refused}
use Rattle.space_lines.proofs.Notes.{noted_is, weighed_del, weighed_refused, del_full, del_enough, del_wants}
use Rattle.space_lines.proofs.changing.del_row.Goals as goal

pub returns-then-is_none-clause-answered : goal.returns-then-is_none-clause-answered
returns-then-is_none-clause-answered g c counted known w served is =
    let line : Command = DelRow c.args.session c.args.table c.args.key.now in
    let k : KnownCosts = known_costs c.args.space.now in
    let held : Holding = g.R.Held.held c.args.rows.now in
    subst (λ (a : Result Reply PageFault). IfOk a (λ reply. IsAnswered no_pages w line (plain reply) (Serves (g.R.Held.held c.seen_len.new.rows).rows c.del_known-found.new.self k))) (sym c.del_answer.ensures)
    (subst (λ (h : Holding). IfOk (reply_of deleted Enough c.del_known-found.result) (λ reply. IsAnswered no_pages w line (plain reply) (Serves h.rows c.del_known-found.new.self k))) (sym (c.in_ok-before.ensures.same known).1)
    (del_none held c.args.transactions.now c.del_known-found.new.self w served k is c.args.session c.requires.session c.in_ok-before.ensures.locked c.args.table c.args.key.now counted c.in_ok-before.before (c.in_ok-before.ensures.seen known)
    c.if-is_none.ensures c.del_known-found.result c.del_known-found.ensures.does))

pub returns-in_default-clause-answered : goal.returns-in_default-clause-answered
returns-in_default-clause-answered g c counted known w served is =
    let line : Command = DelRow c.args.session c.args.table c.args.key.now in
    let k : KnownCosts = known_costs c.args.space.now in
    let held : Holding = g.R.Held.held c.args.rows.now in
    moved w line (refused MemoryWanting) c.args.transactions.now k held (g.R.Held.held c.seen_len.new.rows) (c.in_ok-before.ensures.same known).1
    (starved held c.args.transactions.now c.args.transactions.now w served k is line refl k.prepared)

pub returns-in_default-weighed-clause-answered : goal.returns-in_default-weighed-clause-answered
returns-in_default-weighed-clause-answered g c counted known w served is =
    let line : Command = DelRow c.args.session c.args.table c.args.key.now in
    let k : KnownCosts = known_costs c.args.space.now in
    let held : Holding = g.R.Held.held c.args.rows.now in
    moved w line (refused MemoryWanting) c.args.transactions.now (known_costs c.weighed.new.space) held (g.R.Held.held c.seen_len.new.rows) (c.in_ok-before.ensures.same known).1
    (subst (λ (n : KnownCosts). IsAnswered no_pages w line (refused MemoryWanting) (Serves held.rows c.args.transactions.now n)) (sym c.in_default-weighed.ensures.err)
    (starved held c.args.transactions.now c.args.transactions.now w served k is line refl (known_costs c.weighed.new.space).prepared))

pub returns-in-Ok-del_known-clause-answered : goal.returns-in-Ok-del_known-clause-answered
returns-in-Ok-del_known-clause-answered g c counted known w served is =
    let line : Command = DelRow c.args.session c.args.table c.args.key.now in
    let change : Change = Del c.args.table c.args.key.now in
    let session : ℕ = c.args.session.0 in
    let before = c.in_ok-before.before in
    let k : KnownCosts = known_costs c.args.space.now in
    let held : Holding = g.R.Held.held c.args.rows.now in
    let noted_now : known_costs c.note.new.self ≡ noted k session change before =
    noted_is k (known_costs c.weighed.new.space) (known_costs c.note.new.self) (Some (place_of c.in-Ok.change)) session c.in-Ok.change change before c.in-Ok-weighed.ensures.ok c.in-Ok.ensures c.note.ensures in
    let weighs : c.in-Ok-weighed.room ≡ room_for (need_of (noted k session change before) + 160) k.blocks =
    c.in-Ok-weighed.ensures.room ∙ (λ i. room_for (need_of (noted k session (c.in-Ok.ensures i) before) + 160) (c.requires.blocks i)) in
    subst (λ (n : KnownCosts). IsAnswered no_pages w line (plain DelDone) (Serves (g.R.Held.held c.seen_len.new.rows).rows c.del_known.new.self n)) (sym noted_now)
    (moved w line (plain DelDone) c.del_known.new.self (noted k session change before) held (g.R.Held.held c.seen_len.new.rows) (c.in_ok-before.ensures.same known).1
    (del_done held c.args.transactions.now c.del_known.new.self w served k is c.args.session c.requires.session c.in_ok-before.ensures.locked c.args.table c.args.key.now counted before (c.in_ok-before.ensures.seen known)
    c.if-is_none.ensures c.in-Ok-weighed.room weighs c.in-Ok-del_known.field-0
    (subst (λ (fits : Bool). DelDoes c.args.transactions.now c.del_known.new.self session change fits true (Ok c.in-Ok-del_known.field-0)) c.is_enough.ensures c.in-Ok-del_known.ensures.does)))

pub returns-in-Ok-del_known-clause-weighed : goal.returns-in-Ok-del_known-clause-weighed
returns-in-Ok-del_known-clause-weighed g c =
    let change : Change = Del c.args.table c.args.key.now in
    let session : ℕ = c.args.session.0 in
    let before = c.in_ok-before.before in
    let k : KnownCosts = known_costs c.args.space.now in
    weighed_del _ k (known_costs c.note.new.self) session change before c.in_ok-before.ensures.seen c.in-Ok-weighed.room
    (c.in-Ok-weighed.ensures.room ∙ (λ i. room_for (need_of (noted k session (c.in-Ok.ensures i) before) + 160) (c.requires.blocks i)) ∙ del_wants k session c.args.table c.args.key.now before c.if-is_none.ensures)
    (sym c.is_enough.ensures ∙ del_enough c.args.transactions.now c.del_known.new.self session change c.is_enough.result c.in-Ok-del_known.field-0 c.in-Ok-del_known.ensures.does)
    (noted_is k (known_costs c.weighed.new.space) (known_costs c.note.new.self) (Some (place_of c.in-Ok.change)) session c.in-Ok.change change before c.in-Ok-weighed.ensures.ok c.in-Ok.ensures c.note.ensures)

pub returns-clause-answered : goal.returns-clause-answered
returns-clause-answered g c counted known w served is =
    let line : Command = DelRow c.args.session c.args.table c.args.key.now in
    let change : Change = Del c.args.table c.args.key.now in
    let session : ℕ = c.args.session.0 in
    let before = c.in_ok-before.before in
    let k : KnownCosts = known_costs c.args.space.now in
    let held : Holding = g.R.Held.held c.args.rows.now in
    let weighs : c.in-Ok-weighed.room ≡ room_for (need_of (noted k session change before) + 160) k.blocks =
    c.in-Ok-weighed.ensures.room ∙ (λ i. room_for (need_of (noted k session (c.in-Ok.ensures i) before) + 160) (c.requires.blocks i)) in
    let same : g.R.Held.held c.seen_len.new.rows ≡ held = (c.in_ok-before.ensures.same known).1 in
    subst (λ (a : Result Reply PageFault). IfOk a (λ reply. IsAnswered no_pages w line (plain reply) (Serves (g.R.Held.held c.seen_len.new.rows).rows c.del_known.new.self (known_costs c.weighed.new.space)))) (sym c.refused.ensures)
    (subst (λ (n : KnownCosts). IfOk (refusal_of c.in-Ok-weighed.room c.in-Err.fault) (λ reply. IsAnswered no_pages w line (plain reply) (Serves (g.R.Held.held c.seen_len.new.rows).rows c.del_known.new.self n))) (sym c.in-Ok-weighed.ensures.ok)
    (subst (λ (h : Holding). IfOk (refusal_of c.in-Ok-weighed.room c.in-Err.fault) (λ reply. IsAnswered no_pages w line (plain reply) (Serves h.rows c.del_known.new.self (prepared_for k (Some (place_of c.in-Ok.change)))))) (sym same)
    (del_refused held c.args.transactions.now c.del_known.new.self w served k is c.args.session c.requires.session c.in_ok-before.ensures.locked c.args.table c.args.key.now counted before (c.in_ok-before.ensures.seen known)
    c.if-is_none.ensures c.in-Ok-weighed.room weighs c.in-Err.fault
    (subst (λ (fits : Bool). DelDoes c.args.transactions.now c.del_known.new.self session change fits true (Err c.in-Err.fault)) c.is_enough.ensures c.in-Err.ensures.does) (Some (place_of c.in-Ok.change)))))

pub returns-clause-weighed : goal.returns-clause-weighed
returns-clause-weighed g c =
    let change : Change = Del c.args.table c.args.key.now in
    let session : ℕ = c.args.session.0 in
    let before = c.in_ok-before.before in
    let k : KnownCosts = known_costs c.args.space.now in
    let Sees : Option ℕ → Type 0 = λ before. g.R.Held.is_known c.args.rows.now → before
    ≡ seen_length (get (changes_of c.args.transactions.now session) (c.args.table.0, c.args.key.now)) (get (g.R.Held.held c.args.rows.now).rows (c.args.table.0, c.args.key.now)) in
    subst (λ (a : Result Reply PageFault). IfOk a (IsWeighed Sees k (known_costs c.weighed.new.space) session change)) (sym c.refused.ensures)
    (weighed_refused Sees k (known_costs c.weighed.new.space) session change before c.in_ok-before.ensures.seen c.in-Ok-weighed.room
    (c.in-Ok-weighed.ensures.room ∙ (λ i. room_for (need_of (noted k session (c.in-Ok.ensures i) before) + 160) (c.requires.blocks i)) ∙ del_wants k session c.args.table c.args.key.now before c.if-is_none.ensures)
    (Some (place_of c.in-Ok.change)) c.in-Ok-weighed.ensures.ok c.in-Err.fault
    (λ full. sym c.is_enough.ensures ∙ del_full c.args.transactions.now c.del_known.new.self session change c.is_enough.result c.in-Err.fault c.in-Err.ensures.does full))
