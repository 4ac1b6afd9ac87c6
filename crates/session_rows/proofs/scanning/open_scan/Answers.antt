use Rattle.std.proofs.Common.{sym, subst, List}
use Rattle.std.specs.FinMap.{FinMap, values}
use Rattle.mdb_model.specs.declared.change.Change.{Change}
use Rattle.mdb_model.specs.declared.script.Command.TheVariants.{ScanTable}
use Rattle.mdb_model.specs.declared.script.Reply.{Reply}
use Rattle.mdb_model.specs.Tables.{place_cmp, with_changes}
use Rattle.transactions.specs.Ongoing.{changes_of}
use Rattle.session_rows.specs.Replies.{scan_answer}
use Rattle.session_rows.specs.Scan.{seen_rows}
use Rattle.session_rows.specs.Serving.{no_pages, HasKeys, IsAnswered, IsServed}
use Rattle.session_rows.proofs.Answering.{scan_answered, scan_changes}
use Rattle.session_rows.proofs.Keys.{keys_after}
use Rattle.session_rows.proofs.scanning.open_scan.Goals as goal

pub returns-clause-answered : goal.returns-clause-answered
returns-clause-answered c rows w served =
    subst (λ (r : Reply). IsAnswered no_pages w (ScanTable c.args.session c.args.table) (scan_answer (seen_rows rows c.scan.new.self c.args.session.0) c.args.table r)
    (IsServed rows c.scan.new.self)) (sym c.scan_opened.ensures)
    (scan_answered no_pages rows c.args.transactions.now c.scan.new.self w served c.args.session c.requires.session c.args.table c.scan.result c.scan.ensures.locks c.scan.ensures.no_page)

pub returns-clause-changes : goal.returns-clause-changes
returns-clause-changes c = scan_changes c.args.transactions.now c.scan.new.self c.args.session.0 c.args.table c.scan.result c.scan.ensures.locks c.scan.ensures.no_page

pub returns-clause-keyed : goal.returns-clause-keyed
returns-clause-keyed c rows keys =
    let d = c.args.transactions.now in
    let same = scan_changes d c.scan.new.self c.args.session.0 c.args.table c.scan.result c.scan.ensures.locks c.scan.ensures.no_page in
    subst (λ (list : List (FinMap place_cmp Change)). HasKeys (with_changes (values (changes_of (record d { changes = list }) c.args.session.0)) rows)) (sym same)
    (keys_after (values (changes_of d c.args.session.0)) rows c.changed-changed.ensures.each_fits keys)
