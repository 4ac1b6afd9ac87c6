use Rattle.std.proofs.Common.{◌≡◌, ◌∙◌, ap, sym, Some, None, codes}
use Rattle.std.proofs.lemmas.Slice.Eq.{bytes_eq-Decides}
use Rattle.clap.specs.Words.{Text, found_of, rows_of, subcommand_rows_of}
use Rattle.mdb_model.specs.Script.{create_of}
use Rattle.call_words.specs.Asked.{IsRequest}
use Rattle.call_words.specs.Words.{folder_in, request_in}
use Rattle.call_words.proofs.Counts.{creates}
use Rattle.call_words.proofs.MatchReads.{met_is, not_run, on_none}
use Rattle.call_words.proofs.words.read_asked.Goals as goal

pub returns-then-eq : goal.returns-then-eq
returns-then-eq c =
    let name = c.in_ok-name.name.now in
    let rows = rows_of (found_of c.in_ok-name.found.now) in
    let met = met_is c.args.matches.now name rows c.in_ok-name.ensures.name c.in_ok-name.ensures.rows in
    let is = (bytes_eq-Decides name (codes "run")).0 (sym c.eq.ensures ∙ c.if-eq.true) in
    (folder_in rows, ap request_in (met ∙ ap (λ (n : Text). Some (n, rows)) is))

pub returns-in_err-measures : goal.returns-in_err-measures
returns-in_err-measures c =
    let name = c.in_ok-name.name.now in
    let rows = rows_of (found_of c.in_ok-name.found.now) in
    let met = met_is c.args.matches.now name rows c.in_ok-name.ensures.name c.in_ok-name.ensures.rows in
    let r = c.from_residual-in_err-measures in
    on_none r.result (request_in (subcommand_rows_of c.args.matches.now) ≡ None) (IsRequest (request_in (subcommand_rows_of c.args.matches.now))) r.ensures
    (ap request_in met ∙ not_run name rows (sym c.eq.ensures ∙ c.if-eq.false) ∙ c.in_err-measures.ensures (folder_in rows))

pub returns : goal.returns
returns c =
    let name = c.in_ok-name.name.now in
    let rows = rows_of (found_of c.in_ok-name.found.now) in
    let met = met_is c.args.matches.now name rows c.in_ok-name.ensures.name c.in_ok-name.ensures.rows in
    let m = c.in_ok-measures.measures in
    let folder = folder_in rows in
    (folder, ap request_in met ∙ not_run name rows (sym c.eq.ensures ∙ c.if-eq.false) ∙ ap (create_of folder) c.in_ok-measures.ensures ∙ creates folder m.birth m.log_pages m.volumes.items m.site)
