use Rattle.std.proofs.Common.{◌≡◌, subst, [], List, ℕ, Some}
use Rattle.clap.specs.Words.{found_of, rows_of}
use Rattle.mdb_model.specs.Script.{numbers_of}
use Rattle.call_words.specs.Words.{Gains, Lacks, counts_in, first_counts, last_counts}
use Rattle.call_words.proofs.Counts.{gains_all, gains_on, lacks_behind, lacks_front}
use Rattle.call_words.proofs.MatchReads.{on_none}
use Rattle.call_words.proofs.words.read_volumes.Goals as goal

pub returns-in_err-read_first_volumes : goal.returns-in_err-read_first_volumes
returns-in_err-read_first_volumes c =
    let rows = rows_of (found_of c.args.matches.now) in
    on_none c.from_residual.result (Lacks (counts_in rows)) (λ volumes. numbers_of (counts_in rows) ≡ Some volumes.items) c.from_residual.ensures
    (lacks_front (first_counts rows) (last_counts rows) c.in_err-read_first_volumes.ensures.gains)

pub returns-in_err-read_last_volumes : goal.returns-in_err-read_last_volumes
returns-in_err-read_last_volumes c =
    let rows = rows_of (found_of c.args.matches.now) in
    on_none c.from_residual-in_err-read_last_volumes.result (Lacks (counts_in rows)) (λ volumes. numbers_of (counts_in rows) ≡ Some volumes.items) c.from_residual-in_err-read_last_volumes.ensures
    (lacks_behind (first_counts rows) (last_counts rows) c.in_err-read_last_volumes.ensures)

pub returns : goal.returns
returns c =
    let rows = rows_of (found_of c.args.matches.now) in
    let first = subst (λ (l : List ℕ). Gains (first_counts rows) l c.read_first_volumes.new.volumes.items) c.new-volumes.ensures c.in_ok-read_first_volumes.ensures.gains in
    gains_all (counts_in rows) c.read_last_volumes.new.volumes.items
    (gains_on (first_counts rows) (last_counts rows) [] c.read_first_volumes.new.volumes.items c.read_last_volumes.new.volumes.items first c.in_ok-read_last_volumes.ensures)
