use Rattle.std.proofs.Common.{◌≡◌, ◌∙◌, ap, ap₂, ℕ, List, ◌∷◌, Some, None, IsTrue, codes}
use Rattle.clap.specs.Words.{found_of, rows_of}
use Rattle.mdb_model.specs.Script.{create_of, numbers_of}
use Rattle.call_words.specs.Words.{counts_in, number_in, numbers_in, with_front}
use Rattle.call_words.proofs.Counts.{asks_by_birth, asks_by_counts, asks_by_log, asks_by_site}
use Rattle.call_words.proofs.MatchReads.{on_none}
use Rattle.call_words.proofs.words.read_measures.Goals as goal

pub returns-in_err-birth : goal.returns-in_err-birth
returns-in_err-birth c =
    let rows = rows_of (found_of c.args.matches.now) in
    on_none c.from_residual.result ((folder : List ℕ) → create_of folder (numbers_in rows) ≡ None) (λ m. numbers_in rows ≡ Some (m.birth ∷ m.log_pages ∷ m.volumes.items)) c.from_residual.ensures
    (λ folder. asks_by_birth folder (number_in (codes "BIRTH") rows) (with_front (number_in (codes "LOGPAGES") rows) (numbers_of (counts_in rows))) c.in_err-birth.ensures)

pub returns-in_err-log_pages : goal.returns-in_err-log_pages
returns-in_err-log_pages c =
    let rows = rows_of (found_of c.args.matches.now) in
    on_none c.from_residual-in_err-log_pages.result ((folder : List ℕ) → create_of folder (numbers_in rows) ≡ None) (λ m. numbers_in rows ≡ Some (m.birth ∷ m.log_pages ∷ m.volumes.items)) c.from_residual-in_err-log_pages.ensures
    (λ folder. asks_by_log folder (number_in (codes "BIRTH") rows) (number_in (codes "LOGPAGES") rows) (numbers_of (counts_in rows)) c.in_err-log_pages.ensures)

pub returns-in_err-volumes : goal.returns-in_err-volumes
returns-in_err-volumes c =
    let rows = rows_of (found_of c.args.matches.now) in
    on_none c.from_residual-in_err-volumes.result ((folder : List ℕ) → create_of folder (numbers_in rows) ≡ None) (λ m. numbers_in rows ≡ Some (m.birth ∷ m.log_pages ∷ m.volumes.items)) c.from_residual-in_err-volumes.ensures
    (λ folder. asks_by_counts folder (number_in (codes "BIRTH") rows) (number_in (codes "LOGPAGES") rows) (counts_in rows) c.in_err-volumes.ensures)

pub returns-else-can_create : goal.returns-else-can_create
returns-else-can_create c folder =
    let are = ap₂ with_front c.in_ok-birth.ensures (ap₂ with_front c.in_ok-log_pages.ensures c.in_ok-volumes.ensures) in
    ap (create_of folder) are
    ∙ asks_by_site folder c.in_ok-birth.birth c.in_ok-log_pages.log_pages c.in_ok-volumes.volumes.items (λ site. let is : IsTrue c.can_create.result = c.can_create.ensures.1 site in cc)
