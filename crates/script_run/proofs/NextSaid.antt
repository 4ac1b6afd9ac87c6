-- The next row of a scan, once it was read and said.
--     row_said, row_cut, end_said, fault_said      the row was said, or not to its end; there is none; it could not be read
--     next_err      where saying it failed
use Rattle.std.proofs.Common.{◌≡◌, sym, subst, ap, ◌∙◌, ℕ, List, [], ◌++◌, Option, Result, Ok, Err, IsErr, append-nil, arith}
use Rattle.mdb_model.specs.declared.name.Session.{Session}
use Rattle.mdb_model.specs.declared.name.Table.{Table}
use Rattle.mdb_model.specs.declared.fault.Failed.{Failed}
use Rattle.mdb_model.specs.declared.script.Next.{Next}
use Rattle.mdb_model.specs.declared.script.Next.TheVariants.{Row as IsRow, End, Fault}
use Rattle.mdb_model.specs.declared.script.Reply.{Reply}
use Rattle.mdb_model.specs.Answers.{Row}
use Rattle.mdb_model.specs.Images.{Image}
use Rattle.mdb_model.specs.Text.{line_of, item_words}
use Rattle.mdb_model.specs.Worlds.{World}
use Rattle.mdb_host.specs.Disk.{Disk, Keeps}
use Rattle.mdb_bytes.specs.Held.{next_row}
use Rattle.open_database.specs.declared.database.Database.{Database}
use Rattle.db_kernel.specs.Kept.{scanned_rows}
use Rattle.db_kernel.specs.Scanning.{ReadsRow}
use Rattle.open_database.specs.Stretch.{StandsForOneOf}
use Rattle.db_kernel.proofs.Fitting.{fits_still, rows_still}
use Rattle.mdb_model.specs.Tables.{Tables}
use Rattle.script_run.specs.Scans.{GoesOn, SaysNext}
use Rattle.script_run.specs.Speaking.{Speaks, SaysWhile, row_text}
use Rattle.script_run.proofs.Speaking.{still_of, says_of, says_read, says_on}

module _ (d0 d1 : Disk) (keeps : Keeps d0 d1) (ws : List World) (before after : Option Database) (session : Session) (table : Table) (from key value : List ℕ) where
  abbrev One : Image → Type 0
  One = StandsForOneOf ws

  -- there is no row
  pub end_said : ReadsRow d0 d1 ws before after session table from key value End → GoesOn d0 d1 ws before after session []
  end_said reads = record {
    says = says_read (StandsForOneOf ws) d0 d1 keeps reads.quiet reads.stand;
    said = reads.quiet d1.now keeps.later (omega arith) ∙ sym (append-nil (d0.said d0.now));
    fit = reads.fit tt;
    same = reads.same tt;
  }

  -- it could not be read
  pub fault_said : (reply : Reply) → ReadsRow d0 d1 ws before after session table from key value (Fault reply) → SaysWhile d0 d1 [] (StandsForOneOf ws)
  fault_said reply reads = says_read (StandsForOneOf ws) d0 d1 keeps reads.quiet reads.stand

  module _ (d2 : Disk) (reads : ReadsRow d0 d1 ws before after session table from key value IsRow) (speaks : Speaks d1 d2 (line_of (item_words (Row key value)))) where
    text_is : line_of (item_words (Row key value)) ≡ row_text (next_row (scanned_rows before d0 session) table.0 from)
    text_is = ap row_text (sym reads.is_next)

    silent : d1.said d1.now ≡ d0.said d0.now
    silent = reads.quiet d1.now keeps.later (omega arith)

    pub row_cut : SaysWhile d0 d2 (row_text (next_row (scanned_rows before d0 session) table.0 from)) (StandsForOneOf ws)
    row_cut =
        subst (λ (l : List ℕ). SaysWhile d0 d2 l (StandsForOneOf ws)) text_is
        (says_on (StandsForOneOf ws) d0 d1 d2 [] (line_of (item_words (Row key value))) (says_read (StandsForOneOf ws) d0 d1 keeps reads.quiet reads.stand)
        (silent ∙ sym (append-nil (d0.said d0.now)))
        (says_of (StandsForOneOf ws) d1 d2 (line_of (item_words (Row key value))) speaks (λ image left. reads.stand d1.now image keeps.later (omega arith) left)))

    pub row_said : d2.said d2.now ≡ d1.said d1.now ++ line_of (item_words (Row key value)) → GoesOn d0 d2 ws before after session (row_text (next_row (scanned_rows before d0 session) table.0 from))
    row_said said = record {
      says = row_cut;
      said = said ∙ (λ i. silent i ++ text_is i);
      fit = fits_still after d1 d2 ws (reads.fit tt) (still_of d1 d2 (line_of (item_words (Row key value))) speaks);
      same = rows_still d1 d2 (still_of d1 d2 (line_of (item_words (Row key value))) speaks) after session ∙ reads.same tt;
    }

-- where saying it failed
pub next_err : (d0 d2 : Disk) (ws : List World) (before after : Option Database) (session : Session) (rows : Tables) (table : Table) (from key : List ℕ) (r : Result Next Failed) → IsErr r
    → SaysWhile d0 d2 (row_text (next_row rows table.0 from)) (StandsForOneOf ws) → SaysNext d0 d2 ws before after session rows table from key r
next_err d0 d2 ws before after session rows table from key (Ok next) is says = cc
next_err d0 d2 ws before after session rows table from key (Err fault) is says = says
