-- The text of a scan, said row by row.
--     SaidTo      the rows of a table up to a key are said
--     said_first, said_more      at the empty key, and with the next row
--     ended_whole, ended_failed, cut_row      all rows are said; a row could not be read; it could not be said
--     stand_now, next_says      what each image stands for; the next row, by the rows that were there at first
--     scan_said, scan_cut, rows_cut      with the reply after the rows, or not to its end
use Rattle.std.proofs.Common.{◌≡◌, refl, sym, ap, ◌∙◌, subst, ℕ, ◌+◌, List, [], ◌∷◌, ◌++◌, length, Option, Some, None, Result, Ok, Err, IsErr, OnOk, append_assoc, append-nil, length-append, arith}
use Rattle.std.proofs.lemmas.List.Concat.{flat_map-append}
use Rattle.mdb_model.specs.declared.fault.Failed.{Failed as Fault}
use Rattle.mdb_model.specs.declared.name.Session.{Session}
use Rattle.mdb_model.specs.declared.name.Table.{Table}
use Rattle.mdb_model.specs.declared.script.Next.{Next}
use Rattle.mdb_model.specs.declared.script.Refusal.TheVariants.{DeviceFailed}
use Rattle.mdb_model.specs.declared.script.Reply.{Reply}
use Rattle.mdb_model.specs.declared.script.Reply.TheVariants.{ScanOpen, Refused}
use Rattle.mdb_model.specs.Answers.{Item, Row}
use Rattle.mdb_model.specs.Causes.{Rose}
use Rattle.mdb_model.specs.Tables.{Tables}
use Rattle.mdb_model.specs.Steps.{rows_of}
use Rattle.mdb_model.specs.Text.{line_of, item_words, reply_words}
use Rattle.mdb_model.specs.Worlds.{World}
use Rattle.mdb_host.specs.Disk.{Disk}
use Rattle.mdb_bytes.specs.Held.{next_row}
use Rattle.mdb_bytes.proofs.Scanning.{rows_behind, ScannedTo, scan_first, scan_step, scan_end, behind_front, none_behind}
use Rattle.open_database.specs.declared.database.Database.{Database}
use Rattle.db_kernel.specs.Kept.{FitsWorlds, scanned_rows}
use Rattle.open_database.specs.Outside.{page_reading, StandsFor}
use Rattle.open_database.specs.Stretch.{LeavesOnly}
use Rattle.open_database.specs.Stretch.{StandsForOneOf}
use Rattle.script_run.specs.Speaking.{Speaks, SaysWhile, row_text, items_text}
use Rattle.script_run.specs.Scans.{IsOpenScan, GoesOn, SaysNext, EndsRows, HasSaidRows, SaysRows, SaysScan, scan_text}
use Rattle.script_run.proofs.Speaking.{says_none, says_part, says_on, says_of, none_said}

abbrev pub item_text : Item → List ℕ
item_text item = line_of (item_words item)

abbrev pub end_text : ℕ → Reply → List ℕ
end_text count reply = line_of (reply_words count reply)

-- the rows of a table up to a key are said, and they are so many; the kernel goes on with the same rows
pub record SaidTo (ws : List World) (before : Option Database) (session : Session) (table : Table) (old now : Disk) (database : Option Database) (count : ℕ) (after : List ℕ) : Type 0 where
  pub done : List Item
  pub scanned : ScannedTo (scanned_rows before old session) table.0 after done
  pub count_is : length done ≡ count
  pub says : SaysWhile old now (items_text done) (StandsForOneOf ws)
  pub said : now.said now.now ≡ old.said old.now ++ items_text done
  pub fit : FitsWorlds database now ws
  pub same : scanned_rows database now session ≡ scanned_rows before old session

module _ (ws : List World) (before : Option Database) (session : Session) (table : Table) (old : Disk) where
  abbrev tables : Tables
  tables = scanned_rows before old session

  abbrev rows : List Item
  rows = rows_of (scanned_rows before old session) table.0

  pub said_first : IsOpenScan old ws before session table → SaidTo ws before session table old old before 0 []
  said_first open_scan = record {
    done = [];
    scanned = scan_first (scanned_rows before old session) table.0 (open_scan.keys table.0);
    count_is = refl;
    says = says_none (StandsForOneOf ws) old open_scan.stand;
    said = sym (append-nil (old.said old.now));
    fit = open_scan.fit;
    same = refl;
  }

  module _ (mid new : Disk) (database after : Option Database) (count : ℕ) (from : List ℕ) (so_far : SaidTo ws before session table old mid database count from) where
    -- each image stands for one of the worlds now
    pub stand_now : LeavesOnly page_reading StandsFor mid ws
    stand_now image left = so_far.says.each mid.now image so_far.says.keeps.later (omega arith) left

    -- the next row is one of the rows that were there at first
    pub next_says : (key : List ℕ) (r : Result Next Fault) → SaysNext mid new ws database after session (scanned_rows database mid session) table from key r
        → SaysNext mid new ws database after session (scanned_rows before old session) table from key r
    next_says key r says = subst (λ (t : Tables). SaysNext mid new ws database after session t table from key r) so_far.same says

    -- what is said of it, and more
    further : (text : List ℕ) → SaysWhile mid new text (StandsForOneOf ws) → SaysWhile old new (items_text so_far.done ++ text) (StandsForOneOf ws)
    further text says = says_on (StandsForOneOf ws) old mid new (items_text so_far.done) text so_far.says so_far.said says

    further_said : (text : List ℕ) → new.said new.now ≡ mid.said mid.now ++ text → new.said new.now ≡ old.said old.now ++ (items_text so_far.done ++ text)
    further_said text said = said ∙ ap (λ (l : List ℕ). l ++ text) so_far.said ∙ append_assoc (old.said old.now) (items_text so_far.done) text

    -- the next row was said
    pub said_more : (key : List ℕ) → ((value : List ℕ) × (next_row (scanned_rows before old session) table.0 from ≡ Some (key, value)))
        → GoesOn mid new ws database after session (row_text (next_row (scanned_rows before old session) table.0 from))
        → SaidTo ws before session table old new after (count + 1) key
    said_more key next goes =
        let row = Row key next.0 in
        let text : items_text so_far.done ++ row_text (next_row (scanned_rows before old session) table.0 from) ≡ items_text (so_far.done ++ row ∷ []) =
        ap (λ o. items_text so_far.done ++ row_text o) next.1
        ∙ ap (λ (l : List ℕ). items_text so_far.done ++ l) (sym (append-nil (item_text row)))
        ∙ sym (flat_map-append item_text so_far.done (row ∷ [])) in
        record {
          done = so_far.done ++ row ∷ [];
          scanned = scan_step (scanned_rows before old session) table.0 from so_far.done so_far.scanned key next.0 next.1;
          count_is = length-append so_far.done (row ∷ []) ∙ ap (λ n. n + 1) so_far.count_is;
          says = subst (λ (l : List ℕ). SaysWhile old new l (StandsForOneOf ws)) text (further _ goes.says);
          said = further_said _ goes.said ∙ ap (λ (l : List ℕ). old.said old.now ++ l) text;
          fit = goes.fit;
          same = goes.same ∙ so_far.same;
        }

    -- nothing more was said
    still_says : SaysWhile mid new [] (StandsForOneOf ws) → SaysWhile old new (items_text so_far.done) (StandsForOneOf ws)
    still_says says = subst (λ (l : List ℕ). SaysWhile old new l (StandsForOneOf ws)) (append-nil (items_text so_far.done)) (further [] says)

    still_said : SaysWhile mid new [] (StandsForOneOf ws) → new.said new.now ≡ old.said old.now ++ items_text so_far.done
    still_said says = none_said mid new (StandsForOneOf ws) says ∙ so_far.said

    -- all rows are said
    pub ended_whole : (f0 f1 : ℕ) → next_row (scanned_rows before old session) table.0 from ≡ None → GoesOn mid new ws database after session []
        → HasSaidRows old new f0 f1 ws rows after count ScanOpen
    ended_whole f0 f1 none goes = record {
      items = so_far.done;
      count_is = so_far.count_is;
      ends = scan_end (scanned_rows before old session) table.0 from so_far.done so_far.scanned none;
      says = still_says goes.says;
      said = still_said goes.says;
      fit = λ open_reply. goes.fit;
    }

    -- the next one could not be read
    pub ended_failed : (f0 f1 : ℕ) → Rose f0 f1 → after ≡ None → SaysWhile mid new [] (StandsForOneOf ws)
        → HasSaidRows old new f0 f1 ws rows after count (Refused DeviceFailed)
    ended_failed f0 f1 rose off says = record {
      items = so_far.done;
      count_is = so_far.count_is;
      ends = ((rows_behind (scanned_rows before old session) table.0 from, so_far.scanned.split), rose, off);
      says = still_says says;
      said = still_said says;
      fit = λ same. absurd (not_open same);
    }
      where
        not_open : Refused DeviceFailed ≡ ScanOpen → ⊥
        not_open same = cc

    -- the rest of the text begins with the next row
    rest_front : (end : List ℕ) → (more : List ℕ) × (row_text (next_row (scanned_rows before old session) table.0 from) ++ more ≡ items_text (rows_behind (scanned_rows before old session) table.0 from) ++ end)
    rest_front end = by_row (next_row (scanned_rows before old session) table.0 from) refl where
      by_row : (o : Option (List ℕ × List ℕ)) → next_row (scanned_rows before old session) table.0 from ≡ o → (more : List ℕ) × (row_text o ++ more ≡ items_text (rows_behind (scanned_rows before old session) table.0 from) ++ end)
      by_row None is = (end, ap (λ (l : List Item). items_text l ++ end) (sym (none_behind (scanned_rows before old session) table.0 from is)))
      by_row (Some row) is = (
        items_text (rows_behind (scanned_rows before old session) table.0 row.0) ++ end,
        sym (append_assoc (item_text (Row row.0 row.1)) (items_text (rows_behind (scanned_rows before old session) table.0 row.0)) end)
            ∙ ap (λ (l : List Item). items_text l ++ end) (sym (behind_front (scanned_rows before old session) table.0 from row.0 row.1 is)),
      )

    whole_text : (end : List ℕ) → items_text so_far.done ++ (items_text (rows_behind (scanned_rows before old session) table.0 from) ++ end) ≡ items_text rows ++ end
    whole_text end =
        sym (append_assoc (items_text so_far.done) (items_text (rows_behind (scanned_rows before old session) table.0 from)) end)
        ∙ ap (λ (l : List ℕ). l ++ end) (sym (flat_map-append item_text so_far.done (rows_behind (scanned_rows before old session) table.0 from)))
        ∙ ap (λ (l : List Item). items_text l ++ end) (sym so_far.scanned.split)

    -- it was not said to its end
    pub cut_row : SaysWhile mid new (row_text (next_row (scanned_rows before old session) table.0 from)) (StandsForOneOf ws) → SaysWhile old new (scan_text rows ScanOpen) (StandsForOneOf ws)
    cut_row says =
        let end = end_text (length rows) ScanOpen in
        let front = rest_front end in
        subst (λ (l : List ℕ). SaysWhile old new l (StandsForOneOf ws)) (whole_text end)
        (further (items_text (rows_behind (scanned_rows before old session) table.0 from) ++ end)
        (subst (λ (l : List ℕ). SaysWhile mid new l (StandsForOneOf ws)) front.1 (says_part (StandsForOneOf ws) mid new (row_text (next_row (scanned_rows before old session) table.0 from)) front.0 says)))

-- The reply after the rows

module _ (ws : List World) (rows : List Item) (old mid new : Disk) (f0 f1 f2 : ℕ) (after : Option Database) where
  -- the reply was said, or not to its end
  pub scan_said : (count : ℕ) (reply : Reply) → HasSaidRows old mid f0 f1 ws rows after count reply → f2 ≡ f1 → Speaks mid new (end_text count reply)
      → (FitsWorlds after mid ws → FitsWorlds after new ws) → (r : Result (Unit {0}) Fault) → OnOk r (new.said new.now ≡ mid.said mid.now ++ end_text count reply)
      → SaysScan old new f0 f2 ws rows after r
  scan_said count reply so same speaks on r whole =
      let P = StandsForOneOf ws in
      let counted : end_text count reply ≡ end_text (length so.items) reply = ap (λ n. end_text n reply) (sym so.count_is) in
      record {
        items = so.items;
        reply = reply;
        ends = subst (λ (f : ℕ). EndsRows rows so.items f0 f after reply) (sym same) so.ends;
        says = subst (λ (l : List ℕ). SaysWhile old new (items_text so.items ++ l) (StandsForOneOf ws)) counted
            (says_on (StandsForOneOf ws) old mid new (items_text so.items) (end_text count reply) so.says so.said
            (says_of (StandsForOneOf ws) mid new (end_text count reply) speaks (λ image left. so.says.each mid.now image so.says.keeps.later (omega arith) left)));
        said = on_ok r whole (λ said. said ∙ ap (λ (l : List ℕ). l ++ end_text count reply) so.said ∙ append_assoc (old.said old.now) (items_text so.items) (end_text count reply)
            ∙ ap (λ (l : List ℕ). old.said old.now ++ (items_text so.items ++ l)) counted);
        fit = on_ok r whole (λ said is. on (so.fit is));
      }
    where
      on_ok : {A B : Type 0} (r : Result (Unit {0}) Fault) → OnOk r A → (A → B) → OnOk r B
      on_ok (Ok done) a f = f a
      on_ok (Err fault) a f = tt

-- what holds of each failure holds of a result that is one
by_err : {T E : Type 0} (F : Result T E → Type 0) (r : Result T E) → IsErr r → ((fault : E) → F (Err fault)) → F r
by_err F (Ok value) is each = cc
by_err F (Err fault) is each = each fault

-- a row could not be said to its end
pub rows_cut : (ws : List World) (rows : List Item) (old new : Disk) (f0 f1 : ℕ) (after : Option Database) (r : Result (ℕ × Reply) Fault) → IsErr r → SaysWhile old new (scan_text rows ScanOpen) (StandsForOneOf ws)
    → SaysRows old new f0 f1 ws rows after r
rows_cut ws items old new f0 f1 after r is says = by_err (λ (r : Result (ℕ × Reply) Fault). SaysRows old new f0 f1 ws items after r) r is (λ fault. says)

pub scan_cut : (ws : List World) (rows : List Item) (old new : Disk) (f0 f1 : ℕ) (after : Option Database) (r : Result (Unit {0}) Fault) → IsErr r → SaysWhile old new (scan_text rows ScanOpen) (StandsForOneOf ws)
    → SaysScan old new f0 f1 ws rows after r
scan_cut ws items old new f0 f1 after r is says =
    by_err (λ (r : Result (Unit {0}) Fault). SaysScan old new f0 f1 ws items after r) r is (λ fault. record { items = items; reply = ScanOpen; ends = refl; says = says; said = tt; fit = tt })
