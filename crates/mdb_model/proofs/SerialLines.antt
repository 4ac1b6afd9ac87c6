-- The open lines of a transaction, answered as on other tables that are the same wherever the transaction has a lock.
--     Agree      two tables are the same at the places that locks cover
--     StandsAlone      the lines of a transaction hold for all such tables
--     StandsAlone-none, StandsAlone-kept      no lines; the same lines after a change of the tables elsewhere
--     StandsAlone-get, StandsAlone-put, StandsAlone-deleted, StandsAlone-absent, StandsAlone-scan      one more line
use Rattle.std.proofs.Common.{◌≡◌, refl, sym, ap, ◌∙◌, ℕ, zero, suc, Bool, true, false, if◌then◌else◌, is_some, List, [], ◌∷◌, ◌++◌, map, Contains, Option, None, Some, arith}
use Rattle.std.proofs.lemmas.List.{map-append}
use Rattle.std.specs.FinMap.{get, contains_key}
use Rattle.mdb_model.specs.declared.name.Session.{Session}
use Rattle.mdb_model.specs.declared.name.Table.{Table}
use Rattle.mdb_model.specs.declared.change.Change.{Change}
use Rattle.mdb_model.specs.declared.change.Change.TheVariants.{Put, Del}
use Rattle.mdb_model.specs.declared.script.Command.{Command}
use Rattle.mdb_model.specs.declared.script.Command.TheVariants.{GetRow, PutRow, DelRow, ScanTable}
use Rattle.mdb_model.specs.declared.script.Reply.TheVariants.{NoRow, PutDone, DelDone, ScanOpen}
use Rattle.mdb_model.specs.Tables.{Place, Tables, with_changes}
use Rattle.mdb_model.specs.Worlds.{Transaction, Lock, ShareKey, ExclusiveKey, ShareTable}
use Rattle.mdb_model.specs.Sessions.{conflict}
use Rattle.mdb_model.specs.Answers.{Answer, plain, row_reply}
use Rattle.mdb_model.specs.Steps.{rows_of}
use Rattle.mdb_model.specs.Serial.{AnsweredLine, alone, after_alone, answer_alone, AreAlone}
use Rattle.mdb_model.proofs.SerialPlaces.{same_place-itself, with_changes-agree, with_changes-push, remove-absent, rows_of-agree}

-- the tables are the same wherever a change of a row would conflict with one of the locks
abbrev pub Agree : List Lock → Tables → Tables → Type 0
Agree locks s t = (p : Place) (lock : Lock) → Contains locks lock → conflict (ExclusiveKey p) lock ≡ true → get s p ≡ get t p

-- the commands of lines
abbrev pub commands : List AnsweredLine → List Command
commands lines = map (λ told. told.0) lines

-- their answers
abbrev pub answers : List AnsweredLine → List Answer
answers lines = map (λ told. told.1) lines

-- the tables after lines that nobody else sees
abbrev pub all_alone : List Command → Tables → Tables
all_alone [] tables = tables
all_alone (line ∷ lines) tables = all_alone lines (after_alone line tables)

-- on all tables that agree with the present ones, the lines alone are answered as they were, and leave what the
-- transaction's changes leave
pub record StandsAlone (x : Transaction) (present : Tables) (lines : List AnsweredLine) : Type 0 where
  pub told : (t : Tables) → Agree x.locks present t → AreAlone lines t
  pub seen : (t : Tables) → Agree x.locks present t → all_alone (commands lines) t ≡ with_changes x.changes t

-- the tables after one more line
all_alone-push : (lines : List Command) (line : Command) (t : Tables) → all_alone (lines ++ line ∷ []) t ≡ after_alone line (all_alone lines t)
all_alone-push [] line t = refl
all_alone-push (first ∷ lines) line t = all_alone-push lines line (after_alone first t)

-- the answers to one more line
alone-push : (lines : List Command) (line : Command) (t : Tables) → alone (lines ++ line ∷ []) t ≡ alone lines t ++ answer_alone line (all_alone lines t) ∷ []
alone-push [] line t = refl
alone-push (first ∷ lines) line t = ap (λ rest. answer_alone first t ∷ rest) (alone-push lines line (after_alone first t))

-- no lines, of a transaction with no changes
pub StandsAlone-none : (x : Transaction) (present : Tables) → x.changes ≡ [] → StandsAlone x present []
StandsAlone-none x present none = record { told = λ t same. refl; seen = λ t same. ap (λ changes. with_changes changes t) (sym none) }

-- a change of the tables where the transaction has no lock
pub StandsAlone-kept : (x : Transaction) (present later : Tables) (lines : List AnsweredLine) → Agree x.locks present later → StandsAlone x present lines → StandsAlone x later lines
StandsAlone-kept x present later lines kept stands = record {
  told = λ t same. stands.told t (λ p lock there covers. kept p lock there covers ∙ same p lock there covers);
  seen = λ t same. stands.seen t (λ p lock there covers. kept p lock there covers ∙ same p lock there covers);
}

-- tables that agree on more locks agree on fewer
agree-fewer : (lock : Lock) (locks : List Lock) (s t : Tables) → Agree (lock ∷ locks) s t → Agree locks s t
agree-fewer lock locks s t same p other (k, inside, is) covers = same p other (suc k, omega (arith, inside), is) covers

module _ (x : Transaction) (changes : List Change) (lock : Lock) (present : Tables) (lines : List AnsweredLine) (line : Command) (answer : Answer) where
  -- the transaction with one more lock
  abbrev after : Transaction
  after = record { changes = changes; locks = lock ∷ x.locks }

  -- one more line, that is answered and leaves what it would alone
  pub StandsAlone-next : ((t : Tables) → Agree (lock ∷ x.locks) present t → answer ≡ answer_alone line (with_changes x.changes t))
      → ((t : Tables) → Agree (lock ∷ x.locks) present t → after_alone line (with_changes x.changes t) ≡ with_changes changes t)
      → StandsAlone x present lines → StandsAlone after present (lines ++ (line, answer) ∷ [])
  StandsAlone-next answered left stands = record { told = told; seen = seen } where
    told : (t : Tables) → Agree (lock ∷ x.locks) present t → AreAlone (lines ++ (line, answer) ∷ []) t
    told t same =
        let before = agree-fewer lock x.locks present t same in
        map-append (λ (told : AnsweredLine). told.1) lines ((line, answer) ∷ [])
        ∙ ap (λ all. all ++ answer ∷ []) (stands.told t before)
        ∙ ap (λ a. alone (commands lines) t ++ a ∷ []) (answered t same ∙ ap (answer_alone line) (sym (stands.seen t before)))
        ∙ sym (alone-push (commands lines) line t)
        ∙ ap (λ all. alone all t) (sym (map-append (λ (told : AnsweredLine). told.0) lines ((line, answer) ∷ [])))

    seen : (t : Tables) → Agree (lock ∷ x.locks) present t → all_alone (commands (lines ++ (line, answer) ∷ [])) t ≡ with_changes changes t
    seen t same =
        let before = agree-fewer lock x.locks present t same in
        ap (λ all. all_alone all t) (map-append (λ (told : AnsweredLine). told.0) lines ((line, answer) ∷ []))
        ∙ all_alone-push (commands lines) line t
        ∙ ap (after_alone line) (stands.seen t before)
        ∙ left t same

-- The lines

-- a value that is not there
absent : (o : Option (List ℕ)) → is_some o ≡ false → o ≡ None
absent None e = refl
absent (Some value) e = cc

module _ (x : Transaction) (present : Tables) (lines : List AnsweredLine) (session : Session) (table : Table) where
  -- what the transaction sees at a place is the same on all tables that agree on a lock of it
  view : (lock : Lock) (p : Place) (t : Tables) → conflict (ExclusiveKey p) lock ≡ true → Agree (lock ∷ x.locks) present t
      → get (with_changes x.changes present) p ≡ get (with_changes x.changes t) p
  view lock p t covers same = with_changes-agree x.changes present t p (same p lock (zero, omega arith, refl) covers)

  -- a row that is read
  pub StandsAlone-get : (key : List ℕ) → StandsAlone x present lines
      → StandsAlone (record x { locks = ShareKey (table.0, key) ∷ x.locks }) present
      (lines ++ (GetRow session table key, plain (row_reply (get (with_changes x.changes present) (table.0, key)))) ∷ [])
  StandsAlone-get key = StandsAlone-next x x.changes (ShareKey (table.0, key)) present lines (GetRow session table key) _
      (λ t same. ap (λ found. plain (row_reply found)) (view (ShareKey (table.0, key)) (table.0, key) t (same_place-itself (table.0, key)) same))
      (λ t same. refl)

  -- a row that is set
  pub StandsAlone-put : (key value : List ℕ) → StandsAlone x present lines
      → StandsAlone (record { changes = x.changes ++ Put table key value ∷ []; locks = ExclusiveKey (table.0, key) ∷ x.locks }) present
      (lines ++ (PutRow session table key value, plain PutDone) ∷ [])
  StandsAlone-put key value = StandsAlone-next x (x.changes ++ Put table key value ∷ []) (ExclusiveKey (table.0, key)) present lines (PutRow session table key value) _
      (λ t same. refl)
      (λ t same. sym (with_changes-push x.changes (Put table key value) t))

  -- whether the transaction sees a row
  abbrev sees : List ℕ → Bool
  sees key = contains_key (with_changes x.changes present) (table.0, key)

  -- the answer to a deletion is the same on all tables that agree
  deletion : (key : List ℕ) (b : Bool) → sees key ≡ b → (t : Tables) → Agree (ExclusiveKey (table.0, key) ∷ x.locks) present t
      → (if b then plain DelDone else plain NoRow) ≡ answer_alone (DelRow session table key) (with_changes x.changes t)
  deletion key b there t same =
      ap (λ b. if b then plain DelDone else plain NoRow)
      (sym there ∙ ap is_some (view (ExclusiveKey (table.0, key)) (table.0, key) t (same_place-itself (table.0, key)) same))

  -- a row that is deleted
  pub StandsAlone-deleted : (key : List ℕ) → sees key ≡ true → StandsAlone x present lines
      → StandsAlone (record { changes = x.changes ++ Del table key ∷ []; locks = ExclusiveKey (table.0, key) ∷ x.locks }) present
      (lines ++ (DelRow session table key, plain DelDone) ∷ [])
  StandsAlone-deleted key there = StandsAlone-next x (x.changes ++ Del table key ∷ []) (ExclusiveKey (table.0, key)) present lines (DelRow session table key) _
      (deletion key true there)
      (λ t same. sym (with_changes-push x.changes (Del table key) t))

  -- a row that was to be deleted and is not there
  pub StandsAlone-absent : (key : List ℕ) → sees key ≡ false → StandsAlone x present lines
      → StandsAlone (record x { locks = ExclusiveKey (table.0, key) ∷ x.locks }) present
      (lines ++ (DelRow session table key, plain NoRow) ∷ [])
  StandsAlone-absent key there = StandsAlone-next x x.changes (ExclusiveKey (table.0, key)) present lines (DelRow session table key) _
      (deletion key false there)
      (λ t same. remove-absent (with_changes x.changes t) (table.0, key)
      (sym (view (ExclusiveKey (table.0, key)) (table.0, key) t (same_place-itself (table.0, key)) same) ∙ absent _ there))

  -- the rows of a table that are read
  pub StandsAlone-scan : StandsAlone x present lines
      → StandsAlone (record x { locks = ShareTable table.0 ∷ x.locks }) present
      (lines ++ (ScanTable session table, record { items = rows_of (with_changes x.changes present) table.0; reply = ScanOpen }) ∷ [])
  StandsAlone-scan = StandsAlone-next x x.changes (ShareTable table.0) present lines (ScanTable session table) _
      (λ t same i. record { items = rows_of-agree table.0 (with_changes x.changes present) (with_changes x.changes t) (λ p covers. view (ShareTable table.0) p t covers same) i; reply = ScanOpen })
      (λ t same. refl)
