-- One entry of the catalogue, read and set where it stands.
--     run_at      an item of a run, read from its place on
--     entry_at      the entry of a catalogue's page
--     table_set, entry_set_at      a row of a table with other fields; the page of the catalogue with another entry
--     entry_kept      the catalogue with another entry keeps its limits
use Rattle.std.proofs.Common.{◌≡◌, refl, sym, ap, ◌∙◌, ℕ, zero, suc, ◌+◌, ◌-◌, ◌*◌, ◌<◌, ◌^◌, Bool, true, ◌&&◌, List, [], ◌∷◌, ◌++◌, length, take, drop, Some, lt-ltb, eq-eqb, arith, append_assoc}
use Rattle.std.specs.Prelude.{nat_lt, slice_get, slice_set}
use Rattle.std.specs.List.{list_all}
use Rattle.std.proofs.lemmas.Bool.{eqb-true}
use Rattle.std.proofs.lemmas.List.{drop-drop, drop_at, length-set}
use Rattle.mdb_bytes.specs.declared.logical_pages.CatalogueEntry.{CatalogueEntry}
use Rattle.mdb_bytes.specs.declared.logical_pages.Catalogue.{Catalogue}
use Rattle.mdb_bytes.specs.Fields.{Field, Spells, fields_fit, spelled, read_run}
use Rattle.mdb_bytes.specs.Parts.{KeepsLimits, fields_len, table_fields, page_room}
use Rattle.mdb_bytes.specs.LogicalPages.{header_fields, catalogue_entry_fields, catalogue_entry_reads, catalogue_fields, catalogue_fits, catalogue_format}
use Rattle.mdb_bytes.proofs.Decoding.{and_left, and_right, and_both}
use Rattle.mdb_bytes.proofs.GroupLaw.{spelled-append}
use Rattle.mdb_bytes.proofs.PartBytes.{length-spelled}
use Rattle.mdb_bytes.proofs.LogicalPageLaws.{catalogue_again}
use Rattle.mdb_bytes.proofs.TableLaws.{room-section, table_more}

-- an item of a run is read from its place on
pub run_at : {X : Type 0} (reads : List ℕ → X) (size n i : ℕ) (bytes : List ℕ) → i < n → slice_get (read_run reads (λ v. size) n bytes) i ≡ Some (reads (drop (size * i) bytes))
unfolding read_run
run_at reads size zero i bytes lt = absurd (omega arith)
run_at reads size (suc n) zero bytes lt = let none : size * 0 ≡ 0 = omega arith in ap (λ (k : ℕ). Some (reads (drop k bytes))) (sym none)
run_at reads size (suc n) (suc i) bytes lt =
    let on : size * i + size ≡ size * suc i = omega arith in
    run_at reads size n i (drop size bytes) (omega arith)
    ∙ ap (λ (t : List ℕ). Some (reads t)) (drop-drop (size * i) size bytes ∙ ap (λ (k : ℕ). drop k bytes) (omega (arith, on)))

-- the entry of a catalogue's page is read from its place on
pub entry_at : (v : Catalogue) (bytes : List ℕ) (place : ℕ) → place < 500 → Spells catalogue_format v bytes → slice_get v.entries place ≡ Some (catalogue_entry_reads (drop (64 + 16 * place) bytes))
entry_at v bytes place lt s =
    let again : read_run catalogue_entry_reads (λ e. 16) 500 (drop 64 bytes) ≡ v.entries =
    ap (λ (b : List ℕ). read_run catalogue_entry_reads (λ e. 16) 500 (drop 64 b)) s.1 ∙ ap (λ (c : Catalogue). c.entries) (catalogue_again v s.0) in
    ap (λ (es : List CatalogueEntry). slice_get es place) (sym again)
    ∙ run_at catalogue_entry_reads 16 500 place (drop 64 bytes) lt
    ∙ ap (λ (t : List ℕ). Some (catalogue_entry_reads t)) (drop-drop (16 * place) 64 bytes ∙ ap (λ (k : ℕ). drop k bytes) (omega arith))

-- Lists

-- what stands behind a front that is left out, taken and dropped
take_past : (front rest : List ℕ) (m n : ℕ) → m ≡ length front + n → take m (front ++ rest) ≡ front ++ take n rest
take_past [] rest m n is = let same : m ≡ n = omega arith in ap (λ (k : ℕ). take k rest) same
take_past (x ∷ front) rest zero n is = absurd (omega arith)
take_past (x ∷ front) rest (suc m) n is = ap (λ (l : List ℕ). x ∷ l) (take_past front rest m n (omega arith))

drop_past : (front rest : List ℕ) (m n : ℕ) → m ≡ length front + n → drop m (front ++ rest) ≡ drop n rest
drop_past [] rest m n is = let same : m ≡ n = omega arith in ap (λ (k : ℕ). drop k rest) same
drop_past (x ∷ front) rest zero n is = absurd (omega arith)
drop_past (x ∷ front) rest (suc m) n is = drop_past front rest m n (omega arith)

-- other bytes in place of those from a place on
abbrev pub replaced : (at size : ℕ) → (other bytes : List ℕ) → List ℕ
replaced at size other bytes = take at bytes ++ (other ++ drop (at + size) bytes)

replaced_past : (front rest other : List ℕ) (m n size : ℕ) → m ≡ length front + n → replaced m size other (front ++ rest) ≡ front ++ replaced n size other rest
replaced_past front rest other m n size is =
    (λ i. take_past front rest m n is i ++ (other ++ drop_past front rest (m + size) (n + size) (omega (arith, is)) i))
    ∙ append_assoc front (take n rest) (other ++ drop (n + size) rest)

module _ {X : Type 0} (fields : X → List Field) (size : ℕ) (len : (x : X) → fields_len (fields x) ≡ size) where
  row_len : (x : X) → length (spelled (fields x)) ≡ size
  row_len x = length-spelled (fields x) ∙ len x

  -- a row of a table with other fields
  pub table_set : (room : ℕ) (xs : List X) (i : ℕ) (x : X) → i < length xs
      → replaced (size * i) size (spelled (fields x)) (spelled (table_fields fields size room xs)) ≡ spelled (table_fields fields size room (slice_set xs i x))
  table_set room [] i x lt = absurd (omega arith)
  table_set room (y ∷ ys) zero x lt =
      let rest = spelled (table_fields fields size (room - size) ys) in
      let none : size * 0 ≡ 0 = omega arith in
      let all : 0 + size ≡ size = omega arith in
      ap (λ (k : ℕ). replaced k size (spelled (fields x)) (spelled (table_fields fields size room (y ∷ ys)))) none
      ∙ ap (λ (k : ℕ). spelled (fields x) ++ drop k (spelled (table_fields fields size room (y ∷ ys)))) all
      ∙ ap (λ (b : List ℕ). spelled (fields x) ++ drop size b) (table_more fields size room y ys)
      ∙ ap (λ (b : List ℕ). spelled (fields x) ++ b) (drop_at (spelled (fields y)) rest size (row_len y))
      ∙ sym (table_more fields size room x ys)
  table_set room (y ∷ ys) (suc i) x lt =
      let rest = spelled (table_fields fields size (room - size) ys) in
      let on : size * suc i ≡ size + size * i = omega arith in
      ap (replaced (size * suc i) size (spelled (fields x))) (table_more fields size room y ys)
      ∙ replaced_past (spelled (fields y)) rest (spelled (fields x)) (size * suc i) (size * i) size (omega (arith, on, row_len y))
      ∙ ap (λ (b : List ℕ). spelled (fields y) ++ b) (table_set (room - size) ys i x (omega (arith, lt)))
      ∙ sym (table_more fields size room y (slice_set ys i x))

-- Limits

-- what holds of all items holds of all where one is set of which it holds
set_all : {X : Type 0} (p : X → Bool) (xs : List X) (i : ℕ) (x : X) → list_all p xs ≡ true → p x ≡ true → list_all p (slice_set xs i x) ≡ true
set_all p [] i x all here = all
set_all p (y ∷ ys) zero x all here = and_both (p x) (list_all p ys) here (and_right (p y) _ all)
set_all p (y ∷ ys) (suc i) x all here = and_both (p y) (list_all p (slice_set ys i x)) (and_left (p y) _ all) (set_all p ys i x (and_right (p y) _ all) here)

abbrev entry_fits : CatalogueEntry → Bool
entry_fits e = fields_fit (catalogue_entry_fields e)

abbrev catalogue_front : List Field
catalogue_front = header_fields 4 0 0 0 500 8000 0

front_fits : fields_fit catalogue_front ≡ true
front_fits = refl

entry_keeps : (entry : CatalogueEntry) → entry.root < 2 ^ 32 → entry.pages < 2 ^ 32 → entry.cost < 2 ^ 62 → entry_fits entry ≡ true
entry_keeps entry root pages cost =
    and_both (nat_lt entry.root (2 ^ 32)) (nat_lt entry.pages (2 ^ 32) && (nat_lt entry.cost (2 ^ 62) && true)) (lt-ltb entry.root (2 ^ 32) root)
    (and_both (nat_lt entry.pages (2 ^ 32)) (nat_lt entry.cost (2 ^ 62) && true) (lt-ltb entry.pages (2 ^ 32) pages)
    (and_both (nat_lt entry.cost (2 ^ 62)) true (lt-ltb entry.cost (2 ^ 62) cost) refl))

abbrev with_place : Catalogue → (place : ℕ) → CatalogueEntry → Catalogue
with_place v place entry = record { entries = slice_set v.entries place entry }

tables_all : (v : Catalogue) → KeepsLimits catalogue_format v → length v.entries ≡ 500
tables_all v kept = eqb-true (length v.entries) 500 (and_left (catalogue_fits v) _ kept)

-- the catalogue with another entry keeps its limits
pub entry_kept : (v : Catalogue) (place : ℕ) (entry : CatalogueEntry) → KeepsLimits catalogue_format v → entry.root < 2 ^ 32 → entry.pages < 2 ^ 32 → entry.cost < 2 ^ 62 → KeepsLimits catalogue_format (with_place v place entry)
entry_kept v place entry kept root pages cost =
    let es = v.entries in
    let set = slice_set es place entry in
    let len : length set ≡ 500 = length-set es place entry ∙ tables_all v kept in
    let fits : (fields_fit catalogue_front && list_all entry_fits es) ≡ true = sym (room-section catalogue_entry_fields 16 page_room catalogue_front es) ∙ and_right (catalogue_fits v) _ kept in
    let fits_set : list_all entry_fits set ≡ true = set_all entry_fits es place entry (and_right (fields_fit catalogue_front) _ fits) (entry_keeps entry root pages cost) in
    and_both (catalogue_fits (with_place v place entry)) (fields_fit (catalogue_fields (with_place v place entry))) (eq-eqb (length set) 500 len)
    (room-section catalogue_entry_fields 16 page_room catalogue_front set ∙ and_both (fields_fit catalogue_front) (list_all entry_fits set) front_fits fits_set)

-- the page of the catalogue with another entry
pub entry_set_at : (v : Catalogue) (place : ℕ) (entry : CatalogueEntry) (old new : List ℕ) → place < 500 → entry.root < 2 ^ 32 → entry.pages < 2 ^ 32 → Spells catalogue_format v old → entry.cost < 2 ^ 62
    → new ≡ replaced (64 + 16 * place) 16 (spelled (catalogue_entry_fields entry)) old → Spells catalogue_format (with_place v place entry) new
entry_set_at v place entry old new lt root pages s cost is =
    let table = table_fields catalogue_entry_fields 16 page_room v.entries in
    let at = 64 + 16 * place in (
      entry_kept v place entry s.0 root pages cost,
      is ∙ ap (replaced at 16 (spelled (catalogue_entry_fields entry))) (s.1 ∙ spelled-append catalogue_front table)
          ∙ replaced_past (spelled catalogue_front) (spelled table) (spelled (catalogue_entry_fields entry)) at (16 * place) 16 (omega (arith, length-spelled catalogue_front))
          ∙ ap (λ (b : List ℕ). spelled catalogue_front ++ b) (table_set catalogue_entry_fields 16 (λ e. refl) page_room v.entries place entry (omega (arith, tables_all v s.0)))
          ∙ sym (spelled-append catalogue_front (table_fields catalogue_entry_fields 16 page_room (slice_set v.entries place entry))),
    )
