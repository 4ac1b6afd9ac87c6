-- Rows of fields in their room.
--     table_none, table_more      what a table is written as
--     rows_again      rows that were spelled are read again
--     drop_fields, number_behind      what stands after some fields
--     fields_len-table      a table takes its room
--     length-section, section_again      the same of some fields and a table after them
use Rattle.std.proofs.Common.{◌≡◌, refl, sym, ap, ◌∙◌, ℕ, suc, ◌+◌, ◌-◌, ◌*◌, ◌<◌, ◌≤◌, Bool, true, false, List, [], ◌∷◌, ◌++◌, length, take, drop, arith, append_assoc, zero-add, get_or, set}
use Rattle.std.specs.Prelude.{replicate, ◌&&◌}
use Rattle.std.specs.List.{flat_map, list_all}
use Rattle.std.proofs.lemmas.List.{append-nil, drop_at, drop-drop, take_all, take_more_set}
use Rattle.std.proofs.lemmas.List.Concat.{flat_map-cons}
use Rattle.std.proofs.lemmas.List.Folds.{list_all-append}
use Rattle.byteorder.specs.Endian.{big_number}
use Rattle.mdb_bytes.specs.Fields.{Field, Zeros, Text, field_fits, fields_fit, spelled, number_at, read_run}
use Rattle.mdb_bytes.specs.Parts.{fields_len, table_fields, word_format}
use Rattle.mdb_bytes.proofs.GroupBack.{all_right}
use Rattle.mdb_bytes.proofs.GroupLaw.{spelled-append}
use Rattle.mdb_bytes.proofs.PartBytes.{length-spelled}
use Rattle.mdb_bytes.proofs.ReadBack.{four_in}

-- Reading row by row

-- what the rows that are left take
pub rows_left : (size count i : ℕ) → i < count → size * (count - i) ≡ size + size * (count - (i + 1))
rows_left size count i lt = let k : count - i ≡ (count - (i + 1)) + 1 = omega arith in rw k (omega arith)

-- one row, and the others
one_row : {X : Type 0} (size : ℕ) (reads : List ℕ → X) (count i : ℕ) (rest : List ℕ) → i < count
    → read_run reads (λ v. size) (count - i) rest ≡ reads rest ∷ read_run reads (λ v. size) (count - (i + 1)) (drop size rest)
unfolding read_run
one_row size reads count i rest lt = let k : count - i ≡ suc (count - (i + 1)) = omega arith in rw k refl

-- a row that was read is put after the others
pub row_kept : {X : Type 0} (size : ℕ) (reads : List ℕ → X) (count i : ℕ) (front pushed : List X) (x : X) (rest next : List ℕ) (total : List X) → i < count
    → next ≡ drop size rest → x ≡ reads rest → pushed ≡ front ++ x ∷ [] → front ++ read_run reads (λ v. size) (count - i) rest ≡ total
    → pushed ++ read_run reads (λ v. size) (count - (i + 1)) next ≡ total
row_kept size reads count i front pushed x rest next total lt n-is x-is p-is so_far =
    let one = one_row size reads count i rest lt in
    let whole : front ++ (reads rest ∷ read_run reads (λ v. size) (count - (i + 1)) (drop size rest)) ≡ total = rw one at so_far in
    rw (p-is, x-is, n-is) (append_assoc front (reads rest ∷ []) (read_run reads (λ v. size) (count - (i + 1)) (drop size rest)) ∙ whole)

-- no row is left
pub rows_done : {X : Type 0} (size : ℕ) (reads : List ℕ → X) (n : ℕ) (rows : List X) (rest : List ℕ) (total : List X) → n ≡ 0
    → rows ++ read_run reads (λ v. size) n rest ≡ total → rows ≡ total
unfolding read_run
rows_done size reads n rows rest total none so_far =
    let ended : rows ++ [] ≡ total = rw none at so_far in
    sym (append-nil rows) ∙ ended

-- one more of the rows that are there is read
pub rows_kept : {X : Type 0} (size : ℕ) (reads : List ℕ → X) (n i : ℕ) (rows : List X) (x : X) (rest next : List ℕ) (total : List X) → i < n → i < length rows
    → next ≡ drop size rest → x ≡ reads rest → take i rows ++ read_run reads (λ v. size) (n - i) rest ≡ total
    → take (i + 1) (set rows i x) ++ read_run reads (λ v. size) (n - (i + 1)) next ≡ total
rows_kept size reads n i rows x rest next total lt in_rows next_is x_is so_far =
    row_kept size reads n i (take i rows) (take (i + 1) (set rows i x)) x rest next total lt next_is x_is (take_more_set rows i x in_rows) so_far

-- all of them are read
pub rows_filled : {X : Type 0} (size : ℕ) (reads : List ℕ → X) (n i : ℕ) (rows : List X) (rest : List ℕ) (total : List X) → n ≤ i → length rows ≡ n
    → take i rows ++ read_run reads (λ v. size) (n - i) rest ≡ total → rows ≡ total
rows_filled size reads n i rows rest total le len so_far =
    sym (take_all i rows (omega arith)) ∙ rows_done size reads (n - i) (take i rows) rest total (omega arith) so_far

-- Lengths and places

-- how many bytes two lists of fields have
pub fields_len-append : (xs ys : List Field) → fields_len (xs ++ ys) ≡ fields_len xs + fields_len ys
fields_len-append [] ys = sym (zero-add (fields_len ys))
fields_len-append (x ∷ xs) ys = omega (arith, fields_len-append xs ys)

-- what stands after some fields
pub drop_fields : (xs ys : List Field) (n : ℕ) → fields_len xs ≡ n → drop n (spelled (xs ++ ys)) ≡ spelled ys
drop_fields xs ys n len = ap (drop n) (spelled-append xs ys) ∙ drop_at (spelled xs) (spelled ys) n (length-spelled xs ∙ len)

-- a number after some fields
pub number_behind : (width at n : ℕ) (xs ys : List Field) → fields_len xs ≡ n → number_at width (n + at) (spelled (xs ++ ys)) ≡ number_at width at (spelled ys)
unfolding number_at
number_behind width at n xs ys len =
    ap (big_number width) (sym (drop-drop at n (spelled (xs ++ ys))) ∙ ap (drop at) (drop_fields xs ys n len))

module _ {X : Type 0} (fields : X → List Field) (size : ℕ) where
  -- no rows are zeros alone
  pub table_none : (room : ℕ) → spelled (table_fields fields size room []) ≡ replicate room 0
  unfolding spelled
  table_none room = let none : room - size * 0 ≡ room = omega arith in append-nil (replicate (room - size * 0) 0) ∙ ap (λ (n : ℕ). replicate n 0) none

  -- the first row, and the table of the others
  pub table_more : (room : ℕ) (x : X) (xs : List X)
      → spelled (table_fields fields size room (x ∷ xs)) ≡ spelled (fields x) ++ spelled (table_fields fields size (room - size) xs)
  table_more room x xs =
      let product : size * suc (length xs) ≡ size + size * length xs = omega arith in
      let left : room - size * suc (length xs) ≡ room - size - size * length xs = omega (arith, product) in
      ap (λ (n : ℕ). spelled (flat_map fields (x ∷ xs) ++ Zeros n ∷ [])) left
      ∙ ap (λ (fs : List Field). spelled (fs ++ Zeros (room - size - size * length xs) ∷ [])) (flat_map-cons fields x xs)
      ∙ ap spelled (append_assoc (fields x) (flat_map fields xs) (Zeros (room - size - size * length xs) ∷ []))
      ∙ spelled-append (fields x) (table_fields fields size (room - size) xs)

  -- no row is left to write
  pub table_ends : (room : ℕ) (xs : List X) (bytes : List ℕ) → length xs < 1 → bytes ≡ replicate room 0 → bytes ≡ spelled (table_fields fields size room xs)
  table_ends room [] bytes lt is = is ∙ sym (table_none room)
  table_ends room (x ∷ xs) bytes lt is = absurd (omega arith)

  -- a row is written, and then the others
  pub table_begins : (room n : ℕ) (x : X) (xs rest : List X) (front back : List ℕ) → 1 ≤ length xs → x ≡ get_or xs 0 x → rest ≡ take (length xs - 1) (drop 1 xs) → n ≡ room - size
      → front ≡ spelled (fields x) → back ≡ spelled (table_fields fields size n rest) → front ++ back ≡ spelled (table_fields fields size room xs)
  table_begins room n x [] rest front back le at behind less first others = absurd (omega arith)
  table_begins room n x (y ∷ ys) rest front back le at behind less first others =
      let all : rest ≡ ys = behind ∙ take_all (suc (length ys) - 1) ys (omega arith) in
      (λ i. (first ∙ ap (λ (x : X). spelled (fields x)) at) i ++ (others ∙ (λ j. spelled (table_fields fields size (less j) (all j)))) i)
      ∙ sym (table_more room y ys)

  module _ (len : (x : X) → fields_len (fields x) ≡ size) where
    -- how many bytes rows have
    fields_len-rows : (xs : List X) → fields_len (flat_map fields xs) ≡ size * length xs
    fields_len-rows [] = omega arith
    fields_len-rows (x ∷ xs) =
        ap fields_len (flat_map-cons fields x xs) ∙ fields_len-append (fields x) (flat_map fields xs) ∙ (λ i. len x i + fields_len-rows xs i) ∙ omega arith

    -- a table takes its room
    pub fields_len-table : (room : ℕ) (xs : List X) → size * length xs ≤ room → fields_len (table_fields fields size room xs) ≡ room
    fields_len-table room xs le = omega (arith, fields_len-append (flat_map fields xs) (Zeros (room - size * length xs) ∷ []), fields_len-rows xs, le)

    module _ (reads : List ℕ → X) (again : (x : X) (more : List Field) → list_all field_fits (fields x ++ more) ≡ true → reads (spelled (fields x ++ more)) ≡ x) where
      -- rows that were spelled are read again
      pub rows_again : (xs : List X) (more : List Field) → list_all field_fits (flat_map fields xs ++ more) ≡ true
          → read_run reads (λ v. size) (length xs) (spelled (flat_map fields xs ++ more)) ≡ xs
      unfolding read_run
      rows_again [] more fit = refl
      rows_again (x ∷ xs) more fit =
          let rest : List Field = flat_map fields xs ++ more in
          let parts : flat_map fields (x ∷ xs) ++ more ≡ fields x ++ rest = ap (λ (fs : List Field). fs ++ more) (flat_map-cons fields x xs) ∙ append_assoc (fields x) (flat_map fields xs) more in
          let fit_parts : list_all field_fits (fields x ++ rest) ≡ true = ap (list_all field_fits) (sym parts) ∙ fit in
          let first : reads (spelled (flat_map fields (x ∷ xs) ++ more)) ≡ x = ap (λ (fs : List Field). reads (spelled fs)) parts ∙ again x rest fit_parts in
          let others : read_run reads (λ v. size) (length xs) (drop size (spelled (flat_map fields (x ∷ xs) ++ more))) ≡ xs =
          ap (λ (fs : List Field). read_run reads (λ v. size) (length xs) (drop size (spelled fs))) parts
          ∙ ap (read_run reads (λ v. size) (length xs)) (drop_fields (fields x) rest size (len x))
          ∙ rows_again xs more (all_right (fields x) rest fit_parts) in
          λ i. first i ∷ others i

-- A section: some fields, and a table after them

module _ {X : Type 0} (fields : X → List Field) (size at room : ℕ) (front : List Field) (front_len : fields_len front ≡ at) (len : (x : X) → fields_len (fields x) ≡ size) where
  -- how many bytes it has
  pub length-section : (xs : List X) → size * length xs ≤ room → length (spelled (front ++ table_fields fields size room xs)) ≡ at + room
  length-section xs le =
      length-spelled (front ++ table_fields fields size room xs)
      ∙ omega (arith, fields_len-append front (table_fields fields size room xs), front_len, fields_len-table fields size len room xs le)

  -- its rows are read again
  pub section_again : (reads : List ℕ → X) → ((x : X) (more : List Field) → list_all field_fits (fields x ++ more) ≡ true → reads (spelled (fields x ++ more)) ≡ x)
      → (xs : List X) → list_all field_fits (front ++ table_fields fields size room xs) ≡ true
      → read_run reads (λ v. size) (length xs) (drop at (spelled (front ++ table_fields fields size room xs))) ≡ xs
  section_again reads again xs fit =
      ap (read_run reads (λ v. size) (length xs)) (drop_fields front (table_fields fields size room xs) at front_len)
      ∙ rows_again fields size len reads again xs (Zeros (room - size * length xs) ∷ []) (all_right front (table_fields fields size room xs) fit)

-- a test and one that holds
pub and_true : (b : Bool) → (b && true) ≡ b
and_true true = refl
and_true false = refl

-- the room of the numbers of rows
pub room-rows : {X : Type 0} (fields : X → List Field) (xs : List X) → fields_fit (flat_map fields xs) ≡ list_all (λ x. fields_fit (fields x)) xs
room-rows fields [] = refl
room-rows fields (x ∷ xs) =
    ap fields_fit (flat_map-cons fields x xs) ∙ list_all-append field_fits (fields x) (flat_map fields xs) ∙ ap (λ b. fields_fit (fields x) && b) (room-rows fields xs)

-- the same of a section: some fields, and a table after them
pub room-section : {X : Type 0} (fields : X → List Field) (size room : ℕ) (front : List Field) (xs : List X)
    → fields_fit (front ++ table_fields fields size room xs) ≡ (fields_fit front && list_all (λ x. fields_fit (fields x)) xs)
room-section fields size room front xs =
    list_all-append field_fits front (table_fields fields size room xs)
    ∙ ap (λ b. fields_fit front && b) (list_all-append field_fits (flat_map fields xs) (Zeros (room - size * length xs) ∷ []) ∙ and_true (fields_fit (flat_map fields xs)) ∙ room-rows fields xs)

-- a test of both parts
pub section_room : {X : Type 0} (fields : X → List Field) (size : ℕ) (front : List Field) (xs : List X) (all : Bool)
    → all ≡ (fields_fit front && list_all (λ x. fields_fit (fields x)) xs) → (room : ℕ) → all ≡ fields_fit (front ++ table_fields fields size room xs)
section_room fields size front xs all is room = is ∙ sym (room-section fields size room front xs)

-- a test that goes on after one that holds, and one that ends there
pub then_and : (p r a b : Bool) → p ≡ true → p ≡ a → r ≡ b → r ≡ (a && b)
then_and p r a b holds is more = more ∙ ap (λ t. t && b) (sym holds ∙ is)

-- and one that ends there
pub else_and : (p a b : Bool) → p ≡ false → p ≡ a → false ≡ (a && b)
else_and p a b fails is = ap (λ t. t && b) (sym fails ∙ is)

-- the room of two lists of fields
pub both_rooms : (xs ys : List Field) (b : Bool) → b ≡ (fields_fit xs && fields_fit ys) → b ≡ fields_fit (xs ++ ys)
both_rooms xs ys b is = is ∙ sym (list_all-append field_fits xs ys)

-- two parts that were written
pub spelled_both : (xs ys : List Field) (a b : List ℕ) → a ≡ spelled xs → b ≡ spelled ys → a ++ b ≡ spelled (xs ++ ys)
spelled_both xs ys a b x y = (λ i. x i ++ y i) ∙ sym (spelled-append xs ys)

-- a number of four bytes is read again
pub word_again : (n : ℕ) (more : List Field) → list_all field_fits (word_format.fields n ++ more) ≡ true → word_format.reads (spelled (word_format.fields n ++ more)) ≡ n
word_again n more fit = four_in (word_format.fields n ++ more) 0 n fit refl

-- a text and zeros after it, of any length
pub text_zeros : (text a b : List ℕ) (n : ℕ) → a ≡ text → b ≡ replicate n 0 → a ++ b ≡ spelled (Text text ∷ Zeros n ∷ [])
unfolding spelled
text_zeros text a b n x y = λ i. x i ++ (y ∙ sym (append-nil (replicate n 0))) i
