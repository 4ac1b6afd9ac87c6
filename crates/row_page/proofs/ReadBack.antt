-- What a page shows is read back from its bytes.
--     head_is, entries_are      what is read of a page
--     is_page, becomes      what bytes show, they are
use Rattle.std.proofs.Common.{◌≡◌, ℕ, suc, ◌+◌, ◌^◌, ◌<◌, Bool, true, false, List, [], ◌∷◌, ◌++◌, length, take, drop, refl, sym, ap, ◌∙◌, arith, append_assoc, inl, inr}
use Rattle.std.proofs.lemmas.List.{drop_at, take_at, drop-drop}
use Rattle.byteorder.specs.Numbers.{big_number-reads_back}
use Rattle.mdb_bytes.specs.Fields.{number_at}
use Rattle.row_page.proofs.FieldPlaces.{two_in, four_in, byte_in}
use Rattle.row_page.specs.Page.{joined_cells, page_body, used}
use Rattle.row_page.specs.Entries.{PageEntry, Head, ShowsEntries, IsPage, full_head_fields, cells, cell_of, cell_len, is_leaf, AllKept, KeepsEntry, page_head_of, entries_of, read_cells, front_entry, Becomes}
use Rattle.row_page.proofs.Bodies.{run_cons}
use Rattle.row_page.proofs.Entries.{length-cell}
use Rattle.row_page.proofs.Pages.{whole, count_is, cell_key_len, cell_key}
use Rattle.row_page.proofs.Edits.{page_parts}

-- heads of the same numbers
same_head : (a b : Head) → a.kind ≡ b.kind → a.level ≡ b.level → a.table ≡ b.table → a.own ≡ b.own → a.next ≡ b.next → a ≡ b
same_head a b p q r s t = rw (p, q, r, s, t) refl

-- the head of a page is read
pub head_is : (page : List ℕ) (h : Head) (es : List PageEntry) → ShowsEntries page h es → page_head_of page ≡ h
unfolding page_head_of
head_is page h es s =
    let fs = full_head_fields h (length es) (used (cells (is_leaf h) es)) in
    let b = page_body 8128 (cells (is_leaf h) es) in
    let w = whole page h es s in
    let i = s.head in
    let kind : h.kind < 2 ^ 8 = elim i.kind [ inl e ↦ (let k = e.0 in omega arith) | inr e ↦ (let k = e.0 in omega arith) ] in
    let level : h.level < 2 ^ 8 = elim i.kind [ inl e ↦ (let k = e.1 in omega arith) | inr e ↦ (let k = e.2 in omega arith) ] in
    let table : h.table < 2 ^ 16 = (let k = i.table.1 in omega arith) in
    same_head (page_head_of page) h
    (ap (number_at 1 0) w ∙ byte_in fs b 0 h.kind kind refl)
    (ap (number_at 1 1) w ∙ byte_in fs b 1 h.level level refl)
    (ap (number_at 2 2) w ∙ two_in fs b 2 h.table table refl)
    (ap (number_at 4 4) w ∙ four_in fs b 4 h.own i.own refl)
    (ap (number_at 4 12) w ∙ four_in fs b 12 h.next i.next refl)

-- entries of the same bytes
same_entry : (a b : PageEntry) → a.key ≡ b.key → a.rest ≡ b.rest → a ≡ b
same_entry a b p q = rw (p, q) refl

-- the key at the front of a run
front_key : (leaf : Bool) (e : PageEntry) (more : List ℕ) → KeepsEntry leaf e → take (number_at 2 0 (cell_of leaf e ++ more)) (drop 6 (cell_of leaf e ++ more)) ≡ e.key
unfolding number_at
front_key leaf e more k = ap (λ (n : ℕ). take n (drop 6 (cell_of leaf e ++ more))) (cell_key_len leaf e more k) ∙ cell_key leaf e more k

-- the value at the front of a run
front_value : (e : PageEntry) (more : List ℕ) → KeepsEntry true e
    → take (number_at 2 2 (cell_of true e ++ more)) (drop (6 + number_at 2 0 (cell_of true e ++ more)) (cell_of true e ++ more)) ≡ e.rest
unfolding number_at cell_of
front_value e more k =
    let bytes = cell_of true e ++ more in
    let n : number_at 2 2 bytes ≡ length e.rest = big_number-reads_back 2 (length e.rest) ((0 ∷ 0 ∷ [] ++ (e.key ++ e.rest)) ++ more) (let l = k.2 in omega arith) in
    let m : number_at 2 0 bytes ≡ length e.key = cell_key_len true e more k in
    let d : drop (6 + length e.key) bytes ≡ e.rest ++ more =
    sym (drop-drop (length e.key) 6 bytes) ∙ ap (drop (length e.key)) (append_assoc e.key e.rest more) ∙ drop_at e.key (e.rest ++ more) (length e.key) refl in
    ap (λ (i : ℕ). take (number_at 2 2 bytes) (drop (6 + i) bytes)) m ∙ ap (λ (i : ℕ). take i (drop (6 + length e.key) bytes)) n ∙ ap (take (length e.rest)) d ∙ take_at e.rest more (length e.rest) refl

-- the child at the front of a run
front_child : (e : PageEntry) (more : List ℕ) → KeepsEntry false e → take 4 (drop 2 (cell_of false e ++ more)) ≡ e.rest
unfolding cell_of
front_child e more k = ap (take 4) (append_assoc e.rest e.key more) ∙ take_at e.rest (e.key ++ more) 4 k.1

-- the entry at the front of a run
front_is : (leaf : Bool) (e : PageEntry) (more : List ℕ) → KeepsEntry leaf e → front_entry leaf (cell_of leaf e ++ more) ≡ e
front_is true e more k = same_entry (front_entry true (cell_of true e ++ more)) e (front_key true e more k) (front_value e more k)
front_is false e more k = same_entry (front_entry false (cell_of false e ++ more)) e (front_key false e more k) (front_child e more k)

-- the entries of a run are read
read_is : (leaf : Bool) (es : List PageEntry) (more : List ℕ) → AllKept leaf es → read_cells leaf (length es) (joined_cells (cells leaf es) ++ more) ≡ es
read_is leaf [] more all = refl
read_is leaf (e ∷ es) more all =
    let k : KeepsEntry leaf e = all 0 (omega arith) in
    let rest : AllKept leaf es = λ i lt. all (suc i) (omega arith) in
    let bytes : joined_cells (cells leaf (e ∷ es)) ++ more ≡ cell_of leaf e ++ (joined_cells (cells leaf es) ++ more) =
    ap (λ (t : List ℕ). t ++ more) (run_cons (cell_of leaf e) (cells leaf es)) ∙ append_assoc (cell_of leaf e) (joined_cells (cells leaf es)) more in
    let f = front_is leaf e (joined_cells (cells leaf es) ++ more) k in
    ap (read_cells leaf (suc (length es))) bytes
    ∙ ap (λ (x : PageEntry). x ∷ read_cells leaf (length es) (drop (cell_len leaf x) (cell_of leaf e ++ (joined_cells (cells leaf es) ++ more)))) f
    ∙ ap (λ (t : List ℕ). e ∷ read_cells leaf (length es) t) (drop_at (cell_of leaf e) (joined_cells (cells leaf es) ++ more) (cell_len leaf e) (length-cell leaf e))
    ∙ ap (λ (t : List PageEntry). e ∷ t) (read_is leaf es more rest)

-- the entries of a page are read
pub entries_are : (page : List ℕ) (h : Head) (es : List PageEntry) → ShowsEntries page h es → entries_of page ≡ es
unfolding entries_of page_body
entries_are page h es s =
    let hd = head_is page h es s in
    ap (λ (x : Head). read_cells (is_leaf x) (number_at 2 8 page) (drop 64 page)) hd
    ∙ ap (λ (n : ℕ). read_cells (is_leaf h) n (drop 64 page)) (count_is page h es s)
    ∙ ap (read_cells (is_leaf h) (length es)) (page_parts page h es s).1
    ∙ read_is (is_leaf h) es _ s.entries.kept

-- bytes that show a head and entries are a page
pub is_page : (page : List ℕ) (h : Head) (es : List PageEntry) → ShowsEntries page h es → IsPage page
is_page page h es s =
    let hd = sym (head_is page h es s) in
    let ent = sym (entries_are page h es s) in
    rw (← hd, ← ent) s

-- new bytes that show the old head and entries are what the page becomes
pub becomes : (old new : List ℕ) (es : List PageEntry) → ShowsEntries new (page_head_of old) es → Becomes old new es
becomes old new es s = record { page = is_page new (page_head_of old) es s; head = head_is new (page_head_of old) es s; entries = entries_are new (page_head_of old) es s }
