-- The sums with one more change.
--     same-open      a change as it is kept
--     noted-sums      the sums with it, from those without it
--     after-note      the sums with it are the running sums
use Rattle.std.proofs.Common.{◌≡◌, refl, sym, ap, subst, ◌∙◌, ℕ, ◌+◌, ◌-◌, ◌*◌, ◌/◌, ◌^◌, ◌<◌, ◌≤◌, inl, inr, ◌&&◌, List, [], length, get_or, set, Option, Some, None, option_map, arith, IsTrue}
use Rattle.std.specs.Prelude.{nat_eq, nat_le, sum_by, Vec}
use Rattle.std.specs.declared.alloc.Global.{Global}
use Rattle.std.proofs.lemmas.List.{get_or-map, map-set, length-map}
use Rattle.mdb_model.specs.Script.{is_table, is_session, is_key, is_value}
use Rattle.mdb_bytes.specs.Groups.{change_fits}
use Rattle.mdb_bytes.proofs.Decoding.{and_left, and_right}
use Rattle.std.proofs.lemmas.Bool.{cases_Bool, cases_order, eqb-true, leb-true}
use Rattle.std.proofs.lemmas.List.{get_or-set_same, get_or-set_other, length-set}
use Rattle.mdb_model.specs.declared.change.Change.{Change}
use Rattle.mdb_model.specs.declared.change.Change.TheVariants.{Put, Del}
use Rattle.mdb_model.specs.declared.name.Table.{Table}
use Rattle.std.proofs.lemmas.Option.{same_Some}
use Rattle.mdb_model.specs.Tables.{place_of}
use Rattle.mdb_model.specs.Space.{table_pages}
use Rattle.space_rule.specs.declared.open_change.OpenChange.{OpenChange}
use Rattle.space_rule.specs.KnownCosts.{changes_at, growth_on, growth_of, open_table_cost, all_table_pages, undo_cost, undo_pages_for, session_undo, undo_of, opened_change, with_open}
use Rattle.space_rule.specs.Weighing.{AreSums, IsInOrder, lists}
use Rattle.space_rule.proofs.Sums.{growth-set, growth-noted, undo-set, session_in, pages-at, table_in}

-- the length before is kept as it is known
pub before-is : (change : Change) (before : Option ℕ) → (opened_change change before).before ≡ before
before-is (Put table key value) before = refl
before-is (Del table key) before = refl

-- changes of the same parts
same_parts : (x y : OpenChange) → x.table ≡ y.table → x.key ≡ y.key → x.before ≡ y.before → x.now ≡ y.now → x ≡ y
same_parts x y e f g h = rw (e, f, g, h) refl

-- a change as it is kept
pub same-open : (change : Change) (before b n : Option ℕ) (table : Table) (key : List ℕ) → table ≡ (opened_change change before).table → key ≡ (opened_change change before).key → b ≡ before
    → n ≡ (opened_change change before).now → record { table = table; key = key; before = b; now = n } ≡ opened_change change before
same-open change before b n table key e f g h =
    let x = opened_change change before in
    same_parts (record { table = table; key = key; before = b; now = n }) x e f (g ∙ sym (before-is change before)) h

-- what holds of each item and of a new one holds after that one was set
pub set-all : {X : Type 0} (P : ℕ → X → Type 0) (ys : List X) (at : ℕ) (y d : X) (n : ℕ) → at < length ys → P at y → ((i : ℕ) → i < n → (i ≡ at → ⊥) → P i (get_or ys i d))
    → (i : ℕ) → i < n → P i (get_or (set ys at y) i d)
set-all P ys at y d n inside new old i lt = elim (cases_order i at) [
  | inl same ↦ subst (λ k. P k (get_or (set ys at y) k d)) (sym same) (subst (P at) (sym (get_or-set_same ys at y d inside)) new)
  | inr (inl below) ↦ let other : i ≡ at → ⊥ = (λ e. omega arith) in subst (P i) (sym (get_or-set_other ys at i y d other)) (old i lt other)
  | inr (inr above) ↦ let other : i ≡ at → ⊥ = (λ e. omega arith) in subst (P i) (sym (get_or-set_other ys at i y d other)) (old i lt other)
]

-- few pages are of a small cost
pub small-cost : (n : ℕ) → table_pages n ≤ 2 ^ 32 → n < 2 ^ 62
small-cost n few = elim (cases_Bool (nat_eq n 0)) [
  | inl is ↦ let none = eqb-true n 0 is in omega arith
  | inr is ↦ elim (cases_Bool (nat_le n 8128)) [
    | inl le ↦ let low = leb-true n 8128 le in omega arith
    | inr gt ↦ let three : 4 + (3 * n + 8128 - 1) / 8128 ≤ 2 ^ 32 = rw (is, gt) at few in omega arith
  ]
]

-- few undo pages are of few bytes
pub small-bytes : (n : ℕ) → undo_pages_for n ≤ 2 ^ 32 → n < 2 ^ 62
small-bytes n few = elim (cases_Bool (nat_eq n 0)) [
  | inl is ↦ let none = eqb-true n 0 is in omega arith
  | inr is ↦ let two : 1 + (2 * n + 8128 - 1) / 8128 ≤ 2 ^ 32 = rw is at few in omega arith
]

module _ (committed grown : List ℕ) (sessions : List (List OpenChange)) (undo_bytes : List ℕ) (pages undo : ℕ) (s : ℕ) (x : OpenChange) (new_grown new_bytes : ℕ)
    (sums : AreSums committed grown sessions undo_bytes pages undo) (inside : s < 65) (low : 1 ≤ x.table.0) (high : x.table.0 ≤ 500) where
  abbrev pub xs : List OpenChange
  xs = changes_at sessions s

  abbrev pub t : ℕ
  t = x.table.0

  abbrev pub more : List (List OpenChange)
  more = set sessions s (with_open x xs)

  -- there is such a session
  pub here : s < length sessions
  here = let l = sums.many_sessions.0 in omega arith

  -- the cost of the table before
  old-cost : get_or committed t 0 + get_or grown t 0 ≡ open_table_cost committed sessions t
  old-cost = ap (λ n. get_or committed t 0 + n) (sums.grown_is t (omega (arith, high)))

  -- the pages of the table are among the pages
  pub old-pages : table_pages (get_or committed t 0 + get_or grown t 0) ≤ pages
  old-pages =
      let a = ap table_pages old-cost in
      let b = table_in committed sessions t low high in
      let c = sums.pages_is in
      omega arith

  -- the undo pages of the session are among those of all
  pub old-undo : undo_pages_for (get_or undo_bytes s 0) ≤ undo
  old-undo =
      let a = ap undo_pages_for (sums.bytes_are s inside) in
      let b = session_in s sessions here in
      let c = sums.undo_is in
      omega arith

  module _ (grows : new_grown + sum_by (growth_on t) xs ≡ get_or grown t 0 + sum_by (growth_on t) (with_open x xs))
      (weighs : new_bytes + sum_by undo_cost xs ≡ get_or undo_bytes s 0 + sum_by undo_cost (with_open x xs)) where
    -- the growth of the table
    pub new-grown : new_grown ≡ growth_of t more
    new-grown =
        let a = growth-set t s sessions (with_open x xs) here in
        let b = sums.grown_is t (omega arith) in
        omega arith

    -- the bytes of the before images of the session
    pub new-bytes : new_bytes ≡ sum_by undo_cost (with_open x xs)
    new-bytes = let a = sums.bytes_are s inside in omega arith

    -- the cost of the table
    new-cost : get_or committed t 0 + new_grown ≡ open_table_cost committed more t
    new-cost = ap (λ n. get_or committed t 0 + n) new-grown

    -- the pages of all tables
    pub new-pages : pages - table_pages (get_or committed t 0 + get_or grown t 0) + table_pages (get_or committed t 0 + new_grown) ≡ all_table_pages committed more
    new-pages =
        let a = ap table_pages old-cost in
        let b = ap table_pages new-cost in
        let c = sums.pages_is in
        let d = old-pages in
        let e = pages-at committed committed more sessions t low high (λ i other. ap (λ n. get_or committed i 0 + n) (growth-noted i s sessions x here (λ f. other (sym f)))) in
        omega arith

    -- the undo pages of all sessions
    pub new-undo : undo - undo_pages_for (get_or undo_bytes s 0) + undo_pages_for new_bytes ≡ undo_of more
    new-undo =
        let a = ap undo_pages_for (sums.bytes_are s inside) in
        let b = ap undo_pages_for new-bytes in
        let c = undo-set s sessions (with_open x xs) here in
        let d = old-undo in
        let e = sums.undo_is in
        omega arith

  -- the sums with the change are the running sums
  module _ (new_pages new_undo : ℕ) (grown_is : new_grown ≡ growth_of t more) (bytes_are : new_bytes ≡ sum_by undo_cost (with_open x xs))
      (pages_is : new_pages ≡ all_table_pages committed more) (undo_is : new_undo ≡ undo_of more) (few : new_pages ≤ 2 ^ 32) (little : new_undo ≤ 2 ^ 32)
      (order : IsInOrder (with_open x xs)) where
    -- the changes of the session
    here-more : changes_at more s ≡ with_open x xs
    here-more = get_or-set_same sessions s (with_open x xs) [] here

    -- the cost of the table is small
    small-here : get_or committed t 0 + new_grown < 2 ^ 62
    small-here =
        let a = table_in committed more t low high in
        let b = ap (λ n. table_pages (get_or committed t 0 + n)) grown_is in
        small-cost (get_or committed t 0 + new_grown) (omega arith)

    -- the before images are small
    bytes-here : new_bytes < 2 ^ 62
    bytes-here =
        let a = session_in s more (omega (arith, length-set sessions s (with_open x xs), here)) in
        let b = ap session_undo here-more in
        let c = ap undo_pages_for bytes_are in
        small-bytes new_bytes (omega arith)

    -- so the sums are right again
    pub after-note : AreSums committed (set grown t new_grown) more (set undo_bytes s new_bytes) new_pages new_undo
    after-note =
        let tables = sums.many_tables in
        let lists = sums.many_sessions in
        let growing : t < length grown = (let l = tables.1 in omega (arith, high)) in
        let weighing : s < length undo_bytes = (let l = lists.1 in omega arith) in
        let costs = set-all (λ i g. get_or committed i 0 + g < 2 ^ 62) grown t new_grown 0 501 growing small-here (λ i lt other. sums.costs_small i lt) in
        record {
          many_tables = (tables.0, length-set grown t new_grown ∙ tables.1);
          many_sessions = (length-set sessions s (with_open x xs) ∙ lists.0, length-set undo_bytes s new_bytes ∙ lists.1);
          costs_small = costs;
          grown_is = set-all (λ i g. g ≡ growth_of i more) grown t new_grown 0 501 growing grown_is
              (λ i lt other. sums.grown_is i lt ∙ sym (growth-noted i s sessions x here (λ e. other (sym e))));
          bytes_small = set-all (λ i b. b < 2 ^ 62) undo_bytes s new_bytes 0 65 weighing bytes-here (λ i lt other. sums.bytes_small i lt);
          bytes_are = set-all (λ i b. b ≡ sum_by undo_cost (changes_at more i)) undo_bytes s new_bytes 0 65 weighing (bytes_are ∙ ap (sum_by undo_cost) (sym here-more))
              (λ i lt other. sums.bytes_are i lt ∙ ap (sum_by undo_cost) (sym (get_or-set_other sessions s i (with_open x xs) [] other)));
          pages_is = pages_is;
          undo_is = undo_is;
          undo_small = little;
          pages_small = omega arith;
          in_order = set-all (λ i ys. IsInOrder ys) sessions s (with_open x xs) [] 65 here order (λ i lt other. sums.in_order i lt);
        }

-- the facts of a change as it is kept are those of the change
pub grows-same : (grown : List ℕ) (new : ℕ) (r x : OpenChange) (ys xs : List OpenChange) → r ≡ x → ys ≡ xs
    → new + sum_by (growth_on r.table.0) ys ≡ get_or grown r.table.0 0 + sum_by (growth_on r.table.0) (with_open r ys)
    → new + sum_by (growth_on x.table.0) xs ≡ get_or grown x.table.0 0 + sum_by (growth_on x.table.0) (with_open x xs)
grows-same grown new r x ys xs e f g = rw (← e, ← f) g

-- the same of the before images
pub weighs-same : (old new : ℕ) (r x : OpenChange) (ys xs : List OpenChange) → r ≡ x → ys ≡ xs
    → new + sum_by undo_cost ys ≡ old + sum_by undo_cost (with_open r ys)
    → new + sum_by undo_cost xs ≡ old + sum_by undo_cost (with_open x xs)
weighs-same old new r x ys xs e f g = rw (← e, ← f) g

-- the changes of a session as the array has them
pub lists-at : (sessions : List (Vec OpenChange Global)) (s : ℕ) (v : Vec OpenChange Global) → s < length sessions → (get_or sessions s v).items ≡ changes_at (lists sessions) s
lists-at sessions s v inside = sym (get_or-map (λ (w : Vec OpenChange Global). w.items) sessions s v [] inside)

-- the changes of one session were set
pub lists-set : (sessions : List (Vec OpenChange Global)) (s : ℕ) (v : Vec OpenChange Global) → lists (set sessions s v) ≡ set (lists sessions) s v.items
lists-set sessions s v = map-set (λ (w : Vec OpenChange Global). w.items) sessions s v

-- one list for each session
pub lists-length : (sessions : List (Vec OpenChange Global)) → length (lists sessions) ≡ length sessions
lists-length sessions = length-map sessions (λ (w : Vec OpenChange Global). w.items)

-- a change that fits is of a table
pub open-table : (change : Change) (before : Option ℕ) → IsTrue (change_fits change) → IsTrue (is_table (opened_change change before).table.0)
open-table (Put table key value) before fits = and_left (is_table table.0) (is_key key) (and_left (is_table table.0 && is_key key) (is_value value) fits)
open-table (Del table key) before fits = and_left (is_table table.0) (is_key key) fits

-- a session is one
pub session-inside : (s : ℕ) → IsTrue (is_session s) → s < 65
session-inside s is = let a = leb-true s 64 (and_right (nat_le 1 s) _ is) in omega arith

-- the place that memory was taken for
pub taken-is : (taken : Option (Table × List ℕ)) (change : Change) (before : Option ℕ) → option_map (λ place. (place.0.0, place.1)) taken ≡ Some (place_of change)
    → taken ≡ Some ((opened_change change before).table, (opened_change change before).key)
taken-is None change before is = absurd cc
taken-is (Some (table, key)) (Put other other_key value) before is =
    let same : (table.0, key) ≡ (other.0, other_key) = same_Some _ _ is in
    ap (λ (p : ℕ × List ℕ). let t : Table = record { 0 = p.0 } in Some (t, p.1)) same
taken-is (Some (table, key)) (Del other other_key) before is =
    let same : (table.0, key) ≡ (other.0, other_key) = same_Some _ _ is in
    ap (λ (p : ℕ × List ℕ). let t : Table = record { 0 = p.0 } in Some (t, p.1)) same
