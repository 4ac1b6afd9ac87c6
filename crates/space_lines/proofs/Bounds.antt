-- The need with one more change is small enough to be added to.
--     small_need      so it is
use Rattle.std.proofs.Common.{◌≡◌, inl, inr, refl, sym, ap, ℕ, ◌+◌, ◌-◌, ◌^◌, ◌<◌, ◌≤◌, Bool, true, false, List, [], ◌∷◌, length, Option, Some, None, unwrap_or, set, IsTrue, arith}
use Rattle.std.specs.Prelude.{if◌then◌else◌, nat_eq, nat_le, sum_by, slice_index, ◌==◌, ◌&&◌}
use Rattle.std.specs.Option.{ForSome}
use Rattle.std.specs.declared.cmp.Ordering.{Ordering}
use Rattle.std.specs.declared.cmp.Ordering.TheVariants.{Less, Equal, Greater}
use Rattle.std.proofs.lemmas.Bool.{cases_Bool}
use Rattle.std.proofs.lemmas.Bool.Decides.{nat_tests}
use Rattle.std.proofs.lemmas.List.Sums.{sum_by-cons}
use Rattle.mdb_model.specs.declared.change.Change.{Change}
use Rattle.mdb_model.specs.declared.change.Change.TheVariants.{Put, Del}
use Rattle.mdb_model.specs.Script.{is_session, is_table, is_key, is_value}
use Rattle.mdb_model.specs.Space.{table_pages, converter_pages}
use Rattle.mdb_model.specs.Tables.{place_cmp}
use Rattle.mdb_bytes.specs.Groups.{change_fits}
use Rattle.mdb_bytes.proofs.Decoding.{and_left, and_right}
use Rattle.sorted_places.proofs.Places.{place_exact}
use Rattle.space_rule.specs.declared.open_change.OpenChange.{OpenChange}
use Rattle.space_rule.specs.declared.space.Space.{Space}
use Rattle.space_rule.specs.KnownCosts.{open_place, cost_of_lengths, cost_now, growth, growth_on, undo_cost, open_by, with_open, changes_at, open_table_cost, all_table_pages, undo_pages_for, undo_of, opened_change, noted, need_of}
use Rattle.space_rule.specs.Spaces.{known_costs}
use Rattle.space_rule.specs.Weighing.{AreSums, lists}
use Rattle.space_rule.proofs.Noting.{open-table, session-inside}
use Rattle.space_rule.proofs.Opens.{table-range}
use Rattle.space_rule.proofs.Sums.{growth-set, growth-noted, undo-set, pages-at}

-- a change makes a table grow by no more than its row costs
on_le : (t : ℕ) (x : OpenChange) → growth_on t x ≤ cost_now x
on_le t x = by_table (x.table.0 == t) where
  by_table : (b : Bool) → (if b then growth x else 0) ≤ cost_now x
  by_table true = omega arith
  by_table false = omega arith

-- so does one more change
grown_more : (t m : ℕ) (x : OpenChange) (xs : List OpenChange) → cost_now x ≤ m → sum_by (growth_on t) (with_open x xs) ≤ sum_by (growth_on t) xs + m
grown_more t m x [] small = let one = sum_by-cons (growth_on t) x [] in let le = on_le t x in omega (arith, one, le, small)
grown_more t m x (y ∷ ys) small = by_order (grown_more t m x ys small) (place_cmp (open_place y) (open_place x)) refl where
  by_order : sum_by (growth_on t) (with_open x ys) ≤ sum_by (growth_on t) ys + m → (o : Ordering) → place_cmp (open_place y) (open_place x) ≡ o
      → sum_by (growth_on t) (open_by o x y ys (with_open x ys)) ≤ sum_by (growth_on t) (y ∷ ys) + m
  by_order more Less is =
      let old = sum_by-cons (growth_on t) y ys in
      let new = sum_by-cons (growth_on t) y (with_open x ys) in
      omega (arith, old, new, more)
  by_order more Equal is =
      let z : OpenChange = record y { now = x.now } in
      let old = sum_by-cons (growth_on t) y ys in
      let new = sum_by-cons (growth_on t) z ys in
      let cost : cost_now z ≡ cost_now x = ap (λ (k : List ℕ). cost_of_lengths (length k) x.now) (ap (λ p. p.1) (place_exact (open_place y) (open_place x) is)) in
      let le = on_le t z in
      omega (arith, old, new, cost, le, small)
  by_order more Greater is =
      let new = sum_by-cons (growth_on t) x (y ∷ ys) in
      let le = on_le t x in
      omega (arith, new, le, small)

-- the before images with one more
undo_more : (m : ℕ) (x : OpenChange) (xs : List OpenChange) → undo_cost x ≤ m → sum_by undo_cost (with_open x xs) ≤ sum_by undo_cost xs + m
undo_more m x [] small = let one = sum_by-cons undo_cost x [] in omega (arith, one, small)
undo_more m x (y ∷ ys) small = by_order (undo_more m x ys small) (place_cmp (open_place y) (open_place x)) where
  by_order : sum_by undo_cost (with_open x ys) ≤ sum_by undo_cost ys + m → (o : Ordering) → sum_by undo_cost (open_by o x y ys (with_open x ys)) ≤ sum_by undo_cost (y ∷ ys) + m
  by_order more Less =
      let old = sum_by-cons undo_cost y ys in
      let new = sum_by-cons undo_cost y (with_open x ys) in
      omega (arith, old, new, more)
  by_order more Equal =
      let z : OpenChange = record y { now = x.now } in
      let old = sum_by-cons undo_cost y ys in
      let new = sum_by-cons undo_cost z ys in
      omega (arith, old, new)
  by_order more Greater =
      let new = sum_by-cons undo_cost x (y ∷ ys) in
      omega (arith, new, small)

-- a small cost is of few pages
few_pages : (n : ℕ) → n < 2 ^ 62 + 2 ^ 20 → table_pages n ≤ 2 ^ 61
few_pages n small = elim (cases_Bool (nat_eq n 0)) [
  | inl is ↦ rw is (omega arith)
  | inr is ↦ elim (cases_Bool (nat_le n 8128)) [
    | inl le ↦ rw (is, le) (omega arith)
    | inr gt ↦ rw (is, gt) (omega arith)
  ]
]

-- so are few bytes of before images
few_undo : (n : ℕ) → n < 2 ^ 62 + 2 ^ 20 → undo_pages_for n ≤ 2 ^ 61
few_undo n small = elim (cases_Bool (nat_eq n 0)) [
  | inl is ↦ rw is (omega arith)
  | inr is ↦ rw is (omega arith)
]

-- a change within its limits costs little
small_cost : (change : Change) (before : Option ℕ) → IsTrue (change_fits change) → cost_now (opened_change change before) ≤ 2 ^ 12
small_cost (Put table key value) before fits =
    let key_is : IsTrue (is_key key) = and_right (is_table table.0) (is_key key) (and_left (is_table table.0 && is_key key) (is_value value) fits) in
    let value_is : IsTrue (is_value value) = and_right (is_table table.0 && is_key key) (is_value value) fits in
    let short : length key ≤ 256 = grind (arith, nat_tests) in
    let small : length value ≤ 1500 = grind (arith, nat_tests) in
    omega (arith, short, small)
small_cost (Del table key) before fits = omega arith

small_image : (change : Change) (before : Option ℕ) → IsTrue (change_fits change) → ForSome before (λ n. n ≤ 1500) → undo_cost (opened_change change before) ≤ 2 ^ 12
small_image change before fits small =
    let long = by_before before small in
    by_change change fits long
  where
    by_before : (b : Option ℕ) → ForSome b (λ n. n ≤ 1500) → unwrap_or b 0 ≤ 1500
    by_before None small = omega arith
    by_before (Some n) small = small n refl

    by_change : (change : Change) → IsTrue (change_fits change) → unwrap_or before 0 ≤ 1500 → undo_cost (opened_change change before) ≤ 2 ^ 12
    by_change (Put table key value) fits long =
        let key_is : IsTrue (is_key key) = and_right (is_table table.0) (is_key key) (and_left (is_table table.0 && is_key key) (is_value value) fits) in
        let short : length key ≤ 256 = grind (arith, nat_tests) in
        omega (arith, short, long)
    by_change (Del table key) fits long =
        let key_is : IsTrue (is_key key) = and_right (is_table table.0) (is_key key) fits in
        let short : length key ≤ 256 = grind (arith, nat_tests) in
        omega (arith, short, long)

module _ (committed grown : List ℕ) (sessions : List (List OpenChange)) (undo_bytes : List ℕ) (pages undo : ℕ)
    (sums : AreSums committed grown sessions undo_bytes pages undo) (session : ℕ) (inside : session < 65) (x : OpenChange) (low : 1 ≤ x.table.0) (high : x.table.0 ≤ 500)
    (cost : cost_now x ≤ 2 ^ 12) (image : undo_cost x ≤ 2 ^ 12) where
  -- the changes of the session, and of all with one more
  abbrev own : List OpenChange
  own = changes_at sessions session

  abbrev after : List (List OpenChange)
  after = set sessions session (with_open x own)

  within : session < length sessions
  within = let many = sums.many_sessions.0 in omega (arith, many, inside)

  pages_after : all_table_pages committed after ≤ 2 ^ 62
  pages_after =
      let t = x.table.0 in
      let set_is = growth-set t session sessions (with_open x own) within in
      let more = grown_more t (2 ^ 12) x own cost in
      let small = sums.costs_small t (omega (arith, high)) in
      let grown_is = sums.grown_is t (omega (arith, high)) in
      let few = few_pages (open_table_cost committed after t) (omega (arith, set_is, more, small, grown_is)) in
      let sum = pages-at committed committed sessions after t low high (λ i other. ap (λ n. slice_index committed i + n) (sym (growth-noted i session sessions x within (λ e. other (sym e))))) in
      let pages_is = sums.pages_is in
      let pages_small = sums.pages_small in
      omega (arith, few, sum, pages_is, pages_small)

  undo_after : undo_of after ≤ 2 ^ 62
  undo_after =
      let set_is = undo-set session sessions (with_open x own) within in
      let more = undo_more (2 ^ 12) x own image in
      let bytes = sums.bytes_small session inside in
      let bytes_are = sums.bytes_are session inside in
      let few = few_undo (sum_by undo_cost (with_open x own)) (omega (arith, more, bytes, bytes_are)) in
      let undo_is = sums.undo_is in
      let undo_small = sums.undo_small in
      omega (arith, few, set_is, undo_is, undo_small)

-- the pages of a converter are few
few_maps : (blocks : ℕ) → blocks < 2 ^ 32 → converter_pages blocks ≤ 2 ^ 33
few_maps blocks small = omega arith

-- the need with one more change
pub small_need : (space : Space) (session : ℕ) (change : Change) (before : Option ℕ) → IsTrue (is_session session) → IsTrue (change_fits change) → ForSome before (λ n. n ≤ 1500)
    → space.blocks < 2 ^ 32 → need_of (noted (known_costs space) session change before) < 2 ^ 64 - 2 ^ 10
small_need space session change before is_one fits small few =
    let x : OpenChange = opened_change change before in
    let inside = session-inside session is_one in
    let range = table-range x.table.0 (open-table change before fits) in
    let cost = small_cost change before fits in
    let image = small_image change before fits small in
    let pages = pages_after space.committed space.grown (lists space.sessions) space.undo_bytes space.pages space.undo space.sums session inside x range.0 range.1 cost image in
    let undo = undo_after space.committed space.grown (lists space.sessions) space.undo_bytes space.pages space.undo space.sums session inside x range.0 range.1 cost image in
    let maps = few_maps space.blocks few in
    let kept = space.kept_small in
    omega (arith, pages, undo, maps, kept)
