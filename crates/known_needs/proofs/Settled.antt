-- The cost of a table after changes are committed.
--     settled_cost_is      the committed cost with these changes is that of the rows after them
--     opened_same      changes of rows that are the same are opened as before
use Rattle.std.proofs.Common.{◌≡◌, ◌≢◌, inl, inr, refl, sym, ap, ◌∙◌, subst, ℕ, ◌+◌, ◌-◌, ◌<◌, ◌≤◌, max, Bool, true, false, cond, ◌==◌, List, [], ◌∷◌, length, map, set, arith}
use Rattle.std.specs.Prelude.{sum_by, option_map, slice_index}
use Rattle.std.specs.FinMap.{get}
use Rattle.std.proofs.lemmas.Bool.{cases_eq, eq-eqb, ne_eqb}
use Rattle.std.proofs.lemmas.List.{get_or-set_same, get_or-set_other, length-set}
use Rattle.std.proofs.lemmas.List.Sums.{sum_by-cons}
use Rattle.mdb_model.specs.declared.change.Change.{Change}
use Rattle.mdb_model.specs.declared.change.Change.TheVariants.{Put, Del}
use Rattle.mdb_model.specs.Space.{cost_at, table_cost}
use Rattle.mdb_model.specs.Tables.{Place, Tables, place_of, with_change, with_changes}
use Rattle.mdb_model.proofs.SerialPlaces.{with_change-apart}
use Rattle.space_rule.specs.declared.open_change.OpenChange.{OpenChange}
use Rattle.space_rule.specs.KnownCosts.{cost_now, cost_before, opened_change, with_settled}
use Rattle.standing.specs.RedoRoom.{AllApart}
use Rattle.known_needs.specs.KnownNeeds.{opened_one}
use Rattle.known_needs.proofs.PlaceSums.{In, all_in, same_terms}
use Rattle.known_needs.proofs.CostSums.{cost_in, cost_over}
use Rattle.known_needs.proofs.OneChange.{rest, not_here, all_apart, has_before, has_after}
use Rattle.known_needs.proofs.Growths.{cost_of_row, before_is, now_is}

-- changes of rows that are the same are opened as before
pub opened_same : (a b : Tables) (cs : List Change) → ((p : Place) → In p (map place_of cs) → get a p ≡ get b p) → map (opened_one a) cs ≡ map (opened_one b) cs
opened_same a b [] same = refl
opened_same a b (c ∷ cs) same = λ i. opened_change c (option_map (λ value. length value) (same (place_of c) (inl refl) i)) ∷ opened_same a b cs (λ p there. same p (inr there)) i

-- the deletion at the place of a change
abbrev deletion : Change → Change
deletion (Put table key value) = Del table key
deletion (Del table key) = Del table key

-- as many costs as there were
length_settled : (xs : List OpenChange) (committed : List ℕ) → length (with_settled xs committed) ≡ length committed
length_settled [] committed = refl
length_settled (x ∷ xs) committed =
    length-set (with_settled xs committed) x.table.0 ((slice_index (with_settled xs committed) x.table.0 + cost_now x) - cost_before x) ∙ length_settled xs committed

module _ (t : Tables) (table : ℕ) where
  -- what a change's row cost the table before, and costs it now
  abbrev before_on : Change → ℕ
  before_on c = cond ((place_of c).0 == table) (cost_before (opened_one t c)) 0

  -- and what it costs now
  abbrev now_on : Change → ℕ
  now_on c = cond ((place_of c).0 == table) (cost_now (opened_one t c)) 0

  -- the cost of the rows of the table
  abbrev cost_of : Tables → ℕ
  cost_of rows = table_cost rows rows table

  -- at the place of a change the cost now stands for the one before
  settled_here : (c : Change) (rows : Tables) → get rows (place_of c) ≡ get t (place_of c)
      → cost_in (with_change c rows) (with_change c rows) table (place_of c) + before_on c ≡ cost_in rows rows table (place_of c) + now_on c
  settled_here c rows same = by_table (ap (cost_of_row t table (place_of c)) same) ((place_of c).0 == table) where
    by_table : cost_at rows (place_of c) ≡ cost_at t (place_of c) → (b : Bool)
        → cond b (max (cost_at (with_change c rows) (place_of c)) (cost_at (with_change c rows) (place_of c))) 0 + cond b (cost_before (opened_one t c)) 0
        ≡ cond b (max (cost_at rows (place_of c)) (cost_at rows (place_of c))) 0 + cond b (cost_now (opened_one t c)) 0
    by_table cost true = omega (arith, cost, before_is t table c, now_is t table c rows)
    by_table cost false = omega arith

  -- elsewhere it is the same
  same_elsewhere : (c : Change) (rows : Tables) (p : Place) → p ≢ place_of c → cost_in (with_change c rows) (with_change c rows) table p ≡ cost_in rows rows table p
  same_elsewhere c rows p other = ap (λ row. cond (p.0 == table) (max (cost_of_row t table p row) (cost_of_row t table p row)) 0) (with_change-apart c rows p other)

  -- the cost after a change of a row that stands as before
  settled_once : (c : Change) (rows : Tables) → get rows (place_of c) ≡ get t (place_of c) → cost_of (with_change c rows) + before_on c ≡ cost_of rows + now_on c
  settled_once c rows same =
      let next = with_change c rows in
      let others = rest rows rows c in
      omega (
        arith,
        cost_over next next table (place_of c ∷ others) (all_apart rows rows c) (λ p has. elim has [ inl one ↦ has_after rows rows c p one | inr two ↦ has_after rows rows c p two ]),
        cost_over rows rows table (place_of c ∷ others) (all_apart rows rows c) (has_before rows rows c),
        sum_by-cons (cost_in next next table) (place_of c) others,
        sum_by-cons (cost_in rows rows table) (place_of c) others,
        same_terms (cost_in next next table) (cost_in rows rows table) others (λ p there. same_elsewhere c rows p (not_here rows rows c p there)),
        settled_here c rows same,
      )

  -- and after changes of places that do not repeat
  settled_all : (cs : List Change) (rows : Tables) → AllApart (map place_of cs) → ((p : Place) → In p (map place_of cs) → get rows p ≡ get t p)
      → cost_of (with_changes cs rows) + sum_by before_on cs ≡ cost_of rows + sum_by now_on cs
  settled_all [] rows apart same = omega arith
  settled_all (c ∷ cs) rows apart same =
      omega (
        arith,
        sum_by-cons before_on c cs,
        sum_by-cons now_on c cs,
        settled_once c rows (same (place_of c) (inl refl)),
        settled_all cs (with_change c rows) apart.1 (λ p there. with_change-apart c rows p (λ is. all_in (λ q. place_of c ≢ q) (map place_of cs) apart.0 p there (sym is)) ∙ same p (inr there)),
      )

  -- deletions are of the same rows, and leave none
  deleted_place : (c : Change) → place_of (deletion c) ≡ place_of c
  deleted_place (Put number key value) = refl
  deleted_place (Del number key) = refl

  -- so are those of changes
  deleted_places : (cs : List Change) → map place_of (map deletion cs) ≡ map place_of cs
  deleted_places [] = refl
  deleted_places (c ∷ cs) = λ i. deleted_place c i ∷ deleted_places cs i

  -- the rows cost as much before
  deleted_before : (c : Change) → before_on (deletion c) ≡ before_on c
  deleted_before (Put number key value) = refl
  deleted_before (Del number key) = refl

  -- nothing counts for nothing
  nothing : (b : Bool) (n : ℕ) → n ≡ 0 → cond b n 0 ≡ 0
  nothing true n none = none
  nothing false n none = refl

  -- and nothing now
  deleted_now : (c : Change) → now_on (deletion c) ≡ 0
  deleted_now (Put number key value) = nothing (number.0 == table) 0 refl
  deleted_now (Del number key) = nothing (number.0 == table) 0 refl

  -- so it is of the sums
  deleted_sums : (cs : List Change) → (sum_by before_on (map deletion cs) ≡ sum_by before_on cs) × (sum_by now_on (map deletion cs) ≡ 0)
  deleted_sums [] = (refl, refl)
  deleted_sums (c ∷ cs) =
      let more = deleted_sums cs in (
        omega (arith, sum_by-cons before_on (deletion c) (map deletion cs), sum_by-cons before_on c cs, deleted_before c, more.0),
        omega (arith, sum_by-cons now_on (deletion c) (map deletion cs), deleted_now c, more.1),
      )

  -- the rows that are changed cost no more than all
  changed_within : (cs : List Change) → AllApart (map place_of cs) → sum_by before_on cs ≤ cost_of t
  changed_within cs apart =
      let sums = deleted_sums cs in
      omega (arith, settled_all (map deletion cs) t (subst AllApart (sym (deleted_places cs)) apart) (λ p there. refl), sums.0, sums.1)

  -- the place of an open change
  table_is : (c : Change) → (opened_one t c).table.0 ≡ (place_of c).0
  table_is (Put number key value) = refl
  table_is (Del number key) = refl

  -- the committed cost once changes are settled
  settled_costs : (cs : List Change) (committed : List ℕ) → table < length committed → sum_by before_on cs ≤ slice_index committed table
      → slice_index (with_settled (map (opened_one t) cs) committed) table + sum_by before_on cs ≡ slice_index committed table + sum_by now_on cs
  settled_costs [] committed inside within = omega arith
  settled_costs (c ∷ cs) committed inside within =
      let before_sum = sum_by-cons before_on c cs in
      let now_sum = sum_by-cons now_on c cs in
      let costs : List ℕ = with_settled (map (opened_one t) cs) committed in
      let many = length_settled (map (opened_one t) cs) committed in
      let rest = settled_costs cs committed inside (omega (arith, within, before_sum)) in
      let cost : ℕ = (slice_index costs (opened_one t c).table.0 + cost_now (opened_one t c)) - cost_before (opened_one t c) in
      elim (cases_eq (opened_one t c).table.0 table) [
        | inl is ↦
            let here : slice_index (set costs (opened_one t c).table.0 cost) table ≡ (slice_index costs table + cost_now (opened_one t c)) - cost_before (opened_one t c) =
            ap (slice_index (set costs (opened_one t c).table.0 cost)) (sym is)
            ∙ get_or-set_same costs (opened_one t c).table.0 cost 0 (omega (arith, is, many, inside))
            ∙ ap (λ n. (slice_index costs n + cost_now (opened_one t c)) - cost_before (opened_one t c)) is in
            let test : ((place_of c).0 == table) ≡ true = eq-eqb (place_of c).0 table (sym (table_is c) ∙ is) in
            let before : before_on c ≡ cost_before (opened_one t c) = ap (λ b. cond b (cost_before (opened_one t c)) 0) test in
            let now : now_on c ≡ cost_now (opened_one t c) = ap (λ b. cond b (cost_now (opened_one t c)) 0) test in
            omega (arith, before_sum, now_sum, rest, here, before, now, within)
        | inr other ↦
            let here : slice_index (set costs (opened_one t c).table.0 cost) table ≡ slice_index costs table = get_or-set_other costs (opened_one t c).table.0 table cost 0 (λ is. other (sym is)) in
            let test : ((place_of c).0 == table) ≡ false = ne_eqb (place_of c).0 table (λ is. other (table_is c ∙ is)) in
            let before : before_on c ≡ 0 = ap (λ b. cond b (cost_before (opened_one t c)) 0) test in
            let now : now_on c ≡ 0 = ap (λ b. cond b (cost_now (opened_one t c)) 0) test in
            omega (arith, before_sum, now_sum, rest, here, before, now)
      ]

  -- the committed cost with these changes is that of the rows after them
  pub settled_cost_is : (cs : List Change) (committed : List ℕ) → AllApart (map place_of cs) → table < length committed → slice_index committed table ≡ cost_of t
      → slice_index (with_settled (map (opened_one t) cs) committed) table ≡ cost_of (with_changes cs t)
  settled_cost_is cs committed apart inside is =
      let within = changed_within cs apart in
      omega (arith, settled_costs cs committed inside (omega (arith, within, is)), settled_all cs t apart (λ p there. refl), is, within)
