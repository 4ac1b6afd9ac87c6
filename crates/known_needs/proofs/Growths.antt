-- What changes make the cost of a table grow.
--     grown      by one change
--     grown_by      by changes of places that do not repeat
use Rattle.std.proofs.Common.{◌≡◌, ◌≢◌, inl, inr, refl, sym, ap, ◌∙◌, subst, ℕ, ◌+◌, ◌-◌, max, Bool, true, false, cond, ◌==◌, List, [], ◌∷◌, length, map, Option, Some, None, arith}
use Rattle.std.specs.Prelude.{sum_by, option_map, unwrap_or}
use Rattle.std.specs.FinMap.{get, get-insert, get-remove}
use Rattle.std.proofs.lemmas.List.Sums.{sum_by-cons}
use Rattle.mdb_model.specs.declared.change.Change.{Change}
use Rattle.mdb_model.specs.declared.change.Change.TheVariants.{Put, Del}
use Rattle.mdb_model.specs.Space.{cost_at, table_cost}
use Rattle.mdb_model.specs.Tables.{Place, Tables, place_of, with_change, with_changes}
use Rattle.mdb_model.proofs.Computing.{places_total}
use Rattle.mdb_model.proofs.SerialPlaces.{same_place-itself, with_change-apart}
use Rattle.space_rule.specs.KnownCosts.{cost_of_lengths, cost_now, cost_before, growth_on}
use Rattle.standing.specs.RedoRoom.{AllApart}
use Rattle.known_needs.specs.KnownNeeds.{opened_one}
use Rattle.known_needs.proofs.PlaceSums.{In, all_in, same_terms}
use Rattle.known_needs.proofs.CostSums.{cost_in, cost_over}
use Rattle.known_needs.proofs.OneChange.{rest, not_here, all_apart, has_before, has_after}

module _ (t : Tables) (table : ℕ) where
  -- the cost where this row stands
  abbrev pub cost_of_row : (p : Place) → Option (List ℕ) → ℕ
  cost_of_row p row = unwrap_or (option_map (λ value. 8 + length p.1 + length value) row) 0

  -- the cost by the length
  by_length : (p : Place) (row : Option (List ℕ)) → cost_of_row p row ≡ cost_of_lengths (length p.1) (option_map (λ value. length value) row)
  by_length p None = refl
  by_length p (Some value) = refl

  -- the costs before a change and after it
  pub before_is : (c : Change) → cost_at t (place_of c) ≡ cost_before (opened_one t c)
  before_is (Put number key value) = by_length (number.0, key) (get t (number.0, key))
  before_is (Del number key) = by_length (number.0, key) (get t (number.0, key))

  -- and after it
  pub now_is : (c : Change) (rows : Tables) → cost_at (with_change c rows) (place_of c) ≡ cost_now (opened_one t c)
  now_is (Put number key value) rows =
      let p : Place = (number.0, key) in
      ap (cost_of_row p) (get-insert places_total rows p value p ∙ ap (λ b. cond b (Some value) (get rows p)) (same_place-itself p))
  now_is (Del number key) rows =
      let p : Place = (number.0, key) in
      ap (cost_of_row p) (get-remove places_total rows p p ∙ ap (λ b. cond b None (get rows p)) (same_place-itself p))

  -- the growth by a change is at its place
  growth_at : (c : Change) → growth_on table (opened_one t c) ≡ cond ((place_of c).0 == table) (cost_now (opened_one t c) - cost_before (opened_one t c)) 0
  growth_at (Put number key value) = refl
  growth_at (Del number key) = refl

  -- at its place the cost is more by the growth
  grown_here : (c : Change) (rows : Tables) → get rows (place_of c) ≡ get t (place_of c)
      → cost_in t (with_change c rows) table (place_of c) ≡ cost_in t rows table (place_of c) + growth_on table (opened_one t c)
  grown_here c rows same =
      let cost : cost_at rows (place_of c) ≡ cost_at t (place_of c) = ap (cost_of_row (place_of c)) same in
      subst (λ n. cost_in t (with_change c rows) table (place_of c) ≡ cost_in t rows table (place_of c) + n) (sym (growth_at c)) (by_table cost ((place_of c).0 == table))
    where
      by_table : cost_at rows (place_of c) ≡ cost_at t (place_of c) → (b : Bool)
          → cond b (max (cost_at t (place_of c)) (cost_at (with_change c rows) (place_of c))) 0
          ≡ cond b (max (cost_at t (place_of c)) (cost_at rows (place_of c))) 0 + cond b (cost_now (opened_one t c) - cost_before (opened_one t c)) 0
      by_table cost true = omega (arith, cost, before_is c, now_is c rows)
      by_table cost false = omega arith

  -- elsewhere it is the same
  same_elsewhere : (c : Change) (rows : Tables) (p : Place) → p ≢ place_of c → cost_in t (with_change c rows) table p ≡ cost_in t rows table p
  same_elsewhere c rows p other = ap (λ row. cond (p.0 == table) (max (cost_at t p) (cost_of_row p row)) 0) (with_change-apart c rows p other)

  -- the cost of a table after a change of a row that stands as before
  pub grown : (c : Change) (rows : Tables) → get rows (place_of c) ≡ get t (place_of c) → table_cost t (with_change c rows) table ≡ table_cost t rows table + growth_on table (opened_one t c)
  grown c rows same =
      let next = with_change c rows in
      let others = rest t rows c in
      omega (
        arith,
        cost_over t next table (place_of c ∷ others) (all_apart t rows c) (λ p has. elim has [ inl one ↦ has_before t rows c p (inl one) | inr two ↦ has_after t rows c p two ]),
        cost_over t rows table (place_of c ∷ others) (all_apart t rows c) (has_before t rows c),
        sum_by-cons (cost_in t next table) (place_of c) others,
        sum_by-cons (cost_in t rows table) (place_of c) others,
        same_terms (cost_in t next table) (cost_in t rows table) others (λ p there. same_elsewhere c rows p (not_here t rows c p there)),
        grown_here c rows same,
      )

  -- and after changes of places that do not repeat
  pub grown_by : (cs : List Change) (rows : Tables) → AllApart (map place_of cs) → ((p : Place) → In p (map place_of cs) → get rows p ≡ get t p)
      → table_cost t (with_changes cs rows) table ≡ table_cost t rows table + sum_by (growth_on table) (map (opened_one t) cs)
  grown_by [] rows apart same = omega arith
  grown_by (c ∷ cs) rows apart same =
      omega (
        arith,
        sum_by-cons (growth_on table) (opened_one t c) (map (opened_one t) cs),
        grown c rows (same (place_of c) (inl refl)),
        grown_by cs (with_change c rows) apart.1 (λ p there. with_change-apart c rows p (λ is. all_in (λ q. place_of c ≢ q) (map place_of cs) apart.0 p there (sym is)) ∙ same p (inr there)),
      )
