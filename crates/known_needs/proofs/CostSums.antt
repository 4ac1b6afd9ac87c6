-- The cost of a table as a sum over any places that have all rows.
--     keys_apart      the keys of sorted entries do not repeat
--     in_keys, keys_in      the keys are the places with a row
--     cost_over      the cost over such places
--     places_have      these have all rows
use Rattle.std.proofs.Common.{◌≡◌, ◌≢◌, ◌⊎◌, inl, inr, refl, sym, ap, ◌∙◌, subst, ℕ, ◌+◌, max, Bool, true, false, cond, not, ◌==◌, List, [], ◌∷◌, length, map, Some, None, arith, T}
use Rattle.std.specs.Prelude.{filter, sum_by, option_map, unwrap_or, is_some}
use Rattle.std.specs.List.{list_any, AllByRecursion}
use Rattle.std.specs.declared.cmp.Ordering.TheVariants.{Equal}
use Rattle.std.specs.Ordering.{eq_by_cmp, is_lt}
use Rattle.std.specs.Cmp.{tied_itself}
use Rattle.std.specs.FinMap.{get, keys, contains_key, entries, entries_sorted, contains_key-keys}
use Rattle.std.specs.FinMap.Entries.{is_sorted, below_all}
use Rattle.std.proofs.lemmas.Bool.{or_cases, or_left, or_right, cases_Bool, false≢true}
use Rattle.mdb_model.specs.Sessions.{same_place}
use Rattle.mdb_model.specs.Space.{cost_at, places, table_cost}
use Rattle.mdb_model.specs.Tables.{Place, Tables, place_cmp}
use Rattle.mdb_model.proofs.Computing.{places_total}
use Rattle.mdb_model.proofs.SerialPlaces.{same_place-equal, same_place-itself}
use Rattle.standing.specs.RedoRoom.{AllApart}
use Rattle.known_needs.proofs.Found.{first, second}
use Rattle.known_needs.proofs.PlaceSums.{In, in_left, in_right, in_either, in_filter, filter_in, apart_filter, apart_append, same_total, filtered}

-- The keys of tables

-- a place that comes first is another one
not_less : (p q : Place) → T (is_lt (place_cmp p q)) → p ≢ q
not_less p q less e =
    let tied : place_cmp p q ≡ Equal = ap (λ x. place_cmp p x) (sym e) ∙ tied_itself places_total p in
    absurd (subst (λ o. T (is_lt o)) tied less)

module _ {X : Type 0} where
  -- a key below all others is none of them
  below_apart : (p : Place) (es : List (Place × X)) → T (below_all place_cmp p es) → AllByRecursion (λ q. p ≢ q) (map (λ e. e.0) es)
  below_apart p [] h = tt
  below_apart p (e ∷ es) h = (not_less p e.0 (first (is_lt (place_cmp p e.0)) (below_all place_cmp p es) h), below_apart p es (second (is_lt (place_cmp p e.0)) (below_all place_cmp p es) h))

  -- the keys of sorted entries do not repeat
  pub keys_apart : (es : List (Place × X)) → T (is_sorted place_cmp es) → AllApart (map (λ e. e.0) es)
  keys_apart [] h = tt
  keys_apart (e ∷ es) h = (below_apart e.0 es (first (below_all place_cmp e.0 es) (is_sorted place_cmp es) h), keys_apart es (second (below_all place_cmp e.0 es) (is_sorted place_cmp es) h))

-- a place that is found in a list is among it
any_in : (p : Place) (ps : List Place) → list_any (eq_by_cmp place_cmp p) ps ≡ true → In p ps
any_in p [] h = absurd (let no : false ≡ true = h in cc)
any_in p (q ∷ ps) h = elim (or_cases (eq_by_cmp place_cmp p q) (list_any (eq_by_cmp place_cmp p) ps) h) [
  | inl is ↦ inl (same_place-equal p q is)
  | inr later ↦ inr (any_in p ps later)
]

-- and one that is among it is found
in_any : (p : Place) (ps : List Place) → In p ps → list_any (eq_by_cmp place_cmp p) ps ≡ true
in_any p [] there = absurd there
in_any p (q ∷ ps) (inl is) = or_left (eq_by_cmp place_cmp p q) (list_any (eq_by_cmp place_cmp p) ps) (ap (λ x. same_place p x) (sym is) ∙ same_place-itself p)
in_any p (q ∷ ps) (inr later) = or_right (eq_by_cmp place_cmp p q) (list_any (eq_by_cmp place_cmp p) ps) (in_any p ps later)

-- a place with a row is among the keys
pub in_keys : (m : Tables) (p : Place) → contains_key m p ≡ true → In p (keys m)
in_keys m p there = any_in p (keys m) (sym (contains_key-keys m p) ∙ there)

-- and each key has a row
pub keys_in : (m : Tables) (p : Place) → In p (keys m) → contains_key m p ≡ true
keys_in m p there = contains_key-keys m p ∙ in_any p (keys m) there

module _ (a b : Tables) where
  -- a place has a row in one of the two
  abbrev pub HasRow : Place → Type 0
  HasRow p = (contains_key a p ≡ true) ⊎ (contains_key b p ≡ true)

  -- the places that only the second has
  abbrev added : Place → Bool
  added p = not (contains_key a p)

  -- the places of both do not repeat
  pub places_apart : AllApart (places a b)
  places_apart = apart_append (keys a) (filter added (keys b)) (keys_apart (entries a) (entries_sorted a)) (apart_filter added (keys b) (keys_apart (entries b) (entries_sorted b)))
      (λ p one two. false≢true (sym (ap not (keys_in a p one)) ∙ (filter_in added p (keys b) two).1))

  -- these have all rows, and only rows
  pub places_have : (p : Place) → HasRow p → In p (places a b)
  places_have p (inl one) = in_left p (keys a) (filter added (keys b)) (in_keys a p one)
  places_have p (inr two) = elim (cases_Bool (contains_key a p)) [
    | inl one ↦ in_left p (keys a) (filter added (keys b)) (in_keys a p one)
    | inr none ↦ in_right p (keys a) (filter added (keys b)) (in_filter added p (keys b) (in_keys b p two) (ap not none))
  ]

  -- a place that is among them has a row
  have_places : (p : Place) → In p (places a b) → HasRow p
  have_places p there = elim (in_either p (keys a) (filter added (keys b)) there) [
    | inl one ↦ inl (keys_in a p one)
    | inr two ↦ inr (keys_in b p (filter_in added p (keys b) two).0)
  ]

  -- what a place costs of a table
  abbrev pub cost_in : ℕ → Place → ℕ
  cost_in table p = cond (p.0 == table) (max (cost_at a p) (cost_at b p)) 0

  -- a place costs nothing or has a row
  has_cost : (m : Tables) (p : Place) → (cost_at m p ≡ 0) ⊎ (contains_key m p ≡ true)
  has_cost m p = elim (get m p) as (λ o. (unwrap_or (option_map (λ value. 8 + length p.1 + length value) o) 0 ≡ 0) ⊎ (is_some o ≡ true)) [
    | None ↦ inl refl
    | Some v ↦ inr refl
  ]

  -- only a row costs
  costs : (table : ℕ) (p : Place) → (cost_in table p ≡ 0) ⊎ HasRow p
  costs table p = by_cost (has_cost a p) (has_cost b p) where
    by_cost : (cost_at a p ≡ 0) ⊎ (contains_key a p ≡ true) → (cost_at b p ≡ 0) ⊎ (contains_key b p ≡ true) → (cost_in table p ≡ 0) ⊎ HasRow p
    by_cost (inr one) other = inr (inl one)
    by_cost (inl none) (inr two) = inr (inr two)
    by_cost (inl none) (inl neither) = inl (free (p.0 == table)) where
      free : (t : Bool) → cond t (max (cost_at a p) (cost_at b p)) 0 ≡ 0
      free true = omega (arith, none, neither)
      free false = refl

  -- the cost over places that have all rows
  pub cost_over : (table : ℕ) (ps : List Place) → AllApart ps → ((p : Place) → HasRow p → In p ps) → table_cost a b table ≡ sum_by (cost_in table) ps
  cost_over table ps apart all =
      filtered (λ p. p.0 == table) (λ p. max (cost_at a p) (cost_at b p)) (places a b)
      ∙ same_total (cost_in table) (places a b) ps places_apart apart (λ p there. inr (all p (have_places p there))) (λ p there. known p (costs table p))
    where
      known : (p : Place) → (cost_in table p ≡ 0) ⊎ HasRow p → (cost_in table p ≡ 0) ⊎ In p (places a b)
      known p (inl none) = inl none
      known p (inr has) = inr (places_have p has)
