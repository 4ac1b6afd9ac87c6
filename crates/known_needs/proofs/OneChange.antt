-- The places of two states of the tables, where one of them is changed at a place.
--     here, rest      the place, and the others with a row
--     all_apart, not_here      none of them repeats
--     has_before, has_after      each place with a row, before the change and after it
use Rattle.std.proofs.Common.{◌≡◌, ◌≢◌, inl, inr, sym, ap, ◌∙◌, Bool, true, false, not, List, ◌∷◌}
use Rattle.std.specs.Prelude.{filter, is_some}
use Rattle.std.specs.FinMap.{get}
use Rattle.std.proofs.lemmas.Bool.{cases_Bool, false≢true}
use Rattle.mdb_model.specs.declared.change.Change.{Change}
use Rattle.mdb_model.specs.Sessions.{same_place}
use Rattle.mdb_model.specs.Space.{places}
use Rattle.mdb_model.specs.Tables.{Place, Tables, place_of, with_change}
use Rattle.mdb_model.proofs.SerialPlaces.{same_place-equal, same_place-itself, with_change-apart}
use Rattle.standing.specs.RedoRoom.{AllApart}
use Rattle.known_needs.proofs.PlaceSums.{In, all_among, in_filter, filter_in, apart_filter}
use Rattle.known_needs.proofs.CostSums.{HasRow, places_apart, places_have}

module _ (a rows : Tables) (c : Change) where
  abbrev pub here : Place
  here = place_of c

  -- not the place of the change
  abbrev other : Place → Bool
  other p = not (same_place p here)

  abbrev pub rest : List Place
  rest = filter other (places a rows)

  -- two places that the test tells apart
  differ : (p : Place) → same_place p here ≡ false → p ≢ here
  differ p apart is = false≢true (sym apart ∙ (ap (λ q. same_place p q) (sym is) ∙ same_place-itself p))

  pub not_here : (p : Place) → In p rest → p ≢ here
  not_here p there is = false≢true (sym (ap not (ap (λ q. same_place p q) (sym is) ∙ same_place-itself p)) ∙ (filter_in other p (places a rows) there).1)

  pub all_apart : AllApart (here ∷ rest)
  all_apart = (all_among (λ q. here ≢ q) rest (λ q there is. not_here q there (sym is)), apart_filter other (places a rows) (places_apart a rows))

  pub has_before : (p : Place) → HasRow a rows p → In p (here ∷ rest)
  has_before p has = elim (cases_Bool (same_place p here)) [
    | inl is ↦ inl (same_place-equal p here is)
    | inr apart ↦ inr (in_filter other p (places a rows) (places_have a rows p has) (ap not apart))
  ]

  pub has_after : (p : Place) → is_some (get (with_change c rows) p) ≡ true → In p (here ∷ rest)
  has_after p has = elim (cases_Bool (same_place p here)) [
    | inl is ↦ inl (same_place-equal p here is)
    | inr apart ↦ has_before p (inr (sym (ap is_some (with_change-apart c rows p (differ p apart))) ∙ has))
  ]
