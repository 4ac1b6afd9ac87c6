-- Sums over places that do not repeat.
--     In      a place is among these
--     sum_within      a sum is within one over these places and more
--     same_total, same_terms      two sums over the same places that count, or of the same terms
--     filtered      a sum over those that pass
--     in_filter, filter_in, apart_filter      the places that pass
use Rattle.std.proofs.Common.{◌≡◌, ◌≢◌, ◌⊎◌, inl, inr, refl, sym, ap, ◌∙◌, subst, ℕ, ◌+◌, ◌≤◌, Bool, true, false, cond, List, [], ◌∷◌, ◌++◌, arith}
use Rattle.std.specs.Prelude.{filter, sum_by}
use Rattle.std.specs.List.{AllByRecursion}
use Rattle.std.proofs.lemmas.List.Sums.{sum_by-cons, sum_by-append}
use Rattle.mdb_model.specs.Tables.{Place}
use Rattle.standing.specs.RedoRoom.{AllApart}

-- Places in lists

-- the place is among these
abbrev pub In : Place → List Place → Type 0
In p [] = ⊥
In p (q ∷ qs) = (p ≡ q) ⊎ In p qs

-- each of these is as all are
pub all_in : (P : Place → Type 0) (ps : List Place) → AllByRecursion P ps → (q : Place) → In q ps → P q
all_in P [] all q there = absurd there
all_in P (p ∷ ps) all q (inl is) = subst P (sym is) all.0
all_in P (p ∷ ps) all q (inr later) = all_in P ps all.1 q later

-- and all are as each of these is
pub all_among : (P : Place → Type 0) (ps : List Place) → ((p : Place) → In p ps → P p) → AllByRecursion P ps
all_among P [] each = tt
all_among P (x ∷ ps) each = (each x (inl refl), all_among P ps (λ p there. each p (inr there)))

-- what stands before and after it
in_split : (p : Place) (ps : List Place) → In p ps → (before : List Place) × (after : List Place) × (ps ≡ before ++ p ∷ after)
in_split p [] there = absurd there
in_split p (q ∷ ps) (inl is) = ([], ps, ap (λ x. x ∷ ps) (sym is))
in_split p (q ∷ ps) (inr later) = let s = in_split p ps later in (q ∷ s.0, s.1, ap (λ xs. q ∷ xs) s.2)

-- another place is among the rest
in_rest : (q p : Place) (before after : List Place) → In q (before ++ p ∷ after) → q ≢ p → In q (before ++ after)
in_rest q p [] after (inl is) other = absurd (other is)
in_rest q p [] after (inr later) other = later
in_rest q p (x ∷ before) after (inl is) other = inl is
in_rest q p (x ∷ before) after (inr later) other = inr (in_rest q p before after later other)

-- a place in one of two lists
pub in_left : (p : Place) (ps qs : List Place) → In p ps → In p (ps ++ qs)
in_left p [] qs there = absurd there
in_left p (x ∷ ps) qs (inl is) = inl is
in_left p (x ∷ ps) qs (inr later) = inr (in_left p ps qs later)

-- or in the second
pub in_right : (p : Place) (ps qs : List Place) → In p qs → In p (ps ++ qs)
in_right p [] qs there = there
in_right p (x ∷ ps) qs there = inr (in_right p ps qs there)

-- a place of both lists is in one of them
pub in_either : (p : Place) (ps qs : List Place) → In p (ps ++ qs) → In p ps ⊎ In p qs
in_either p [] qs there = inr there
in_either p (x ∷ ps) qs (inl is) = inl (inl is)
in_either p (x ∷ ps) qs (inr later) = elim (in_either p ps qs later) [ inl one ↦ inl (inr one) | inr two ↦ inr two ]

-- The places that pass

-- a place that passes is left
pub in_filter : (t : Place → Bool) (p : Place) (ps : List Place) → In p ps → t p ≡ true → In p (filter t ps)
in_filter t p [] there passes = absurd there
in_filter t p (x ∷ ps) (inl is) passes = subst (λ b. In p (cond b (x ∷ filter t ps) (filter t ps))) (sym (ap t (sym is) ∙ passes)) (inl is)
in_filter t p (x ∷ ps) (inr later) passes =
    let rest = in_filter t p ps later passes in
    elim (t x) as (λ b. In p (cond b (x ∷ filter t ps) (filter t ps))) [ true ↦ inr rest | false ↦ rest ]

-- what is left with one in front
filter_front : (t : Place → Bool) (p x : Place) (ps qs : List Place) → t x ≡ true → (In p qs → In p ps × (t p ≡ true)) → (p ≡ x) ⊎ In p qs → ((p ≡ x) ⊎ In p ps) × (t p ≡ true)
filter_front t p x ps qs passes rest (inl is) = (inl is, ap t is ∙ passes)
filter_front t p x ps qs passes rest (inr later) = let r = rest later in (inr r.0, r.1)

-- and what is left was there and passes
pub filter_in : (t : Place → Bool) (p : Place) (ps : List Place) → In p (filter t ps) → In p ps × (t p ≡ true)
filter_in t p [] there = absurd there
filter_in t p (x ∷ ps) there =
    elim (t x) as (λ b. t x ≡ b → In p (cond b (x ∷ filter t ps) (filter t ps)) → ((p ≡ x) ⊎ In p ps) × (t p ≡ true)) [
      | true ↦ λ e here. filter_front t p x ps (filter t ps) e (filter_in t p ps) here
      | false ↦ λ e later. (let r = filter_in t p ps later in (inr r.0, r.1))
    ] refl there

-- they do not repeat either
pub apart_filter : (t : Place → Bool) (ps : List Place) → AllApart ps → AllApart (filter t ps)
apart_filter t [] apart = tt
apart_filter t (x ∷ ps) apart =
    let rest = apart_filter t ps apart.1 in
    let front : AllByRecursion (λ q. x ≢ q) (filter t ps) = all_among (λ q. x ≢ q) (filter t ps) (λ q there. all_in (λ q. x ≢ q) ps apart.0 q (filter_in t q ps there).0) in
    elim (t x) as (λ b. AllApart (cond b (x ∷ filter t ps) (filter t ps))) [ true ↦ (front, rest) | false ↦ rest ]

-- two lists without a place in common
pub apart_append : (ps qs : List Place) → AllApart ps → AllApart qs → ((p : Place) → In p ps → In p qs → ⊥) → AllApart (ps ++ qs)
apart_append [] qs one two none = two
apart_append (x ∷ ps) qs one two none = (
  all_among (λ q. x ≢ q) (ps ++ qs) (λ q there. either_apart q (in_either q ps qs there)),
  apart_append ps qs one.1 two (λ p there. none p (inr there)),
)
  where
    either_apart : (q : Place) → In q ps ⊎ In q qs → x ≢ q
    either_apart q (inl there) = all_in (λ q. x ≢ q) ps one.0 q there
    either_apart q (inr there) = λ same. none x (inl refl) (subst (λ y. In y qs) (sym same) there)

-- Sums

-- a sum over places that do not repeat is no more than one over places among which those that count are
pub sum_within : (f : Place → ℕ) (ps qs : List Place) → AllApart ps → ((p : Place) → In p ps → (f p ≡ 0) ⊎ In p qs) → sum_by f ps ≤ sum_by f qs
sum_within f [] qs apart each = omega arith
sum_within f (p ∷ ps) qs apart each =
    let cons = sum_by-cons f p ps in
    elim (each p (inl refl)) [
      | inl none ↦ omega (arith, cons, none, sum_within f ps qs apart.1 (λ q there. each q (inr there)))
      | inr some ↦
          let s = in_split p qs some in
          let whole : sum_by f qs ≡ sum_by f (s.0 ++ p ∷ s.1) = ap (λ xs. sum_by f xs) s.2 in
          let parts : sum_by f (s.0 ++ p ∷ s.1) ≡ sum_by f s.0 + sum_by f (p ∷ s.1) = sum_by-append f s.0 (p ∷ s.1) in
          let here : sum_by f (p ∷ s.1) ≡ f p + sum_by f s.1 = sum_by-cons f p s.1 in
          let others : sum_by f (s.0 ++ s.1) ≡ sum_by f s.0 + sum_by f s.1 = sum_by-append f s.0 s.1 in
          let rest : sum_by f ps ≤ sum_by f (s.0 ++ s.1) = sum_within f ps (s.0 ++ s.1) apart.1 (λ q there. in_others s.0 s.1 s.2 q there (each q (inr there))) in
          omega (arith, cons, whole, parts, here, others, rest)
    ]
  where
    in_others : (before after : List Place) → qs ≡ before ++ p ∷ after → (q : Place) → In q ps → (f q ≡ 0) ⊎ In q qs → (f q ≡ 0) ⊎ In q (before ++ after)
    in_others before after is q there (inl none) = inl none
    in_others before after is q there (inr some) = inr (in_rest q p before after (subst (λ xs. In q xs) is some) (λ e. all_in (λ q. p ≢ q) ps apart.0 q there (sym e)))

-- two lists with the same places that count have the same sum
pub same_total : (f : Place → ℕ) (ps qs : List Place) → AllApart ps → AllApart qs
    → ((p : Place) → In p ps → (f p ≡ 0) ⊎ In p qs) → ((p : Place) → In p qs → (f p ≡ 0) ⊎ In p ps) → sum_by f ps ≡ sum_by f qs
same_total f ps qs one two there back = omega (arith, sum_within f ps qs one there, sum_within f qs ps two back)

-- the same terms have the same sum
pub same_terms : (f g : Place → ℕ) (ps : List Place) → ((p : Place) → In p ps → f p ≡ g p) → sum_by f ps ≡ sum_by g ps
same_terms f g [] each = refl
same_terms f g (p ∷ ps) each = omega (arith, sum_by-cons f p ps, sum_by-cons g p ps, each p (inl refl), same_terms f g ps (λ q there. each q (inr there)))

-- a sum over those that pass
pub filtered : (t : Place → Bool) (f : Place → ℕ) (ps : List Place) → sum_by f (filter t ps) ≡ sum_by (λ p. cond (t p) (f p) 0) ps
filtered t f [] = refl
filtered t f (p ∷ ps) = by_test (filtered t f ps) (t p) ∙ sym (sum_by-cons (λ p. cond (t p) (f p) 0) p ps) where
  by_test : sum_by f (filter t ps) ≡ sum_by (λ p. cond (t p) (f p) 0) ps → (b : Bool) → sum_by f (cond b (p ∷ filter t ps) (filter t ps)) ≡ cond b (f p) 0 + sum_by (λ p. cond (t p) (f p) 0) ps
  by_test rest true = omega (arith, sum_by-cons f p (filter t ps), rest)
  by_test rest false = omega (arith, rest)
