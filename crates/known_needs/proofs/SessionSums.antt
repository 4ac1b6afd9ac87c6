-- A sum over sessions by their numbers is the one over those that there are.
--     past_end      a list has nothing past its end
--     same_sum      the two sums
use Rattle.std.proofs.Common.{◌≡◌, ◌≢◌, inl, inr, refl, sym, ap, ◌∙◌, ℕ, zero, suc, ◌≤◌, T, List, [], ◌∷◌, length, map, set, get_or, arith}
use Rattle.std.specs.Prelude.{sum_by, option_map, unwrap_or}
use Rattle.std.specs.Ordering.{nat_cmp}
use Rattle.std.specs.Cmp.{nat_cmp_total}
use Rattle.std.specs.FinMap.{nat_cmp-IsAntisymmetric}
use Rattle.std.specs.FinMap.Entries.{is_sorted, find}
use Rattle.std.proofs.lemmas.Bool.{cases_lt, cases_eq}
use Rattle.std.proofs.lemmas.List.{get_or-set_same, get_or-set_other}
use Rattle.std.proofs.lemmas.List.Sums.{sum_by-cons, sum_by-set}
use Rattle.known_needs.proofs.Found.{first_alone, others_sorted, find_first, find_other}

-- a list has nothing past its end
pub past_end : {A : Type 0} (l : List A) (i : ℕ) (d : A) → length l ≤ i → get_or l i d ≡ d
past_end [] i d past = refl
past_end (x ∷ l) zero d past = absurd (omega (arith, past))
past_end (x ∷ l) (suc i) d past = past_end l i d (omega (arith, past))

module _ {A X : Type 0} (g : A → ℕ) (h : X → ℕ) (d : A) (none : g d ≡ 0) where
  -- what a number counts for among the entries
  abbrev share : List (ℕ × X) → ℕ → ℕ
  share es q = unwrap_or (option_map h (find nat_cmp q es)) 0

  -- numbers that count for nothing sum to nothing
  all_none : (l : List A) → ((q : ℕ) → g (get_or l q d) ≡ 0) → sum_by g l ≡ 0
  all_none [] each = refl
  all_none (x ∷ l) each = omega (arith, sum_by-cons g x l, each 0, all_none l (λ q. each (suc q)))

  -- the shares of the others, where nothing is left of the first
  others : (e : ℕ × X) (es : List (ℕ × X)) (l rest : List A) → T (is_sorted nat_cmp (e ∷ es)) → ((q : ℕ) → g (get_or l q d) ≡ share (e ∷ es) q)
      → get_or rest e.0 d ≡ d → ((q : ℕ) → q ≢ e.0 → get_or rest q d ≡ get_or l q d) → (q : ℕ) → g (get_or rest q d) ≡ share es q
  others e es l rest sorted each gone same q = elim (cases_eq q e.0) [
    | inl is ↦ (ap (λ k. g (get_or rest k d)) is ∙ ap g gone ∙ none) ∙ sym (ap (share es) is ∙ ap (λ o. unwrap_or (option_map h o) 0) (first_alone nat_cmp nat_cmp_total nat_cmp-IsAntisymmetric e es sorted))
    | inr other ↦ ap g (same q other) ∙ each q ∙ ap (λ o. unwrap_or (option_map h o) 0) (find_other nat_cmp nat_cmp_total nat_cmp-IsAntisymmetric e es q other)
  ]

  -- where the list has at each number what the entry there counts for, the sums are the same
  pub same_sum : (es : List (ℕ × X)) (l : List A) → T (is_sorted nat_cmp es) → ((q : ℕ) → g (get_or l q d) ≡ share es q) → sum_by g l ≡ sum_by h (map (λ e. e.1) es)
  same_sum [] l sorted each = all_none l each
  same_sum (e ∷ es) l sorted each = elim (cases_lt e.0 (length l)) [
    | inl inside ↦
        let rest = same_sum es (set l e.0 d) (others_sorted nat_cmp nat_cmp_total nat_cmp-IsAntisymmetric e es sorted) (others e es l (set l e.0 d) sorted each (get_or-set_same l e.0 d d inside) (λ q other. get_or-set_other l e.0 q d d other)) in
        omega (arith, sum_by-set g l e.0 d d inside, here, rest, none, sum_by-cons h e.1 (map (λ x. x.1) es))
    | inr past ↦
        let rest = same_sum es l (others_sorted nat_cmp nat_cmp_total nat_cmp-IsAntisymmetric e es sorted) (others e es l l sorted each (past_end l e.0 d past) (λ q other. refl)) in
        let nothing : g (get_or l e.0 d) ≡ 0 = ap g (past_end l e.0 d past) ∙ none in
        omega (arith, here, rest, nothing, sum_by-cons h e.1 (map (λ x. x.1) es))
  ]
    where
      here : g (get_or l e.0 d) ≡ h e.1
      here = each e.0 ∙ ap (λ o. unwrap_or (option_map h o) 0) (find_first nat_cmp nat_cmp_total nat_cmp-IsAntisymmetric e es)
