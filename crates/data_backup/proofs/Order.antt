-- The pages that are left, in order.
--     every_page      after none all are left
--     stamped_all      all pages were written after savepoint 0
--     next_left      after the first of those that were left the others are
use Rattle.std.proofs.Common.{suc, ◌≡◌, refl, sym, ap, subst, ◌∙◌, inl, inr, ℕ, ◌<◌, ◌≤◌, List, [], ◌∷◌, Bool, true, false, cond, ◌&&◌, Option, None, Some, arith, nat_lt, T}
use Rattle.std.specs.Prelude.{filter}
use Rattle.std.proofs.lemmas.Bool.{cases_Bool, ltb-true, ltb-false, lt-ltb, le-ltb, true≢false}
use Rattle.std.proofs.lemmas.Cmp.{ranked}
use Rattle.std.specs.declared.cmp.Ordering.{Ordering}
use Rattle.std.specs.declared.cmp.Ordering.TheVariants.{Less, Equal, Greater}
use Rattle.std.specs.Ordering.{nat_cmp, is_lt, MatchOrdering}
use Rattle.std.specs.Prelude.{All}
use Rattle.std.specs.FinMap.{entries, entries_sorted, from_sorted, same_entries_map, entries-from_sorted}
use Rattle.std.specs.FinMap.Entries.{below_all, is_sorted}
use Rattle.mdb_model.specs.Pages.{Page, PageMap, written_after}
use Rattle.data_backup.specs.Frozen.{is_after, AllStamped}

-- the parts of a test
first_part : (a b : Bool) → T (a && b) → T a
first_part true b h = tt
first_part false b h = absurd h

second_part : (a b : Bool) → T (a && b) → T b
second_part true b h = h
second_part false b h = absurd h

-- what an order says of two numbers
less_is : (x y : ℕ) (o : Ordering) → MatchOrdering o (x < y) (x ≡ y) (y < x) → T (is_lt o) → x < y
less_is x y Less m h = m
less_is x y Equal m h = absurd h
less_is x y Greater m h = absurd h

below_is : (x y : ℕ) → T (is_lt (nat_cmp x y)) → x < y
below_is x y h = less_is x y (nat_cmp x y) (ranked x y (nat_cmp x y) refl) h

-- pages that all come after one are all kept
keeps_all : (last : Option ℕ) (n : ℕ) → ((k : ℕ) → n < k → is_after last k ≡ true) → (es : List (ℕ × Page)) → T (below_all nat_cmp n es) → filter (λ e. is_after last e.0) es ≡ es
keeps_all last n up [] h = refl
keeps_all last n up (e ∷ es) h =
    ap (λ (b : Bool). cond b (e ∷ filter (λ (x : ℕ × Page). is_after last x.0) es) (filter (λ (x : ℕ × Page). is_after last x.0) es)) (up e.0 (below_is n e.0 (first_part _ _ h)))
    ∙ ap (λ (l : List (ℕ × Page)). e ∷ l) (keeps_all last n up es (second_part _ _ h))

-- after none all are left
pub every_page : (es : List (ℕ × Page)) → filter (λ e. is_after None e.0) es ≡ es
every_page [] = refl
every_page (e ∷ es) = ap (λ (l : List (ℕ × Page)). e ∷ l) (every_page es)

-- a page that is left comes after
passes : (last : Option ℕ) (es : List (ℕ × Page)) (e : ℕ × Page) (rest : List (ℕ × Page)) → filter (λ x. is_after last x.0) es ≡ e ∷ rest → is_after last e.0 ≡ true
passes last [] e rest is = absurd cc
passes last (x ∷ xs) e rest is = elim (cases_Bool (is_after last x.0)) [
  | inl passing ↦
      let h : x ∷ filter (λ (y : ℕ × Page). is_after last y.0) xs ≡ e ∷ rest =
      sym (ap (λ (b : Bool). cond b (x ∷ filter (λ (y : ℕ × Page). is_after last y.0) xs) (filter (λ (y : ℕ × Page). is_after last y.0) xs)) passing) ∙ is in
      let same : x ≡ e = cc in
      subst (λ (y : ℕ × Page). is_after last y.0 ≡ true) same passing
  | inr failing ↦ passes last xs e rest (sym (ap (λ (b : Bool). cond b (x ∷ filter (λ (y : ℕ × Page). is_after last y.0) xs) (filter (λ (y : ℕ × Page). is_after last y.0) xs)) failing) ∙ is)
]

-- what comes after stays so
up_from : (last : Option ℕ) (n : ℕ) → is_after last n ≡ true → (k : ℕ) → n < k → is_after last k ≡ true
up_from None n is k lt = refl
up_from (Some m) n is k lt = let low : m < n = ltb-true m n is in lt-ltb m k (omega (arith, low, lt))

-- a page that does not come after a third one comes before one that does
not_after : (last : Option ℕ) (x e : ℕ) → is_after last x ≡ false → is_after last e ≡ true → nat_lt e x ≡ false
not_after None x e failing passing = absurd (true≢false failing)
not_after (Some n) x e failing passing =
    let low : n < e = ltb-true n e passing in
    let high : x ≤ n = ltb-false n x failing in
    le-ltb e x (omega (arith, low, high))

-- after the first of those that were left the others are
pub next_left : (last : Option ℕ) (es : List (ℕ × Page)) → T (is_sorted nat_cmp es) → (e : ℕ × Page) (rest : List (ℕ × Page)) → filter (λ x. is_after last x.0) es ≡ e ∷ rest
    → filter (λ x. is_after (Some e.0) x.0) es ≡ rest
next_left last [] sorted e rest is = absurd cc
next_left last (x ∷ xs) sorted e rest is = elim (cases_Bool (is_after last x.0)) [
  | inl passing ↦
      let h : x ∷ filter (λ (y : ℕ × Page). is_after last y.0) xs ≡ e ∷ rest =
      sym (ap (λ (b : Bool). cond b (x ∷ filter (λ (y : ℕ × Page). is_after last y.0) xs) (filter (λ (y : ℕ × Page). is_after last y.0) xs)) passing) ∙ is in
      let same : x ≡ e = cc in
      let others : filter (λ (y : ℕ × Page). is_after last y.0) xs ≡ rest = cc in
      let all = keeps_all last x.0 (up_from last x.0 passing) xs (first_part _ _ sorted) in
      let itself : nat_lt x.0 x.0 ≡ false = le-ltb x.0 x.0 (omega arith) in
      let later = keeps_all (Some x.0) x.0 (λ k lt. lt-ltb x.0 k lt) xs (first_part _ _ sorted) in
      subst (λ (y : ℕ × Page). filter (λ (z : ℕ × Page). is_after (Some y.0) z.0) (x ∷ xs) ≡ rest) same
      (ap (λ (b : Bool). cond b (x ∷ filter (λ (z : ℕ × Page). is_after (Some x.0) z.0) xs) (filter (λ (z : ℕ × Page). is_after (Some x.0) z.0) xs)) itself ∙ later ∙ sym all ∙ others)
  | inr failing ↦
      let h : filter (λ (y : ℕ × Page). is_after last y.0) xs ≡ e ∷ rest =
      sym (ap (λ (b : Bool). cond b (x ∷ filter (λ (y : ℕ × Page). is_after last y.0) xs) (filter (λ (y : ℕ × Page). is_after last y.0) xs)) failing) ∙ is in
      let before = not_after last x.0 e.0 failing (passes last xs e rest h) in
      ap (λ (b : Bool). cond b (x ∷ filter (λ (z : ℕ × Page). is_after (Some e.0) z.0) xs) (filter (λ (z : ℕ × Page). is_after (Some e.0) z.0) xs)) before
      ∙ next_left last xs (second_part _ _ sorted) e rest h
]

-- pages that were written by some savepoint
stamped_kept : (es : List (ℕ × Page)) → All (λ e. 0 < e.1.stamp) es → filter (λ e. nat_lt 0 e.1.stamp) es ≡ es
stamped_kept [] stamped = refl
stamped_kept (e ∷ es) stamped =
    ap (λ (b : Bool). cond b (e ∷ filter (λ (x : ℕ × Page). nat_lt 0 x.1.stamp) es) (filter (λ (x : ℕ × Page). nat_lt 0 x.1.stamp) es)) (lt-ltb 0 e.1.stamp (stamped 0 e (omega arith)))
    ∙ ap (λ (l : List (ℕ × Page)). e ∷ l) (stamped_kept es (λ k d lt. stamped (suc k) d (omega (arith, lt))))

-- all of them were written after savepoint 0
pub stamped_all : (pages : PageMap) → AllStamped pages → written_after 0 pages ≡ pages
stamped_all pages stamped =
    ap (λ (l : List (ℕ × Page)). from_sorted {R = nat_cmp} l) (stamped_kept (entries pages) stamped)
    ∙ same_entries_map (from_sorted {R = nat_cmp} (entries pages)) pages (entries-from_sorted nat_cmp (entries pages) (entries_sorted pages))
