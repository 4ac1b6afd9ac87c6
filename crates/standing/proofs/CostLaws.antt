-- The space rule by the costs at each place: where at each place the larger cost is no more, so are the pages.
--     cost_mono, pages_mono      of a table, and of all
--     room_mono      so what has room there has it here
use Rattle.std.proofs.Common.{◌≡◌, ◌≢◌, ◌⊎◌, inl, inr, refl, sym, ap, ◌∙◌, subst, ℕ, ◌+◌, ◌-◌, ◌*◌, ◌<◌, ◌≤◌, max, Bool, true, false, cond, not, ◌&&◌, ◌==◌, List, [], ◌∷◌, ◌++◌, length, map, Some, None, arith, T}
use Rattle.std.specs.Prelude.{filter, sum_by, option_map, unwrap_or, is_some, nat_le}
use Rattle.std.specs.List.{list_any, AllByRecursion}
use Rattle.std.specs.declared.cmp.Ordering.TheVariants.{Equal}
use Rattle.std.specs.Ordering.{eq_by_cmp, is_lt}
use Rattle.std.specs.Cmp.{tied_itself}
use Rattle.std.specs.FinMap.{get, keys, contains_key, entries, entries_sorted, contains_key-keys}
use Rattle.std.specs.FinMap.Entries.{is_sorted, below_all}
use Rattle.std.proofs.lemmas.Bool.{or_cases, or_left, or_right, cases_Bool, cases_lt, le-leb, leb-true, ne_eqb, false_from_ne_true}
use Rattle.std.proofs.lemmas.List.Sums.{sum_by-cons, sum_by-append, sum_by-le-sum_by}
use Rattle.mdb_model.specs.Sessions.{same_place}
use Rattle.mdb_model.specs.Space.{cost_at, places, table_cost, table_pages, every_table, tree_pages, is_enough, has_room, converter_pages, ceil_div}
use Rattle.mdb_model.specs.Tables.{Place, Tables, place_cmp}
use Rattle.mdb_model.proofs.Computing.{places_total}
use Rattle.standing.specs.RedoRoom.{AllApart, NoMoreCost}
use Rattle.mdb_model.proofs.SerialPlaces.{same_place-equal, same_place-itself}

-- Places in lists

-- the place is among these
abbrev pub In : Place → List Place → Type 0
In p [] = ⊥
In p (q ∷ qs) = (p ≡ q) ⊎ In p qs

apart_of : (p q : Place) (ps : List Place) → AllByRecursion (λ q. p ≢ q) ps → In q ps → p ≢ q
apart_of p q [] all there = absurd there
apart_of p q (x ∷ ps) all (inl is) = λ e. all.0 (e ∙ is)
apart_of p q (x ∷ ps) all (inr later) = apart_of p q ps all.1 later

-- what stands before and behind it
in_split : (p : Place) (ps : List Place) → In p ps → (before : List Place) × (after : List Place) × (ps ≡ before ++ p ∷ after)
in_split p [] there = absurd there
in_split p (q ∷ ps) (inl is) = ([], ps, ap (λ x. x ∷ ps) (sym is))
in_split p (q ∷ ps) (inr later) = let s = in_split p ps later in (q ∷ s.0, s.1, ap (λ xs. q ∷ xs) s.2)

in_rest : (q p : Place) (before after : List Place) → In q (before ++ p ∷ after) → q ≢ p → In q (before ++ after)
in_rest q p [] after (inl is) other = absurd (other is)
in_rest q p [] after (inr later) other = later
in_rest q p (x ∷ before) after (inl is) other = inl is
in_rest q p (x ∷ before) after (inr later) other = inr (in_rest q p before after later other)

in_left : (p : Place) (ps qs : List Place) → In p ps → In p (ps ++ qs)
in_left p [] qs there = absurd there
in_left p (x ∷ ps) qs (inl is) = inl is
in_left p (x ∷ ps) qs (inr later) = inr (in_left p ps qs later)

in_right : (p : Place) (ps qs : List Place) → In p qs → In p (ps ++ qs)
in_right p [] qs there = there
in_right p (x ∷ ps) qs there = inr (in_right p ps qs there)

in_filter : (t : Place → Bool) (p : Place) (ps : List Place) → In p ps → t p ≡ true → In p (filter t ps)
in_filter t p [] there passes = absurd there
in_filter t p (x ∷ ps) (inl is) passes = subst (λ b. In p (cond b (x ∷ filter t ps) (filter t ps))) (sym (ap t (sym is) ∙ passes)) (inl is)
in_filter t p (x ∷ ps) (inr later) passes =
    let rest = in_filter t p ps later passes in
    elim (t x) as (λ b. In p (cond b (x ∷ filter t ps) (filter t ps))) [ true ↦ inr rest | false ↦ rest ]

filter_front : (t : Place → Bool) (p x : Place) (ps qs : List Place) → t x ≡ true → (In p qs → In p ps × (t p ≡ true)) → (p ≡ x) ⊎ In p qs → ((p ≡ x) ⊎ In p ps) × (t p ≡ true)
filter_front t p x ps qs passes rest (inl is) = (inl is, ap t is ∙ passes)
filter_front t p x ps qs passes rest (inr later) = let r = rest later in (inr r.0, r.1)

filter_in : (t : Place → Bool) (p : Place) (ps : List Place) → In p (filter t ps) → In p ps × (t p ≡ true)
filter_in t p [] there = absurd there
filter_in t p (x ∷ ps) there =
    elim (t x) as (λ b. t x ≡ b → In p (cond b (x ∷ filter t ps) (filter t ps)) → ((p ≡ x) ⊎ In p ps) × (t p ≡ true)) [
      | true ↦ λ e here. filter_front t p x ps (filter t ps) e (filter_in t p ps) here
      | false ↦ λ e later. (let r = filter_in t p ps later in (inr r.0, r.1))
    ] refl there

all_filter : (P : Place → Type 0) (t : Place → Bool) (ps : List Place) → AllByRecursion P ps → AllByRecursion P (filter t ps)
all_filter P t [] all = tt
all_filter P t (x ∷ ps) all =
    let rest = all_filter P t ps all.1 in
    elim (t x) as (λ b. AllByRecursion P (cond b (x ∷ filter t ps) (filter t ps))) [ true ↦ (all.0, rest) | false ↦ rest ]

apart_filter : (t : Place → Bool) (ps : List Place) → AllApart ps → AllApart (filter t ps)
apart_filter t [] all = tt
apart_filter t (x ∷ ps) all =
    let rest = apart_filter t ps all.1 in
    let front : AllByRecursion (λ q. x ≢ q) (filter t ps) = all_filter (λ q. x ≢ q) t ps all.0 in
    elim (t x) as (λ b. AllApart (cond b (x ∷ filter t ps) (filter t ps))) [ true ↦ (front, rest) | false ↦ rest ]

all_among : (P : Place → Type 0) (ps : List Place) → ((p : Place) → In p ps → P p) → AllByRecursion P ps
all_among P [] each = tt
all_among P (x ∷ ps) each = (each x (inl refl), all_among P ps (λ p there. each p (inr there)))

all_append : (P : Place → Type 0) (ps qs : List Place) → AllByRecursion P ps → AllByRecursion P qs → AllByRecursion P (ps ++ qs)
all_append P [] qs one two = two
all_append P (x ∷ ps) qs one two = (one.0, all_append P ps qs one.1 two)

apart_append : (ps qs : List Place) → AllApart ps → AllApart qs → ((p : Place) → In p ps → In p qs → ⊥) → AllApart (ps ++ qs)
apart_append [] qs one two none = two
apart_append (x ∷ ps) qs one two none = (
  all_append (λ q. x ≢ q) ps qs one.0 (all_among (λ q. x ≢ q) qs (λ q there e. none x (inl refl) (subst (λ y. In y qs) (sym e) there))),
  apart_append ps qs one.1 two (λ p there. none p (inr there)),
)

-- Sums

-- a sum over places that do not repeat is no more than one over places among which those that count are
sum_among : (f g : Place → ℕ) (ps qs : List Place) → AllApart ps → ((p : Place) → In p ps → (f p ≡ 0) ⊎ ((f p ≤ g p) × In p qs)) → sum_by f ps ≤ sum_by g qs
sum_among f g [] qs apart each = omega arith
sum_among f g (p ∷ ps) qs apart each =
    let cons = sum_by-cons f p ps in
    elim (each p (inl refl)) [
      | inl none ↦ omega (arith, cons, none, sum_among f g ps qs apart.1 (λ q there. each q (inr there)))
      | inr some ↦
          let s = in_split p qs some.1 in
          let whole : sum_by g qs ≡ sum_by g (s.0 ++ p ∷ s.1) = ap (λ xs. sum_by g xs) s.2 in
          let parts : sum_by g (s.0 ++ p ∷ s.1) ≡ sum_by g s.0 + sum_by g (p ∷ s.1) = sum_by-append g s.0 (p ∷ s.1) in
          let here : sum_by g (p ∷ s.1) ≡ g p + sum_by g s.1 = sum_by-cons g p s.1 in
          let others : sum_by g (s.0 ++ s.1) ≡ sum_by g s.0 + sum_by g s.1 = sum_by-append g s.0 s.1 in
          let rest : sum_by f ps ≤ sum_by g (s.0 ++ s.1) = sum_among f g ps (s.0 ++ s.1) apart.1 (λ q there. in_others s.0 s.1 s.2 q there (each q (inr there))) in
          omega (arith, cons, whole, parts, here, others, rest, some.0)
    ]
  where
    in_others : (before after : List Place) → qs ≡ before ++ p ∷ after → (q : Place) → In q ps → (f q ≡ 0) ⊎ ((f q ≤ g q) × In q qs) → (f q ≡ 0) ⊎ ((f q ≤ g q) × In q (before ++ after))
    in_others before after is q there (inl none) = inl none
    in_others before after is q there (inr some) = inr (some.0, in_rest q p before after (subst (λ xs. In q xs) is some.1) (λ e. apart_of p q ps apart.0 there (sym e)))

-- The keys of tables

first_of_two : (a b : Bool) → T (a && b) → T a
first_of_two true b h = tt
first_of_two false b h = absurd h

second_of_two : (a b : Bool) → T (a && b) → T b
second_of_two true b h = h
second_of_two false b h = absurd h

not_less : (p q : Place) → T (is_lt (place_cmp p q)) → p ≢ q
not_less p q less e =
    let tied : place_cmp p q ≡ Equal = ap (λ x. place_cmp p x) (sym e) ∙ tied_itself places_total p in
    absurd (subst (λ o. T (is_lt o)) tied less)

below_apart : (p : Place) (es : List (Place × List ℕ)) → T (below_all place_cmp p es) → AllByRecursion (λ q. p ≢ q) (map (λ e. e.0) es)
below_apart p [] h = tt
below_apart p (e ∷ es) h = (not_less p e.0 (first_of_two _ _ h), below_apart p es (second_of_two _ _ h))

keys_apart : (es : List (Place × List ℕ)) → T (is_sorted place_cmp es) → AllApart (map (λ e. e.0) es)
keys_apart [] h = tt
keys_apart (e ∷ es) h = (below_apart e.0 es (first_of_two _ _ h), keys_apart es (second_of_two _ _ h))

any_in : (p : Place) (ps : List Place) → list_any (eq_by_cmp place_cmp p) ps ≡ true → In p ps
any_in p [] h = absurd (let no : false ≡ true = h in cc)
any_in p (q ∷ ps) h = elim (or_cases (eq_by_cmp place_cmp p q) (list_any (eq_by_cmp place_cmp p) ps) h) [
  | inl is ↦ inl (same_place-equal p q is)
  | inr later ↦ inr (any_in p ps later)
]

in_any : (p : Place) (ps : List Place) → In p ps → list_any (eq_by_cmp place_cmp p) ps ≡ true
in_any p [] there = absurd there
in_any p (q ∷ ps) (inl is) = or_left (eq_by_cmp place_cmp p q) (list_any (eq_by_cmp place_cmp p) ps) (ap (λ x. same_place p x) (sym is) ∙ same_place-itself p)
in_any p (q ∷ ps) (inr later) = or_right (eq_by_cmp place_cmp p q) (list_any (eq_by_cmp place_cmp p) ps) (in_any p ps later)

in_keys : (m : Tables) (p : Place) → contains_key m p ≡ true → In p (keys m)
in_keys m p there = any_in p (keys m) (sym (contains_key-keys m p) ∙ there)

keys_in : (m : Tables) (p : Place) → In p (keys m) → contains_key m p ≡ true
keys_in m p there = contains_key-keys m p ∙ in_any p (keys m) there

places_apart : (a b : Tables) → AllApart (places a b)
places_apart a b = apart_append (keys a) (filter (λ p. not (contains_key a p)) (keys b)) (keys_apart (entries a) (entries_sorted a))
    (apart_filter (λ p. not (contains_key a p)) (keys b) (keys_apart (entries b) (entries_sorted b)))
    (λ p one two.
    let yes = keys_in a p one in
    let no : not (contains_key a p) ≡ true = (filter_in (λ p. not (contains_key a p)) p (keys b) two).1 in
    let never : false ≡ true = sym (ap not yes) ∙ no in
    (absurd cc))

in_places : (a b : Tables) (p : Place) → (contains_key a p ≡ true) ⊎ (contains_key b p ≡ true) → In p (places a b)
in_places a b p (inl one) = in_left p (keys a) (filter (λ p. not (contains_key a p)) (keys b)) (in_keys a p one)
in_places a b p (inr two) = elim (cases_Bool (contains_key a p)) [
  | inl one ↦ in_left p (keys a) (filter (λ p. not (contains_key a p)) (keys b)) (in_keys a p one)
  | inr none ↦ in_right p (keys a) (filter (λ p. not (contains_key a p)) (keys b)) (in_filter (λ p. not (contains_key a p)) p (keys b) (in_keys b p two) (ap not none))
]

-- Costs

has_cost : (m : Tables) (p : Place) → (cost_at m p ≡ 0) ⊎ (contains_key m p ≡ true)
has_cost m p = elim (get m p) as (λ o. (unwrap_or (option_map (λ value. 8 + length p.1 + length value) o) 0 ≡ 0) ⊎ (is_some o ≡ true)) [
  | None ↦ inl refl
  | Some v ↦ inr refl
]

pub cost_mono : (a b c d : Tables) (table : ℕ) → NoMoreCost a b c d → table_cost a b table ≤ table_cost c d table
cost_mono a b c d table less =
    sum_among (λ p. max (cost_at a p) (cost_at b p)) (λ p. max (cost_at c p) (cost_at d p)) (filter (λ p. p.0 == table) (places a b)) (filter (λ p. p.0 == table) (places c d))
    (apart_filter (λ p. p.0 == table) (places a b) (places_apart a b)) (λ p there. counts p (filter_in (λ p. p.0 == table) p (places a b) there).1 (has_cost c p) (has_cost d p))
  where
    counts : (p : Place) → (p.0 == table) ≡ true → (cost_at c p ≡ 0) ⊎ (contains_key c p ≡ true) → (cost_at d p ≡ 0) ⊎ (contains_key d p ≡ true)
        → (max (cost_at a p) (cost_at b p) ≡ 0) ⊎ ((max (cost_at a p) (cost_at b p) ≤ max (cost_at c p) (cost_at d p)) × In p (filter (λ p. p.0 == table) (places c d)))
    counts p here (inl none) (inl neither) = inl (omega (arith, less p, none, neither))
    counts p here (inl none) (inr some) = inr (less p, in_filter (λ p. p.0 == table) p (places c d) (in_places c d p (inr some)) here)
    counts p here (inr some) other = inr (less p, in_filter (λ p. p.0 == table) p (places c d) (in_places c d p (inl some)) here)

-- Pages

pages_none : table_pages 0 ≡ 0
pages_none = refl

pages_one : (n : ℕ) → 0 < n → n ≤ 8128 → table_pages n ≡ 1
pages_one n some few = (λ i. cond (ne_eqb n 0 (λ e. omega (arith, e, some)) i) 0 (cond (nat_le n 8128) 1 (4 + ceil_div (3 * n) 8128))) ∙ ap (λ b. cond b 1 (4 + ceil_div (3 * n) 8128)) (le-leb n 8128 few)

pages_more : (n : ℕ) → 8128 < n → table_pages n ≡ 4 + ceil_div (3 * n) 8128
pages_more n many = (λ i. cond (ne_eqb n 0 (λ e. omega (arith, e, many)) i) 0 (cond (nat_le n 8128) 1 (4 + ceil_div (3 * n) 8128)))
    ∙ ap (λ b. cond b 1 (4 + ceil_div (3 * n) 8128)) (false_from_ne_true (nat_le n 8128) (λ e. omega (arith, many, leb-true n 8128 e)))

pub table_pages_mono : (m n : ℕ) → m ≤ n → table_pages m ≤ table_pages n
table_pages_mono m n le = elim (cases_lt 0 m) [
  | inr none ↦ let z : m ≡ 0 = omega (arith, none) in let e : table_pages m ≡ 0 = ap table_pages z ∙ pages_none in omega (arith, e)
  | inl some ↦ elim (cases_lt 8128 n) [
    | inr few ↦ omega (arith, pages_one m some (omega (arith, le, few)), pages_one n (omega (arith, some, le)) few)
    | inl many ↦ elim (cases_lt 8128 m) [
      | inr small ↦ omega (arith, pages_one m some small, pages_more n many)
      | inl large ↦ omega (arith, pages_more m large, pages_more n many, le)
    ]
  ]
]

pub pages_mono : (a b c d : Tables) → NoMoreCost a b c d → tree_pages a b ≤ tree_pages c d
pages_mono a b c d less = sum_by-le-sum_by (λ table. table_pages (table_cost a b table)) (λ table. table_pages (table_cost c d table)) every_table (λ table. table_pages_mono (table_cost a b table) (table_cost c d table) (cost_mono a b c d table less))

-- Room

pub room_mono : (a b c d : Tables) (undo more kept blocks : ℕ) → NoMoreCost a b c d → undo ≤ more → has_room c d more kept blocks ≡ true → has_room a b undo kept blocks ≡ true
room_mono a b c d undo more kept blocks less fewer room = elim (or_cases (is_enough c d more kept blocks) (is_enough c d more kept (blocks - 1)) room) [
  | inl all ↦ or_left (is_enough a b undo kept blocks) (is_enough a b undo kept (blocks - 1)) (enough blocks all)
  | inr one ↦ or_right (is_enough a b undo kept blocks) (is_enough a b undo kept (blocks - 1)) (enough (blocks - 1) one)
]
  where
    enough : (n : ℕ) → is_enough c d more kept n ≡ true → is_enough a b undo kept n ≡ true
    enough n holds = le-leb (4 + tree_pages a b + undo + 2 * converter_pages n + kept + 160) n
        (omega (arith, fewer, pages_mono a b c d less, leb-true (4 + tree_pages c d + more + 2 * converter_pages n + kept + 160) n holds))
