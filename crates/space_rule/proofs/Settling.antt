-- The sums after the last change of a session ended, and after a table's cost was set.
--     settled_push      committed changes, the last one first
--     after-settle      the running sums without the last change
--     after-load      the running sums with another committed cost, where no change is open
use Rattle.std.proofs.Common.{◌≡◌, refl, sym, ap, subst, ◌∙◌, ℕ, zero, suc, ◌+◌, ◌-◌, ◌^◌, ◌<◌, ◌≤◌, inl, inr, Bool, true, false, List, [], ◌∷◌, ◌++◌, length, get_or, set, cond, take, drop, None, arith, length-append}
use Rattle.std.specs.Prelude.{sum_by, nat_eq}
use Rattle.std.proofs.lemmas.Bool.{cases_Bool, eqb-true, eqb-false}
use Rattle.std.proofs.lemmas.List.{get_or-set_same, get_or-set_other, length-set, get_or-append_right, drop_more, drop_all, take-append-drop, set-get_or}
use Rattle.std.proofs.Math.Seq.{get_or-append_seam}
use Rattle.std.proofs.lemmas.List.Sums.{sum_by_push, sum_by-cons}
use Rattle.mdb_model.specs.Space.{table_pages}
use Rattle.space_rule.specs.declared.open_change.OpenChange.{OpenChange}
use Rattle.space_rule.specs.KnownCosts.{changes_at, cost_before, cost_now, growth, growth_on, growth_of, open_table_cost, all_table_pages, with_settled_cost, with_settled, costs_after, undo_cost, undo_pages_for, undo_of}
use Rattle.space_rule.specs.Weighing.{AreSums, IsInOrder}
use Rattle.space_rule.proofs.Opens.{growth-here, growth-elsewhere, order-front}
use Rattle.space_rule.proofs.Sums.{growth-set, undo-set, session_in, growth_in, pages-at, table_in, pages-small}
use Rattle.space_rule.proofs.Noting.{set-all}

-- committed changes, the last one first
pub settled_push : (xs : List OpenChange) (x : OpenChange) (committed : List ℕ) → with_settled (xs ++ x ∷ []) committed ≡ with_settled xs (with_settled_cost x committed)
settled_push [] x committed = refl
settled_push (y ∷ xs) x committed = ap (with_settled_cost y) (settled_push xs x committed)

-- a table costs no more once a change ended
pub not-more : (b : Bool) (cost c now before g : ℕ) → cost ≡ cond b ((c + now) - before) c → now - before ≤ g → cost + (g - (now - before)) ≤ c + g
not-more true cost c now before g is le = omega arith
not-more false cost c now before g is le = omega arith

-- the last of changes, and those before it
pub last-parts : (ys : List OpenChange) (d : OpenChange) → 0 < length ys → ys ≡ take (length ys - 1) ys ++ get_or ys (length ys - 1) d ∷ []
last-parts ys d some =
    let n = length ys - 1 in
    let rest : drop n ys ≡ get_or ys n d ∷ [] = drop_more ys n d (omega arith) ∙ ap (λ zs. get_or ys n d ∷ zs) (drop_all (n + 1) ys (omega arith)) in
    sym (take-append-drop n ys) ∙ ap (λ zs. take n ys ++ zs) rest

-- a change, as any item
pub no_change : OpenChange
no_change = record { table = record { 0 = 0 }; key = []; before = None; now = None }

-- the last of changes, found by its index
pub last-found : (ys xs : List OpenChange) (x y : OpenChange) → ys ≡ xs ++ x ∷ [] → y ≡ get_or ys (length ys - 1) y → y ≡ x
last-found ys xs x y e found =
    let l = ap length e in
    let at : length ys - 1 ≡ length xs = omega (arith, length-append xs (x ∷ [])) in
    found ∙ ap (λ n. get_or ys n y) at ∙ ap (λ zs. get_or zs (length xs) y) e ∙ get_or-append_seam xs x [] y

-- an item that is set twice
set-twice : {X : Type 0} (ys : List X) (i : ℕ) (a b : X) → set (set ys i a) i b ≡ set ys i b
set-twice [] i a b = refl
set-twice (y ∷ ys) zero a b = refl
set-twice (y ∷ ys) (suc i) a b = ap (λ zs. y ∷ zs) (set-twice ys i a b)

-- there is one change fewer
pub fewer-now : (sessions new : List (List OpenChange)) (s : ℕ) (xs : List OpenChange) (x : OpenChange) → s < length sessions → new ≡ set sessions s xs → changes_at sessions s ≡ xs ++ x ∷ []
    → length (changes_at new s) < length (changes_at sessions s)
fewer-now sessions new s xs x inside is popped =
    let now = ap (λ l. length (changes_at l s)) is ∙ ap length (get_or-set_same sessions s xs [] inside) in
    let before = ap length popped in
    omega (arith, length-append xs (x ∷ []))

-- the end of a transaction is that of its last change, and then of the others
pub ended-rest : (b : Bool) (committed : List ℕ) (sessions : List (List OpenChange)) (s : ℕ) (x : OpenChange) (xs : List OpenChange) (index cost : ℕ) → s < length sessions
    → changes_at sessions s ≡ xs ++ x ∷ [] → index ≡ x.table.0
    → cost ≡ cond b ((get_or committed x.table.0 0 + cost_now x) - cost_before x) (get_or committed x.table.0 0)
    → (costs_after b (changes_at (set sessions s xs) s) (set committed index cost) ≡ costs_after b (changes_at sessions s) committed)
    × (set (set sessions s xs) s [] ≡ set sessions s [])
ended-rest true committed sessions s x xs index cost inside popped at is = (
  ap (λ ys. with_settled ys (set committed index cost)) (get_or-set_same sessions s xs [] inside)
      ∙ ap (λ n. with_settled xs (set committed n cost)) at ∙ ap (λ n. with_settled xs (set committed x.table.0 n)) is
      ∙ sym (settled_push xs x committed) ∙ ap (λ ys. with_settled ys committed) (sym popped),
  set-twice sessions s xs [],
)
ended-rest false committed sessions s x xs index cost inside popped at is = (
  ap (λ n. set committed n cost) at ∙ ap (λ n. set committed x.table.0 n) is ∙ set-get_or committed x.table.0 0,
  set-twice sessions s xs [],
)

-- less and no more, along an equation
pub less-along : (a b n : ℕ) → a ≡ b → b < n → a < n
less-along a b n e lt = omega arith

-- the same where it is no more
pub no-more-along : (a b n : ℕ) → a ≡ b → b ≤ n → a ≤ n
no-more-along a b n e le = omega arith

-- fewer bytes are on no more undo pages
less-undo : (a b : ℕ) → a ≤ b → undo_pages_for a ≤ undo_pages_for b
less-undo a b le = elim (cases_Bool (nat_eq a 0)) [
  | inl is ↦ rw is (omega arith)
  | inr is ↦ elim (cases_Bool (nat_eq b 0)) [
    | inl none ↦ let low = eqb-true b 0 none in let some = eqb-false a 0 is in absurd (some (omega arith))
    | inr more ↦ rw (is, more) (omega arith)
  ]
]

module _ (committed grown : List ℕ) (sessions : List (List OpenChange)) (undo_bytes : List ℕ) (pages undo : ℕ) (s : ℕ) (x : OpenChange) (xs : List OpenChange)
    (sums : AreSums committed grown sessions undo_bytes pages undo) (inside : s < 65) (popped : changes_at sessions s ≡ xs ++ x ∷ []) where
  abbrev pub t : ℕ
  t = x.table.0

  abbrev pub fewer : List (List OpenChange)
  fewer = set sessions s xs

  -- there is such a session
  here : s < length sessions
  here = let l = sums.many_sessions.0 in omega arith

  -- the last change
  last_is : get_or (changes_at sessions s) (length xs) x ≡ x
  last_is = ap (λ ys. get_or ys (length xs) x) popped ∙ get_or-append_right xs (x ∷ []) (length xs) (length xs) x refl (omega arith) ∙ ap (λ n. get_or (x ∷ []) n x) (let e : length xs - length xs ≡ 0 = omega arith in e)

  -- its table is one
  pub range : (1 ≤ t) × (t ≤ 500)
  range =
      let order = sums.in_order s inside in
      let l = ap length popped in
      let one = order.tables (length xs) x (omega (arith, length-append xs (x ∷ []))) in
      let is = ap (λ (c : OpenChange). c.table.0) last_is in
      (let low = one.0 in omega arith, let high = one.1 in omega arith)

  -- a sum loses its term
  sum-popped : (f : OpenChange → ℕ) → sum_by f (changes_at sessions s) ≡ sum_by f xs + f x
  sum-popped f = ap (sum_by f) popped ∙ sum_by_push f xs x

  -- the growth of the table without it
  pub grown-fewer : get_or grown t 0 - growth x ≡ growth_of t fewer
  grown-fewer =
      let a = growth-set t s sessions xs here in
      let b = sum-popped (growth_on t) in
      let c = growth-here t x refl in
      let d = sums.grown_is t (let r = range.1 in omega arith) in
      omega arith

  -- its growth is part of that of the table
  pub growth-le : growth x ≤ get_or grown t 0
  growth-le =
      let a = growth_in t s sessions here in
      let b = sum-popped (growth_on t) in
      let c = growth-here t x refl in
      let d = sums.grown_is t (let r = range.1 in omega arith) in
      omega arith

  -- its before image is part of those of the session
  pub undo-le : undo_cost x ≤ get_or undo_bytes s 0
  undo-le = let a = sum-popped undo_cost in let b = sums.bytes_are s inside in omega arith

  -- the before images without its own
  pub bytes-fewer : get_or undo_bytes s 0 - undo_cost x ≡ sum_by undo_cost xs
  bytes-fewer = let a = sum-popped undo_cost in let b = sums.bytes_are s inside in omega arith

  -- its key is short
  pub key-small : length x.key < 2 ^ 62
  key-small = let a = undo-le in let b = sums.bytes_small s inside in omega arith

  -- the pages of the table are among the pages
  pub old-pages : table_pages (get_or committed t 0 + get_or grown t 0) ≤ pages
  old-pages =
      let a = ap (λ n. table_pages (get_or committed t 0 + n)) (sums.grown_is t (let r = range.1 in omega arith)) in
      let b = table_in committed sessions t range.0 range.1 in
      let c = sums.pages_is in
      omega arith

  -- the undo pages of the session are among those of all
  pub old-undo : undo_pages_for (get_or undo_bytes s 0) ≤ undo
  old-undo =
      let a = ap undo_pages_for (sums.bytes_are s inside) in
      let b = session_in s sessions here in
      let c = sums.undo_is in
      omega arith

  -- other tables stay
  elsewhere : (i : ℕ) → (i ≡ t → ⊥) → growth_of i fewer ≡ growth_of i sessions
  elsewhere i other =
      let a = growth-set i s sessions xs here in
      let b = sum-popped (growth_on i) in
      let c = growth-elsewhere i x (λ e. other (sym e)) in
      omega arith

  module _ (cost : ℕ) (not_more : cost + (get_or grown t 0 - growth x) ≤ get_or committed t 0 + get_or grown t 0) where
    -- the cost of the table without it
    here-cost : open_table_cost (set committed t cost) fewer t ≡ cost + (get_or grown t 0 - growth x)
    here-cost =
        let l = sums.many_tables.0 in
        let r = range.1 in
        let a = get_or-set_same committed t cost 0 (omega arith) in
        let b = grown-fewer in
        omega arith

    -- that cost is small
    pub small : cost + (get_or grown t 0 - growth x) < 2 ^ 62
    small = let a = sums.costs_small t (let r = range.1 in omega arith) in omega arith

    -- the pages of all tables
    pub new-pages : pages - table_pages (get_or committed t 0 + get_or grown t 0) + table_pages (cost + (get_or grown t 0 - growth x)) ≡ all_table_pages (set committed t cost) fewer
    new-pages =
        let a = ap (λ n. table_pages (get_or committed t 0 + n)) (sums.grown_is t (let r = range.1 in omega arith)) in
        let b = ap table_pages here-cost in
        let c = sums.pages_is in
        let d = old-pages in
        let e = pages-at (set committed t cost) committed fewer sessions t range.0 range.1 (λ i other. let f = get_or-set_other committed t i cost 0 other in let g = elsewhere i other in omega arith) in
        omega arith

    -- the undo pages of all sessions
    pub new-undo : undo - undo_pages_for (get_or undo_bytes s 0) + undo_pages_for (get_or undo_bytes s 0 - undo_cost x) ≡ undo_of fewer
    new-undo =
        let a = ap undo_pages_for (sums.bytes_are s inside) in
        let b = ap undo_pages_for bytes-fewer in
        let c = undo-set s sessions xs here in
        let d = old-undo in
        let e = sums.undo_is in
        omega arith

    -- the sums without the change are the running sums
    pub after-settle : (new_pages new_undo : ℕ) → new_pages ≡ all_table_pages (set committed t cost) fewer → new_undo ≡ undo_of fewer
        → AreSums (set committed t cost) (set grown t (get_or grown t 0 - growth x)) fewer (set undo_bytes s (get_or undo_bytes s 0 - undo_cost x)) new_pages new_undo
    after-settle new_pages new_undo pages_is undo_is =
        let tables = sums.many_tables in
        let many = sums.many_sessions in
        let low = range.0 in
        let high = range.1 in
        let growing : t < length grown = (let l = tables.1 in omega arith) in
        let costing : t < length committed = (let l = tables.0 in omega arith) in
        let weighing : s < length undo_bytes = (let l = many.1 in omega arith) in
        let grows = set-all (λ i g. g ≡ growth_of i fewer) grown t (get_or grown t 0 - growth x) 0 501 growing grown-fewer
        (λ i lt other. sums.grown_is i lt ∙ sym (elsewhere i other)) in
        let costs = set-all (λ i c. c + get_or (set grown t (get_or grown t 0 - growth x)) i 0 < 2 ^ 62) committed t cost 0 501 costing
        (less-along _ _ _ (ap (λ n. cost + n) (get_or-set_same grown t (get_or grown t 0 - growth x) 0 growing)) small)
        (λ i lt other. less-along _ _ _ (ap (λ n. get_or committed i 0 + n) (get_or-set_other grown t i (get_or grown t 0 - growth x) 0 other)) (sums.costs_small i lt)) in
        record {
          many_tables = (length-set committed t cost ∙ tables.0, length-set grown t (get_or grown t 0 - growth x) ∙ tables.1);
          many_sessions = (length-set sessions s xs ∙ many.0, length-set undo_bytes s (get_or undo_bytes s 0 - undo_cost x) ∙ many.1);
          costs_small = costs;
          grown_is = grows;
          bytes_small = set-all (λ i b. b < 2 ^ 62) undo_bytes s (get_or undo_bytes s 0 - undo_cost x) 0 65 weighing (let b = sums.bytes_small s inside in omega arith) (λ i lt other. sums.bytes_small i lt);
          bytes_are = set-all (λ i b. b ≡ sum_by undo_cost (changes_at fewer i)) undo_bytes s (get_or undo_bytes s 0 - undo_cost x) 0 65 weighing
              (bytes-fewer ∙ ap (sum_by undo_cost) (sym (get_or-set_same sessions s xs [] here)))
              (λ i lt other. sums.bytes_are i lt ∙ ap (sum_by undo_cost) (sym (get_or-set_other sessions s i xs [] other)));
          pages_is = pages_is;
          undo_is = undo_is;
          undo_small = let a = undo-set s sessions xs here in let b = sums.undo_is in let c = sums.undo_small in let d = less-undo (sum_by undo_cost xs) (sum_by undo_cost (changes_at sessions s)) (let e = sum-popped undo_cost in omega arith) in omega arith;
          pages_small = no-more-along _ _ _ pages_is (pages-small (set committed t cost) fewer (λ i lt. less-along _ _ _ (ap (λ n. get_or (set committed t cost) i 0 + n) (sym (grows i lt))) (costs i lt)));
          in_order = set-all (λ i ys. IsInOrder ys) sessions s xs [] 65 here (order-front xs (x ∷ []) (subst IsInOrder popped (sums.in_order s inside))) (λ i lt other. sums.in_order i lt);
        }

-- where no session has a change no table has grown
pub none-grown : (table : ℕ) (sessions : List (List OpenChange)) → ((i : ℕ) → changes_at sessions i ≡ []) → growth_of table sessions ≡ 0
none-grown table [] none = refl
none-grown table (xs ∷ sessions) none =
    let a = sum_by-cons (λ changes. sum_by (growth_on table) changes) xs sessions in
    let b = ap (sum_by (growth_on table)) (none 0) in
    let c = none-grown table sessions (λ i. none (suc i)) in
    omega arith

module _ (committed grown : List ℕ) (sessions : List (List OpenChange)) (undo_bytes : List ℕ) (pages undo : ℕ) (t : ℕ) (sums : AreSums committed grown sessions undo_bytes pages undo)
    (low : 1 ≤ t) (high : t ≤ 500) where
  -- the pages of one table are among the pages
  pub cost-in : table_pages (get_or committed t 0 + get_or grown t 0) ≤ pages
  cost-in =
      let a = ap (λ n. table_pages (get_or committed t 0 + n)) (sums.grown_is t (omega arith)) in
      let b = table_in committed sessions t low high in
      let c = sums.pages_is in
      omega arith

  module _ (bytes : ℕ) (small : bytes < 2 ^ 62) (none : growth_of t sessions ≡ 0) (old new : ℕ)
      (old_is : old ≡ table_pages (get_or committed t 0 + get_or grown t 0)) (new_is : new ≡ table_pages bytes) where
    -- there is such a table
    costing : t < length committed
    costing = let l = sums.many_tables.0 in omega arith

    -- the pages of all tables
    loaded-pages : pages - old + new ≡ all_table_pages (set committed t bytes) sessions
    loaded-pages =
        let a = ap (λ n. table_pages (get_or committed t 0 + n)) (sums.grown_is t (omega arith)) in
        let is : open_table_cost (set committed t bytes) sessions t ≡ bytes = (let f = get_or-set_same committed t bytes 0 costing in omega arith) in
        let b = ap table_pages is in
        let c = sums.pages_is in
        let d = cost-in in
        let e = pages-at (set committed t bytes) committed sessions sessions t low high (λ i other. ap (λ n. n + growth_of i sessions) (get_or-set_other committed t i bytes 0 other)) in
        omega arith

    -- the costs stay small
    loaded-costs : (i : ℕ) → i < 501 → get_or (set committed t bytes) i 0 + get_or grown i 0 < 2 ^ 62
    loaded-costs = set-all (λ i c. c + get_or grown i 0 < 2 ^ 62) committed t bytes 0 501 costing
        (let g = sums.grown_is t (omega arith) in omega arith) (λ i lt other. sums.costs_small i lt)

    -- so the sums are right again
    pub after-load : AreSums (set committed t bytes) grown sessions undo_bytes (pages - old + new) undo
    after-load = record {
      many_tables = (length-set committed t bytes ∙ sums.many_tables.0, sums.many_tables.1);
      many_sessions = sums.many_sessions;
      costs_small = loaded-costs;
      grown_is = sums.grown_is;
      bytes_small = sums.bytes_small;
      bytes_are = sums.bytes_are;
      pages_is = loaded-pages;
      undo_is = sums.undo_is;
      undo_small = sums.undo_small;
      pages_small = no-more-along _ _ _ loaded-pages (pages-small (set committed t bytes) sessions
          (λ i lt. less-along _ _ _ (ap (λ n. get_or (set committed t bytes) i 0 + n) (sym (sums.grown_is i lt))) (loaded-costs i lt)));
      in_order = sums.in_order;
    }
