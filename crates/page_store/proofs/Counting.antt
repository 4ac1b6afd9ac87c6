-- How many blocks are free.
use Rattle.std.proofs.Common.{◌≡◌, ◌≢◌, ◌∙◌, inl, inr, ℕ, zero, suc, ◌+◌, ◌-◌, ◌<◌, ◌≤◌, List, Bool, true, false, ◌&&◌, not, length, get_or, take, eqb, refl, sym, ap, subst, arith, add-one, eq-eqb}
use Rattle.std.specs.Prelude.{nat_lt, if◌then◌else◌, None, Option}
use Rattle.std.specs.List.{count_by}
use Rattle.std.proofs.lemmas.Bool.{cases_eq, cases_lt, false≢true, lt-ltb, ne_eqb}
use Rattle.std.proofs.lemmas.List.{get_or_past, take_all}
use Rattle.std.proofs.lemmas.List.Sums.{count_by_more_yes, count_by_more_no}
use Rattle.mdb_bytes.specs.declared.converter_pages.ConverterEntry.{ConverterEntry}
use Rattle.mdb_bytes.specs.Firsts.{no_entry}
use Rattle.free_blocks.specs.Free.{IsFree, free_count}
use Rattle.free_blocks.specs.Marked.{IsMarked}
use Rattle.converter.specs.Maps.{block_of, HasAt, IsSoundMaps}
use Rattle.page_store.specs.Store.{Store, IsStore, PinMarks, block_count}
use Rattle.page_store.specs.WholeSavepoint.{count_below, live_below}

abbrev bit : Bool → ℕ
bit t = if t then 1 else 0

pub count_same : (p q : ℕ → Bool) (n : ℕ) → ((k : ℕ) → k < n → p k ≡ q k) → count_below p n ≡ count_below q n
count_same p q zero same = refl
count_same p q (suc n) same = let one = count_same p q n (λ k lt. same k (omega (arith, lt))) in let two = ap bit (same n (omega arith)) in omega (arith, one, two)

-- two stretches
count_split : (p : ℕ → Bool) (a n : ℕ) → count_below p (a + n) ≡ count_below p a + count_below (λ k. p (a + k)) n
count_split p a zero = let e : a + 0 ≡ a = omega arith in ap (count_below p) e ∙ (omega arith)
count_split p a (suc n) =
    let e : a + suc n ≡ suc (a + n) = omega arith in
    let before = count_split p a n in
    ap (count_below p) e ∙ (omega (arith, before))

count_all : (p : ℕ → Bool) (n : ℕ) → ((k : ℕ) → k < n → p k ≡ true) → count_below p n ≡ n
count_all p zero all = refl
count_all p (suc n) all = let one = count_all p n (λ k lt. all k (omega (arith, lt))) in let two : bit (p n) ≡ 1 = ap bit (all n (omega arith)) in omega (arith, one, two)

-- but for one number
abbrev but : (ℕ → Bool) → ℕ → ℕ → Bool
but q b k = if eqb k b then false else q k

but_off : (q : ℕ → Bool) (b k : ℕ) → k ≢ b → but q b k ≡ q k
but_off q b k other = ap (λ (t : Bool). if t then false else q k) (ne_eqb k b other)

but_at : (q : ℕ → Bool) (b k : ℕ) → k ≡ b → but q b k ≡ false
but_at q b k is = ap (λ (t : Bool). if t then false else q k) (eq-eqb k b is)

count_but : (q : ℕ → Bool) (n b : ℕ) → b < n → q b ≡ true → count_below q n ≡ count_below (but q b) n + 1
count_but q zero b lt on = absurd (omega (arith, lt))
count_but q (suc n) b lt on = elim (cases_eq n b) [
  | inl is ↦
      let below = count_same (but q b) q n (λ k less. but_off q b k (λ at. omega (arith, at, less, is))) in
      let gone : bit (but q b n) ≡ 0 = ap bit (but_at q b n is) in
      let there : bit (q n) ≡ 1 = ap bit (ap q is ∙ on) in
      omega (arith, below, gone, there)
  | inr other ↦
      let below = count_but q n b (omega (arith, lt, other)) on in
      let same : bit (but q b n) ≡ bit (q n) = ap bit (but_off q b n other) in
      omega (arith, below, same)
]

-- a map of numbers that keeps them apart
count_into : (n m : ℕ) (p q : ℕ → Bool) (f : ℕ → ℕ) → ((k : ℕ) → k < n → p k ≡ true → (f k < m) × (q (f k) ≡ true)) → ((j k : ℕ) → j < n → k < n → p j ≡ true → p k ≡ true → f j ≡ f k → j ≡ k) → count_below p n ≤ count_below q m
count_into zero m p q f goes apart = omega arith
count_into (suc n) m p q f goes apart = elim (p n) as (λ t. p n ≡ t → count_below p n + bit t ≤ count_below q m) [
  | true ↦ λ on.
      let here = goes n (omega arith) on in
      let less = count_into n m p (but q (f n)) f
      (λ k lt is. let g = goes k (omega (arith, lt)) is in (g.0, but_off q (f n) (f k) (λ same. omega (arith, lt, apart k n (omega (arith, lt)) (omega arith) is on same)) ∙ g.1))
      (λ j k lj lk a b same. apart j k (omega (arith, lj)) (omega (arith, lk)) a b same) in
      omega (arith, less, count_but q m (f n) here.0 here.1)
  | false ↦ λ off. let less = count_into n m p q f (λ k lt is. goes k (omega (arith, lt)) is) (λ j k lj lk a b same. apart j k (omega (arith, lj)) (omega (arith, lk)) a b same) in omega (arith, less)
] refl

-- the count of a list
count_take : (flags : List Bool) (n : ℕ) → n ≤ length flags → count_by (λ free. free) (take n flags) ≡ count_below (λ b. get_or flags b false) n
count_take flags zero le = refl
count_take flags (suc n) le =
    let before = count_take flags n (omega (arith, le)) in
    elim (get_or flags n false) as (λ t. get_or flags n false ≡ t → count_by (λ free. free) (take (suc n) flags) ≡ count_below (λ b. get_or flags b false) n + bit t) [
      | true ↦ λ on. ap (λ (k : ℕ). count_by (λ free. free) (take k flags)) (sym (add-one n)) ∙ count_by_more_yes (λ free. free) flags n false (omega (arith, le)) on ∙ ap (λ (k : ℕ). k + 1) before
      | false ↦ λ off.
          let more = ap (λ (k : ℕ). count_by (λ free. free) (take k flags)) (sym (add-one n)) ∙ count_by_more_no (λ free. free) flags n false (omega (arith, le)) off ∙ before in
          omega (arith, more)
    ] refl

-- the slots, the free blocks and the others
abbrev taken : List Bool → ℕ → Bool
taken flags b = nat_lt 1 b && not (get_or flags b false)

two_below : (n : ℕ) → n < 2 → nat_lt 1 n ≡ false
two_below n lt = elim (cases_eq n 0) [
  | inl is ↦ ap (nat_lt 1) is
  | inr other ↦ let is : n ≡ 1 = omega (arith, lt, other) in ap (nat_lt 1) is
]

count_parts : (flags : List Bool) (n : ℕ) → ((b : ℕ) → IsFree flags b → 1 < b) → (2 ≤ n → (count_below (taken flags) n + count_below (λ b. get_or flags b false) n) + 2 ≡ n) × (n < 3 → count_below (taken flags) n + count_below (λ b. get_or flags b false) n ≡ n - 2)
count_parts flags zero high = (λ le. absurd (omega (arith, le)), λ lt. refl)
count_parts flags (suc n) high =
    let before = count_parts flags n high in
    elim (cases_lt n 2) [
      | inl low ↦
          let shut : get_or flags n false ≡ false = elim (get_or flags n false) as (λ t. get_or flags n false ≡ t → t ≡ false) [ true ↦ λ on. absurd (omega (arith, low, high n on)) | false ↦ λ off. refl ] refl in
          let one : bit (get_or flags n false) ≡ 0 = ap bit shut in
          let two : bit (taken flags n) ≡ 0 = ap (λ (t : Bool). bit (t && not (get_or flags n false))) (two_below n low) in
          let was = before.1 (omega (arith, low)) in
          (λ le. omega (arith, one, two, was, low, le), λ lt. omega (arith, one, two, was, low))
      | inr up ↦
          let big : nat_lt 1 n ≡ true = lt-ltb 1 n (omega (arith, up)) in
          let one : bit (taken flags n) + bit (get_or flags n false) ≡ 1 =
          elim (get_or flags n false) as (λ t. bit (nat_lt 1 n && not t) + bit t ≡ 1) [
            | true ↦ ap (λ (t : Bool). bit (t && false) + 1) big
            | false ↦ ap (λ (t : Bool). bit (t && true) + 0) big
          ] in
          let was = before.0 up in
          (λ le. omega (arith, one, was), λ lt. absurd (omega (arith, lt, up)))
    ]

positive : (n : ℕ) → nat_lt 0 n ≡ true → 0 < n
positive zero off = absurd (false≢true off)
positive (suc n) on = omega arith

not_on : (t : Bool) → (t ≡ true → ⊥) → t ≡ false
not_on true off = absurd (off refl)
not_on false off = refl

module _ (s : Store) (sound : IsSoundMaps s.maps) (store : IsStore s) where
  abbrev places : ℕ
  places = s.maps.conv + block_count s

  abbrev used : ℕ → Bool
  used q = nat_lt 0 (block_of s.maps.present q)

  -- each block of the present map is taken
  used_taken : count_below used places ≤ count_below (taken s.free) (block_count s)
  used_taken = count_into places (block_count s) used (taken s.free) (λ q. block_of s.maps.present q)
      (λ q lt on.
      let b = block_of s.maps.present q in
      let high : 1 < b = sound.high q b (positive b on) (inl refl) in
      let shut : get_or s.free b false ≡ false = not_on (get_or s.free b false) (λ free. (store.unused b free).1 (q, inl refl)) in
      ((sound.present_small q).0, λ i. lt-ltb 1 b high i && not (shut i)))
      (λ j k lj lk a b same.
      sym (sound.owned j (block_of s.maps.present j) (positive (block_of s.maps.present j) a) (inl refl))
      ∙ sound.owned k (block_of s.maps.present j) (positive (block_of s.maps.present j) a) (inl (sym same)))

  count_places : ((q : ℕ) → q < s.maps.conv → 0 < block_of s.maps.present q) → count_below used places ≡ s.maps.conv + live_below s (block_count s)
  count_places own = count_split used s.maps.conv (block_count s) ∙ ap (λ (n : ℕ). n + live_below s (block_count s)) (count_all used s.maps.conv (λ q lt. lt-ltb 0 (block_of s.maps.present q) (own q lt)))

  count_free : 2 ≤ block_count s → count_below (taken s.free) (block_count s) + free_count s.free + 2 ≡ block_count s
  count_free big =
      let e : count_by (λ free. free) (take (length s.free) s.free) ≡ count_below (λ b. get_or s.free b false) (length s.free) = count_take s.free (length s.free) (omega arith) in
      let whole : free_count s.free ≡ count_below (λ b. get_or s.free b false) (block_count s) = ap (count_by (λ free. free)) (sym (take_all (length s.free) s.free (omega arith))) ∙ e ∙ ap (count_below (λ b. get_or s.free b false)) store.area in
      let parts = (count_parts s.free (block_count s) (λ b free. (store.unused b free).0)).0 big in
      omega (arith, whole, parts)

  -- at most so many are free
  pub free_most : 2 ≤ block_count s → ((q : ℕ) → q < s.maps.conv → 0 < block_of s.maps.present q) → free_count s.free + (2 + s.maps.conv + live_below s (block_count s)) ≤ block_count s
  free_most big own = omega (arith, used_taken, count_places own, count_free big)

  -- where the kept maps have no other block, and none has a mark, it is exact
  module _ (kept : (q b : ℕ) → 0 < b → HasAt s.maps q b → block_of s.maps.present q ≡ b) (unmarked : (b : ℕ) → IsMarked s.marks b → ⊥) where
    owner_has : (b : ℕ) → 1 < b → b < block_count s → get_or s.free b false ≡ false → block_of s.maps.present (get_or s.maps.owner b 0) ≡ b
    owner_has b high lt shut = elim (cases_eq (block_of s.maps.present (get_or s.maps.owner b 0)) b) [
      | inl is ↦ is
      | inr other ↦ absurd (false≢true (sym shut ∙ store.freed b high lt
          (λ was.
          let at : get_or s.maps.owner b 0 ≡ was.0 = sound.owned was.0 b (omega (arith, high)) was.1 in
          other (ap (block_of s.maps.present) at ∙ kept was.0 b (omega (arith, high)) was.1))
          (unmarked b)))
    ]

    taken_used : count_below (taken s.free) (block_count s) ≤ count_below used places
    taken_used = count_into (block_count s) places (taken s.free) used (λ b. get_or s.maps.owner b 0)
        (λ b lt on.
        let has = owner_has b (high_of b on) lt (shut_of b on) in
        let some : 0 < block_of s.maps.present (get_or s.maps.owner b 0) = omega (arith, has, high_of b on) in (
          elim (cases_lt (get_or s.maps.owner b 0) places) [
            | inl less ↦ less
            | inr past ↦ absurd (omega (arith, some, ap (λ (e : ConverterEntry). e.block) (get_or_past s.maps.present (get_or s.maps.owner b 0) no_entry (omega (arith, sound.present_long, past)))))
          ],
          lt-ltb 0 (block_of s.maps.present (get_or s.maps.owner b 0)) some,
        ))
        (λ a b la lb one two same. sym (owner_has a (high_of a one) la (shut_of a one)) ∙ ap (block_of s.maps.present) same ∙ owner_has b (high_of b two) lb (shut_of b two))
      where
        high_of : (b : ℕ) → taken s.free b ≡ true → 1 < b
        high_of b on = elim (cases_lt b 2) [
          | inl low ↦ absurd (false≢true (sym (ap (λ (t : Bool). t && not (get_or s.free b false)) (two_below b low)) ∙ on))
          | inr up ↦ omega (arith, up)
        ]

        shut_of : (b : ℕ) → taken s.free b ≡ true → get_or s.free b false ≡ false
        shut_of b on = elim (get_or s.free b false) as (λ t. (nat_lt 1 b && not t) ≡ true → t ≡ false) [
          | true ↦ λ e. elim (nat_lt 1 b) as (λ t. (t && false) ≡ true → true ≡ false) [ true ↦ λ f. sym f | false ↦ λ f. sym f ] e
          | false ↦ λ e. refl
        ] on

    pub free_exact : 2 ≤ block_count s → ((q : ℕ) → q < s.maps.conv → 0 < block_of s.maps.present q) → free_count s.free + (2 + s.maps.conv + live_below s (block_count s)) ≡ block_count s
    free_exact big own = omega (arith, used_taken, taken_used, count_places own, count_free big)
