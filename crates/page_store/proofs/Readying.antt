-- A page that is made ready to be written.
use Rattle.std.proofs.Common.{◌≡◌, inl, inr, ℕ, zero, suc, ◌+◌, ◌-◌, ◌<◌, ◌≤◌, List, length, get_or, set, Bool, true, false, Some, None, refl, ap, sym, subst, ◌∙◌, arith}
use Rattle.std.proofs.lemmas.Bool.{cases_eq, cases_lt}
use Rattle.std.proofs.lemmas.List.{get_or-set_same, get_or-set_other, set_past}
use Rattle.mdb_model.specs.Images.{Image}
use Rattle.free_blocks.specs.Free.{free_count}
use Rattle.free_blocks.proofs.Counts.{one_less}
use Rattle.converter.specs.Maps.{IsSoundMaps}
use Rattle.converter.proofs.Spelled.{free_below}
use Rattle.page_store.specs.Store.{Store, block_count, page_block, frame_of, has_changed, block_bytes, IsHeld, IsStore}
use Rattle.page_store.specs.Steps.{OnePage, Fills, ShowsFrame, Pays, moves, stays, Readies}
use Rattle.page_store.proofs.Moves.{here, is_below, not_used}
use Rattle.page_store.proofs.PageSteps.{filled_page, moved_page, newer_page, page_on, held_back}

set_stays : (l : List Bool) (b c : ℕ) → get_or l c false ≡ true → get_or (set l b true) c false ≡ true
set_stays l b c is = elim (cases_eq c b) [
  | inl same ↦ elim (cases_lt b (length l)) [
    | inl lt ↦ subst (λ (x : ℕ). get_or (set l b true) x false ≡ true) (sym same) (get_or-set_same l b true false lt)
    | inr past ↦ ap (λ (x : List Bool). get_or x c false) (set_past l b true past) ∙ is
  ]
  | inr other ↦ get_or-set_other l b c true false other ∙ is
]

pub shows_is : (T : Type 0) (s new : Store) (page b : ℕ) (seen : Image) → IsSoundMaps s.maps → IsStore s → IsSoundMaps new.maps → page_block s page ≡ b → b < block_count s → Fills T s new b seen → ShowsFrame T s new page b seen
shows_is T s new page b seen sound store next at lt fills =
    let in_frames : b < length s.frames = omega (arith, store.frames_long, lt) in
    let framed : frame_of new b ≡ Some fills.bytes = ap (λ (t : Store). frame_of t b) fills.is ∙ get_or-set_same s.frames b (Some fills.bytes) None in_frames in
    record {
      step = filled_page T s new page b seen store lt fills;
      sound = (sound, next);
      was = at;
      block = ap (λ (t : Store). page_block t page) fills.is ∙ at;
      below = omega (arith, ap block_count fills.is, lt);
      framed = (fills.bytes, framed);
      bytes = λ known. framed ∙ ap Some (fills.same known.told known.there);
      free = ap (λ (t : Store). t.free) fills.is;
      changed = ap (λ (t : Store). t.changed) fills.is;
    }

pub ready_is : (T : Type 0) (s m n : Store) (page b0 b : ℕ) (seen : Image) → 0 < b0 → ShowsFrame T s m page b0 seen → IsStore m → page < block_count m → IsSoundMaps n.maps → Pays m n page b → Readies T s n page b seen
ready_is T s m n page b0 b seen lives shown store below next (moves held free bytes frame put) =
    let sound = shown.sound.1 in
    let left = inr held in
    let lt = is_below m page b bytes sound store below free left in
    let moved : OnePage T m n page seen = subst (λ (t : Store). OnePage T m t page seen) (sym put) (moved_page T m page b bytes seen sound store below free left) in
    let frame_is : frame_of n b ≡ Some bytes = ap (λ (t : Store). frame_of t b) put ∙ get_or-set_same m.frames b (Some bytes) None (omega (arith, store.frames_long, lt)) in
    let held_was : IsHeld s (page_block s page) =
    subst (λ (x : ℕ). IsHeld s x) (shown.block ∙ sym shown.was) (held_back s m (page_block m page) shown.step.keeps held) in
    record {
      step = page_on T s m n page seen shown.step moved;
      sound = (shown.sound.0, next);
      block = ap (λ (t : Store). page_block t page) put ∙ here m page b bytes sound store below free left;
      some = omega (arith, (store.unused b free).0);
      below = omega (arith, lt, moved.keeps.area);
      framed = (bytes, frame_is);
      bytes = λ known. frame_is ∙ sym frame ∙ ap (frame_of m) shown.block ∙ shown.bytes known ∙ ap (λ (x : ℕ). Some (block_bytes s seen x)) (sym shown.was);
      changed = ap (λ (t : Store). has_changed t b) put ∙ get_or-set_same m.changed b true false (omega (arith, store.changed_long, lt));
      still = λ c is. ap (λ (t : Store). has_changed t c) put ∙ set_stays m.changed b c (ap (λ (l : List Bool). get_or l c false) shown.changed ∙ is);
      owned = λ held_now. elim (held_back m n b moved.keeps held_now) [
        | inl kept ↦ not_used m page b bytes sound store below free left (kept.0, inr kept.1)
        | inr marked ↦ store.unmarked b free marked
      ];
      less = omega (arith, ap (λ (t : Store). free_count t.free) put, ap (λ (l : List Bool). free_count l) shown.free, one_less m.free b (free_below m.free b free) free);
      free = λ owned. absurd (owned held_was);
    }
ready_is T s m n page b0 b seen lives shown store below next (stays owned at put) =
    let same : b ≡ b0 = sym at ∙ shown.block in
    let lt : b < length m.changed = omega (arith, same, shown.below, store.changed_long) in
    let owned_b : IsHeld m b → ⊥ = λ held. owned (subst (λ (x : ℕ). IsHeld m x) (sym at) held) in
    let newer : OnePage T m n page seen = subst (λ (t : Store). OnePage T m t page seen) (sym put) (newer_page T m page b seen lt owned_b) in
    let frame_is : frame_of n b ≡ frame_of m b0 = ap (λ (t : Store). frame_of t b) put ∙ ap (frame_of m) same in
    record {
      step = page_on T s m n page seen shown.step newer;
      sound = (shown.sound.0, next);
      block = ap (λ (t : Store). page_block t page) put ∙ at;
      some = omega (arith, same, lives);
      below = omega (arith, ap block_count put, same, shown.below);
      framed = (shown.framed.0, frame_is ∙ shown.framed.1);
      bytes = λ known. frame_is ∙ shown.bytes known ∙ ap (λ (x : ℕ). Some (block_bytes s seen x)) (sym shown.was);
      changed = ap (λ (t : Store). has_changed t b) put ∙ get_or-set_same m.changed b true false lt;
      still = λ c is. ap (λ (t : Store). has_changed t c) put ∙ set_stays m.changed b c (ap (λ (l : List Bool). get_or l c false) shown.changed ∙ is);
      owned = λ held. owned_b (held_back m n b newer.keeps held);
      less = omega (arith, ap (λ (t : Store). free_count t.free) put, ap (λ (l : List Bool). free_count l) shown.free);
      free = λ owned. ap (λ (t : Store). free_count t.free) put ∙ ap (λ (l : List Bool). free_count l) shown.free;
    }

-- Each live page has a block of its own, none of them one of the first two: so not all pages live.

drop_last : (f : ℕ → ℕ) (n k : ℕ) → ((p : ℕ) → p < n + 1 → f p < k + 1) → ((p q : ℕ) → p < n + 1 → q < n + 1 → f p ≡ f q → p ≡ q) → (g : ℕ → ℕ) × (((p : ℕ) → p < n → g p < k) × ((p q : ℕ) → p < n → q < n → g p ≡ g q → p ≡ q))
drop_last f n k low apart = (g, (g_low, g_apart))
  where
    g : ℕ → ℕ
    g p = elim (cases_eq (f p) k) [ inl last ↦ f n | inr other ↦ f p ]

    g_low : (p : ℕ) → p < n → g p < k
    g_low p lt = elim (cases_eq (f p) k) as (λ t. (elim t [ inl last ↦ f n | inr other ↦ f p ]) < k) [
      | inl last ↦ elim (cases_eq (f n) k) [
        | inl also ↦ absurd (omega (arith, apart p n (omega (arith, lt)) (omega arith) (last ∙ sym also), lt))
        | inr away ↦ omega (arith, low n (omega arith), away)
      ]
      | inr other ↦ omega (arith, low p (omega (arith, lt)), other)
    ]

    g_apart : (p q : ℕ) → p < n → q < n → g p ≡ g q → p ≡ q
    g_apart p q lp lq =
        elim (cases_eq (f p) k) as (λ t. (elim t [ inl last ↦ f n | inr other ↦ f p ]) ≡ g q → p ≡ q) [
          | inl last ↦ elim (cases_eq (f q) k) as (λ t. f n ≡ (elim t [ inl last ↦ f n | inr other ↦ f q ]) → p ≡ q) [
            | inl too ↦ λ e. apart p q (omega (arith, lp)) (omega (arith, lq)) (last ∙ sym too)
            | inr away ↦ λ e. absurd (omega (arith, apart n q (omega arith) (omega (arith, lq)) e, lq))
          ]
          | inr other ↦ elim (cases_eq (f q) k) as (λ t. f p ≡ (elim t [ inl last ↦ f n | inr other ↦ f q ]) → p ≡ q) [
            | inl too ↦ λ e. absurd (omega (arith, apart p n (omega (arith, lp)) (omega arith) e, lp))
            | inr away ↦ λ e. apart p q (omega (arith, lp)) (omega (arith, lq)) e
          ]
        ]

-- numbers below k, all different, are at most k
pub few_apart : (n k : ℕ) (f : ℕ → ℕ) → ((p : ℕ) → p < n → f p < k) → ((p q : ℕ) → p < n → q < n → f p ≡ f q → p ≡ q) → n ≤ k
few_apart zero k f low apart = omega arith
few_apart (suc n) zero f low apart = absurd (omega (arith, low 0 (omega arith)))
few_apart (suc n) (suc k) f low apart =
    let less = drop_last f n k (λ p lt. omega (arith, low p (omega (arith, lt)))) (λ p q lp lq e. apart p q (omega (arith, lp)) (omega (arith, lq)) e) in
    omega (arith, few_apart n k less.0 less.1.0 less.1.1)

pub not_all : (s : Store) → IsSoundMaps s.maps → ((p : ℕ) → p < block_count s → 0 < page_block s p) → ⊥
not_all s sound all =
    let high : (p : ℕ) → p < block_count s → 1 < page_block s p = λ p lt. sound.high (s.maps.conv + p) (page_block s p) (all p lt) (inl refl) in
    let le = few_apart (block_count s) (block_count s - 2) (λ p. page_block s p - 2)
    (λ p lt. omega (arith, high p lt, (sound.present_small (s.maps.conv + p)).0))
    (λ p q lp lq e.
    let same : page_block s p ≡ page_block s q = omega (arith, e, high p lp, high q lq) in
    let one = sound.owned (s.maps.conv + p) (page_block s p) (all p lp) (inl refl) in
    let two = sound.owned (s.maps.conv + q) (page_block s p) (all p lp) (inl (sym same)) in
    omega (arith, one, two)) in
    omega (arith, le, sound.some)
