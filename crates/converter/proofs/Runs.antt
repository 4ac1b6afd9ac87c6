-- Runs of entries.
use Rattle.std.proofs.Common.{◌≡◌, ◌≢◌, ◌⊎◌, inl, inr, ℕ, zero, suc, ◌+◌, ◌-◌, ◌*◌, ◌/◌, ◌<◌, ◌≤◌, List, [], ◌∷◌, length, get_or, set, Bool, true, false, refl, sym, subst, ◌∙◌, arith, length-set}
use Rattle.std.proofs.lemmas.Bool.{cases_eq, cases_lt}
use Rattle.std.proofs.lemmas.List.{get_or-set_same, get_or-set_other, get_or_past, ext_get_or}
use Rattle.mdb_bytes.specs.declared.converter_pages.ConverterEntry.{ConverterEntry}
use Rattle.mdb_bytes.specs.Firsts.{no_entry}
use Rattle.converter.specs.Maps.{entry_at, IsTracked}

-- one place more of an array that a loop fills
pub filled_more : {A : Type 0} (run : List A) (d : A) (f : ℕ → A) (n : ℕ) (x : A) → n < length run → ((k : ℕ) → k < n → get_or run k d ≡ f k) → x ≡ f n
    → (k : ℕ) → k < n + 1 → get_or (set run n x) k d ≡ f k
filled_more run d f n x lt before here k less = elim (cases_eq k n) [
  | inl is ↦ subst (λ (j : ℕ). get_or (set run n x) j d ≡ f j) (sym is) (get_or-set_same run n x d lt ∙ here)
  | inr other ↦ get_or-set_other run n k x d other ∙ before k (omega (arith, less, other))
]

-- the places from `at` on, up to `end`, have what the other list has, and all others what they had
pub record Copied (old from : List ConverterEntry) (at end : ℕ) (now : List ConverterEntry) : Type 0 where
  pub long : length now ≡ length old
  pub run : (q : ℕ) → at ≤ q → q < end → entry_at now q ≡ entry_at from q
  pub others : (q : ℕ) → (q < at) ⊎ (end ≤ q) → entry_at now q ≡ entry_at old q

pub copied_none : (old from : List ConverterEntry) (at : ℕ) → Copied old from at at old
copied_none old from at = record { long = refl; run = λ q le lt. absurd (omega (arith, le, lt)); others = λ q out. refl }

pub copied_more : (old from now : List ConverterEntry) (at k : ℕ) (e : ConverterEntry) → at ≤ k → k < length old → e ≡ entry_at from k → Copied old from at k now → Copied old from at (k + 1) (set now k e)
copied_more old from now at k e le lt is before = record {
  long = length-set now k e ∙ before.long;
  run = λ q low less. elim (cases_eq q k) [
    | inl here ↦ subst (λ (j : ℕ). entry_at (set now k e) j ≡ entry_at from j) (sym here) (get_or-set_same now k e no_entry (omega (arith, before.long, lt)) ∙ is)
    | inr other ↦ get_or-set_other now k q e no_entry other ∙ before.run q low (omega (arith, less, other))
  ];
  others = λ q out. get_or-set_other now k q e no_entry (apart q out) ∙ before.others q (still q out);
}
  where
    apart : (q : ℕ) → (q < at) ⊎ (k + 1 ≤ q) → q ≢ k
    apart q out same = elim out [ inl lt ↦ omega (arith, lt, le, same) | inr past ↦ omega (arith, past, same) ]

    still : (q : ℕ) → (q < at) ⊎ (k + 1 ≤ q) → (q < at) ⊎ (k ≤ q)
    still q out = elim out [ inl lt ↦ inl lt | inr past ↦ inr (omega (arith, past)) ]

-- a loop that stopped at the end of the lists, or where it had to
pub copied_all : (old from now : List ConverterEntry) (at end stop i : ℕ) → length old ≡ length from → at ≤ end → stop ≤ end → (stop < end → length from ≤ stop) → stop ≤ i → (at ≤ stop → i ≤ stop)
    → Copied old from at i now → Copied old from at end now
copied_all old from now at end stop i same le few far past upto copied = record {
  long = copied.long;
  run = λ q low less. elim (cases_lt q (length from)) [
    | inl lt ↦ copied.run q low (before q less lt)
    | inr out ↦ get_or_past now q no_entry (omega (arith, copied.long, same, out)) ∙ sym (get_or_past from q no_entry out)
  ];
  others = λ q out. elim out [
    | inl lt ↦ copied.others q (inl lt)
    | inr beyond ↦ elim (cases_lt q (length from)) [
      | inl lt ↦ copied.others q (inr (omega (arith, at_end q beyond lt, beyond)))
      | inr off ↦ get_or_past now q no_entry (omega (arith, copied.long, same, off)) ∙ sym (get_or_past old q no_entry (omega (arith, same, off)))
    ]
  ];
}
  where
    before : (q : ℕ) → q < end → q < length from → q < i
    before q less lt = elim (cases_lt stop end) [
      | inl l ↦ omega (arith, far l, lt, past)
      | inr g ↦ omega (arith, g, less, past)
    ]

    at_end : (q : ℕ) → end ≤ q → q < length from → i ≤ end
    at_end q beyond lt = elim (cases_lt stop end) [
      | inl less ↦ absurd (omega (arith, far less, beyond, lt, less))
      | inr ge ↦ omega (arith, upto (omega (arith, le, ge)), few)
    ]

-- a leaf that was copied is not after
pub caught_leaf : (conv leaf : ℕ) (present old now : List ConverterEntry) (flags : List Bool) → leaf < length flags → Copied old present (conv + 600 * leaf) (conv + 600 * leaf + 600) now
    → IsTracked conv present old flags → IsTracked conv present now (set flags leaf false)
caught_leaf conv leaf present old now flags lt copied tracked i k less is = elim (cases_eq i leaf) [
  | inl here ↦ copied.run (conv + 600 * i + k) (omega (arith, here)) (omega (arith, here, less))
  | inr other ↦
      copied.others (conv + 600 * i + k) (out i k other less)
      ∙ tracked i k less (sym (get_or-set_other flags leaf i false true other) ∙ is)
]
  where
    out : (i k : ℕ) → i ≢ leaf → k < 600 → (conv + 600 * i + k < conv + 600 * leaf) ⊎ (conv + 600 * leaf + 600 ≤ conv + 600 * i + k)
    out i k other less = elim (cases_lt i leaf) [ inl before ↦ inl (omega (arith, before, less)) | inr after ↦ inr (omega (arith, after, other)) ]

-- the flag of a leaf that was caught, and those of all others
pub flag_down : (flags : List Bool) (leaf i : ℕ) → leaf < length flags → get_or flags i true ≡ false → get_or (set flags leaf false) i true ≡ false
flag_down flags leaf i lt is = elim (cases_eq i leaf) [
  | inl here ↦ subst (λ (j : ℕ). get_or (set flags leaf false) j true ≡ false) (sym here) (get_or-set_same flags leaf false true lt)
  | inr other ↦ get_or-set_other flags leaf i false true other ∙ is
]

-- own pages are no place of a leaf
pub own_kept : (conv : ℕ) (present old now : List ConverterEntry) (flags : List Bool) → Copied old present 0 conv now → IsTracked conv present old flags → IsTracked conv present now flags
own_kept conv present old now flags copied tracked i k less is = copied.others (conv + 600 * i + k) (inr (omega arith)) ∙ tracked i k less is

-- where no leaf is after the maps are the same
pub all_caught : (conv : ℕ) (present now : List ConverterEntry) (flags : List Bool) → length now ≡ length present → length present ≤ conv + 66000
    → ((q : ℕ) → q < conv → entry_at now q ≡ entry_at present q) → ((i : ℕ) → i < 110 → get_or flags i true ≡ false) → IsTracked conv present now flags → now ≡ present
all_caught conv present now flags same few own down tracked = ext_get_or no_entry now present same (λ q lt. elim (cases_lt q conv) [
  | inl low ↦ own q low
  | inr high ↦
      let i = (q - conv) / 600 in
      let k = q - conv - 600 * i in
      let less : k < 600 = omega arith in
      let e : conv + 600 * i + k ≡ q = omega (arith, high) in
      subst (λ (p : ℕ). entry_at now p ≡ entry_at present p) e (tracked i k less (down i (omega (arith, lt, same, few, high))))
])

-- what is read of a list does not rest on what would be read past its end
pub other_default : (flags : List Bool) (i : ℕ) → i < length flags → get_or flags i false ≡ false → get_or flags i true ≡ false
other_default [] i lt is = absurd (omega (arith, lt))
other_default (x ∷ xs) zero lt is = is
other_default (x ∷ xs) (suc i) lt is = other_default xs i (omega (arith, lt)) is
