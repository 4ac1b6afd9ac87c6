-- What is freed.
use Rattle.std.proofs.Common.{◌≡◌, ◌⊎◌, inl, inr, ℕ, ◌+◌, ◌-◌, ◌<◌, ◌≤◌, List, length, set, Bool, true, false, refl, ap, sym, subst, ◌∙◌, arith, length-set}
use Rattle.std.proofs.lemmas.Bool.{cases_eq, cases_lt}
use Rattle.std.proofs.lemmas.List.{get_or-set_same, get_or-set_other, get_or_past}
use Rattle.free_blocks.specs.Free.{IsFree}
use Rattle.mdb_bytes.specs.declared.converter_pages.ConverterEntry.{ConverterEntry}
use Rattle.mdb_bytes.specs.Firsts.{no_entry}
use Rattle.converter.specs.Maps.{entry_at, block_of, LeavesIn, FreesLeaving}

pub given_none : (leaves : ℕ → ℕ → Type 0) (at : ℕ) (flags : List Bool) → FreesLeaving leaves at at flags flags
given_none leaves at flags = record { long = refl; stays = λ b is. is; given = λ k b le lt is. absurd (omega (arith, le, lt)); only = λ b is. inl is }

flag_set : (flags : List Bool) (b c : ℕ) → IsFree (set flags b true) c → IsFree flags c ⊎ (c ≡ b)
flag_set flags b c is = elim (cases_eq c b) [
  | inl same ↦ inr same
  | inr other ↦ inl (sym (get_or-set_other flags b c true false other) ∙ is)
]

flag_stays : (flags : List Bool) (b c : ℕ) → b < length flags → IsFree flags c → IsFree (set flags b true) c
flag_stays flags b c lt is = elim (cases_eq c b) [
  | inl same ↦ subst (λ (x : ℕ). IsFree (set flags b true) x) (sym same) (get_or-set_same flags b true false lt)
  | inr other ↦ get_or-set_other flags b c true false other ∙ is
]

-- two runs one after the other
pub given_on : (leaves : ℕ → ℕ → Type 0) (a b c : ℕ) (old mid new : List Bool) → a ≤ b → b ≤ c → FreesLeaving leaves a b old mid → FreesLeaving leaves b c mid new → FreesLeaving leaves a c old new
given_on leaves a b c old mid new ab bc one two = record {
  long = two.long ∙ one.long;
  stays = λ x is. two.stays x (one.stays x is);
  given = λ k x le lt is. elim (cases_lt k b) [
    | inl low ↦ two.stays x (one.given k x le low is)
    | inr high ↦ two.given k x high lt is
  ];
  only = λ x is. elim (two.only x is) [
    | inl was ↦ elim (one.only x was) [
      | inl first ↦ inl first
      | inr some ↦ inr (some.0, some.1, omega (arith, some.2, bc), some.3)
    ]
    | inr some ↦ inr (some.0, omega (arith, some.1, ab), some.2, some.3)
  ];
}

-- a run in which nothing leaves
pub given_still : (leaves : ℕ → ℕ → Type 0) (a b : ℕ) (flags : List Bool) → ((k x : ℕ) → a ≤ k → k < b → leaves k x → ⊥) → FreesLeaving leaves a b flags flags
given_still leaves a b flags none = record { long = refl; stays = λ x is. is; given = λ k x le lt is. absurd (none k x le lt is); only = λ x is. inl is }

-- the same up to another end, where nothing leaves between
pub given_end : (leaves : ℕ → ℕ → Type 0) (a b c : ℕ) (old new : List Bool) → ((k x : ℕ) → a ≤ k → leaves k x → (k < b → k < c) × (k < c → k < b)) → FreesLeaving leaves a b old new → FreesLeaving leaves a c old new
given_end leaves a b c old new same one = record {
  long = one.long;
  stays = one.stays;
  given = λ k x le lt is. one.given k x le ((same k x le is).1 lt) is;
  only = λ x is. elim (one.only x is) [
    | inl was ↦ inl was
    | inr some ↦ inr (some.0, some.1, (same some.0 x some.1 some.3).0 some.2, some.3)
  ];
}

-- one place more, whose block was given
module _ (present saved frozen : List ConverterEntry) (marks : List (List Bool)) (at n : ℕ) (old mid : List Bool)
    (before : FreesLeaving (LeavesIn present saved frozen marks) at n old mid) where
  pub given_more : at ≤ n → block_of saved n < length mid → LeavesIn present saved frozen marks n (block_of saved n) → FreesLeaving (LeavesIn present saved frozen marks) at (n + 1) old (set mid (block_of saved n) true)
  given_more low lt leaves = record {
    long = length-set mid (block_of saved n) true ∙ before.long;
    stays = λ b is. flag_stays mid (block_of saved n) b lt (before.stays b is);
    given = λ k b le less is. elim (cases_eq k n) [
      | inl here ↦ subst (λ (x : ℕ). IsFree (set mid (block_of saved n) true) x) (sym (ap (λ (j : ℕ). block_of saved j) here) ∙ is.is) (get_or-set_same mid (block_of saved n) true false lt)
      | inr other ↦ flag_stays mid (block_of saved n) b lt (before.given k b le (omega (arith, less, other)) is)
    ];
    only = λ b is. elim (flag_set mid (block_of saved n) b is) [
      | inl was ↦ elim (before.only b was) [
        | inl first ↦ inl first
        | inr some ↦ inr (some.0, some.1, omega (arith, some.2), some.3)
      ]
      | inr new ↦ inr (n, low, omega arith, subst (λ (x : ℕ). LeavesIn present saved frozen marks n x) (sym new) leaves)
    ];
  }

  pub given_same : (LeavesIn present saved frozen marks n (block_of saved n) → ⊥) → FreesLeaving (LeavesIn present saved frozen marks) at (n + 1) old mid
  given_same stays = record {
    long = before.long;
    stays = before.stays;
    given = λ k b le less is. elim (cases_eq k n) [
      | inl here ↦ absurd (stays (subst (λ (x : ℕ). LeavesIn present saved frozen marks n x) (sym (sym (ap (λ (j : ℕ). block_of saved j) here) ∙ is.is)) (subst (λ (j : ℕ). LeavesIn present saved frozen marks j b) here is)))
      | inr other ↦ before.given k b le (omega (arith, less, other)) is
    ];
    only = λ b is. elim (before.only b is) [
      | inl first ↦ inl first
      | inr some ↦ inr (some.0, some.1, omega (arith, some.2), some.3)
    ];
  }

  -- the block of a later place is not free yet
  pub not_yet : ((p q : ℕ) → 0 < block_of saved p → block_of saved p ≡ block_of saved q → p ≡ q)
      → ((q : ℕ) → at ≤ q → 0 < block_of saved q → IsFree old (block_of saved q) → ⊥)
      → (q : ℕ) → at ≤ q → n ≤ q → 0 < block_of saved q → IsFree mid (block_of saved q) → ⊥
  not_yet apart taken q low after some is = elim (before.only (block_of saved q) is) [
    | inl first ↦ taken q low some first
    | inr (k, le, less, leaves) ↦ omega (arith, less, after, apart q k some (sym leaves.is))
  ]

  -- a loop that stopped at the end of the map, or where it had to
  pub given_all : (end stop : ℕ) → at ≤ end → stop ≤ end → (stop < end → length saved ≤ stop) → stop ≤ n → (at ≤ stop → n ≤ stop) → FreesLeaving (LeavesIn present saved frozen marks) at end old mid
  given_all end stop le few far past upto = given_end (LeavesIn present saved frozen marks) at n end old mid (λ k x low leaves.
      let there : k < length saved = inside k x leaves in
      (λ less. below_end k low less there, λ less. elim (cases_lt stop end) [ inl l ↦ omega (arith, far l, there, past) | inr g ↦ omega (arith, g, less, past) ])) before
    where
      inside : (k x : ℕ) → LeavesIn present saved frozen marks k x → k < length saved
      inside k x leaves = elim (cases_lt k (length saved)) [
        | inl lt ↦ lt
        | inr out ↦ absurd (omega (arith, leaves.some, leaves.is, ap (λ (e : ConverterEntry). e.block) (get_or_past saved k no_entry out)))
      ]

      below_end : (k : ℕ) → at ≤ k → k < n → k < length saved → k < end
      below_end k low less there = elim (cases_lt at (stop + 1)) [
        | inl on ↦ omega (arith, upto (omega (arith, on)), few, less)
        | inr off ↦ elim (cases_lt stop end) [
          | inl l ↦ absurd (omega (arith, far l, off, low, there))
          | inr g ↦ absurd (omega (arith, off, le, g))
        ]
      ]

-- a leaf that is not after has nothing that leaves
pub leaf_still : (present saved frozen : List ConverterEntry) (marks : List (List Bool)) (at : ℕ) (flags : List Bool) → ((k : ℕ) → k < 600 → entry_at saved (at + k) ≡ entry_at present (at + k))
    → FreesLeaving (LeavesIn present saved frozen marks) at (at + 600) flags flags
leaf_still present saved frozen marks at flags same = given_still (LeavesIn present saved frozen marks) at (at + 600) flags (λ k x le lt leaves.
    let e : at + (k - at) ≡ k = omega (arith, le) in
    let here : entry_at saved k ≡ entry_at present k = subst (λ (p : ℕ). entry_at saved p ≡ entry_at present p) e (same (k - at) (omega (arith, le, lt))) in
    leaves.changed (sym (ap (λ (y : ConverterEntry). y.block) here) ∙ leaves.is))

-- past the end of the map nothing leaves
pub given_map : (present saved frozen : List ConverterEntry) (marks : List (List Bool)) (far : ℕ) (old new : List Bool) → length saved ≤ far
    → FreesLeaving (LeavesIn present saved frozen marks) 0 far old new → FreesLeaving (LeavesIn present saved frozen marks) 0 (length saved) old new
given_map present saved frozen marks far old new le given = given_end (LeavesIn present saved frozen marks) 0 far (length saved) old new (λ k x low leaves. (
  λ less. elim (cases_lt k (length saved)) [
    | inl lt ↦ lt
    | inr out ↦ absurd (omega (arith, leaves.some, leaves.is, ap (λ (e : ConverterEntry). e.block) (get_or_past saved k no_entry out)))
  ],
  λ less. omega (arith, less, le),
)) given
