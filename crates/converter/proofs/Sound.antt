-- What keeps the maps sound.
use Rattle.std.proofs.Common.{◌≡◌, ◌⊎◌, inl, inr, ◌↔◌, ℕ, ◌+◌, ◌/◌, ◌<◌, ◌≤◌, ◌^◌, List, length, get_or, set, replicate, Bool, true, false, ◌||◌, Option, Some, None, refl, ap, sym, subst, ◌∙◌, arith, length-set}
use Rattle.std.specs.Prelude.{IsTrue}
use Rattle.std.proofs.lemmas.Bool.{cases_eq, cases_lt}
use Rattle.std.proofs.lemmas.List.{get_or-set_same, get_or-set_other, get_or_past, set_past, get_or-replicate, length-replicate}
use Rattle.free_blocks.specs.Free.{IsFree}
use Rattle.mdb_bytes.specs.ConverterPages.{converter_entry_fits}
use Rattle.mdb_bytes.specs.declared.converter_pages.ConverterEntry.{ConverterEntry}
use Rattle.mdb_bytes.specs.Firsts.{no_entry}
use Rattle.converter.specs.Maps.{Maps, entry_at, block_of, HasAt, IsKept, IsUsed, IsOpenTo, AreSmall, IsSoundMaps, AreUnused, own_of, with_own, with_loaded}

-- an entry of a map in which one was set
pub entry_set : (m : List ConverterEntry) (p q : ℕ) (e : ConverterEntry) → ((entry_at (set m p e) q ≡ e) × (q ≡ p)) ⊎ (entry_at (set m p e) q ≡ entry_at m q)
entry_set m p q e = elim (cases_eq q p) [
  | inl is ↦ elim (cases_lt p (length m)) [
    | inl lt ↦ inl (subst (λ (k : ℕ). entry_at (set m p e) k ≡ e) (sym is) (get_or-set_same m p e no_entry lt), is)
    | inr past ↦ inr (ap (λ (l : List ConverterEntry). entry_at l q) (set_past m p e past))
  ]
  | inr other ↦ inr (get_or-set_other m p q e no_entry other)
]

-- a block that a map has after an entry was set it had there before, or it is the entry's
pub block_set : (m : List ConverterEntry) (p q b : ℕ) (e : ConverterEntry) → block_of (set m p e) q ≡ b → (block_of m q ≡ b) ⊎ ((q ≡ p) × (e.block ≡ b))
block_set m p q b e has = elim (cases_eq q p) [
  | inl is ↦ elim (entry_set m p q e) [
    | inl new ↦ inr (is, sym (ap (λ (x : ConverterEntry). x.block) new.0) ∙ has)
    | inr same ↦ inl (sym (ap (λ (x : ConverterEntry). x.block) same) ∙ has)
  ]
  | inr other ↦ inl (sym (ap (λ (x : ConverterEntry). x.block) (get_or-set_other m p q e no_entry other)) ∙ has)
]

-- the limits of a map in which one was set
pub small_set : (conv n : ℕ) (m : List ConverterEntry) (p : ℕ) (e : ConverterEntry) → AreSmall conv n m → e.block < n → e.stamp < 2 ^ 62 → (conv ≤ p → IsTrue (converter_entry_fits e)) → AreSmall conv n (set m p e)
small_set conv n m p e small less stamp fits q = elim (entry_set m p q e) [
  | inl is ↦ subst (λ (x : ConverterEntry). (x.block < n) × (x.stamp < 2 ^ 62) × (conv ≤ q → IsTrue (converter_entry_fits x))) (sym is.0) (less, stamp, λ le. fits (omega (arith, le, is.1)))
  | inr is ↦ subst (λ (x : ConverterEntry). (x.block < n) × (x.stamp < 2 ^ 62) × (conv ≤ q → IsTrue (converter_entry_fits x))) (sym is) (small q)
]

pub cleared : (m : Maps) (p : ℕ) → m.conv ≤ p → IsSoundMaps m → IsSoundMaps record m { present = set m.present p no_entry }
cleared m p page sound = record {
  some = sound.some;
  bound = sound.bound;
  leaves = sound.leaves;
  present_long = length-set m.present p no_entry ∙ sound.present_long;
  saved_long = sound.saved_long;
  frozen_long = sound.frozen_long;
  present_small = small_set m.conv (length m.owner) m.present p no_entry sound.present_small sound.some (omega arith) (λ le. refl);
  saved_small = sound.saved_small;
  frozen_small = sound.frozen_small;
  own = λ q lt. get_or-set_other m.present p q no_entry no_entry (λ is. omega (arith, is, lt, page)) ∙ sound.own q lt;
  high = λ q b some has. elim has [
    | inl here ↦ elim (block_set m.present p q b no_entry here) [
      | inl was ↦ sound.high q b some (inl was)
      | inr new ↦ absurd (omega (arith, new.1, some))
    ]
    | inr kept ↦ sound.high q b some (inr kept)
  ];
  owned = λ q b some has. elim has [
    | inl here ↦ elim (block_set m.present p q b no_entry here) [
      | inl was ↦ sound.owned q b some (inl was)
      | inr new ↦ absurd (omega (arith, new.1, some))
    ]
    | inr kept ↦ sound.owned q b some (inr kept)
  ];
}

false_true : false ≡ true → ⊥
false_true is = cc

module _ (m : Maps) (b q : ℕ) (sound : IsSoundMaps m) (some : 0 < b) (place : q ≡ get_or m.owner b 0) where
  at_place : (p : ℕ) → HasAt m p b → p ≡ q
  at_place p has = sym (sound.owned p b some has) ∙ sym place

  kept_to : (x y : Bool) → (IsTrue x ↔ (block_of m.saved q ≡ b)) → (IsTrue y ↔ (block_of m.frozen q ≡ b)) → IsTrue (x || y) → IsKept m b
  kept_to true y one two is = (q, inl (one.0 refl))
  kept_to false y one two is = (q, inr (two.0 is))

  kept_from : (x y : Bool) → (IsTrue x ↔ (block_of m.saved q ≡ b)) → (IsTrue y ↔ (block_of m.frozen q ≡ b)) → IsKept m b → IsTrue (x || y)
  kept_from true y one two is = refl
  kept_from false y one two is = elim is.1 [
    | inl saved ↦ absurd (false_true (one.1 (subst (λ (p : ℕ). block_of m.saved p ≡ b) (at_place is.0 (inr (inl saved))) saved)))
    | inr frozen ↦ two.1 (subst (λ (p : ℕ). block_of m.frozen p ≡ b) (at_place is.0 (inr (inr frozen))) frozen)
  ]

  pub kept_iff : (x y : Bool) → (IsTrue x ↔ (block_of m.saved q ≡ b)) → (IsTrue y ↔ (block_of m.frozen q ≡ b)) → IsTrue (x || y) ↔ IsKept m b
  kept_iff x y one two = (kept_to x y one two, kept_from x y one two)

  used_to : (x y : Bool) → (IsTrue x ↔ (block_of m.present q ≡ b)) → (IsTrue y ↔ IsKept m b) → IsTrue (x || y) → IsUsed m b
  used_to true y one two is = (q, inl (one.0 refl))
  used_to false y one two is = let k = two.0 is in (k.0, inr k.1)

  used_from : (x y : Bool) → (IsTrue x ↔ (block_of m.present q ≡ b)) → (IsTrue y ↔ IsKept m b) → IsUsed m b → IsTrue (x || y)
  used_from true y one two is = refl
  used_from false y one two is = elim is.1 [
    | inl here ↦ absurd (false_true (one.1 (subst (λ (p : ℕ). block_of m.present p ≡ b) (at_place is.0 (inl here)) here)))
    | inr kept ↦ two.1 (is.0, kept)
  ]

  pub used_iff : (x y : Bool) → (IsTrue x ↔ (block_of m.present q ≡ b)) → (IsTrue y ↔ IsKept m b) → IsTrue (x || y) ↔ IsUsed m b
  used_iff x y one two = (used_to x y one two, used_from x y one two)

-- what a map has after an entry was set: what it had, or the entry at that place
has_set : (m : Maps) (p q b : ℕ) (e : ConverterEntry) → HasAt record m { present = set m.present p e } q b → HasAt m q b ⊎ ((q ≡ p) × (e.block ≡ b))
has_set m p q b e has = elim has [
  | inl here ↦ elim (block_set m.present p q b e here) [ inl was ↦ inl (inl was) | inr new ↦ inr new ]
  | inr kept ↦ inl (inr kept)
]

pub set_sound : (m : Maps) (p : ℕ) (e : ConverterEntry) → m.conv ≤ p → IsSoundMaps m → 2 ≤ e.block → e.block < length m.owner → e.stamp < 2 ^ 62 → IsTrue (converter_entry_fits e) → IsOpenTo m e.block p
    → IsSoundMaps record m { present = set m.present p e; owner = set m.owner e.block p }
set_sound m p e page sound low high stamp spelled alone =
    let fits : m.conv ≤ p → IsTrue (converter_entry_fits e) = λ le. spelled in
    let long : length (set m.owner e.block p) ≡ length m.owner = length-set m.owner e.block p in
    let small = λ (l : List ConverterEntry) (s : AreSmall m.conv (length m.owner) l). subst (λ (n : ℕ). AreSmall m.conv n l) (sym long) s in
    record {
      some = omega (arith, long, sound.some);
      bound = omega (arith, long, sound.bound);
      leaves = omega (arith, long, sound.leaves);
      present_long = omega (arith, length-set m.present p e, long, sound.present_long);
      saved_long = omega (arith, long, sound.saved_long);
      frozen_long = omega (arith, long, sound.frozen_long);
      present_small = small (set m.present p e) (small_set m.conv (length m.owner) m.present p e sound.present_small high stamp fits);
      saved_small = small m.saved sound.saved_small;
      frozen_small = small m.frozen sound.frozen_small;
      own = λ q lt. get_or-set_other m.present p q e no_entry (λ is. omega (arith, is, lt, page)) ∙ sound.own q lt;
      high = λ q b some has. elim (has_set m p q b e has) [
        | inl was ↦ sound.high q b some was
        | inr new ↦ omega (arith, low, new.1)
      ];
      owned = λ q b some has. elim (cases_eq b e.block) [
        | inl same ↦
            let place : q ≡ p = elim (has_set m p q b e has) [
              | inl was ↦ alone q (subst (λ (c : ℕ). HasAt m q c) same was)
              | inr new ↦ new.0
            ] in
            subst (λ (c : ℕ). get_or (set m.owner e.block p) c 0 ≡ q) (sym same) (get_or-set_same m.owner e.block p 0 high ∙ sym place)
        | inr other ↦
            let was : HasAt m q b = elim (has_set m p q b e has) [
              | inl was ↦ was
              | inr new ↦ absurd (other (sym new.1))
            ] in
            get_or-set_other m.owner e.block b p 0 other ∙ sound.owned q b some was
      ];
    }

pub frozen_sound : (m : Maps) (l : List ConverterEntry) (n : ℕ) → l ≡ m.present → IsSoundMaps m → IsSoundMaps record m { frozen = l; frozen_at = Some n }
frozen_sound m l n is sound = record {
  some = sound.some;
  bound = sound.bound;
  leaves = sound.leaves;
  present_long = sound.present_long;
  saved_long = sound.saved_long;
  frozen_long = ap (λ (x : List ConverterEntry). length x) is ∙ sound.present_long;
  present_small = sound.present_small;
  saved_small = sound.saved_small;
  frozen_small = subst (λ (x : List ConverterEntry). AreSmall m.conv (length m.owner) x) (sym is) sound.present_small;
  own = λ q lt. ap (λ (x : List ConverterEntry). entry_at x q) (sym is);
  high = λ q b some has. sound.high q b some (back q b has);
  owned = λ q b some has. sound.owned q b some (back q b has);
}
  where
    back : (q b : ℕ) → HasAt record m { frozen = l; frozen_at = Some n } q b → HasAt m q b
    back q b has = elim has [
      | inl here ↦ inl here
      | inr kept ↦ elim kept [
        | inl saved ↦ inr (inl saved)
        | inr frozen ↦ inl (sym (ap (λ (x : List ConverterEntry). block_of x q) is) ∙ frozen)
      ]
    ]

pub none_there : (n q : ℕ) → entry_at (replicate n no_entry) q ≡ no_entry
none_there n q = elim (cases_lt q n) [
  | inl lt ↦ get_or-replicate n q no_entry no_entry lt
  | inr past ↦ get_or_past (replicate n no_entry) q no_entry (omega (arith, length-replicate n no_entry, past))
]

pub settled_sound : (m : Maps) (s f : List ConverterEntry) (n : ℕ) → m.frozen_at ≡ Some n → s ≡ m.frozen → f ≡ replicate (length m.frozen) no_entry → IsSoundMaps m
    → IsSoundMaps record m { saved = s; frozen = f; frozen_at = None }
settled_sound m s f n at is blank sound = record {
  some = sound.some;
  bound = sound.bound;
  leaves = sound.leaves;
  present_long = sound.present_long;
  saved_long = ap (λ (x : List ConverterEntry). length x) is ∙ sound.frozen_long;
  frozen_long = ap (λ (x : List ConverterEntry). length x) blank ∙ length-replicate (length m.frozen) no_entry ∙ sound.frozen_long;
  present_small = sound.present_small;
  saved_small = subst (λ (x : List ConverterEntry). AreSmall m.conv (length m.owner) x) (sym is) sound.frozen_small;
  own = λ q lt. sound.own q lt ∙ ap (λ (o : Option ℕ). entry_at (own_of o m.saved m.frozen) q) at ∙ ap (λ (x : List ConverterEntry). entry_at x q) (sym is);
  frozen_small = λ q. subst (λ (x : ConverterEntry). (x.block < length m.owner) × (x.stamp < 2 ^ 62) × (m.conv ≤ q → IsTrue (converter_entry_fits x))) (sym (none q)) (sound.some, omega arith, λ le. refl);
  high = λ q b some has. sound.high q b some (back q b some has);
  owned = λ q b some has. sound.owned q b some (back q b some has);
}
  where
    none : (q : ℕ) → entry_at f q ≡ no_entry
    none q = ap (λ (x : List ConverterEntry). entry_at x q) blank ∙ none_there (length m.frozen) q

    back : (q b : ℕ) → 0 < b → HasAt record m { saved = s; frozen = f; frozen_at = None } q b → HasAt m q b
    back q b some has = elim has [
      | inl here ↦ inl here
      | inr kept ↦ elim kept [
        | inl saved ↦ inr (inr (sym (ap (λ (x : List ConverterEntry). block_of x q) is) ∙ saved))
        | inr frozen ↦ absurd (omega (arith, some, frozen, ap (λ (x : ConverterEntry). x.block) (none q)))
      ]
    ]

-- at two places of one map no block is the same
pub saved_apart : (m : Maps) (l : List ConverterEntry) → l ≡ m.saved → IsSoundMaps m → (p q : ℕ) → 0 < block_of l p → block_of l p ≡ block_of l q → p ≡ q
saved_apart m l is sound p q some same =
    let a = sound.owned p (block_of l p) some (inr (inl (sym (ap (λ (x : List ConverterEntry). block_of x p) is)))) in
    let b = sound.owned q (block_of l p) some (inr (inl (sym (ap (λ (x : List ConverterEntry). block_of x q) is) ∙ sym same))) in
    sym a ∙ b

pub saved_taken : (m : Maps) (l : List ConverterEntry) (flags : List Bool) → l ≡ m.saved → AreUnused m flags → (q : ℕ) → 0 < block_of l q → IsFree flags (block_of l q) → ⊥
saved_taken m l flags is unused q some free = (unused (block_of l q) free).1 (q, inr (inl (sym (ap (λ (x : List ConverterEntry). block_of x q) is))))

-- an own page of the converter was given a block that no map has
pub own_sound : (m : Maps) (p n : ℕ) (e : ConverterEntry) → p < m.conv → m.frozen_at ≡ Some n → IsSoundMaps m → 2 ≤ e.block → e.block < length m.owner → e.stamp < 2 ^ 62 → (IsUsed m e.block → ⊥)
    → IsSoundMaps (with_own m p e)
own_sound m p n e page at sound low high stamp unused =
    let fits : m.conv ≤ p → IsTrue (converter_entry_fits e) = λ le. absurd (omega (arith, le, page)) in
    let long : length (set m.owner e.block p) ≡ length m.owner = length-set m.owner e.block p in
    let small = λ (l : List ConverterEntry) (s : AreSmall m.conv (length m.owner) l). subst (λ (n : ℕ). AreSmall m.conv n l) (sym long) s in
    record {
      some = omega (arith, long, sound.some);
      bound = omega (arith, long, sound.bound);
      leaves = omega (arith, long, sound.leaves);
      present_long = omega (arith, length-set m.present p e, long, sound.present_long);
      saved_long = omega (arith, long, sound.saved_long);
      frozen_long = omega (arith, length-set m.frozen p e, long, sound.frozen_long);
      present_small = small (set m.present p e) (small_set m.conv (length m.owner) m.present p e sound.present_small high stamp fits);
      saved_small = small m.saved sound.saved_small;
      frozen_small = small (set m.frozen p e) (small_set m.conv (length m.owner) m.frozen p e sound.frozen_small high stamp fits);
      own = λ q lt. same_own q lt;
      high = λ q b some has. elim (back q b has) [
        | inl was ↦ sound.high q b some was
        | inr new ↦ omega (arith, low, new.1)
      ];
      owned = λ q b some has. elim (back q b has) [
        | inl was ↦ get_or-set_other m.owner e.block b p 0 (λ is. unused (q, subst (λ (c : ℕ). HasAt m q c) is was)) ∙ sound.owned q b some was
        | inr new ↦ subst (λ (c : ℕ). get_or (set m.owner e.block p) c 0 ≡ q) new.1 (get_or-set_same m.owner e.block p 0 high ∙ sym new.0)
      ];
    }
  where
    back : (q b : ℕ) → HasAt (with_own m p e) q b → HasAt m q b ⊎ ((q ≡ p) × (e.block ≡ b))
    back q b has = elim has [
      | inl here ↦ elim (block_set m.present p q b e here) [ inl was ↦ inl (inl was) | inr new ↦ inr new ]
      | inr kept ↦ elim kept [
        | inl saved ↦ inl (inr (inl saved))
        | inr frozen ↦ elim (block_set m.frozen p q b e frozen) [ inl was ↦ inl (inr (inr was)) | inr new ↦ inr new ]
      ]
    ]

    same_own : (q : ℕ) → q < m.conv → entry_at (set m.present p e) q ≡ entry_at (own_of m.frozen_at m.saved (set m.frozen p e)) q
    same_own q lt =
        let now : entry_at m.present q ≡ entry_at m.frozen q = sound.own q lt ∙ ap (λ (o : Option ℕ). entry_at (own_of o m.saved m.frozen) q) at in
        subst (λ (o : Option ℕ). entry_at (set m.present p e) q ≡ entry_at (own_of o m.saved (set m.frozen p e)) q) (sym at) (elim (cases_eq q p) [
          | inl is ↦ subst (λ (k : ℕ). entry_at (set m.present p e) k ≡ entry_at (set m.frozen p e) k) (sym is)
              (get_or-set_same m.present p e no_entry (omega (arith, sound.present_long, sound.leaves, page)) ∙ sym (get_or-set_same m.frozen p e no_entry (omega (arith, sound.frozen_long, sound.leaves, page))))
          | inr other ↦ get_or-set_other m.present p q e no_entry other ∙ now ∙ sym (get_or-set_other m.frozen p q e no_entry other)
        ])

-- one of the places of the present and the last savepoint's map was given a block that no map has
pub loaded_sound : (m : Maps) (p : ℕ) (e : ConverterEntry) → m.frozen_at ≡ None → IsSoundMaps m → 2 ≤ e.block → e.block < length m.owner → e.stamp < 2 ^ 62 → (m.conv ≤ p → IsTrue (converter_entry_fits e))
    → p < m.conv + length m.owner → (IsUsed m e.block → ⊥) → IsSoundMaps (with_loaded m p e)
loaded_sound m p e none sound low high stamp fits place unused =
    let long : length (set m.owner e.block p) ≡ length m.owner = length-set m.owner e.block p in
    let small = λ (l : List ConverterEntry) (s : AreSmall m.conv (length m.owner) l). subst (λ (n : ℕ). AreSmall m.conv n l) (sym long) s in
    record {
      some = omega (arith, long, sound.some);
      bound = omega (arith, long, sound.bound);
      leaves = omega (arith, long, sound.leaves);
      present_long = omega (arith, length-set m.present p e, long, sound.present_long);
      saved_long = omega (arith, length-set m.saved p e, long, sound.saved_long);
      frozen_long = omega (arith, long, sound.frozen_long);
      present_small = small (set m.present p e) (small_set m.conv (length m.owner) m.present p e sound.present_small high stamp fits);
      saved_small = small (set m.saved p e) (small_set m.conv (length m.owner) m.saved p e sound.saved_small high stamp fits);
      frozen_small = small m.frozen sound.frozen_small;
      own = λ q lt. same_own q lt;
      high = λ q b some has. elim (back q b has) [
        | inl was ↦ sound.high q b some was
        | inr new ↦ omega (arith, low, new.1)
      ];
      owned = λ q b some has. elim (back q b has) [
        | inl was ↦ get_or-set_other m.owner e.block b p 0 (λ is. unused (q, subst (λ (c : ℕ). HasAt m q c) is was)) ∙ sound.owned q b some was
        | inr new ↦ subst (λ (c : ℕ). get_or (set m.owner e.block p) c 0 ≡ q) new.1 (get_or-set_same m.owner e.block p 0 high ∙ sym new.0)
      ];
    }
  where
    back : (q b : ℕ) → HasAt (with_loaded m p e) q b → HasAt m q b ⊎ ((q ≡ p) × (e.block ≡ b))
    back q b has = elim has [
      | inl here ↦ elim (block_set m.present p q b e here) [ inl was ↦ inl (inl was) | inr new ↦ inr new ]
      | inr kept ↦ elim kept [
        | inl saved ↦ elim (block_set m.saved p q b e saved) [ inl was ↦ inl (inr (inl was)) | inr new ↦ inr new ]
        | inr frozen ↦ inl (inr (inr frozen))
      ]
    ]

    same_own : (q : ℕ) → q < m.conv → entry_at (set m.present p e) q ≡ entry_at (own_of m.frozen_at (set m.saved p e) m.frozen) q
    same_own q lt =
        let now : entry_at m.present q ≡ entry_at m.saved q = sound.own q lt ∙ ap (λ (o : Option ℕ). entry_at (own_of o m.saved m.frozen) q) none in
        subst (λ (o : Option ℕ). entry_at (set m.present p e) q ≡ entry_at (own_of o (set m.saved p e) m.frozen) q) (sym none) (elim (cases_eq q p) [
          | inl is ↦ subst (λ (k : ℕ). entry_at (set m.present p e) k ≡ entry_at (set m.saved p e) k) (sym is)
              (get_or-set_same m.present p e no_entry (omega (arith, sound.present_long, place)) ∙ sym (get_or-set_same m.saved p e no_entry (omega (arith, sound.saved_long, place))))
          | inr other ↦ get_or-set_other m.present p q e no_entry other ∙ now ∙ sym (get_or-set_other m.saved p q e no_entry other)
        ])

-- maps with no page
pub blank_sound : (m : Maps) (n : ℕ) → 0 < length m.owner → length m.owner ≤ 65536 → m.conv ≡ 1 + (length m.owner + 599) / 600 → n ≡ m.conv + length m.owner
    → m.present ≡ replicate n no_entry → m.saved ≡ replicate n no_entry → m.frozen ≡ replicate n no_entry → m.frozen_at ≡ None → IsSoundMaps m
blank_sound m n some bound leaves long present saved frozen none = record {
  some = some;
  bound = bound;
  leaves = leaves;
  present_long = of_length m.present present;
  saved_long = of_length m.saved saved;
  frozen_long = of_length m.frozen frozen;
  present_small = of_small m.present present;
  saved_small = of_small m.saved saved;
  frozen_small = of_small m.frozen frozen;
  own = λ q lt. nothing m.present q present ∙ sym (ap (λ (o : Option ℕ). entry_at (own_of o m.saved m.frozen) q) none ∙ nothing m.saved q saved);
  high = λ q b lt has. absurd (omega (arith, lt, is_none q b has));
  owned = λ q b lt has. absurd (omega (arith, lt, is_none q b has));
}
  where
    of_length : (l : List ConverterEntry) → l ≡ replicate n no_entry → length l ≡ m.conv + length m.owner
    of_length l is = ap (λ (x : List ConverterEntry). length x) is ∙ length-replicate n no_entry ∙ long

    nothing : (l : List ConverterEntry) (q : ℕ) → l ≡ replicate n no_entry → entry_at l q ≡ no_entry
    nothing l q is = ap (λ (x : List ConverterEntry). entry_at x q) is ∙ none_there n q

    of_small : (l : List ConverterEntry) → l ≡ replicate n no_entry → AreSmall m.conv (length m.owner) l
    of_small l is q = subst (λ (x : ConverterEntry). (x.block < length m.owner) × (x.stamp < 2 ^ 62) × (m.conv ≤ q → IsTrue (converter_entry_fits x))) (sym (nothing l q is)) (some, omega arith, λ le. refl)

    is_none : (q b : ℕ) → HasAt m q b → b ≡ 0
    is_none q b has = elim has [
      | inl here ↦ sym here ∙ ap (λ (x : ConverterEntry). x.block) (nothing m.present q present)
      | inr kept ↦ elim kept [
        | inl here ↦ sym here ∙ ap (λ (x : ConverterEntry). x.block) (nothing m.saved q saved)
        | inr here ↦ sym here ∙ ap (λ (x : ConverterEntry). x.block) (nothing m.frozen q frozen)
      ]
    ]
