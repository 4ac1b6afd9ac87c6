-- Keys that ascend, each before the next, rise as a whole.
--     ascend-rises      the same of entries by their keys
use Rattle.std.proofs.Common.{◌≡◌, refl, sym, ap, ◌∙◌, ℕ, Bool, true, List, [], ◌∷◌, Option, Some, None}
use Rattle.std.specs.Prelude.{◌&&◌, map}
use Rattle.std.specs.declared.cmp.Ordering.{Ordering}
use Rattle.std.specs.declared.cmp.Ordering.TheVariants.{Less, Equal, Greater}
use Rattle.std.specs.Ordering.{nat_cmp, is_lt}
use Rattle.std.specs.Cmp.Lexicographic.{slice_cmp, nat_list_cmp_total}
use Rattle.std.specs.FinMap.Entries.{below_all}
use Rattle.mdb_bytes.specs.Fields.{rises}
use Rattle.mdb_bytes.specs.EntryPages.{Layout, key_follows, ascend}
use Rattle.mdb_bytes.proofs.Decoding.{and_left, and_right, and_both}

less : (o : Ordering) → is_lt o ≡ true → o ≡ Less
less Less e = refl
less Equal e = absurd cc
less Greater e = absurd cc

-- whether a key is before another
abbrev before : List ℕ → List ℕ → Bool
before a b = is_lt (slice_cmp nat_cmp a b)

-- whether a key is before each of these
abbrev before_all : List ℕ → List (List ℕ) → Bool
before_all key [] = true
before_all key (other ∷ keys) = before key other && before_all key keys

-- whether keys ascend after the last one
abbrev keys_up : Option (List ℕ) → List (List ℕ) → Bool
keys_up last [] = true
keys_up last (key ∷ keys) = key_follows last (Some key) && keys_up (Some key) keys

-- a key as an entry
abbrev with_unit : List ℕ → List ℕ × Unit {0}
with_unit key = (key, tt)

same_before : (key : List ℕ) (keys : List (List ℕ)) → below_all (slice_cmp nat_cmp) key (map with_unit keys) ≡ before_all key keys
same_before key [] = refl
same_before key (other ∷ keys) = ap (λ b. before key other && b) (same_before key keys)

rises-cons : (key : List ℕ) (keys : List (List ℕ)) → rises (slice_cmp nat_cmp) (key ∷ keys) ≡ (before_all key keys && rises (slice_cmp nat_cmp) keys)
rises-cons key keys = ap (λ b. b && rises (slice_cmp nat_cmp) keys) (same_before key keys)

before_through : (a b : List ℕ) (keys : List (List ℕ)) → slice_cmp nat_cmp a b ≡ Less → before_all b keys ≡ true → before_all a keys ≡ true
before_through a b [] lt all = refl
before_through a b (c ∷ keys) lt all =
    and_both (before a c) (before_all a keys)
    (ap is_lt (nat_list_cmp_total.trans a b c lt (less (slice_cmp nat_cmp b c) (and_left (before b c) _ all))))
    (before_through a b keys lt (and_right (before b c) _ all))

-- each before the next is each before all that follow
after-rises : (key : List ℕ) (keys : List (List ℕ)) → keys_up (Some key) keys ≡ true → (before_all key keys ≡ true) × (rises (slice_cmp nat_cmp) keys ≡ true)
after-rises key [] up = (refl, refl)
after-rises key (c ∷ keys) up =
    let lt = less (slice_cmp nat_cmp key c) (and_left (before key c) _ up) in
    let more = after-rises c keys (and_right (before key c) _ up) in (
      and_both (before key c) (before_all key keys) (ap is_lt lt) (before_through key c keys lt more.0),
      rises-cons c keys ∙ and_both (before_all c keys) (rises (slice_cmp nat_cmp) keys) more.0 more.1,
    )

up-rises : (keys : List (List ℕ)) → keys_up None keys ≡ true → rises (slice_cmp nat_cmp) keys ≡ true
up-rises [] up = refl
up-rises (c ∷ keys) up =
    let more = after-rises c keys up in
    rises-cons c keys ∙ and_both (before_all c keys) (rises (slice_cmp nat_cmp) keys) more.0 more.1

rises-after : (key : List ℕ) (keys : List (List ℕ)) → before_all key keys ≡ true → rises (slice_cmp nat_cmp) keys ≡ true → keys_up (Some key) keys ≡ true
rises-after key [] first up = refl
rises-after key (c ∷ keys) first up =
    let parts : (before_all c keys && rises (slice_cmp nat_cmp) keys) ≡ true = sym (rises-cons c keys) ∙ up in
    and_both (before key c) (keys_up (Some c) keys) (and_left (before key c) _ first)
    (rises-after c keys (and_left (before_all c keys) _ parts) (and_right (before_all c keys) _ parts))

rises-up : (keys : List (List ℕ)) → rises (slice_cmp nat_cmp) keys ≡ true → keys_up None keys ≡ true
rises-up [] up = refl
rises-up (c ∷ keys) up =
    let parts : (before_all c keys && rises (slice_cmp nat_cmp) keys) ≡ true = sym (rises-cons c keys) ∙ up in
    rises-after c keys (and_left (before_all c keys) _ parts) (and_right (before_all c keys) _ parts)

module _ {X : Type 0} (layout : Layout X) (key : X → List ℕ) (is : (x : X) → layout.key x ≡ Some (key x)) where
  ascend-keys : (last : Option (List ℕ)) (xs : List X) → ascend layout last xs ≡ keys_up last (map key xs)
  ascend-keys last [] = refl
  ascend-keys last (x ∷ xs) =
      (λ i. key_follows last (is x i) && ascend layout (is x i) xs) ∙ ap (λ b. key_follows last (Some (key x)) && b) (ascend-keys (Some (key x)) xs)

  pub ascend-rises : (xs : List X) → ascend layout None xs ≡ true → rises (slice_cmp nat_cmp) (map key xs) ≡ true
  ascend-rises xs up = up-rises (map key xs) (sym (ascend-keys None xs) ∙ up)

  pub rises-ascend : (xs : List X) → rises (slice_cmp nat_cmp) (map key xs) ≡ true → ascend layout None xs ≡ true
  rises-ascend xs up = ascend-keys None xs ∙ rises-up (map key xs) up
