-- What tests of blocks say.
use Rattle.std.proofs.Common.{◌≡◌, inl, inr, ℕ, suc, ◌<◌, List, [], ◌∷◌, length, get_or, Bool, true, false, ◌==◌, ◌||◌, refl, ap, sym, subst, ◌∙◌, arith, eq-eqb, eqb→eq, T}
use Rattle.std.specs.Prelude.{IsTrue, IsErrAnd, IfErr, OnErr, Result, Ok, Err}
use Rattle.std.specs.List.{list_any}
use Rattle.std.proofs.lemmas.Bool.{cases_lt, false≢true, or_cases, or_left, or_right, false_from_ne_true}
use Rattle.std.proofs.lemmas.List.{get_or_past}
use Rattle.std.proofs.lemmas.List.Folds.{list_any_at}
use Rattle.mdb_bytes.specs.declared.converter_pages.ConverterEntry.{ConverterEntry}
use Rattle.mdb_bytes.specs.Firsts.{no_entry}
use Rattle.free_blocks.specs.Marked.{IsMarked}
use Rattle.converter.specs.Maps.{block_of}
use Rattle.page_store.specs.Store.{Store, is_marked, IsHeld}
use Rattle.page_store.specs.LogicalPages.{has_block, is_held}

-- one that passes
pub any_some : {X : Type 0} (p : X → Bool) (xs : List X) (d : X) → list_any p xs ≡ true → (i : ℕ) × (p (get_or xs i d) ≡ true)
any_some p [] d is = absurd (false≢true is)
any_some p (x ∷ xs) d is =
    elim (p x) as (λ b. p x ≡ b → (b || list_any p xs) ≡ true → (i : ℕ) × (p (get_or (x ∷ xs) i d) ≡ true)) [
      | true ↦ λ here _. (0, here)
      | false ↦ λ _ rest. let later = any_some p xs d rest in (suc later.0, later.1)
    ] refl is

pub marked_true : (marks : List (List Bool)) (b : ℕ) → IsMarked marks b → is_marked marks b ≡ true
marked_true marks b (i, is) = elim (cases_lt i (length (get_or marks b []))) [
  | inl lt ↦ list_any_at (λ on. on) (get_or marks b []) i false lt is
  | inr past ↦ absurd (false≢true (sym (get_or_past (get_or marks b []) i false past) ∙ is))
]

pub marked_some : (marks : List (List Bool)) (b : ℕ) → is_marked marks b ≡ true → IsMarked marks b
marked_some marks b is = any_some (λ on. on) (get_or marks b []) false is

pub block_true : (m : List ConverterEntry) (b q : ℕ) → 0 < b → block_of m q ≡ b → has_block m b ≡ true
block_true m b q some is = elim (cases_lt q (length m)) [
  | inl lt ↦ list_any_at (λ e. e.block == b) m q no_entry lt (eq-eqb (block_of m q) b is)
  | inr past ↦ absurd (omega (arith, some, is, ap (λ (e : ConverterEntry). e.block) (get_or_past m q no_entry past)))
]

pub block_some : (m : List ConverterEntry) (b : ℕ) → has_block m b ≡ true → (q : ℕ) × (block_of m q ≡ b)
block_some m b is = let one = any_some (λ e. e.block == b) m no_entry is in (one.0, eqb→eq (block_of m one.0) b (subst T (sym one.1) tt))

pub held_true : (s : Store) (b : ℕ) → 0 < b → IsHeld s b → is_held s b ≡ true
held_true s b some held = elim held [
  | inl (q, inl saved) ↦ or_left _ _ (or_left _ _ (block_true s.maps.saved b q some saved))
  | inl (q, inr frozen) ↦ or_left _ _ (or_right (has_block s.maps.saved b) _ (block_true s.maps.frozen b q some frozen))
  | inr marked ↦ or_right (has_block s.maps.saved b || has_block s.maps.frozen b) _ (marked_true s.marks b marked)
]

pub held_some : (s : Store) (b : ℕ) → is_held s b ≡ true → IsHeld s b
held_some s b is = elim (or_cases (has_block s.maps.saved b || has_block s.maps.frozen b) (is_marked s.marks b) is) [
  | inl kept ↦ elim (or_cases (has_block s.maps.saved b) (has_block s.maps.frozen b) kept) [
    | inl saved ↦ let at = block_some s.maps.saved b saved in inl (at.0, inl at.1)
    | inr frozen ↦ let at = block_some s.maps.frozen b frozen in inl (at.0, inr at.1)
  ]
  | inr marked ↦ inr (marked_some s.marks b marked)
]

pub unmarked_false : (marks : List (List Bool)) (b : ℕ) (t : Bool) → t ≡ false → (IsMarked marks b → IsTrue t) → is_marked marks b ≡ false
unmarked_false marks b t is told = false_from_ne_true (is_marked marks b) (λ marked. false≢true (sym is ∙ told (marked_some marks b marked)))

-- what holds of a fault that is passed on is on the error of the answer
pub on_passed : {U E P : Type 0} (fault : E) (answer : Result U E)
    → IsErrAnd answer (λ passed. passed ≡ fault) → P → OnErr answer P
on_passed fault (Ok value) is holds = absurd is
on_passed fault (Err passed) is holds = holds

-- what holds of a fault holds of the answer that passes it on
pub if_passed : {U E : Type 0} (P : E → Type 0) (fault : E) (answer : Result U E)
    → IsErrAnd answer (λ passed. passed ≡ fault) → P fault → IfErr answer P
if_passed P fault (Ok value) is holds = absurd is
if_passed P fault (Err passed) is holds = subst P (sym is) holds
