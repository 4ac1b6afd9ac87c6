-- A map reads the same where the blocks that it uses read the same.
--     SameOn      the blocks that a map uses read the same
--     kept_map_same      the law
use Rattle.std.proofs.Common.{◌≡◌, refl, sym, ap, ◌∙◌, subst, ℕ, List, [], ◌∷◌, map, Some}
use Rattle.std.specs.List.{AllByRecursion}
use Rattle.std.specs.Prelude.{option_map, option_and_then}
use Rattle.std.specs.FinMap.{from_sorted}
use Rattle.std.proofs.lemmas.Option.{option_and_then_some}
use Rattle.mdb_bytes.specs.declared.converter_pages.ConverterEntry.{ConverterEntry}
use Rattle.mdb_bytes.specs.declared.converter_pages.ConverterRoot.{ConverterRoot}
use Rattle.mdb_bytes.specs.KeptMaps.{KeptMap, Placed, kept_map, kept_under, root_with_leaves, pages_at, entries_from, placed}
use Rattle.mdb_bytes.proofs.GroupLaw.{option_map_some}

pub map_same : {A B : Type 0} (f g : A → B) (xs : List A) → AllByRecursion (λ x. g x ≡ f x) xs → map g xs ≡ map f xs
map_same f g [] same = refl
map_same f g (x ∷ xs) same = λ i. same.0 i ∷ map_same f g xs same.1 i

pub all_of : {A : Type 0} (P Q : A → Type 0) → ((x : A) → P x → Q x) → (xs : List A) → AllByRecursion P xs → AllByRecursion Q xs
all_of P Q step [] all = tt
all_of P Q step (x ∷ xs) all = (step x all.0, all_of P Q step xs all.1)

module _ (f g : ℕ → List ℕ) (blocks : ℕ) where
  -- the blocks that a map uses read the same
  abbrev pub SameOn : KeptMap → Type 0
  SameOn kept = AllByRecursion (λ block. g block ≡ f block) kept.converter × AllByRecursion (λ e. g e.1.block ≡ f e.1.block) kept.places

  pages_same : (places : List Placed) → AllByRecursion (λ e. g e.1.block ≡ f e.1.block) places → pages_at g blocks places ≡ pages_at f blocks places
  pages_same places same =
      ap from_sorted (map_same (λ e. (e.0, record { stamp = e.1.stamp; bytes = f e.1.block })) (λ e. (e.0, record { stamp = e.1.stamp; bytes = g e.1.block })) places
      (all_of _ _ (λ e s i. (e.0, record { stamp = e.1.stamp; bytes = s i })) places same))

  -- what is made of the entries
  made_of : (ℕ → List ℕ) → ℕ → List ℕ → List ConverterEntry → KeptMap
  made_of block_at root leaves entries = record { converter = root ∷ leaves; places = placed entries; pages = pages_at block_at blocks (placed entries) }

  made_same : (root : ℕ) (leaves : List ℕ) (entries : List ConverterEntry) → SameOn (made_of f root leaves entries) → made_of g root leaves entries ≡ made_of f root leaves entries
  unfolding made_of
  made_same root leaves entries same = λ i. record { converter = root ∷ leaves; places = placed entries; pages = pages_same (placed entries) same.1 i }

  under_same : (root : ℕ) (r : ConverterRoot) (kept : KeptMap) → kept_under f blocks root r ≡ Some kept → SameOn kept → kept_under g blocks root r ≡ kept_under f blocks root r
  unfolding made_of
  under_same root r kept is same =
      option_map_some (made_of f root r.leaves.items) (entries_from 0 (map f r.leaves.items)) kept is (λ entries there made.
      let on : SameOn (made_of f root r.leaves.items entries) = subst SameOn (sym made) same in
      ap (λ all. option_map (made_of g root r.leaves.items) (entries_from 0 all)) (map_same f g r.leaves.items on.0.1)
      ∙ ap (option_map (made_of g root r.leaves.items)) there
      ∙ ap Some (made_same root r.leaves.items entries on)
      ∙ sym (ap (option_map (made_of f root r.leaves.items)) there))

  -- a map has the block of its root
  has_root : (root : ℕ) (r : ConverterRoot) (kept : KeptMap) → kept_under f blocks root r ≡ Some kept → SameOn kept → g root ≡ f root
  unfolding made_of
  has_root root r kept is same =
      option_map_some (made_of f root r.leaves.items) (entries_from 0 (map f r.leaves.items)) kept is (λ entries there made.
      let on : SameOn (made_of f root r.leaves.items entries) = subst SameOn (sym made) same in
      on.0.0)

  pub kept_map_same : (root : ℕ) (kept : KeptMap) → kept_map f blocks root ≡ Some kept → SameOn kept → kept_map g blocks root ≡ kept_map f blocks root
  kept_map_same root kept is same =
      option_and_then_some (kept_under f blocks root) (root_with_leaves f blocks (f root)) kept is (λ r there built.
      ap (λ bytes. option_and_then (kept_under g blocks root) (root_with_leaves f blocks bytes)) (has_root root r kept built same)
      ∙ ap (option_and_then (kept_under g blocks root)) there
      ∙ under_same root r kept built same
      ∙ sym (ap (option_and_then (kept_under f blocks root)) there))
