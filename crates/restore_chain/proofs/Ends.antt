-- One more link at the end of a list.
--     later      the number that is reached with it
--     last-append      it is the last
--     take_while-fails, take_while-passes      the front that passes a test
--     first-append      the first stays
use Rattle.std.proofs.Common.{◌≡◌, refl, sym, ap, ◌∙◌, ℕ, ◌-◌, List, [], ◌∷◌, ◌++◌, length, length-append, Bool, true, false, cond, Some, option_map, arith}
use Rattle.std.specs.Prelude.{max, if◌then◌else◌}
use Rattle.std.specs.List.{take_while, slice_get}
use Rattle.std.proofs.lemmas.List.Sums.{take_while-cons}
use Rattle.mdb_model.specs.declared.name.Name.{Name}
use Rattle.mdb_model.specs.Backups.{Backup, name_of}
use Rattle.mdb_model.specs.Chains.{last_link, is_page_backup, commit_of}

-- the number that links reach with one more, as the model has it
abbrev pub later : ℕ → Backup → ℕ
later n link = if is_page_backup link then n else max n (commit_of link)

-- behind the list stands the new element
slice_get-seam : {X : Type 0} (xs : List X) (y : X) → slice_get (xs ++ y ∷ []) (length xs) ≡ Some y
slice_get-seam [] y = refl
slice_get-seam (x ∷ xs) y = slice_get-seam xs y

-- the new link is the last
pub last-append : (links : List Backup) (link : Backup) → last_link (links ++ link ∷ []) ≡ Some link
last-append links link =
    let e : length (links ++ link ∷ []) - 1 ≡ length links = omega (arith, length-append links (link ∷ [])) in
    ap (λ (n : ℕ). slice_get (links ++ link ∷ []) n) e ∙ slice_get-seam links link

-- an element that fails does not lengthen the front that passes
pub take_while-fails : {X : Type 0} (p : X → Bool) (xs : List X) (y : X) → p y ≡ false → take_while p (xs ++ y ∷ []) ≡ take_while p xs
take_while-fails p [] y fails = rw fails refl
take_while-fails p (x ∷ xs) y fails =
    take_while-cons p x (xs ++ y ∷ []) ∙ ap (λ l. cond (p x) (x ∷ l) []) (take_while-fails p xs y fails) ∙ sym (take_while-cons p x xs)

-- one that passes does, where all pass before it
pub take_while-passes : {X : Type 0} (p : X → Bool) (xs : List X) (y : X) → take_while p xs ≡ xs → p y ≡ true → take_while p (xs ++ y ∷ []) ≡ xs ++ y ∷ []
take_while-passes p [] y all passes = rw passes refl
take_while-passes p (x ∷ xs) y all passes =
    take_while-cons p x (xs ++ y ∷ [])
    ∙ elim (p x) as (λ b. cond b (x ∷ take_while p xs) [] ≡ x ∷ xs → cond b (x ∷ take_while p (xs ++ y ∷ [])) [] ≡ x ∷ (xs ++ y ∷ [])) [
      | true ↦ λ e. let rest : take_while p xs ≡ xs = cc in ap (λ l. x ∷ l) (take_while-passes p xs y rest passes)
      | false ↦ λ e. absurd (cc)
    ] (sym (take_while-cons p x xs) ∙ all)

-- the first link stays the first
pub first-append : (xs ys : List Backup) (name : Name) → option_map name_of (slice_get xs 0) ≡ Some name → option_map name_of (slice_get (xs ++ ys) 0) ≡ Some name
first-append [] ys name first = absurd (cc)
first-append (x ∷ xs) ys name first = first
