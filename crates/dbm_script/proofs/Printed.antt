-- Printed lines, part by part.
use Rattle.std.proofs.Common.{◌≡◌, ℕ, ◌+◌, ◌<◌, List, [], ◌∷◌, ◌++◌, length, take, get_or, true, decimal, refl, sym, ap, ◌∙◌, append_assoc}
use Rattle.std.specs.List.{list_all}
use Rattle.mdb_model.specs.Script.{is_plain}
use Rattle.mdb_model.specs.Text.{shown}
use Rattle.std.proofs.lemmas.List.{append-nil, take_more}
use Rattle.dbm_script.specs.Printing.{numbers_then}

-- what follows the numbers stands at the end
pub then-rest : (numbers rest : List ℕ) → numbers_then numbers rest ≡ numbers_then numbers [] ++ rest
then-rest [] rest = refl
then-rest (n ∷ numbers) rest =
    ap (λ (t : List ℕ). 32 ∷ (decimal n ++ t)) (then-rest numbers rest) ∙ ap (λ (t : List ℕ). 32 ∷ t) (sym (append_assoc (decimal n) (numbers_then numbers []) rest))

-- one more number
then-push : (numbers : List ℕ) (n : ℕ) → numbers_then (numbers ++ n ∷ []) [] ≡ numbers_then numbers [] ++ 32 ∷ decimal n
then-push [] n = ap (λ (t : List ℕ). 32 ∷ t) (append-nil (decimal n))
then-push (m ∷ numbers) n =
    ap (λ (t : List ℕ). 32 ∷ (decimal m ++ t)) (then-push numbers n) ∙ ap (λ (t : List ℕ). 32 ∷ t) (sym (append_assoc (decimal m) (numbers_then numbers []) (32 ∷ decimal n)))

-- one more of the numbers of a list
pub then-more : (numbers : List ℕ) (i : ℕ) → i < length numbers → numbers_then (take (i + 1) numbers) [] ≡ numbers_then (take i numbers) [] ++ 32 ∷ decimal (get_or numbers i 0)
then-more numbers i lt = ap (λ (ns : List ℕ). numbers_then ns []) (take_more numbers i 0 lt) ∙ then-push (take i numbers) (get_or numbers i 0)

-- three texts, one after another
pub three : (old a b c x y z : List ℕ) → x ≡ old ++ a → y ≡ x ++ b → z ≡ y ++ c → z ≡ old ++ (a ++ (b ++ c))
three old a b c x y z ex ey ez =
    ez ∙ ap (λ (t : List ℕ). t ++ c) ey ∙ append_assoc x b c ∙ ap (λ (t : List ℕ). t ++ (b ++ c)) ex ∙ append_assoc old a (b ++ c)

-- a byte string of which each byte stands for itself
pub shown_plain : (bytes : List ℕ) → list_all is_plain bytes ≡ true → shown bytes ≡ 39 ∷ bytes ++ 39 ∷ []
shown_plain bytes e = rw e refl
