-- The texts of a run, and of two runs one after the other.
--     IsPart      a part of the next text
--     said_all, said_then, take_first      the texts of both, and the first of them
--     part_first, part_then      a part of the next text of both
--     text_is_some      no text is empty
use Rattle.std.proofs.Common.{◌≡◌, refl, sym, subst, ap, ◌∙◌, ℕ, zero, suc, ◌+◌, ◌<◌, ◌≤◌, List, [], ◌∷◌, ◌++◌, MatchOption, length, take, arith, append_assoc}
use Rattle.std.specs.Prelude.{slice_get}
use Rattle.std.specs.List.{concat, flat_map, join_with_byte}
use Rattle.mdb_model.specs.Answers.{Answer}
use Rattle.mdb_model.specs.Text.{text_of, line_of, item_words, reply_words}
use Rattle.mdb_model.specs.Runs.{Line, TakenLine}
use Rattle.mdb_model.specs.Headline.{IsPrefix, texts_of, lines_of}

-- what follows the whole texts is a part of the next one, and not all of it
abbrev pub IsPart : List (List ℕ) → ℕ → List ℕ → Type 0
IsPart texts k part = MatchOption (slice_get texts k) (part ≡ []) (λ text. IsPrefix part text × (length part < length text))

concat-append : (a b : List (List ℕ)) → concat (a ++ b) ≡ concat a ++ concat b
concat-append [] b = refl
concat-append (x ∷ a) b = ap (λ (l : List ℕ). x ++ l) (concat-append a b) ∙ sym (append_assoc x (concat a) (concat b))

texts-append : (a b : List TakenLine) → texts_of (a ++ b) ≡ texts_of a ++ texts_of b
texts-append [] b = refl
texts-append (x ∷ a) b = ap (λ (l : List (List ℕ)). text_of x.answer ∷ l) (texts-append a b)

pub lines-append : (a b : List TakenLine) → lines_of (a ++ b) ≡ lines_of a ++ lines_of b
lines-append [] b = refl
lines-append (x ∷ a) b = ap (λ (l : List Line). x.line ∷ l) (lines-append a b)

pub said_all : (a b : List TakenLine) → concat (texts_of (a ++ b)) ≡ concat (texts_of a) ++ concat (texts_of b)
said_all a b = ap concat (texts-append a b) ∙ concat-append (texts_of a) (texts_of b)

-- each text ends by an end of line
some_text : (a : List ℕ) → 0 < length (a ++ 10 ∷ [])
some_text [] = omega arith
some_text (x ∷ a) = omega arith

more_text : (a b : List ℕ) → 0 < length b → 0 < length (a ++ b)
more_text [] b some = some
more_text (x ∷ a) b some = omega arith

pub text_is_some : (answer : Answer) → 0 < length (text_of answer)
text_is_some answer =
    let words = reply_words (length answer.items) answer.reply in
    more_text (flat_map (λ item. line_of (item_words item)) answer.items) (line_of words) (some_text (join_with_byte 32 words))

-- up to the end of the first run

pub part_first : (a b : List TakenLine) (k : ℕ) (part : List ℕ) → k ≤ length a → IsPart (texts_of a) k part → IsPart (texts_of (a ++ b)) k part
part_first [] [] zero part within is = is
part_first [] (y ∷ b) zero part within is =
    subst (λ (p : List ℕ). IsPrefix p (text_of y.answer) × (length p < length (text_of y.answer))) (sym is) ((text_of y.answer, refl), text_is_some y.answer)
part_first [] b (suc k) part within is = absurd (omega arith)
part_first (x ∷ a) b zero part within is = is
part_first (x ∷ a) b (suc k) part within is = part_first a b k part (omega arith) is

pub take_first : (a b : List TakenLine) (k : ℕ) → k ≤ length a → take k (texts_of (a ++ b)) ≡ take k (texts_of a)
take_first a b zero within = refl
take_first [] b (suc k) within = absurd (omega arith)
take_first (x ∷ a) b (suc k) within = ap (λ (l : List (List ℕ)). text_of x.answer ∷ l) (take_first a b k (omega arith))

-- and past it

pub part_then : (a b : List TakenLine) (n k : ℕ) (part : List ℕ) → n ≡ length a + k → IsPart (texts_of b) k part → IsPart (texts_of (a ++ b)) n part
part_then [] b n k part at is = let e : k ≡ n = omega arith in subst (λ (m : ℕ). IsPart (texts_of b) m part) e is
part_then (x ∷ a) b zero k part at is = absurd (omega arith)
part_then (x ∷ a) b (suc n) k part at is = part_then a b n k part (omega arith) is

pub said_then : (a b : List TakenLine) (n k : ℕ) → n ≡ length a + k → concat (take n (texts_of (a ++ b))) ≡ concat (texts_of a) ++ concat (take k (texts_of b))
said_then [] b n k at = let e : n ≡ k = omega arith in ap (λ (m : ℕ). concat (take m (texts_of b))) e
said_then (x ∷ a) b zero k at = absurd (omega arith)
said_then (x ∷ a) b (suc n) k at =
    ap (λ (l : List ℕ). text_of x.answer ++ l) (said_then a b n k (omega arith)) ∙ sym (append_assoc (text_of x.answer) (concat (texts_of a)) (concat (take k (texts_of b))))
