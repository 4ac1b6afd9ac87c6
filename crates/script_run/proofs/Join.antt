-- One stretch of a run after another.
use Rattle.std.proofs.Common.{◌≡◌, ◌⊎◌, inl, inr, refl, sym, subst, ap, ◌∙◌, ℕ, zero, suc, ◌+◌, ◌<◌, ◌≤◌, List, [], ◌∷◌, ◌++◌, Option, MatchOption, Contains, length, take, arith, append_assoc}
use Rattle.std.specs.Prelude.{slice_get}
use Rattle.std.specs.List.{concat}
use Rattle.std.proofs.lemmas.List.{append-nil, length-append}
use Rattle.std.proofs.lemmas.Bool.{cases_lt}
use Rattle.mdb_model.specs.Images.{Image}
use Rattle.mdb_host.specs.Disk.{Disk, Keeps}
use Rattle.mdb_host.proofs.Moments.{keeps_on}
use Rattle.mdb_model.specs.Pages.{PageReading}
use Rattle.mdb_model.specs.Worlds.{World, off}
use Rattle.mdb_model.specs.Runs.{Line, TakenLine, Run, AreOutcomes, worlds_after, last_worlds}
use Rattle.mdb_model.specs.Headline.{texts_of, lines_of}
use Rattle.script_run.specs.Along.{At, Passes}
use Rattle.script_run.proofs.Texts.{part_first, part_then, take_first, said_then}
use Rattle.script_run.proofs.Tying.{tied_none, tied_join}

module _ (reading : PageReading) where
  pub last-append : (ws : List World) (a b : List TakenLine) → last_worlds reading ws (a ++ b) ≡ last_worlds reading (last_worlds reading ws a) b
  last-append ws [] b = refl
  last-append ws (x ∷ a) b = last-append x.worlds a b

  pub run-append : (ws : List World) (a b : List TakenLine) → Run reading ws a → Run reading (last_worlds reading ws a) b → Run reading ws (a ++ b)
  run-append ws [] b one two = two
  run-append ws (x ∷ a) b one two = (one.0, run-append x.worlds a b one.1 two)

  -- what may be at a line: the worlds before it, and the line
  abbrev pub Possible : List World → Option Line → World → Type 0
  Possible ws line v = (w : World) × Contains ws w × ((v ≡ off w) ⊎ MatchOption line ⊥ (λ line. (outcome : List World) × AreOutcomes reading w line outcome × Contains outcome v))

  possible_first : (ws : List World) (a b : List TakenLine) (k : ℕ) (v : World) → k ≤ length a
      → Possible (worlds_after reading ws a k) (slice_get (lines_of a) k) v → Possible (worlds_after reading ws (a ++ b) k) (slice_get (lines_of (a ++ b)) k) v
  possible_first ws [] b zero v within (w, there, inl is) = (w, there, inl is)
  possible_first ws [] b zero v within (w, there, inr in_line) = absurd in_line
  possible_first ws [] b (suc k) v within is = absurd (omega arith)
  possible_first ws (x ∷ a) b zero v within is = is
  possible_first ws (x ∷ a) b (suc k) v within is = possible_first x.worlds a b k v (omega arith) is

  possible_then : (ws : List World) (a b : List TakenLine) (n k : ℕ) (v : World) → n ≡ length a + k
      → Possible (worlds_after reading (last_worlds reading ws a) b k) (slice_get (lines_of b) k) v
      → Possible (worlds_after reading ws (a ++ b) n) (slice_get (lines_of (a ++ b)) n) v
  possible_then ws [] b n k v at is = let e : k ≡ n = omega arith in subst (λ (m : ℕ). Possible (worlds_after reading ws b m) (slice_get (lines_of b) m) v) e is
  possible_then ws (x ∷ a) b zero k v at is = absurd (omega arith)
  possible_then ws (x ∷ a) b (suc n) k v at is = possible_then x.worlds a b n k v (omega arith) is

module _ (reading : PageReading) (stands : Image → World → Type 0) where
  -- the two stretches as one
  module _ (d0 d1 d2 : Disk) (ws : List World) (a b : List TakenLine) (one : Passes reading stands d0 d1 ws a) (whole : d1.said d1.now ≡ d0.said d0.now ++ concat (texts_of a))
      (two : Passes reading stands d1 d2 (last_worlds reading ws a) b) where
    keeps : Keeps d0 d2
    keeps = keeps_on d0 d1 d2 one.keeps two.keeps

    first : (t : ℕ) → d0.now ≤ t → t < d1.now → At reading stands d0.now d2 t ws (a ++ b)
    first t from lt =
        let at = one.moments t from (omega arith) in
        let le : t ≤ d1.now = omega arith in
        let here : d2.said t ≡ d1.said t = two.keeps.said t le in
        let begun : d2.said d0.now ≡ d1.said d0.now = two.keeps.said d0.now one.keeps.later in
        let texts : concat (take at.count (texts_of (a ++ b))) ≡ concat (take at.count (texts_of a)) = ap concat (take_first a b at.count at.within) in
        let part = at.said.0 in
        record {
          count = at.count;
          within = omega (arith, length-append a b, at.within);
          said = (part, here ∙ at.said.1 ∙ (λ i. sym begun i ++ sym texts i ++ part), part_first a b at.count part at.within at.said.2);
          stand = λ image left.
              let v = at.stand image (two.keeps.no_more t image le left) in
              (v.0, v.1, possible_first reading ws a b at.count v.0 at.within v.2);
        }

    second : (t : ℕ) → d1.now ≤ t → t ≤ d2.now → At reading stands d0.now d2 t ws (a ++ b)
    second t from upto_end =
        let at = two.moments t from upto_end in
        let part = at.said.0 in
        let begun : d2.said d0.now ≡ d0.said d0.now = keeps.said d0.now (omega arith) in
        let mid : d2.said d1.now ≡ d2.said d0.now ++ concat (texts_of a) = two.keeps.said d1.now (omega arith) ∙ whole ∙ (λ i. sym begun i ++ concat (texts_of a)) in
        let texts : concat (texts_of a) ++ concat (take at.count (texts_of b)) ≡ concat (take (length a + at.count) (texts_of (a ++ b))) = sym (said_then a b (length a + at.count) at.count refl) in
        record {
          count = length a + at.count;
          within = omega (arith, length-append a b, at.within);
          said = (
            part,
            at.said.1 ∙ (λ i. mid i ++ concat (take at.count (texts_of b)) ++ part)
                ∙ ap (λ (l : List ℕ). l ++ part) (append_assoc (d2.said d0.now) (concat (texts_of a)) (concat (take at.count (texts_of b))))
                ∙ (λ i. d2.said d0.now ++ texts i ++ part),
            part_then a b (length a + at.count) at.count part refl at.said.2,
          );
          stand = λ image left.
              let v = at.stand image left in
              (v.0, v.1, possible_then reading ws a b (length a + at.count) at.count v.0 refl v.2);
        }

    pub join : Passes reading stands d0 d2 ws (a ++ b)
    join = record {
      keeps = keeps;
      follows = run-append reading ws a b one.follows two.follows;
      ties = tied_join reading stands d0 d1 d2 ws a b one.keeps two.keeps whole one.moments two.moments one.ties two.ties;
      moments = λ t from upto_end. elim (cases_lt t d1.now) [
        | inl lt ↦ first t from lt
        | inr ge ↦ second t ge upto_end
      ];
    }

    pub join_said : (text : List ℕ) → d2.said d2.now ≡ d1.said d1.now ++ text → d2.said d2.now ≡ d0.said d0.now ++ (concat (texts_of a) ++ text)
    join_said text is = is ∙ ap (λ (l : List ℕ). l ++ text) whole ∙ append_assoc (d0.said d0.now) (concat (texts_of a)) text

  -- before the first line
  pub begins : (disk : Disk) (ws : List World) → ((image : Image) → disk.may_leave disk.now image → (w : World) × Contains ws w × stands image (off w))
      → Keeps disk disk → Passes reading stands disk disk ws []
  begins disk ws stand kept = record {
    keeps = kept;
    follows = tt;
    ties = tied_none reading stands disk disk ws;
    moments = λ t from upto_now.
        let at : t ≡ disk.now = omega arith in
        record {
          count = 0;
          within = omega arith;
          said = ([], said t at, refl);
          stand = λ image left.
              let w = stand image (subst (λ (n : ℕ). disk.may_leave n image) at left) in
              (off w.0, w.2, (w.0, w.1, inl refl));
        };
  }
    where
      said : (t : ℕ) → t ≡ disk.now → disk.said t ≡ disk.said disk.now ++ [] ++ []
      said t at = ap disk.said at ∙ sym (append-nil (disk.said disk.now)) ∙ sym (append-nil (disk.said disk.now ++ []))
