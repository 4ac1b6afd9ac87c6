-- A line that was done, and its reply.
use Rattle.std.proofs.Common.{◌≡◌, inl, inr, refl, sym, ap, ◌∙◌, ℕ, ◌<◌, ◌≤◌, List, [], ◌∷◌, ◌++◌, Contains, length, take, drop, arith}
use Rattle.std.proofs.lemmas.Bool.{cases_lt}
use Rattle.std.proofs.lemmas.List.{append-nil, length-take-le, take-append-drop, take_all}
use Rattle.mdb_model.specs.declared.script.Reply.{Reply}
use Rattle.mdb_model.specs.Images.{Image}
use Rattle.mdb_host.specs.Disk.{Disk, Keeps}
use Rattle.mdb_host.proofs.Moments.{keeps_on}
use Rattle.mdb_model.specs.Pages.{PageReading}
use Rattle.mdb_model.specs.Worlds.{World, off}
use Rattle.mdb_model.specs.Answers.{Answer}
use Rattle.mdb_model.specs.Text.{text_of}
use Rattle.mdb_model.specs.Runs.{Line, TakenLine}
use Rattle.open_database.specs.Outside.{Ties}
use Rattle.open_database.specs.Stretch.{Does, MayBe}
use Rattle.script_run.specs.Speaking.{SaysWhile}
use Rattle.script_run.specs.Along.{At, Passes, Taken, TakenWhole}
use Rattle.script_run.proofs.Caused.{LineCauses, line_causes}
use Rattle.script_run.proofs.Texts.{text_is_some}
use Rattle.script_run.proofs.Tying.{tied_one}

module _ (reading : PageReading) (stands : Image → World → Type 0) where
  -- an image that is left once a line was done, and while its answer is said
  pub record IsAfter (ws : List World) (line : Line) (reply : Reply) (after : List World) (image : Image) : Type 0 where
    pub stop : (v : World) × stands image v × MayBe reading stands ws line v
    pub stand : (w : World) × Contains after w × stands image (off w)
    pub ties : (w w' : World) → Contains ws w → Contains after w' → Ties line reply w w' image

  -- where only texts are said, each image could have been left as the line was done
  pub is_after : (d0 d1 : Disk) (ws : List World) (line : Line) (answer : Answer) (after : List World) → Does reading stands d0 d1 ws line answer after
      → (image : Image) → d1.may_leave d1.now image → IsAfter ws line answer.reply after image
  is_after d0 d1 ws line answer after does image left = record {
    stop = does.stop d1.now image does.keeps.later (omega arith) left;
    stand = does.stand image left;
    ties = λ w w' before there. does.ties w w' before there image left;
  }

  module _ (d0 d1 d2 : Disk) (ws : List World) (line : Line) (answer : Answer) (after : List World) (does : Does reading stands d0 d1 ws line answer after)
      (says : SaysWhile d1 d2 (text_of answer) (IsAfter ws line answer.reply after)) where
    abbrev entry : TakenLine
    entry = record { line = line; answer = answer; worlds = after }

    keeps : Keeps d0 d2
    keeps = keeps_on d0 d1 d2 does.keeps says.keeps

    begun : d2.said d0.now ≡ d0.said d0.now
    begun = keeps.said d0.now (omega arith)

    before : d1.said d1.now ≡ d2.said d0.now
    before = does.quiet d1.now does.keeps.later (omega arith) ∙ sym begun

    silent : (t : ℕ) → d0.now ≤ t → t < d1.now → d2.said t ≡ d2.said d0.now
    silent t from lt = says.keeps.said t (omega (arith, lt)) ∙ does.quiet t from (omega (arith, lt)) ∙ sym begun

    -- while nothing of it is said
    early : (t : ℕ) → d0.now ≤ t → t ≤ d1.now → At reading stands d0.now d2 t ws (entry ∷ [])
    early t from le = record {
      count = 0;
      within = omega arith;
      said = (
        [],
        says.keeps.said t le ∙ does.quiet t from le ∙ sym begun ∙ sym (append-nil (d2.said d0.now)) ∙ sym (append-nil (d2.said d0.now ++ [])),
        ((text_of answer, refl), text_is_some answer),
      );
      stand = λ image left. does.stop t image from le (says.keeps.no_more t image le left);
    }

    -- once a part of it is said
    module _ (t : ℕ) (from_said : d1.now ≤ t) (upto : t ≤ d2.now) (n : ℕ) (within : n ≤ length (text_of answer)) (is : d2.said t ≡ d1.said d1.now ++ take n (text_of answer)) where
      some : n < length (text_of answer) → At reading stands d0.now d2 t ws (entry ∷ [])
      some lt = record {
        count = 0;
        within = omega arith;
        said = (
          take n (text_of answer),
          is ∙ (λ i. before i ++ take n (text_of answer)) ∙ (λ i. append-nil-back i ++ take n (text_of answer)),
          ((drop n (text_of answer), take-append-drop n (text_of answer)), omega (arith, length-take-le n (text_of answer) within, lt)),
        );
        stand = λ image left. let a = says.each t image from_said upto left in a.stop;
      }
        where
          append-nil-back : d2.said d0.now ≡ d2.said d0.now ++ []
          append-nil-back = sym (append-nil (d2.said d0.now))

      all : length (text_of answer) ≤ n → At reading stands d0.now d2 t ws (entry ∷ [])
      all ge = record {
        count = 1;
        within = omega arith;
        said = ([], is ∙ (λ i. before i ++ take n (text_of answer)) ∙ ap (λ (l : List ℕ). d2.said d0.now ++ l) whole ∙ sym (append-nil (d2.said d0.now ++ (text_of answer ++ []))), refl);
        stand = λ image left.
            let a = says.each t image from_said upto left in
            (off a.stand.0, a.stand.2, (a.stand.0, a.stand.1, inl refl));
      }
        where
          whole : take n (text_of answer) ≡ text_of answer ++ []
          whole = take_all n (text_of answer) ge ∙ sym (append-nil (text_of answer))

      late : At reading stands d0.now d2 t ws (entry ∷ [])
      late = elim (cases_lt n (length (text_of answer))) [
        | inl lt ↦ some lt
        | inr ge ↦ all ge
      ]

    passes : Passes reading stands d0 d2 ws (entry ∷ [])
    passes = record {
      keeps = keeps;
      follows = (does.entry, tt);
      moments = λ t from upto_end. elim (cases_lt t d1.now) [
        | inl lt ↦ early t from (omega (arith, lt))
        | inr ge ↦ let p = says.part t ge upto_end in late t ge upto_end p.0 p.1 p.2
      ];
      ties = tied_one reading stands d0 d2 ws entry d1.now silent (λ w w' old there t image from upto left. let a = says.each t image from upto left in a.ties w w' old there);
    }

    -- what is said in the end
    end : (n : ℕ) × (n ≤ length (text_of answer)) × (d2.said d2.now ≡ d1.said d1.now ++ take n (text_of answer))
    end = says.part d2.now says.keeps.later (omega arith)

    pub taken : (before mid now : ℕ) → LineCauses d0 d1 before mid ws line answer.reply → mid ≤ now → Taken reading stands d0 d2 before now ws line
    taken before mid now causes counted = record {
      entry = entry;
      is = refl;
      causes = line_causes reading stands d0 d1 d2 before mid now ws line answer after does says.keeps causes counted;
      passes = passes;
      part = take end.0 (text_of answer);
      said = end.2 ∙ (λ i. does.quiet d1.now does.keeps.later (omega arith) i ++ take end.0 (text_of answer));
      prefix = (drop end.0 (text_of answer), take-append-drop end.0 (text_of answer));
    }

    pub taken_whole : (before mid now : ℕ) → LineCauses d0 d1 before mid ws line answer.reply → mid ≤ now → (fits : List World → Type 0) → fits after
        → d2.said d2.now ≡ d1.said d1.now ++ text_of answer → TakenWhole reading stands d0 d2 before now ws line fits
    taken_whole before mid now causes counted fits fit whole = record {
      entry = entry;
      is = refl;
      causes = line_causes reading stands d0 d1 d2 before mid now ws line answer after does says.keeps causes counted;
      passes = passes;
      said = whole ∙ (λ i. does.quiet d1.now does.keeps.later (omega arith) i ++ text_of answer);
      fit = fit;
      stand = λ image left. let a = says.each d2.now image says.keeps.later (omega arith) left in a.stand;
    }
