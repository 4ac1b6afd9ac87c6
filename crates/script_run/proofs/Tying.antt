-- What the lines of a run tie, from one stretch to the next.
--     tied_none, tied_one      before the first line; at one line, since it was done
--     tied_join      one stretch after another
use Rattle.std.proofs.Common.{◌≡◌, ◌⊎◌, inl, inr, refl, sym, subst, ap, ◌∙◌, ℕ, zero, suc, ◌+◌, ◌-◌, ◌<◌, ◌≤◌, List, [], ◌∷◌, ◌++◌, Option, Some, None, Contains, length, take, arith, append_assoc}
use Rattle.std.specs.Prelude.{slice_get}
use Rattle.std.specs.List.{concat}
use Rattle.std.proofs.lemmas.List.{length-append}
use Rattle.std.proofs.lemmas.Bool.{cases_lt}
use Rattle.mdb_model.specs.declared.script.Reply.{Reply}
use Rattle.mdb_model.specs.Images.{Image}
use Rattle.mdb_model.specs.Pages.{PageReading}
use Rattle.mdb_model.specs.Worlds.{World}
use Rattle.mdb_model.specs.Text.{text_of}
use Rattle.mdb_model.specs.Runs.{Line, TakenLine, last_worlds}
use Rattle.mdb_model.specs.Headline.{IsPrefix, texts_of}
use Rattle.mdb_host.specs.Disk.{Disk, Keeps}
use Rattle.open_database.specs.Outside.{Ties}
use Rattle.script_run.specs.Along.{At, IsLine, AtReplyOf, AreTied}
use Rattle.script_run.proofs.Texts.{IsPart, text_is_some, said_then, take_first}

-- the length of what is said, with a part of the next text, is not more than that of all
part_short : (texts : List (List ℕ)) (k : ℕ) (part : List ℕ) → IsPart texts k part → length (concat (take k texts)) + length part ≤ length (concat texts)
part_short [] zero part is = omega (arith, ap (λ (l : List ℕ). length l) is)
part_short [] (suc k) part is = omega (arith, ap (λ (l : List ℕ). length l) is)
part_short (x ∷ texts) zero part is = omega (arith, is.1, length-append x (concat texts))
part_short (x ∷ texts) (suc k) part is = omega (arith, part_short texts k part is, length-append x (concat texts), length-append x (concat (take k texts)))

-- the first texts are a front part of all
front : (texts : List (List ℕ)) (k : ℕ) → (rest : List ℕ) × (concat (take k texts) ++ rest ≡ concat texts)
front texts zero = (concat texts, refl)
front [] (suc k) = ([], refl)
front (x ∷ texts) (suc k) = let f = front texts k in (f.0, append_assoc x (concat (take k texts)) f.0 ∙ ap (λ (l : List ℕ). x ++ l) f.1)

-- a line that is there is within the run
line_there : (run : List TakenLine) (k : ℕ) (entry : TakenLine) → slice_get run k ≡ Some entry → k < length run
line_there [] zero entry is = absurd cc
line_there [] (suc k) entry is = absurd cc
line_there (x ∷ run) zero entry is = omega arith
line_there (x ∷ run) (suc k) entry is = omega (arith, line_there run k entry is)

abbrev the_one : TakenLine → Option TakenLine → TakenLine
the_one other (Some e) = e
the_one other None = other

some_taken : (b : List TakenLine) (j : ℕ) (entry : TakenLine) → slice_get b j ≡ Some entry → 0 < length (concat (take (j + 1) (texts_of b)))
some_taken [] j entry is = absurd (omega (arith, line_there [] j entry is))
some_taken (x ∷ b) j entry is =
    let one : suc j ≡ j + 1 = omega arith in
    subst (λ (n : ℕ). 0 < length (concat (take n (texts_of (x ∷ b))))) one
    (omega (arith, text_is_some x.answer, length-append (text_of x.answer) (concat (take j (texts_of b)))))

module _ (reading : PageReading) (stands : Image → World → Type 0) where
  -- a line of two runs, one after the other, is a line of one of them
  record InSecond (d : Disk) (ws : List World) (a b : List TakenLine) (k : ℕ) (line : Line) (reply : Reply) (w w' : World) : Type 0 where
    j : ℕ
    is : k ≡ length a + j
    line_is : IsLine reading stands d (last_worlds reading ws a) b j line reply w w'

  split : (d : Disk) (ws : List World) (a b : List TakenLine) (k : ℕ) (line : Line) (reply : Reply) (w w' : World) → IsLine reading stands d ws (a ++ b) k line reply w w'
      → ((k < length a) × IsLine reading stands d ws a k line reply w w') ⊎ InSecond d ws a b k line reply w w'
  split d ws [] b k line reply w w' is = inr (record { j = k; is = omega arith; line_is = is })
  split d ws (x ∷ a) b zero line reply w w' is = inl (omega arith, is)
  split d ws (x ∷ a) b (suc k) line reply w w' is = elim (split d x.worlds a b k line reply w w' is) [
    | inl first ↦ inl (omega (arith, first.0), first.1)
    | inr second ↦ inr (record { j = second.j; is = omega (arith, second.is); line_is = second.line_is })
  ]

  pub tied_none : (old new : Disk) (ws : List World) → AreTied reading stands old new ws []
  tied_none old new ws k line reply w w' is = absurd (omega (arith, line_there [] k is.1.0 is.1.1))

  -- one line, which was done at a moment with nothing of its reply said
  module _ (old new : Disk) (ws : List World) (entry : TakenLine) (done : ℕ) (silent : (t : ℕ) → old.now ≤ t → t < done → new.said t ≡ new.said old.now)
      (tied : (w w' : World) → Contains ws w → Contains entry.worlds w' → (t : ℕ) (image : Image) → done ≤ t → t ≤ new.now → new.may_leave t image → Ties entry.line entry.answer.reply w w' image) where
    pub tied_one : AreTied reading stands old new ws (entry ∷ [])
    tied_one zero line reply w w' is = λ t image from upto replied left. elim (cases_lt t done) [
      | inl lt ↦ absurd (early t from lt replied.0)
      | inr ge ↦
          subst (λ (e : Line × Reply). Ties e.0 e.1 w w' image) (λ i. (line_is i, reply_is i))
          (tied w w' is.0 (subst (λ (e : TakenLine). Contains e.worlds w') (sym entry_is) is.1.4) t image ge upto left)
    ]
      where
        entry_is : entry ≡ is.1.0
        entry_is = ap (the_one entry) is.1.1

        line_is : entry.line ≡ line
        line_is = ap (λ (e : TakenLine). e.line) entry_is ∙ is.1.2

        reply_is : entry.answer.reply ≡ reply
        reply_is = ap (λ (e : TakenLine). e.answer.reply) entry_is ∙ is.1.3

        early : (t : ℕ) → old.now ≤ t → t < done → IsPrefix (new.said old.now ++ concat (take (0 + 1) (texts_of (entry ∷ [])))) (new.said t) → ⊥
        early t from lt prefix =
            let n : 0 + 1 ≡ suc 0 = omega arith in
            let whole = subst (λ (m : ℕ). IsPrefix (new.said old.now ++ concat (take m (texts_of (entry ∷ [])))) (new.said t)) n prefix in
            absurd (omega (
              arith,
              ap (λ (l : List ℕ). length l) (whole.1 ∙ silent t from lt),
              length-append (new.said old.now ++ (text_of entry.answer ++ [])) whole.0,
              length-append (new.said old.now) (text_of entry.answer ++ []),
              length-append (text_of entry.answer) [],
              text_is_some entry.answer,
            ))
    tied_one (suc k) line reply w w' is = absurd (omega (arith, line_there [] k is.1.0 is.1.1))

  -- one stretch after another
  module _ (d0 d1 d2 : Disk) (ws : List World) (a b : List TakenLine) (keeps01 : Keeps d0 d1) (keeps12 : Keeps d1 d2) (whole : d1.said d1.now ≡ d0.said d0.now ++ concat (texts_of a))
      (first : (t : ℕ) → d0.now ≤ t → t ≤ d1.now → At reading stands d0.now d1 t ws a)
      (second : (t : ℕ) → d1.now ≤ t → t ≤ d2.now → At reading stands d1.now d2 t (last_worlds reading ws a) b)
      (one : AreTied reading stands d0 d1 ws a) (two : AreTied reading stands d1 d2 (last_worlds reading ws a) b) where
    begun : d2.said d0.now ≡ d0.said d0.now
    begun = keeps12.said d0.now keeps01.later ∙ keeps01.said d0.now (omega arith)

    mid : d2.said d1.now ≡ d2.said d0.now ++ concat (texts_of a)
    mid = keeps12.said d1.now (omega arith) ∙ whole ∙ (λ i. sym begun i ++ concat (texts_of a))

    -- before the second stretch no more is said than the first texts
    short : (t : ℕ) → d0.now ≤ t → t ≤ d1.now → length (d2.said t) ≤ length (d2.said d0.now) + length (concat (texts_of a))
    short t from upto =
        let at = first t from upto in
        let said = keeps12.said t upto ∙ at.said.1 in
        omega (
          arith,
          ap (λ (l : List ℕ). length l) said,
          length-append (d1.said d0.now ++ concat (take at.count (texts_of a))) at.said.0,
          length-append (d1.said d0.now) (concat (take at.count (texts_of a))),
          part_short (texts_of a) at.count at.said.0 at.said.2,
          ap (λ (l : List ℕ). length l) (keeps12.said d0.now keeps01.later),
        )

    -- and in it all of them are said
    long : (t : ℕ) → d1.now ≤ t → t ≤ d2.now → IsPrefix (d2.said d0.now ++ concat (texts_of a)) (d2.said t)
    long t from upto =
        let at = second t from upto in
        let text = concat (take at.count (texts_of b)) in
        (text ++ at.said.0, sym (append_assoc (d2.said d0.now ++ concat (texts_of a)) text at.said.0) ∙ (λ i. (sym mid i ++ text) ++ at.said.0) ∙ sym at.said.1)

    -- A reply of the first stretch

    module _ (k : ℕ) (inside : k < length a) (P : Image → Type 0) (tied : AtReplyOf reading stands d0 d1 a (k + 1) P) where
      abbrev Replied : ℕ → Type 0
      Replied t = IsPrefix (d2.said d0.now ++ concat (take (k + 1) (texts_of (a ++ b)))) (d2.said t)

      same_texts : concat (take (k + 1) (texts_of (a ++ b))) ≡ concat (take (k + 1) (texts_of a))
      same_texts = ap concat (take_first a b (k + 1) (omega (arith, inside)))

      -- once it is said it stays so
      stays : (t : ℕ) → d1.now ≤ t → t ≤ d2.now → Replied t
      stays t from upto =
          let f = front (texts_of a) (k + 1) in
          let l = long t from upto in (
            f.0 ++ l.0,
            (λ i. (d2.said d0.now ++ same_texts i) ++ (f.0 ++ l.0))
                ∙ sym (append_assoc (d2.said d0.now ++ concat (take (k + 1) (texts_of a))) f.0 l.0)
                ∙ (λ i. append_assoc (d2.said d0.now) (concat (take (k + 1) (texts_of a))) f.0 i ++ l.0)
                ∙ (λ i. (d2.said d0.now ++ f.1 i) ++ l.0)
                ∙ l.1,
          )

      back : (t : ℕ) → t ≤ d1.now → Replied t → IsPrefix (d1.said d0.now ++ concat (take (k + 1) (texts_of a))) (d1.said t)
      back t upto r = (r.0, (λ i. (sym (keeps12.said d0.now keeps01.later) i ++ sym same_texts i) ++ r.0) ∙ r.1 ∙ keeps12.said t upto)

      forth : (t : ℕ) → t ≤ d1.now → IsPrefix (d1.said d0.now ++ concat (take (k + 1) (texts_of a))) (d1.said t) → Replied t
      forth t upto r = (r.0, (λ i. (keeps12.said d0.now keeps01.later i ++ same_texts i) ++ r.0) ∙ r.1 ∙ sym (keeps12.said t upto))

      pub tied_first : AtReplyOf reading stands d0 d2 (a ++ b) (k + 1) P
      tied_first t image from upto replied left = elim (cases_lt d1.now t) [
        | inl lt ↦ absurd (late lt replied.1)
        | inr ge ↦ tied t image from ge (back t ge replied.0, earlier ge replied.1) (keeps12.no_more t image ge left)
      ]
        where
          late : d1.now < t → (t ≡ d0.now) ⊎ (Replied (t - 1) → ⊥) → ⊥
          late lt (inl same) = absurd (omega (arith, lt, same, keeps01.later))
          late lt (inr not_yet) = not_yet (stays (t - 1) (omega (arith, lt)) (omega (arith, lt, upto)))

          earlier : t ≤ d1.now → (t ≡ d0.now) ⊎ (Replied (t - 1) → ⊥) → (t ≡ d0.now) ⊎ (IsPrefix (d1.said d0.now ++ concat (take (k + 1) (texts_of a))) (d1.said (t - 1)) → ⊥)
          earlier le (inl same) = inl same
          earlier le (inr not_yet) = inr (λ r. not_yet (forth (t - 1) (omega (arith, le)) r))

    -- A reply of the second one

    module _ (n j : ℕ) (is : n ≡ length a + j) (entry : TakenLine) (there : slice_get b j ≡ Some entry) (P : Image → Type 0) (tied : AtReplyOf reading stands d1 d2 b (j + 1) P) where
      abbrev Said : ℕ → Type 0
      Said t = IsPrefix (d2.said d0.now ++ concat (take (n + 1) (texts_of (a ++ b)))) (d2.said t)

      both_texts : d2.said d0.now ++ concat (take (n + 1) (texts_of (a ++ b))) ≡ d2.said d1.now ++ concat (take (j + 1) (texts_of b))
      both_texts =
          ap (λ (l : List ℕ). d2.said d0.now ++ l) (said_then a b (n + 1) (j + 1) (omega (arith, is)))
          ∙ sym (append_assoc (d2.said d0.now) (concat (texts_of a)) (concat (take (j + 1) (texts_of b))))
          ∙ (λ i. sym mid i ++ concat (take (j + 1) (texts_of b)))

      -- it is not said before that
      too_long : (t : ℕ) → d0.now ≤ t → t < d1.now → Said t → ⊥
      too_long t from lt r = absurd (omega (
        arith,
        short t from (omega (arith, lt)),
        ap (λ (l : List ℕ). length l) r.1,
        length-append (d2.said d0.now ++ concat (take (n + 1) (texts_of (a ++ b)))) r.0,
        ap (λ (l : List ℕ). length l) both_texts,
        length-append (d2.said d1.now) (concat (take (j + 1) (texts_of b))),
        some_taken b j entry there,
        ap (λ (l : List ℕ). length l) mid,
        length-append (d2.said d0.now) (concat (texts_of a)),
      ))

      pub tied_second : AtReplyOf reading stands d0 d2 (a ++ b) (n + 1) P
      tied_second t image from upto replied left = elim (cases_lt t d1.now) [
        | inl lt ↦ absurd (too_long t from lt replied.0)
        | inr ge ↦ tied t image ge upto (subst (λ (l : List ℕ). IsPrefix l (d2.said t)) both_texts replied.0, earlier ge replied.1) left
      ]
        where
          earlier : d1.now ≤ t → (t ≡ d0.now) ⊎ (Said (t - 1) → ⊥) → (t ≡ d1.now) ⊎ (IsPrefix (d2.said d1.now ++ concat (take (j + 1) (texts_of b))) (d2.said (t - 1)) → ⊥)
          earlier ge (inl same) = inl (omega (arith, ge, same, keeps01.later))
          earlier ge (inr not_yet) = inr (λ r. not_yet (subst (λ (l : List ℕ). IsPrefix l (d2.said (t - 1))) (sym both_texts) r))

    pub tied_join : AreTied reading stands d0 d2 ws (a ++ b)
    tied_join k line reply w w' is = elim (split d2 ws a b k line reply w w' is) [
      | inl in_first ↦ tied_first k in_first.0 (Ties line reply w w') (one k line reply w w' in_first.1)
      | inr in_second ↦ tied_second k in_second.j in_second.is in_second.line_is.1.0 in_second.line_is.1.1 (Ties line reply w w') (two in_second.j line reply w w' in_second.line_is)
    ]
