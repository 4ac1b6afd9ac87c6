-- A text that is said in several calls: in none, in one, in some and then more, and not to its end.
--     speaks_one, still_of      one call; the devices stay as they are
--     says_of, says_read, says_on, says_part, says_as      what is so of each image meanwhile
use Rattle.std.proofs.Common.{◌≡◌, inl, inr, refl, sym, subst, ap, ◌∙◌, ℕ, zero, suc, ◌+◌, ◌≤◌, List, [], ◌++◌, length, take, append_assoc, length-append, arith}
use Rattle.std.proofs.lemmas.Bool.{cases_lt}
use Rattle.std.proofs.lemmas.List.{append-nil, take-append-le}
use Rattle.std.proofs.Math.Seq.{take-append-add}
use Rattle.mdb_model.specs.Images.{Image}
use Rattle.mdb_host.specs.Disk.{Disk, Keeps, Says}
use Rattle.mdb_host.proofs.Moments.{keeps_all, keeps_on, same_image}
use Rattle.open_database.specs.Stretch.{IsStill}
use Rattle.script_run.specs.Speaking.{Speaks, SaysWhile}

same_moment : (a b : ℕ) → a ≤ b → b ≤ a → a ≡ b
same_moment a b le ge = omega arith

-- one call
pub speaks_one : (old new : Disk) (text : List ℕ) → Says old new text → Speaks old new text
speaks_one old new text says = record {
  keeps = says.keeps;
  part = λ t from upto. elim (cases_lt t new.now) [
    | inl lt ↦ (0, omega arith, says.keeps.said t (omega (arith, lt, says.no_more_than_one)) ∙ ap old.said (same_moment t old.now (omega (arith, lt, says.no_more_than_one)) from) ∙ sym (append-nil (old.said old.now)))
    | inr ge ↦ (says.said.0, says.said.1, ap new.said (same_moment t new.now upto ge) ∙ says.said.2)
  ];
  left = λ t image from upto left. elim (cases_lt t new.now) [
    | inl lt ↦
        let le : t ≤ old.now = omega (arith, lt, says.no_more_than_one) in
        subst (λ (m : ℕ). old.may_leave m image) (same_moment t old.now le from) (says.keeps.no_more t image le left)
    | inr ge ↦
        let a = says.left image (subst (λ (m : ℕ). new.may_leave m image) (same_moment t new.now upto ge) left) in
        subst (λ (i : Image). old.may_leave old.now i) (same_image a.0 image a.2) a.1
  ];
  seen = says.seen;
}

-- the devices stay as they are
pub still_of : (old new : Disk) (text : List ℕ) → Speaks old new text → IsStill old new
still_of old new text speaks = record {
  keeps = speaks.keeps;
  seen = speaks.seen;
  left = λ image left. speaks.left new.now image speaks.keeps.later (omega arith) left;
}

-- What is so of each image meanwhile

module _ (P : Image → Type 0) where
  pub says_of : (old new : Disk) (text : List ℕ) → Speaks old new text → ((image : Image) → old.may_leave old.now image → P image) → SaysWhile old new text P
  says_of old new text speaks each = record {
    keeps = speaks.keeps;
    part = speaks.part;
    each = λ t image from upto left. each image (speaks.left t image from upto left);
  }

  -- nothing is said
  pub says_none : (disk : Disk) → ((image : Image) → disk.may_leave disk.now image → P image) → SaysWhile disk disk [] P
  says_none disk each = record {
    keeps = keeps_all disk;
    part = λ t from upto. (0, omega arith, ap disk.said (same_moment t disk.now upto from) ∙ sym (append-nil (disk.said disk.now)));
    each = λ t image from upto left. each image (subst (λ (m : ℕ). disk.may_leave m image) (same_moment t disk.now upto from) left);
  }

  -- nothing is said, while a row is read
  pub says_read : (old new : Disk) → Keeps old new → ((t : ℕ) → old.now ≤ t → t ≤ new.now → new.said t ≡ old.said old.now)
      → ((t : ℕ) (image : Image) → old.now ≤ t → t ≤ new.now → new.may_leave t image → P image) → SaysWhile old new [] P
  says_read old new keeps quiet each = record {
    keeps = keeps;
    part = λ t from upto. (0, omega arith, quiet t from upto ∙ sym (append-nil (old.said old.now)));
    each = each;
  }

  -- not to its end
  pub says_part : (old new : Disk) (text more : List ℕ) → SaysWhile old new text P → SaysWhile old new (text ++ more) P
  says_part old new text more says = record {
    keeps = says.keeps;
    part = λ t from upto.
        let p = says.part t from upto in
        (p.0, omega (arith, p.1, length-append text more), p.2 ∙ ap (λ (l : List ℕ). old.said old.now ++ l) (sym (front p.0 p.1)));
    each = says.each;
  }
    where
      front : (n : ℕ) → n ≤ length text → take n (text ++ more) ≡ take n text
      front n within = take-append-le n text more within

  -- and then more
  pub says_on : (old mid new : Disk) (text more : List ℕ) → SaysWhile old mid text P → mid.said mid.now ≡ old.said old.now ++ text → SaysWhile mid new more P → SaysWhile old new (text ++ more) P
  says_on old mid new text more first whole second = record {
    keeps = keeps_on old mid new first.keeps second.keeps;
    part = λ t from upto. elim (cases_lt t mid.now) [
      | inl lt ↦
          let le : t ≤ mid.now = omega (arith, lt) in
          let p = first.part t from le in
          (p.0, omega (arith, p.1, length-append text more), second.keeps.said t le ∙ p.2 ∙ ap (λ (l : List ℕ). old.said old.now ++ l) (sym (take-append-le p.0 text more p.1)))
      | inr ge ↦
          let p = second.part t ge upto in (
            length text + p.0,
            omega (arith, p.1, length-append text more),
            p.2 ∙ (λ i. whole i ++ take p.0 more) ∙ append_assoc (old.said old.now) text (take p.0 more) ∙ ap (λ (l : List ℕ). old.said old.now ++ l) (sym (take_past text more p.0)),
          )
    ];
    each = λ t image from upto left. elim (cases_lt t mid.now) [
      | inl lt ↦ let le : t ≤ mid.now = omega (arith, lt) in first.each t image from le (second.keeps.no_more t image le left)
      | inr ge ↦ second.each t image ge upto left
    ];
  }
    where
      take_past : (xs ys : List ℕ) (n : ℕ) → take (length xs + n) (xs ++ ys) ≡ xs ++ take n ys
      take_past xs ys n = take-append-add xs ys n

  -- more is so of each of them
  pub says_as : (Q : Image → Type 0) → ((image : Image) → P image → Q image) → (old new : Disk) (text : List ℕ) → SaysWhile old new text P → SaysWhile old new text Q
  says_as Q more old new text says = record {
    keeps = says.keeps;
    part = says.part;
    each = λ t image from upto left. more image (says.each t image from upto left);
  }

-- nothing of an empty text
pub none_said : (old new : Disk) (P : Image → Type 0) → SaysWhile old new [] P → new.said new.now ≡ old.said old.now
none_said old new P says =
    let p = says.part new.now says.keeps.later (omega arith) in
    p.2 ∙ ap (λ (l : List ℕ). old.said old.now ++ l) (take_none p.0) ∙ append-nil (old.said old.now)
  where
    take_none : (n : ℕ) → take {A = ℕ} n [] ≡ []
    take_none zero = refl
    take_none (suc n) = refl
