-- How runs of calls go on.
use Rattle.std.proofs.Common.{◌≡◌, inl, inr, ℕ, ◌+◌, ◌≤◌, List, refl, sym, ◌∙◌, ap, subst, arith}
use Rattle.std.proofs.lemmas.Bool.{cases_lt}
use Rattle.std.specs.Prelude.{Result, Ok, Err, OnOk}
use Rattle.mdb_model.specs.declared.fault.Device.{Device}
use Rattle.mdb_model.specs.Images.{Image, size_of, byte_at}
use Rattle.mdb_host.specs.Disk.{Disk, Keeps, Goes, HoldsThroughout, Says, Agree, Torn, Synced, Has}

abbrev pub Step : Type 1
Step = Image → Image → Type 0

upto : (n t : ℕ) → n ≤ t → t ≤ n → t ≡ n
upto n t from to = omega arith

pub keeps_all : (disk : Disk) → Keeps disk disk
keeps_all disk = record {
  later = omega arith;
  kept = λ t image le left. left;
  no_more = λ t image le left. left;
  said = λ t le. refl;
}

pub keeps_on : (old mid new : Disk) → Keeps old mid → Keeps mid new → Keeps old new
keeps_on old mid new one two = record {
  later = omega (arith, one.later, two.later);
  kept = λ t image le left. two.kept t image (omega (arith, one.later, le)) (one.kept t image le left);
  no_more = λ t image le left. one.no_more t image le (two.no_more t image (omega (arith, one.later, le)) left);
  said = λ t le. two.said t (omega (arith, one.later, le)) ∙ one.said t le;
}

-- before the first call
pub stays : (disk : Disk) (step : Step) → ((image : Image) → step image image) → Goes disk disk step
stays disk step same = record {
  keeps = keeps_all disk;
  since = λ t image from to left. (image, subst (λ (n : ℕ). disk.may_leave n image) (upto disk.now t from to) left, same image);
  quiet = λ t from to. ap disk.said (upto disk.now t from to);
}

-- one run after another
pub chain : (old mid new : Disk) (first second step : Step) → Goes old mid first → Goes mid new second
    → ((a b : Image) → old.may_leave old.now a → first a b → step a b)
    → ((a b c : Image) → old.may_leave old.now a → first a b → mid.may_leave mid.now b → second b c → step a c)
    → Goes old new step
chain old mid new first second step one two early late = record {
  keeps = keeps_on old mid new one.keeps two.keeps;
  since = each;
  quiet = quiet;
}
  where
    each : (t : ℕ) (image : Image) → old.now ≤ t → t ≤ new.now → new.may_leave t image → (before : Image) × old.may_leave old.now before × step before image
    each t image from to left = elim (cases_lt t mid.now) [
      | inl lt ↦
          let a = one.since t image from (omega arith) (two.keeps.no_more t image (omega arith) left) in
          (a.0, a.1, early a.0 image a.1 a.2)
      | inr ge ↦
          let b = two.since t image ge to left in
          let a = one.since mid.now b.0 one.keeps.later (omega arith) b.1 in
          (a.0, a.1, late a.0 b.0 image a.1 a.2 b.1 b.2)
    ]

    quiet : (t : ℕ) → old.now ≤ t → t ≤ new.now → new.said t ≡ old.said old.now
    quiet t from to = elim (cases_lt t mid.now) [
      | inl lt ↦ two.keeps.said t (omega arith) ∙ one.quiet t from (omega arith)
      | inr ge ↦ two.quiet t ge to ∙ one.quiet mid.now one.keeps.later (omega arith)
    ]

-- the same by a wider step
pub widen : (old new : Disk) (narrow wide : Step) → Goes old new narrow → ((a b : Image) → old.may_leave old.now a → narrow a b → wide a b) → Goes old new wide
widen old new narrow wide goes to = record {
  keeps = goes.keeps;
  since = λ t image from upto left. let a = goes.since t image from upto left in (a.0, a.1, to a.0 image a.1 a.2);
  quiet = goes.quiet;
}

-- a run that speaks of what was said: its start
pub run_starts : (disk : Disk) (holds : Image → List ℕ → Type 0) → ((image : Image) → disk.may_leave disk.now image → holds image (disk.said disk.now)) → HoldsThroughout disk disk holds
run_starts disk holds here = record {
  keeps = keeps_all disk;
  each = λ t image from to left.
      let at = upto disk.now t from to in
      subst (λ (n : ℕ). holds image (disk.said n)) (sym at) (here image (subst (λ (n : ℕ). disk.may_leave n image) at left));
}

-- some calls on devices more
pub run_goes : (old mid new : Disk) (holds : Image → List ℕ → Type 0) (step : Step) → HoldsThroughout old mid holds → Goes mid new step
    → ((a b : Image) → mid.may_leave mid.now a → step a b → holds b (mid.said mid.now))
    → HoldsThroughout old new holds
run_goes old mid new holds step run goes to = record {
  keeps = keeps_on old mid new run.keeps goes.keeps;
  each = each;
}
  where
    each : (t : ℕ) (image : Image) → old.now ≤ t → t ≤ new.now → new.may_leave t image → holds image (new.said t)
    each t image from to_now left = elim (cases_lt t mid.now) [
      | inl lt ↦ subst (λ (l : List ℕ). holds image l) (sym (goes.keeps.said t (omega arith))) (run.each t image from (omega arith) (goes.keeps.no_more t image (omega arith) left))
      | inr ge ↦
          let a = goes.since t image ge to_now left in
          subst (λ (l : List ℕ). holds image l) (sym (goes.quiet t ge to_now)) (to a.0 image a.1 a.2)
    ]

-- a text more
pub run_says : (old mid new : Disk) (holds : Image → List ℕ → Type 0) (text : List ℕ) → HoldsThroughout old mid holds → Says mid new text
    → ((a b : Image) → mid.may_leave mid.now a → Agree a b → holds b (new.said new.now))
    → HoldsThroughout old new holds
run_says old mid new holds text run says to = record {
  keeps = keeps_on old mid new run.keeps says.keeps;
  each = each;
}
  where
    each : (t : ℕ) (image : Image) → old.now ≤ t → t ≤ new.now → new.may_leave t image → holds image (new.said t)
    each t image from to_now left = elim (cases_lt t new.now) [
      | inl lt ↦
          let le : t ≤ mid.now = omega (arith, says.no_more_than_one) in
          subst (λ (l : List ℕ). holds image l) (sym (says.keeps.said t le)) (run.each t image from le (says.keeps.no_more t image le left))
      | inr ge ↦
          let at = upto new.now t ge to_now in
          let a = says.left image (subst (λ (n : ℕ). new.may_leave n image) at left) in
          subst (λ (n : ℕ). holds image (new.said n)) (sym at) (to a.0 image a.1 a.2)
    ]

-- runs of one transitive step
pub onward : (old mid new : Disk) (step : Step) → ((a b c : Image) → step a b → step b c → step a c) → Goes old mid step → Goes mid new step → Goes old new step
onward old mid new step trans one two = chain old mid new step step step one two (λ a b left s. s) (λ a b c left s left2 s2. trans a b c s s2)

-- a call that changes no device, after a run
pub calmly : (old mid new : Disk) (step : Step) → ((a b c : Image) → step a b → Agree b c → step a c) → Goes old mid step → Goes mid new Agree → Goes old new step
calmly old mid new step after one two = chain old mid new step Agree step one two (λ a b left s. s) (λ a b c left s left2 s2. after a b c s s2)

-- images that agree one after another
pub agree_twice : (a b c : Image) → Agree a b → Agree b c → Agree a c
agree_twice a b c one two e = two e ∙ one e

-- two calls that change no device
pub agree_on : (d0 d1 d2 : Disk) → Goes d0 d1 Agree → Goes d1 d2 Agree → Goes d0 d2 Agree
agree_on d0 d1 d2 one two = onward d0 d1 d2 Agree agree_twice one two

pub torn_agree : (d : Device) (at n : ℕ) (a b c : Image) → Torn d at n a b → Agree b c → Torn d at n a c
torn_agree d at n a b c torn same = record {
  others = λ e other. same e ∙ torn.others e other;
  size = ap size_of (same d) ∙ torn.size;
  outside = λ k out. ap (λ o. byte_at o k) (same d) ∙ torn.outside k out;
}

pub torn_twice : (d : Device) (at n : ℕ) (a b c : Image) → Torn d at n a b → Torn d at n b c → Torn d at n a c
torn_twice d at n a b c one two = record {
  others = λ e other. two.others e other ∙ one.others e other;
  size = two.size ∙ one.size;
  outside = λ k out. two.outside k out ∙ one.outside k out;
}

pub torn_none : (d : Device) (at n : ℕ) (a : Image) → Torn d at n a a
torn_none d at n a = record { others = λ e other. refl; size = refl; outside = λ k out. refl }

-- after a sync a crash leaves what was written
pub synced_has : (disk : Disk) (d : Device) (at : ℕ) (bytes : List ℕ) → Synced disk d → Has disk.seen d at bytes → (image : Image) → disk.may_leave disk.now image → Has image d at bytes
synced_has disk d at bytes synced has image left i lt = ap (λ o. byte_at o (at + i)) (synced image left) ∙ has i lt

pub has_agree : (a b : Image) (d : Device) (at : ℕ) (bytes : List ℕ) → Agree a b → Has a d at bytes → Has b d at bytes
has_agree a b d at bytes same has i lt = ap (λ o. byte_at o (at + i)) (same d) ∙ has i lt

-- what holds of a call that went well, in other words
pub on_ok : {T E : Type 0} (result : Result T E) (P Q : Type 0) → (P → Q) → OnOk result P → OnOk result Q
on_ok (Ok v) P Q to p = to p
on_ok (Err e) P Q to p = tt

-- one run after another
pub run_runs : (old mid new : Disk) (holds more : Image → List ℕ → Type 0) → HoldsThroughout old mid holds → HoldsThroughout mid new more
    → ((image : Image) (out : List ℕ) → more image out → holds image out)
    → HoldsThroughout old new holds
run_runs old mid new holds more one two to = record {
  keeps = keeps_on old mid new one.keeps two.keeps;
  each = each;
}
  where
    each : (t : ℕ) (image : Image) → old.now ≤ t → t ≤ new.now → new.may_leave t image → holds image (new.said t)
    each t image from to_now left = elim (cases_lt t mid.now) [
      | inl lt ↦ subst (λ (l : List ℕ). holds image l) (sym (two.keeps.said t (omega arith))) (one.each t image from (omega arith) (two.keeps.no_more t image (omega arith) left))
      | inr ge ↦ to image (new.said t) (two.each t image ge to_now left)
    ]

-- images that agree on every device are one
pub same_image : (a b : Image) → Agree a b → a ≡ b
same_image a b same = sym (λ i e. same e i)

-- a run of calls on devices
pub runs_of_goes : (old new : Disk) (holds : Image → List ℕ → Type 0) (step : Step) → Goes old new step
    → ((a b : Image) → old.may_leave old.now a → step a b → holds b (old.said old.now))
    → HoldsThroughout old new holds
runs_of_goes old new holds step goes to = record {
  keeps = goes.keeps;
  each = λ t image from upto left.
      let a = goes.since t image from upto left in
      subst (λ (l : List ℕ). holds image l) (sym (goes.quiet t from upto)) (to a.0 image a.1 a.2);
}
