-- Transactions of sessions are serial: their lines are answered as with nobody else.
--     Entry-holds      a line of a run keeps what holds of each world beside the open lines
--     at_line      what holds before each line of a run
--     serial_from_rest, serial      the law, of worlds with no sessions, and of sound worlds that are off
use Rattle.std.proofs.Common.{◌≡◌, ◌≢◌, refl, sym, ap, subst, ◌∙◌, ℕ, zero, suc, ◌+◌, ◌-◌, Bool, true, false, if◌then◌else◌, is_some, List, [], ◌∷◌, ◌++◌, length, take, fold, slice_get, All, Contains, Option, None, Some, unwrap_or, MatchOption, arith}
use Rattle.std.proofs.Math.Seq.{take-append_seam}
use Rattle.std.proofs.lemmas.List.Elements.{All-contains, All-weaker, Contains-append_cases}
use Rattle.std.proofs.Common.{⊎_elim}
use Rattle.std.specs.List.{AllZip}
use Rattle.std.specs.FinMap.{empty}
use Rattle.mdb_model.specs.declared.change.Commit.{Commit}
use Rattle.mdb_model.specs.declared.name.Session.{Session}
use Rattle.mdb_model.specs.declared.name.State.TheVariants.{Offline, Online}
use Rattle.mdb_model.specs.declared.script.Command.{Command}
use Rattle.mdb_model.specs.declared.script.Command.TheVariants.{CommitWork}
use Rattle.mdb_model.specs.declared.script.Refusal.{Refusal}
use Rattle.mdb_model.specs.declared.script.Refusal.TheVariants.{DeviceFailed, MemoryWanting}
use Rattle.mdb_model.specs.declared.script.Reply.TheVariants.{Refused, Committed, NothingToCommit}
use Rattle.mdb_model.specs.History.{History, last, tables_of, cut}
use Rattle.mdb_model.specs.Pages.{PageReading}
use Rattle.mdb_model.specs.Worlds.{World, off, without_transaction}
use Rattle.mdb_model.specs.Answers.{Answer, plain}
use Rattle.mdb_model.specs.Steps.{Facts, done, committed_by, has_changes, Fits}
use Rattle.mdb_model.specs.Refusals.{refusal, medium_full}
use Rattle.mdb_model.specs.Runs.{Line, TakenLine, Step, IsDone, IsRefused, AreOutcomes, AreAllOutcomes, outcomes, is_recover, restore_open, Entry, Stepped, Starved, Failed, FoundOut, Run}
use Rattle.mdb_model.specs.Agreement.{IsSound}
use Rattle.mdb_model.specs.Serial.{AnsweredLine, lines_after, open_lines, AreAlone, IsSerial}
use Rattle.mdb_model.proofs.SerialWorlds.{Holds-ended}
use Rattle.mdb_model.proofs.SerialSteps.{HoldsOf, after_line, Step-holds}

-- each world of a list holds beside the open lines
abbrev AllHold : List World → (ℕ → List AnsweredLine) → Type 0
AllHold worlds lines = (w : World) → Contains worlds w → HoldsOf w lines

-- the world that a step led from
zip_back : {A B : Type 0} (R : A → B → Type 0) (xs : List A) (ys : List B) (y : B) → AllZip R xs ys → Contains ys y → (x : A) × Contains xs x × R x y
zip_back R [] [] y all (k, inside, is) = absurd (omega (arith, inside))
zip_back R [] (first ∷ ys) y all there = absurd all
zip_back R (x ∷ xs) [] y all there = absurd all
zip_back R (x ∷ xs) (first ∷ ys) y all (zero, inside, is) = (x, (zero, omega arith, refl), subst (R x) is all.0)
zip_back R (x ∷ xs) (first ∷ ys) y all (suc k, inside, is) =
    let (before, (j, within, at), leads) = zip_back R xs ys y all.1 (k, omega (arith, inside), is) in
    (before, (suc j, omega (arith, within), at), leads)

-- no world of a list has a session
abbrev Emptied : List World → Type 0
Emptied worlds = (w : World) → Contains worlds w → w.sessions ≡ empty

-- of no worlds
Emptied-nil : Emptied []
Emptied-nil w (k, inside, is) = absurd (omega (arith, inside))

-- of one world more
Emptied-cons : (first : World) (worlds : List World) → first.sessions ≡ empty → Emptied worlds → Emptied (first ∷ worlds)
Emptied-cons first worlds none rest w (zero, inside, is) = ap (λ v. v.sessions) (sym is) ∙ none
Emptied-cons first worlds none rest w (suc k, inside, is) = rest w (k, omega (arith, inside), is)

module _ (reading : PageReading) where
  -- of a world that is off
  one_off : (w : World) → Emptied (off w ∷ [])
  one_off w = Emptied-cons (off w) [] refl Emptied-nil

  -- a stop inside a command leaves no session
  outcomes-empty : (w : World) (line : Command) (facts : Option Facts) → Emptied (outcomes reading w line facts)
  outcomes-empty w line None = one_off w
  outcomes-empty w line (Some facts) = by_medium (is_some (medium_full w facts line)) where
    by_recover : (b : Bool) → Emptied (if b then restore_open w ∷ [] else [])
    by_recover true = Emptied-cons (restore_open w) [] refl Emptied-nil
    by_recover false = Emptied-nil

    by_medium : (b : Bool) → Emptied (if b then off w ∷ [] else (off w ∷ off (done reading w facts line).1 ∷ (if is_recover line then restore_open w ∷ [] else [])))
    by_medium true = one_off w
    by_medium false =
        let restore = if is_recover line then restore_open w ∷ [] else [] in
        Emptied-cons (off w) (off (done reading w facts line).1 ∷ restore) refl (Emptied-cons (off (done reading w facts line).1) restore refl (by_recover (is_recover line)))

  -- nor does one inside a line
  one_outcome-empty : (w : World) (line : Line) (new : List World) → AreOutcomes reading w line new → Emptied new
  one_outcome-empty w None new is = subst Emptied (sym is) (one_off w)
  one_outcome-empty w (Some line) new (facts, may, is) = subst Emptied (sym is) (outcomes-empty w line facts)

  -- a device that failed leaves no session
  all_outcomes-empty : (old : List World) (line : Line) (new : List World) → AreAllOutcomes reading old line new → Emptied new
  all_outcomes-empty [] line new is = subst Emptied (sym is) Emptied-nil
  all_outcomes-empty (w ∷ old) line new (these, others, is, here, rest) =
      subst Emptied (sym is) (joined these others (one_outcome-empty w line these here) (all_outcomes-empty old line others rest)) where
        joined : (these others : List World) → Emptied these → Emptied others → Emptied (these ++ others)
        joined these others none also v there = ⊎_elim (none v) (also v) (Contains-append_cases these others v there)

  -- a line of a run keeps what holds of the worlds
  Entry-holds : {old new : List World} {line : Line} {answer : Answer} (lines : ℕ → List AnsweredLine) → Entry reading old line answer new → AllHold old lines → AllHold new (after_line lines line answer)
  Entry-holds {old} {new} {line} {answer} lines (Stepped steps) holds w there =
      let (before, at, step) = zip_back (λ v v'. Step reading v line answer v') old new w steps there in
      Step-holds reading before w answer lines (holds before at) line step
  Entry-holds lines (Starved starved) holds w there = holds w there
  Entry-holds {old} {new} {line} lines (Failed before items all at said) holds w there = Holds-ended _ _ _ (all_outcomes-empty old line new all w there)
  Entry-holds {line = line} {answer = answer} lines (FoundOut before found opens several at step real fed) holds w there =
      subst (λ v. HoldsOf v (after_line lines line answer)) (alone_in w there) (Step-holds reading before found answer lines (holds before at) line step) where
        alone_in : (w : World) → Contains (found ∷ []) w → found ≡ w
        alone_in w (zero, inside, is) = is
        alone_in w (suc k, inside, is) = absurd (omega (arith, inside))

-- Before each line of a run stands what each line keeps: worlds, and what the lines before made of some lists
module _ (reading : PageReading) (step : ℕ → List AnsweredLine → TakenLine → List AnsweredLine) (Fair : List World → (ℕ → List AnsweredLine) → Type 0)
    (keeps : (old : List World) (lines : ℕ → List AnsweredLine) (entry : TakenLine) → Entry reading old entry.line entry.answer entry.worlds → Fair old lines → Fair entry.worlds (λ s. step s (lines s) entry)) where
  -- the worlds before line k, which leads on from them, and what stands of them there
  at_line : (old : List World) (run : List TakenLine) (lines : ℕ → List AnsweredLine) (k : ℕ) (entry : TakenLine)
      → Run reading old run → Fair old lines → slice_get run k ≡ Some entry
      → (before : List World) × Entry reading before entry.line entry.answer entry.worlds × Fair before (λ s. fold (step s) (lines s) (take k run))
  at_line old [] lines k entry goes fair is = cc
  at_line old (first ∷ run) lines zero entry goes fair is =
      let same : first ≡ entry = ap (λ o. unwrap_or o first) is in
      (old, subst (λ e. Entry reading old e.line e.answer e.worlds) same goes.0, fair)
  at_line old (first ∷ run) lines (suc k) entry goes fair is =
      at_line first.worlds run (λ s. step s (lines s) first) k entry goes.1 (keeps old lines first goes.0 fair) is

-- Commits

-- a number is no refusal
number_apart : (cause : Refusal) (n : ℕ) → Refused cause ≡ Committed n → ⊥
number_apart cause n e = cc

-- nor is that there was nothing to commit
nothing_apart : (cause : Refusal) → Refused cause ≡ NothingToCommit → ⊥
nothing_apart cause e = cc

-- a history with one more commit is the one before up to its last commit
upto_last : (h : History) (commit : Commit) → cut (record h { commits = h.commits ++ commit ∷ [] }) (last h) ≡ h
upto_last h commit =
    let all : take (h.first + length h.commits - h.first) (h.commits ++ commit ∷ []) ≡ h.commits =
    ap (λ n. take n (h.commits ++ commit ∷ [])) (count h.first (length h.commits)) ∙ take-append_seam h.commits (commit ∷ []) in
    λ i. record h { commits = all i } where
      count : (a b : ℕ) → a + b - a ≡ b
      count a b = omega arith

module _ (reading : PageReading) (before after : World) (session : Session) (answer : Answer) where
  -- a commit that is not refused is done
  not_refused : (facts : Facts) → ((cause : Refusal) → answer.reply ≢ Refused cause)
      → MatchOption (refusal reading before facts (CommitWork session))
      (Fits reading before facts (CommitWork session) × IsDone reading before (CommitWork session) facts answer after) (λ cause. IsRefused reading cause before answer after)
      → IsDone reading before (CommitWork session) facts answer after
  not_refused facts real step = by_refusal (refusal reading before facts (CommitWork session)) step where
    by_refusal : (r : Option Refusal)
        → MatchOption r (Fits reading before facts (CommitWork session) × IsDone reading before (CommitWork session) facts answer after) (λ cause. IsRefused reading cause before answer after)
        → IsDone reading before (CommitWork session) facts answer after
    by_refusal None is = is.1
    by_refusal (Some cause) is = absurd (real cause (ap (λ a. a.reply) is.0))

  -- what a commit does where there are changes, and where there are none
  abbrev commit_if : Bool → Answer × World
  commit_if changes = if changes then (plain (Committed (last before.history + 1)), committed_by before session.0) else (plain NothingToCommit, without_transaction before session.0)

  -- the lines of the session, with a commit that has a number
  commit_law : (lines : List AnsweredLine) (n : ℕ) → answer.reply ≡ Committed n → ((t : History) → t ≡ before.history → AreAlone lines (tables_of t))
      → Step reading before (Some (CommitWork session)) answer after → AreAlone lines (tables_of (cut after.history (n - 1)))
  commit_law lines n said told (facts, step) =
      by_test (has_changes before session.0) (not_refused facts (λ cause is. number_apart cause n (sym is ∙ said)) step) where
        by_test : (b : Bool) → (answer ≡ (commit_if b).0) × (after ≡ (commit_if b).1) → AreAlone lines (tables_of (cut after.history (n - 1)))
        by_test true is =
            let number : Committed n ≡ Committed (last before.history + 1) = sym said ∙ ap (λ a. a.reply) is.0 in
            let n_is : n ≡ last before.history + 1 = cc number in
            let less : n - 1 ≡ last before.history = omega arith in
            told (cut after.history (n - 1)) ((λ i. cut (is.1 i).history (less i)) ∙ upto_last before.history _)
        by_test false is =
            let other : Committed n ≡ NothingToCommit = sym said ∙ ap (λ a. a.reply) is.0 in
            cc other

  -- and with one that had nothing to commit
  empty_law : (lines : List AnsweredLine) → answer.reply ≡ NothingToCommit → ((t : History) → t ≡ before.history → AreAlone lines (tables_of t))
      → Step reading before (Some (CommitWork session)) answer after → AreAlone lines (tables_of after.history)
  empty_law lines said told (facts, step) =
      by_test (has_changes before session.0) (not_refused facts (λ cause is. nothing_apart cause (sym is ∙ said)) step) where
        by_test : (b : Bool) → (answer ≡ (commit_if b).0) × (after ≡ (commit_if b).1) → AreAlone lines (tables_of after.history)
        by_test true is =
            let other : NothingToCommit ≡ Committed (last before.history + 1) = sym said ∙ ap (λ a. a.reply) is.0 in
            cc other
        by_test false is = told after.history (ap (λ v. v.history) is.1)

module _ (reading : PageReading) where
  -- a line that was answered without a refusal led from one of the worlds before
  led : {old new : List World} {line : Line} {answer : Answer} → Entry reading old line answer new → ((cause : Refusal) → answer.reply ≢ Refused cause)
      → (w : World) → Contains new w → (before : World) × Contains old before × Step reading before line answer w
  led {old} {new} {line} {answer} (Stepped steps) real w there = zip_back (λ v v'. Step reading v line answer v') old new w steps there
  led (Starved starved) real w there = absurd (real MemoryWanting refl)
  led (Failed before items all at said) real w there = absurd (real DeviceFailed refl)
  led {line = line} {answer = answer} (FoundOut before found opens several at step known fed) real w there =
      (before, at, subst (λ v. Step reading before line answer v) (alone_in w there) step) where
        alone_in : (w : World) → Contains (found ∷ []) w → found ≡ w
        alone_in w (zero, inside, is) = is
        alone_in w (suc k, inside, is) = absurd (omega (arith, inside))

  -- what a session was answered holds on the present tables
  told_now : (w : World) (lines : ℕ → List AnsweredLine) (session : ℕ) → HoldsOf w lines → (t : History) → t ≡ w.history → AreAlone (lines session) (tables_of t)
  told_now w lines session holds t is = subst (λ h. AreAlone (lines session) (tables_of h)) (sym is) ((holds.stands session).told (tables_of w.history) (λ p lock there covers. refl))

  -- worlds in which no session is there
  pub serial_from_rest : (old : List World) (run : List TakenLine) → Run reading old run → All (λ w. w.sessions ≡ empty) old → IsSerial run
  serial_from_rest old run goes rest = record {
    commits = λ k n session entry w at line_is said there.
        let (worlds, enters, holds) = before k entry at in
        let (v, inside, step) = led enters (λ cause is. number_apart cause n (sym is ∙ said)) w there in
        commit_law reading v w session entry.answer (open_lines session.0 (take k run)) n said (told_now v (λ s. open_lines s (take k run)) session.0 (holds v inside))
        (subst (λ line. Step reading v line entry.answer w) line_is step);
    empties = λ k session entry w at line_is said there.
        let (worlds, enters, holds) = before k entry at in
        let (v, inside, step) = led enters (λ cause is. nothing_apart cause (sym is ∙ said)) w there in
        empty_law reading v w session entry.answer (open_lines session.0 (take k run)) said (told_now v (λ s. open_lines s (take k run)) session.0 (holds v inside))
        (subst (λ line. Step reading v line entry.answer w) line_is step);
  } where
    before : (k : ℕ) (entry : TakenLine) → slice_get run k ≡ Some entry
        → (worlds : List World) × Entry reading worlds entry.line entry.answer entry.worlds × AllHold worlds (λ s. open_lines s (take k run))
    before k entry at =
        at_line reading lines_after AllHold (λ worlds lines entry enters holds. Entry-holds reading lines enters holds)
        old run (λ s. []) k entry goes (λ w there. Holds-ended w.state w.sessions w.history (All-contains (λ w. w.sessions ≡ empty) old w rest there)) at

  -- Transactions are serial, from sound worlds that are off
  pub serial : (old : List World) (run : List TakenLine) → Run reading old run → All (λ w. IsSound reading w × (w.state ≡ Offline)) old → IsSerial run
  serial old run goes sound = serial_from_rest old run goes (All-weaker (λ w. IsSound reading w × (w.state ≡ Offline)) (λ w. w.sessions ≡ empty) (λ w (fits, is_off). (fits.at_rest (λ on. apart (sym is_off ∙ on))).0) old sound) where
    apart : Offline ≡ Online → ⊥
    apart e = cc
