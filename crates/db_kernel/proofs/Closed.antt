-- The lines of a kernel that is off, as entries of a run.
--     entry_unbuilt      a line that the program does not know yet
--     entry_state      a line that a state does not admit
--     entry_told, killed      the state is told; a stop of the program
--     entry_opened, entry_ended, opening_starves, opening_fails      a restart, in any worlds that are off
use Rattle.std.proofs.Common.{◌≡◌, inr, refl, sym, subst, ap, ◌∙◌, ℕ, zero, suc, ◌+◌, ◌<◌, Bool, true, false, not, List, [], ◌∷◌, ◌++◌, Option, Some, None, Contains, All, length, IsTrue, arith}
use Rattle.std.specs.Prelude.{if◌then◌else◌, is_some, IsSome, IsNone}
use Rattle.std.specs.List.{AllZip, list_any}
use Rattle.std.proofs.lemmas.List.Elements.{All-head, All-tail, All-cons, All-nil, All-append, Contains-append_left, Contains-append_right}
use Rattle.mdb_model.specs.declared.name.State.{State}
use Rattle.mdb_model.specs.declared.name.State.TheVariants.{Offline, Admin as AdminState, Online as OnlineState}
use Rattle.mdb_model.specs.declared.script.Command.{Command}
use Rattle.mdb_model.specs.declared.script.Command.TheVariants.{DbAdmin, DbOnline, DbState, Kill}
use Rattle.mdb_model.specs.declared.script.Refusal.{Refusal}
use Rattle.mdb_model.specs.declared.script.Refusal.TheVariants.{Syntax, WrongState, MemoryWanting, DeviceFailed, NumberEnd}
use Rattle.mdb_model.specs.declared.script.Reply.TheVariants.{Refused, OfflineNow, AdminAt, OnlineAt, StateIs}
use Rattle.mdb_model.specs.History.{last}
use Rattle.mdb_model.specs.Pages.{PageReading}
use Rattle.mdb_model.specs.Worlds.{World, Area, Live, off}
use Rattle.mdb_model.specs.Answers.{Answer, plain, refused}
use Rattle.mdb_model.specs.Stages.{is_built, rows_in_memory}
use Rattle.mdb_model.specs.Steps.{Facts, done}
use Rattle.mdb_model.specs.Refusals.{refusal, refusal_with, first_cause, refuse_if, states_of, same_state, wrong_state}
use Rattle.mdb_model.specs.Runs.{Step, Entry, Stepped, Starved, Failed, FoundOut, AreOutcomes, AreAllOutcomes, MayHaveSaid, may_want_memory}
use Rattle.mdb_model.proofs.StepLemmas.{CommandStep-done, CommandStep-refused, first_cause-none}
use Rattle.session_rows.specs.Serving.{no_facts}
use Rattle.session_rows.proofs.Entries.{entry_refused}
use Rattle.open_database.specs.declared.database.Access.{Access}
use Rattle.open_database.specs.declared.database.Access.TheVariants.{Admin, Online}
use Rattle.open_database.specs.Opened.{opened_world}
use Rattle.db_kernel.specs.Kept.{opens, opened_reply}

module _ (reading : PageReading) where
  -- a line that is not built
  pub refusal_unbuilt : (w : World) (line : Command) → is_built line ≡ false → refusal reading w no_facts line ≡ Some Syntax
  refusal_unbuilt w line not_built = ap (λ (b : Bool). if b then refusal_with reading w no_facts rows_in_memory line else Some Syntax) not_built

  pub entry_unbuilt : (ws : List World) (line : Command) → is_built line ≡ false → Entry reading ws (Some line) (refused Syntax) ws
  entry_unbuilt ws line not_built = entry_refused reading ws line Syntax (λ k d inside. refusal_unbuilt _ line not_built)

  -- a stop of the program, in any worlds that are off
  kill_admitted : (w : World) → w.state ≡ Offline → refusal reading w no_facts Kill ≡ None
  kill_admitted w offline = first_cause-none (wrong_state w Kill) _ (λ i. refuse_if (not (list_any (same_state (offline i)) (states_of Kill))) (WrongState (offline i)))

  steps_killed : (ws : List World) → All (λ w. off w ≡ w) ws → (after : List World) × AllZip (λ w w'. Step reading w (Some Kill) (plain OfflineNow) w') ws after
      × All (λ w. off w ≡ w) after × ((w : World) → Contains ws w → Contains after (off w))
  steps_killed [] all = ([], tt, (λ k d inside. absurd (omega arith)), λ w there. absurd (omega (arith, there.1)))
  steps_killed (w ∷ ws) all =
      let rest = steps_killed ws (All-tail (λ w. off w ≡ w) w ws all) in
      let admitted = kill_admitted w (sym (ap (λ (v : World). v.state) (All-head (λ w. off w ≡ w) w ws all))) in (
        off w ∷ rest.0,
        ((no_facts, CommandStep-done reading w no_facts Kill admitted refl tt), rest.1),
        All-cons (λ w. off w ≡ w) (off w) rest.0 refl rest.2,
        there w ws rest.0 rest.3,
      )
    where
      there : (w : World) (ws after : List World) → ((u : World) → Contains ws u → Contains after (off u)) → (u : World) → Contains (w ∷ ws) u → Contains (off w ∷ after) (off u)
      there w ws after each u (zero, inside, is) = (0, omega arith, ap off is)
      there w ws after each u (suc k, inside, is) = let c = each u (k, omega arith, is) in (suc c.0, omega (arith, c.1), c.2)

  pub killed : (ws : List World) → All (λ w. off w ≡ w) ws → (after : List World) × Entry reading ws (Some Kill) (plain OfflineNow) after
      × All (λ w. off w ≡ w) after × ((w : World) → Contains ws w → Contains after (off w))
  killed ws all = let s = steps_killed ws all in (s.0, Stepped s.1, s.2, s.3)

  -- A restart, in any worlds that are at rest

  abbrev pub AtRest : World → Type 0
  AtRest w = off w ≡ w

  -- a live world that is off
  live_is : (w : World) → off w ≡ w → w.area ≡ Live → (record (off w) { area = Live }) ≡ w
  live_is w rest live i = record (rest i) { area = sym live i }

  step_at : (access : Access) (w : World) → Step reading (record (off w) { area = Live }) (Some (opens access)) (plain (opened_reply access (last w.history))) (opened_world access (record (off w) { area = Live }))
  step_at Admin w = (no_facts, CommandStep-done reading (record (off w) { area = Live }) no_facts DbAdmin refl refl tt)
  step_at Online w = (no_facts, CommandStep-done reading (record (off w) { area = Live }) no_facts DbOnline refl refl tt)

  opens_step : (access : Access) (w : World) → off w ≡ w → w.area ≡ Live → Step reading w (Some (opens access)) (plain (opened_reply access (last w.history))) (opened_world access w)
  opens_step access w rest live =
      subst (λ (v : World). Step reading v (Some (opens access)) (plain (opened_reply access (last v.history))) (opened_world access v)) (live_is w rest live) (step_at access w)

  reopens_it : (access : Access) (answer : Answer) (ws : List World) (w w' : World) → 1 < length ws → Contains ws w → Step reading w (Some (opens access)) answer w'
      → (answer ≡ refused DeviceFailed → ⊥) → (answer ≡ refused MemoryWanting → ⊥) → Entry reading ws (Some (opens access)) answer (w' ∷ [])
  reopens_it Admin answer ws w w' many there step failed starved = FoundOut w w' refl many there step failed starved
  reopens_it Online answer ws w w' many there step failed starved = FoundOut w w' refl many there step failed starved

  not_refused : (access : Access) (n : ℕ) (cause : Refusal) → plain (opened_reply access n) ≡ refused cause → ⊥
  not_refused Admin n cause is = let e : AdminAt n ≡ Refused cause = ap (λ (a : Answer). a.reply) is in cc
  not_refused Online n cause is = let e : OnlineAt n ≡ Refused cause = ap (λ (a : Answer). a.reply) is in cc

  -- the line leads from one of the worlds to another one, and is not answered by a failure
  picked : (access : Access) (answer : Answer) (w w' : World) (ws : List World) → Contains ws w → Step reading w (Some (opens access)) answer w'
      → (answer ≡ refused DeviceFailed → ⊥) → (answer ≡ refused MemoryWanting → ⊥) → Entry reading ws (Some (opens access)) answer (w' ∷ [])
  picked access answer w w' [] there step failed starved = absurd (omega (arith, there.1))
  picked access answer w w' (x ∷ []) (zero, inside, is) step failed starved =
      subst (λ (u : World). Entry reading (u ∷ []) (Some (opens access)) answer (w' ∷ [])) (sym is) (Stepped (step, tt))
  picked access answer w w' (x ∷ []) (suc k, inside, is) step failed starved = absurd (omega arith)
  picked access answer w w' (x ∷ y ∷ ws) there step failed starved = reopens_it access answer (x ∷ y ∷ ws) w w' (omega arith) there step failed starved

  -- a number of the records is past the end
  abbrev past_facts : Facts
  past_facts = record no_facts { record_past_end = true }

  ended_at : (access : Access) (w : World) → refusal reading (record (off w) { area = Live }) past_facts (opens access) ≡ Some NumberEnd
  ended_at Admin w = refl
  ended_at Online w = refl

  ends_step : (access : Access) (w : World) → off w ≡ w → w.area ≡ Live → Step reading w (Some (opens access)) (refused NumberEnd) w
  ends_step access w rest live = (
    past_facts,
    CommandStep-refused reading w past_facts (opens access) NumberEnd
        (subst (λ (v : World). refusal reading v past_facts (opens access) ≡ Some NumberEnd) (live_is w rest live) (ended_at access w)),
  )

  other_refusal : (a b : Refusal) → refused a ≡ refused b → a ≡ b
  other_refusal a b is = let e : Refused a ≡ Refused b = ap (λ (x : Answer). x.reply) is in cc

  not_failed : NumberEnd ≡ DeviceFailed → ⊥
  not_failed is = cc

  not_starved : NumberEnd ≡ MemoryWanting → ⊥
  not_starved is = cc

  pub entry_ended : (access : Access) (w : World) (ws : List World) → off w ≡ w → w.area ≡ Live → Contains ws w
      → Entry reading ws (Some (opens access)) (refused NumberEnd) (w ∷ [])
  entry_ended access w ws rest live there =
      picked access (refused NumberEnd) w w ws there (ends_step access w rest live) (λ is. not_failed (other_refusal NumberEnd DeviceFailed is)) (λ is. not_starved (other_refusal NumberEnd MemoryWanting is))

  pub entry_opened : (access : Access) (w : World) (ws : List World) → off w ≡ w → w.area ≡ Live → Contains ws w
      → Entry reading ws (Some (opens access)) (plain (opened_reply access (last w.history))) (opened_world access w ∷ [])
  entry_opened access w ws rest live there =
      picked access (plain (opened_reply access (last w.history))) w (opened_world access w) ws there (opens_step access w rest live)
      (not_refused access (last w.history) DeviceFailed) (not_refused access (last w.history) MemoryWanting)

  may_starve : (access : Access) (w : World) → AtRest w → IsTrue (may_want_memory w (Some (opens access)))
  may_starve Admin w rest = ap (λ (v : World). may_want_memory v (Some DbAdmin)) (sym rest)
  may_starve Online w rest = ap (λ (v : World). may_want_memory v (Some DbOnline)) (sym rest)

  all_starve : (access : Access) (ws : List World) → All AtRest ws → AllZip (λ w w'. IsTrue (may_want_memory w (Some (opens access))) × (w' ≡ w)) ws ws
  all_starve access [] all = tt
  all_starve access (w ∷ ws) all = ((may_starve access w (All-head AtRest w ws all), refl), all_starve access ws (All-tail AtRest w ws all))

  pub opening_starves : (access : Access) (ws : List World) → All AtRest ws → Entry reading ws (Some (opens access)) (refused MemoryWanting) ws
  opening_starves access ws all = Starved (all_starve access ws all)

  -- what a stop of a restart may leave of a world: among others the world itself
  record Left (access : Access) (w : World) : Type 0 where
    these : List World
    are : AreOutcomes reading w (Some (opens access)) these
    itself : Contains these (off w)
    rest : All AtRest these

  -- nothing but the world
  two_left : (w : World) → Contains (off w ∷ off w ∷ []) (off w) × All AtRest (off w ∷ off w ∷ [])
  two_left w = ((0, omega arith, refl), All-cons AtRest (off w) (off w ∷ []) refl (All-cons AtRest (off w) [] refl (All-nil AtRest)))

  some_is : (o : Option Refusal) (cause : Refusal) → o ≡ Some cause → IsSome o
  some_is o cause is = ap is_some is

  none_is : (o : Option Refusal) → o ≡ None → IsNone o
  none_is o is = ap is_some is

  left_of : (access : Access) (w : World) (cause : Option Refusal) → refusal reading w no_facts (opens access) ≡ cause → Left access w
  left_of access w (Some cause) is = record {
    these = off w ∷ [];
    are = (None, inr (no_facts, some_is (refusal reading w no_facts (opens access)) cause is), refl);
    itself = (0, omega arith, refl);
    rest = All-cons AtRest (off w) [] refl (All-nil AtRest);
  }
  left_of Admin w None is = record {
    these = off w ∷ off w ∷ [];
    are = (Some no_facts, (none_is (refusal reading w no_facts DbAdmin) is, tt), refl);
    itself = (two_left w).0;
    rest = (two_left w).1;
  }
  left_of Online w None is = record {
    these = off w ∷ off w ∷ [];
    are = (Some no_facts, (none_is (refusal reading w no_facts DbOnline) is, tt), refl);
    itself = (two_left w).0;
    rest = (two_left w).1;
  }

  record AllLeft (access : Access) (ws : List World) : Type 0 where
    new : List World
    are : AreAllOutcomes reading ws (Some (opens access)) new
    each : (w : World) → Contains ws w → Contains new (off w)
    rest : All AtRest new

  all_left : (access : Access) (ws : List World) → AllLeft access ws
  all_left access [] = record { new = []; are = refl; each = λ w there. absurd (omega (arith, there.1)); rest = All-nil AtRest }
  all_left access (w ∷ ws) =
      let one = left_of access w (refusal reading w no_facts (opens access)) refl in
      let more = all_left access ws in
      record {
        new = one.these ++ more.new;
        are = (one.these, more.new, refl, one.are, more.are);
        each = λ u there. by_place u w ws one more there;
        rest = All-append AtRest one.these more.new one.rest more.rest;
      }
    where
      by_place : (u w : World) (ws : List World) (one : Left access w) (more : AllLeft access ws) → Contains (w ∷ ws) u → Contains (one.these ++ more.new) (off u)
      by_place u w ws one more (zero, inside, is) = subst (λ (v : World). Contains (one.these ++ more.new) (off v)) is (Contains-append_left one.these more.new (off w) one.itself)
      by_place u w ws one more (suc k, inside, is) = Contains-append_right one.these more.new (off u) (more.each u (k, omega arith, is))

  -- an opening says no items before it fails
  none_said : (access : Access) (w : World) → MayHaveSaid reading w (Some (opens access)) []
  none_said Admin w = (no_facts, (done reading w no_facts DbAdmin).0.items, refl)
  none_said Online w = (no_facts, (done reading w no_facts DbOnline).0.items, refl)

  pub opening_fails : (access : Access) (ws : List World) (w : World) → Contains ws w
      → (new : List World) × Entry reading ws (Some (opens access)) (refused DeviceFailed) new × ((u : World) → Contains ws u → Contains new (off u)) × All AtRest new
  opening_fails access ws w there =
      let left = all_left access ws in
      (left.new, Failed w [] left.are there (none_said access w), left.each, left.rest)

  -- The states

  -- a line that a state does not admit
  pub refusal_state : (w : World) (line : Command) (state : State) → is_built line ≡ true → list_any (same_state state) (states_of line) ≡ false → w.state ≡ state
      → refusal reading w no_facts line ≡ Some (WrongState state)
  refusal_state w line state built not_admitted is =
      ap (λ (b : Bool). if b then refusal_with reading w no_facts rows_in_memory line else Some Syntax) built
      ∙ first_state _ w.state is
    where
      cause_is : (s : State) → s ≡ state → refuse_if (not (list_any (same_state s) (states_of line))) (WrongState s) ≡ Some (WrongState state)
      cause_is s is =
          ap (λ (v : State). refuse_if (not (list_any (same_state v) (states_of line))) (WrongState v)) is
          ∙ ap (λ (b : Bool). refuse_if (not b) (WrongState state)) not_admitted

      first_state : (rest : List (Option Refusal)) (s : State) → s ≡ state → first_cause (refuse_if (not (list_any (same_state s) (states_of line))) (WrongState s) ∷ rest) ≡ Some (WrongState state)
      first_state rest s is = ap (λ (o : Option Refusal). first_cause (o ∷ rest)) (cause_is s is)

  pub entry_state : (ws : List World) (line : Command) (state : State) → is_built line ≡ true → list_any (same_state state) (states_of line) ≡ false → All (λ w. w.state ≡ state) ws
      → Entry reading ws (Some line) (refused (WrongState state)) ws
  entry_state ws line state built not_admitted all = entry_refused reading ws line (WrongState state) (λ k d inside. refusal_state _ line state built not_admitted (all k d inside))

  -- the state is told
  steps_told : (ws : List World) (state : State) → All (λ w. w.state ≡ state) ws → AllZip (λ w w'. Step reading w (Some DbState) (plain (StateIs state)) w') ws ws
  steps_told [] state all = tt
  steps_told (w ∷ ws) state all = (
    subst (λ (s : State). Step reading w (Some DbState) (plain (StateIs s)) w) (All-head (λ w. w.state ≡ state) w ws all) (no_facts, CommandStep-done reading w no_facts DbState (admitted w.state) refl tt),
    steps_told ws state (All-tail (λ w. w.state ≡ state) w ws all),
  )
    where
      admitted : (s : State) → refusal reading (record w { state = s }) no_facts DbState ≡ None
      admitted Offline = refl
      admitted AdminState = refl
      admitted OnlineState = refl

  pub entry_told : (ws : List World) (state : State) → All (λ w. w.state ≡ state) ws → Entry reading ws (Some DbState) (plain (StateIs state)) ws
  entry_told ws state all = Stepped (steps_told ws state all)
