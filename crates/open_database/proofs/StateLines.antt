-- The lines of a savepoint, of what a database says of itself, and of who may work with it.
--     full_rows      the record in force has all rows
--     wrong_state      a line that the state does not admit
--     saved_line, admin_line, closed_line, told_line, online_line      the lines as they are done
--     saved_fails, admin_fails, closed_fails      where a device failed
--     save_leaves      what a savepoint of the area leaves
--     on_one      an open database has one world
--     counted_in, matches_in      the space rule and the transactions know the same of a world in
--         another state
use Rattle.std.proofs.Common.{◌≡◌, inl, refl, sym, subst, ap, ◌∙◌, ℕ, Bool, true, false, not, List, [], ◌∷◌, Option, Some, None, arith}
use Rattle.std.specs.Prelude.{if◌then◌else◌, is_some, IsSome, IsNone, IfSome}
use Rattle.std.specs.Prelude.{Result, Ok, Err, OnOk}
use Rattle.std.specs.List.{list_any}
use Rattle.std.specs.FinMap.{get, empty, get-empty}
use Rattle.std.proofs.lemmas.List.Elements.{All-cons, All-nil}
use Rattle.mdb_host.specs.Disk.{Disk}
use Rattle.mdb_model.specs.Answers.{Answer, plain, refused}
use Rattle.mdb_model.specs.Headline.{IsFull}
use Rattle.mdb_model.specs.History.{last, tables_of}
use Rattle.mdb_model.specs.Images.{Image}
use Rattle.mdb_model.specs.Refusals.{refusal, refusal_with, first_cause, refuse_if, same_state, states_of}
use Rattle.mdb_model.specs.Runs.{Line, Entry}
use Rattle.mdb_model.specs.Runs as runs
use Rattle.mdb_model.specs.Space.{need}
use Rattle.mdb_model.specs.Stages.{is_built, rows_in_memory}
use Rattle.mdb_model.specs.Steps.{done}
use Rattle.mdb_model.specs.Tables.{Place, place_cmp}
use Rattle.mdb_model.specs.Worlds.{World, off, stopped}
use Rattle.mdb_model.specs.declared.fault.PageFault.{PageFault}
use Rattle.mdb_model.specs.declared.fault.PageFault.TheVariants.{Failed, Damaged}
use Rattle.mdb_model.specs.declared.name.State.{State}
use Rattle.mdb_model.specs.declared.name.State.TheVariants as state
use Rattle.mdb_model.specs.declared.script.Command.{Command}
use Rattle.mdb_model.specs.declared.script.Command.TheVariants.{DbAdmin, DbOnline, DbOffline, MakeSavepoint, Info}
use Rattle.mdb_model.specs.declared.script.Refusal.{Refusal}
use Rattle.mdb_model.specs.declared.script.Refusal.TheVariants.{Syntax, WrongState, DeviceFailed}
use Rattle.mdb_model.specs.declared.script.Reply.TheVariants.{AdminAt, OnlineAt, OfflineNow, SavepointDone, InfoIs}
use Rattle.session_rows.proofs.Entries.{OneStep, entry_done, entry_refused}
use Rattle.session_rows.specs.Serving.{no_facts}
use Rattle.space_rule.specs.KnownCosts.{KnownCosts}
use Rattle.space_lines.specs.Counted.{IsCounted}
use Rattle.standing.specs.WholeStanding.{pages_in, savepoint_in, commit_number_in}
use Rattle.transactions.specs.Ongoing.{Ongoing}
use Rattle.transactions.specs.Standing.{MatchesWorld}
use Rattle.kept_worlds.specs.InService.{AtEachMoment, AllStand}
use Rattle.live_area.specs.Serving.{SavepointLeaves}
use Rattle.open_database.specs.declared.database.Access.{Access}
use Rattle.open_database.specs.declared.database.Access.TheVariants.{Admin, Online}
use Rattle.open_database.specs.Outside.{page_reading, StandsFor, Ties, TiesNothing}
use Rattle.open_database.specs.Saving.{HasAllRows, SaveLeaves}
use Rattle.open_database.specs.Serving.{open_state, AreOff}
use Rattle.open_database.specs.Stretch.{EachLeft, Completes}
use Rattle.open_database.proofs.Stretches.{only, completes_same, completes_still, completes_failed}

no_image : (place : Place) → get (empty {X = Option (List ℕ)} {R = place_cmp}) place ≡ None
no_image place = get-empty place_cmp place

not_some : {X : Type 0} (o : Option X) → o ≡ None → IsSome o → ⊥
not_some o none some = let wrong = subst IsSome none some in absurd cc

-- an open database has one world
pub on_one : (P : List World → Type 0) (ws : List World) (w : World) → ws ≡ w ∷ [] → P (w ∷ []) → P ws
on_one P ws w is p = subst P (sym is) p

-- what a savepoint of the area leaves
pub save_leaves : (d0 d1 : Disk) (w : World) (area serves : World → Type 0) (fresh : Type 0) (result : Result (Unit {0}) PageFault) → SavepointLeaves d0 d1 (off w) area result → OnOk result fresh
    → (area (off w) → serves w × (fresh → EachLeft d1 (HasAllRows w))) → SaveLeaves d0 d1 w serves result
save_leaves d0 d1 w area serves fresh (Ok done) leaves is make = let made = make leaves.1 in (leaves.0, made.0, made.1 is)
save_leaves d0 d1 w area serves fresh (Err Failed) leaves is make = leaves
save_leaves d0 d1 w area serves fresh (Err (Damaged damage)) leaves is make = leaves

-- a record with all rows is full, whatever the output and the other images are
pub full_rows : (w : World) (image : Image) → HasAllRows w image
    → IsFull page_reading (λ (t : ℕ). []) (λ (t : ℕ) (other : Image). ⊥) StandsFor pages_in savepoint_in commit_number_in (pages_in image) w
unfolding page_reading
full_rows w image has = record {
  rows = has.rows;
  images = empty;
  before = has.no_images;
  changed = λ place. ((λ some. absurd (not_some _ (no_image place) some)), (λ yes. absurd cc));
  values = λ place. subst (λ o. IfSome o (λ value. value ≡ get (tables_of w.history) place)) (sym (no_image place)) tt;
}

-- the same rows after the sessions are gone
rows_in : (w : World) (s : State) (image : Image) → HasAllRows w image → HasAllRows (stopped s w) image
rows_in w s image has = record { rows = has.rows; no_images = has.no_images }

pub saved_ties : (w : World) (disk : Disk) → EachLeft disk (HasAllRows w) → EachLeft disk (Ties (Some MakeSavepoint) SavepointDone w w)
unfolding Ties
saved_ties w disk each image left = full_rows w image (each image left)

pub admin_ties : (w : World) (number : ℕ) (disk : Disk) → EachLeft disk (HasAllRows w) → EachLeft disk (Ties (Some DbAdmin) (AdminAt number) w (stopped state.Admin w))
unfolding Ties
admin_ties w number disk each image left = full_rows (stopped state.Admin w) image (rows_in w state.Admin image (each image left))

pub closed_ties : (w : World) (disk : Disk) → EachLeft disk (HasAllRows w) → EachLeft disk (Ties (Some DbOffline) OfflineNow w (off w))
unfolding Ties
closed_ties w disk each image left = full_rows (off w) image (rows_in w state.Offline image (each image left))

pub online_ties : (w w' : World) (number : ℕ) (disk : Disk) → w.state ≡ state.Admin → EachLeft disk (Ties (Some DbOnline) (OnlineAt number) w w')
unfolding Ties
online_ties w w' number disk at image left is_off = let wrong : state.Admin ≡ state.Offline = sym at ∙ is_off in absurd cc

pub info_unties : (answer : Answer) → TiesNothing (Some Info) answer.reply
unfolding Ties
info_unties answer before after image = tt

pub admin_unties : (cause : Refusal) → TiesNothing (Some DbAdmin) (refused cause).reply
unfolding Ties
admin_unties cause before after image = tt

pub online_unties : (cause : Refusal) → TiesNothing (Some DbOnline) (refused cause).reply
unfolding Ties
online_unties cause before after image = tt

pub closed_unties : (cause : Refusal) → TiesNothing (Some DbOffline) (refused cause).reply
unfolding Ties
closed_unties cause before after image = tt

pub saved_unties : (cause : Refusal) → TiesNothing (Some MakeSavepoint) (refused cause).reply
unfolding Ties
saved_unties cause before after image = tt

-- a line that the state does not admit
wrong_cause : (w : World) (line : Command) (s : State) → is_built line ≡ true → list_any (same_state s) (states_of line) ≡ false → w.state ≡ s
    → refusal page_reading w no_facts line ≡ Some (WrongState s)
wrong_cause w line s built not_admitted is =
    ap (λ (b : Bool). if b then refusal_with page_reading w no_facts rows_in_memory line else Some Syntax) built
    ∙ first_state _ w.state is
  where
    cause_is : (t : State) → t ≡ s → refuse_if (not (list_any (same_state t) (states_of line))) (WrongState t) ≡ Some (WrongState s)
    cause_is t is =
        ap (λ (v : State). refuse_if (not (list_any (same_state v) (states_of line))) (WrongState v)) is
        ∙ ap (λ (b : Bool). refuse_if (not b) (WrongState s)) not_admitted

    first_state : (rest : List (Option Refusal)) (t : State) → t ≡ s → first_cause (refuse_if (not (list_any (same_state t) (states_of line))) (WrongState t) ∷ rest) ≡ Some (WrongState s)
    first_state rest t is = ap (λ (o : Option Refusal). first_cause (o ∷ rest)) (cause_is t is)

pub wrong_state : (disk : Disk) (w : World) (line : Command) (s : State) (fits : List World → Type 0) → is_built line ≡ true → list_any (same_state s) (states_of line) ≡ false → w.state ≡ s
    → TiesNothing (Some line) (refused (WrongState s)).reply → AllStand (off w) disk → fits (w ∷ [])
    → Completes page_reading StandsFor disk disk (w ∷ []) (Some line) (refused (WrongState s)) fits
wrong_state disk w line s fits built not_admitted at none all fit =
    completes_still disk w w (Some line) (refused (WrongState s)) fits all
    (entry_refused page_reading (w ∷ []) line (WrongState s) (All-cons (λ v. refusal page_reading v no_facts line ≡ Some (WrongState s)) w [] (wrong_cause w line s built not_admitted at) (All-nil (λ v. refusal page_reading v no_facts line ≡ Some (WrongState s))))) refl
    (λ image left. none w w image) fit

-- a line that leaves the world at rest, and fails
abbrev FailsSo : World → Command → Type 0
FailsSo w line = Entry page_reading (w ∷ []) (Some line) (refused DeviceFailed) (off w ∷ off w ∷ [])

fails_so : (d0 d1 : Disk) (w : World) (line : Command) → FailsSo w line → TiesNothing (Some line) (refused DeviceFailed).reply → AtEachMoment d0 d1 (λ image. StandsFor image (off w))
    → Completes page_reading StandsFor d0 d1 (w ∷ []) (Some line) (refused DeviceFailed) AreOff
fails_so d0 d1 w line entry none moments =
    completes_failed d0 d1 w (off w) (off w) (Some line) (refused DeviceFailed) (λ image. StandsFor image (off w)) moments
    (λ image stands. (off w, stands, (w, only w, inl refl), (0, omega arith, refl))) entry refl refl none

-- the world in a state, without a savepoint task
abbrev at_work : World → State → Option ℕ → World
at_work w s task = record w { state = s; savepoint_task = task }

-- a line that is built, by what it is refused for
built_cause : (w : World) (line : Command) → is_built line ≡ true → refusal page_reading w no_facts line ≡ refusal_with page_reading w no_facts rows_in_memory line
built_cause w line built = ap (λ (b : Bool). if b then refusal_with page_reading w no_facts rows_in_memory line else Some Syntax) built

-- and that nothing refuses
built_none : (w : World) (line : Command) → is_built line ≡ true → refusal_with page_reading w no_facts rows_in_memory line ≡ None → refusal page_reading w no_facts line ≡ None
built_none w line built none = built_cause w line built ∙ none

none_is : (o : Option Refusal) → o ≡ None → IsNone o
none_is o is = ap is_some is

module _ (access : Access) (w : World) (at : w.state ≡ open_state access) (none : w.savepoint_task ≡ None) where
  -- what is so of the world as it is said here is so of it
  here : (P : World → Type 0) → P (at_work w (open_state access) None) → P w
  here P p = subst (λ (q : State × Option ℕ). P (at_work w q.0 q.1)) (λ i. (sym at i, sym none i)) p

  module _ (built : is_built MakeSavepoint ≡ true) where
    saved_admitted : (a : Access) → refusal page_reading (at_work w (open_state a) None) no_facts MakeSavepoint ≡ None
    saved_admitted Admin = built_none (at_work w state.Admin None) MakeSavepoint built refl
    saved_admitted Online = built_none (at_work w state.Online None) MakeSavepoint built refl

    saved_step_at : (a : Access) → OneStep page_reading (at_work w (open_state a) None) MakeSavepoint (plain SavepointDone) (at_work w (open_state a) None)
    saved_step_at a = entry_done page_reading (at_work w (open_state a) None) MakeSavepoint (saved_admitted a) refl tt

    saved_fails_at : (a : Access) → FailsSo (at_work w (open_state a) None) MakeSavepoint
    saved_fails_at a =
        runs.Failed (at_work w (open_state a) None) [] (off w ∷ off w ∷ [], [], refl, (Some no_facts, (none_is _ (saved_admitted a), tt), refl), refl) (only (at_work w (open_state a) None)) (no_facts, [], refl)

    pub saved_line : (d0 d1 : Disk) (fits : List World → Type 0) → AtEachMoment d0 d1 (λ image. StandsFor image (off w)) → EachLeft d1 (HasAllRows w) → fits (w ∷ [])
        → Completes page_reading StandsFor d0 d1 (w ∷ []) (Some MakeSavepoint) (plain SavepointDone) fits
    saved_line d0 d1 fits moments rows fit =
        completes_same d0 d1 w w (Some MakeSavepoint) (plain SavepointDone) fits moments (here (λ v. OneStep page_reading v MakeSavepoint (plain SavepointDone) v) (saved_step_at access)) refl (saved_ties w d1 rows) fit

    pub saved_fails : (d0 d1 : Disk) → AtEachMoment d0 d1 (λ image. StandsFor image (off w)) → Completes page_reading StandsFor d0 d1 (w ∷ []) (Some MakeSavepoint) (refused DeviceFailed) AreOff
    saved_fails d0 d1 moments = fails_so d0 d1 w MakeSavepoint (here (λ v. FailsSo v MakeSavepoint) (saved_fails_at access)) (saved_unties DeviceFailed) moments

  closed_step_at : (a : Access) → OneStep page_reading (at_work w (open_state a) None) DbOffline (plain OfflineNow) (off w)
  closed_step_at Admin = entry_done page_reading (at_work w state.Admin None) DbOffline refl refl tt
  closed_step_at Online = entry_done page_reading (at_work w state.Online None) DbOffline refl refl tt

  closed_fails_at : (a : Access) → FailsSo (at_work w (open_state a) None) DbOffline
  closed_fails_at Admin = runs.Failed (at_work w state.Admin None) [] (off w ∷ off w ∷ [], [], refl, (Some no_facts, (refl, tt), refl), refl) (only (at_work w state.Admin None)) (no_facts, [], refl)
  closed_fails_at Online = runs.Failed (at_work w state.Online None) [] (off w ∷ off w ∷ [], [], refl, (Some no_facts, (refl, tt), refl), refl) (only (at_work w state.Online None)) (no_facts, [], refl)

  pub closed_line : (d0 d1 : Disk) → AtEachMoment d0 d1 (λ image. StandsFor image (off w)) → EachLeft d1 (HasAllRows w)
      → Completes page_reading StandsFor d0 d1 (w ∷ []) (Some DbOffline) (plain OfflineNow) AreOff
  closed_line d0 d1 moments rows =
      completes_same d0 d1 w (off w) (Some DbOffline) (plain OfflineNow) AreOff moments (here (λ v. OneStep page_reading v DbOffline (plain OfflineNow) (off v)) (closed_step_at access)) refl (closed_ties w d1 rows)
      (All-cons (λ v. off v ≡ v) (off w) [] refl (All-nil (λ v. off v ≡ v)))

  pub closed_fails : (d0 d1 : Disk) → AtEachMoment d0 d1 (λ image. StandsFor image (off w)) → Completes page_reading StandsFor d0 d1 (w ∷ []) (Some DbOffline) (refused DeviceFailed) AreOff
  closed_fails d0 d1 moments = fails_so d0 d1 w DbOffline (here (λ v. FailsSo v DbOffline) (closed_fails_at access)) (closed_unties DeviceFailed) moments

  -- what a database says of itself
  module _ (built : is_built Info ≡ true) where
    told_admitted : (a : Access) → refusal page_reading (at_work w (open_state a) None) no_facts Info ≡ None
    told_admitted Admin = built_none (at_work w state.Admin None) Info built refl
    told_admitted Online = built_none (at_work w state.Online None) Info built refl

    told_step_at : (a : Access) → OneStep page_reading (at_work w (open_state a) None) Info (plain (InfoIs w.name (last w.history) w.saved w.blocks (need (at_work w (open_state a) None)))) (at_work w (open_state a) None)
    told_step_at a = entry_done page_reading (at_work w (open_state a) None) Info (told_admitted a) refl tt

    pub told_line : (disk : Disk) (fits : List World → Type 0) → AllStand (off w) disk → fits (w ∷ [])
        → Completes page_reading StandsFor disk disk (w ∷ []) (Some Info) (plain (InfoIs w.name (last w.history) w.saved w.blocks (need w))) fits
    told_line disk fits all fit =
        completes_still disk w w (Some Info) (plain (InfoIs w.name (last w.history) w.saved w.blocks (need w))) fits all
        (here (λ v. OneStep page_reading v Info (plain (InfoIs v.name (last v.history) v.saved v.blocks (need v))) v) (told_step_at access)) refl
        (λ image left. info_unties (plain (InfoIs w.name (last w.history) w.saved w.blocks (need w))) w w image) fit

-- the sessions are dismissed
module _ (w : World) (at : w.state ≡ state.Online) where
  online_here : (P : World → Type 0) → P (record w { state = state.Online }) → P w
  online_here P p = subst (λ (s : State). P (record w { state = s })) (sym at) p

  admin_step : OneStep page_reading w DbAdmin (plain (AdminAt (last w.history))) (stopped state.Admin w)
  admin_step =
      online_here (λ v. OneStep page_reading v DbAdmin (plain (AdminAt (last v.history))) (stopped state.Admin v))
      (entry_done page_reading (record w { state = state.Online }) DbAdmin refl refl tt)

  admin_fails_so : FailsSo w DbAdmin
  admin_fails_so =
      online_here (λ v. FailsSo v DbAdmin)
      (runs.Failed (record w { state = state.Online }) [] (off w ∷ off w ∷ [], [], refl, (Some no_facts, (refl, tt), refl), refl) (only (record w { state = state.Online })) (no_facts, [], refl))

  pub admin_line : (d0 d1 : Disk) (fits : List World → Type 0) → AtEachMoment d0 d1 (λ image. StandsFor image (off w)) → EachLeft d1 (HasAllRows w) → fits (stopped state.Admin w ∷ [])
      → Completes page_reading StandsFor d0 d1 (w ∷ []) (Some DbAdmin) (plain (AdminAt (last w.history))) fits
  admin_line d0 d1 fits moments rows fit =
      completes_same d0 d1 w (stopped state.Admin w) (Some DbAdmin) (plain (AdminAt (last w.history))) fits moments admin_step refl (admin_ties w (last w.history) d1 rows) fit

  pub admin_fails : (d0 d1 : Disk) → AtEachMoment d0 d1 (λ image. StandsFor image (off w)) → Completes page_reading StandsFor d0 d1 (w ∷ []) (Some DbAdmin) (refused DeviceFailed) AreOff
  admin_fails d0 d1 moments = fails_so d0 d1 w DbAdmin admin_fails_so (admin_unties DeviceFailed) moments

-- and let in
module _ (w : World) (at : w.state ≡ state.Admin) where
  online_step : OneStep page_reading w DbOnline (plain (OnlineAt (last w.history))) (record w { state = state.Online })
  online_step =
      subst (λ (s : State). OneStep page_reading (record w { state = s }) DbOnline (plain (OnlineAt (last w.history))) (record w { state = state.Online })) (sym at)
      (entry_done page_reading (record w { state = state.Admin }) DbOnline refl refl tt)

  pub online_line : (disk : Disk) (fits : List World → Type 0) → AllStand (off w) disk → fits (record w { state = state.Online } ∷ [])
      → Completes page_reading StandsFor disk disk (w ∷ []) (Some DbOnline) (plain (OnlineAt (last w.history))) fits
  online_line disk fits all fit =
      completes_still disk w (record w { state = state.Online }) (Some DbOnline) (plain (OnlineAt (last w.history))) fits all online_step refl
      (online_ties w (record w { state = state.Online }) (last w.history) disk at) fit

-- The state is nothing to the space rule and to the transactions
pub counted_in : (known : KnownCosts) (w : World) (s : State) → IsCounted known w → IsCounted known (record w { state = s })
counted_in known w s c = record {
  known_of = record { blocks = c.known_of.blocks; kept = c.known_of.kept; committed = c.known_of.committed; sessions = c.known_of.sessions; numbers = c.known_of.numbers };
  tables = c.tables;
  numbers = c.numbers;
  apart = c.apart;
  rows_fit = c.rows_fit;
  changes_fit = c.changes_fit;
}

pub matches_in : (ongoing : Ongoing) (w : World) (s : State) → MatchesWorld ongoing w → MatchesWorld ongoing (record w { state = s })
matches_in ongoing w s m = record { locks = m.locks; changes = m.changes; numbered = m.numbered }
