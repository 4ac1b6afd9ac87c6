-- A commit of a session, from a world that is online.
--     commit_is_done, commit_in_doubt      it is kept; a device failed
--     commit_is_full, commit_of_nothing      the log has no room; there is nothing to commit
use Rattle.std.proofs.Common.{◌≡◌, ◌⊎◌, inl, inr, refl, sym, subst, ap, ◌∙◌, ◌+◌, ◌<◌, ◌≤◌, Bool, true, false, ◌&&◌, nat_lt, List, [], ◌∷◌, Option, Some, None, Contains, lt-ltb, le-ltb, arith}
use Rattle.std.specs.Prelude.{if◌then◌else◌, is_some}
use Rattle.std.proofs.lemmas.List.Elements.{All-cons, All-nil}
use Rattle.mdb_host.specs.Disk.{Disk}
use Rattle.mdb_model.specs.Answers.{Answer, plain, refused}
use Rattle.mdb_model.specs.History.{last}
use Rattle.mdb_model.specs.Images.{Image}
use Rattle.mdb_model.specs.Refusals.{refusal, first_cause, refuse_if, log_full}
use Rattle.mdb_model.specs.Runs.{Entry, Failed, AreOutcomes}
use Rattle.mdb_model.specs.Sessions.{net_changes, group_bytes, unsaved}
use Rattle.mdb_model.specs.Steps.{done, committed_by, has_changes}
use Rattle.mdb_model.specs.Worlds.{World, off, transaction, without_transaction}
use Rattle.mdb_model.specs.declared.change.Change.{Change}
use Rattle.mdb_model.specs.declared.name.Session.{Session}
use Rattle.mdb_model.specs.declared.name.State.{State}
use Rattle.mdb_model.specs.declared.name.State.TheVariants.{Online}
use Rattle.mdb_model.specs.declared.script.Command.TheVariants.{CommitWork}
use Rattle.mdb_model.specs.declared.script.Refusal.{Refusal}
use Rattle.mdb_model.specs.declared.script.Refusal.TheVariants.{LogFull, DeviceFailed}
use Rattle.mdb_model.specs.declared.script.Reply.TheVariants.{Committed, NothingToCommit}
use Rattle.session_rows.proofs.Entries.{OneStep, entry_done, entry_refused}
use Rattle.session_rows.specs.Serving.{no_facts}
use Rattle.standing.specs.Appending.{with_commit}
use Rattle.kept_worlds.specs.InService.{AtEachMoment, AllStand}
use Rattle.open_database.specs.Outside.{page_reading, StandsFor, Ties, TiesNothing}
use Rattle.open_database.specs.Serving.{AreOff}
use Rattle.open_database.specs.Stretch.{MayBe, Completes}
use Rattle.open_database.proofs.Stretches.{only, leaves_one, does_moments, ties_none, completes_still, completes_failed}

alone : (cause : Option Refusal) → first_cause (cause ∷ []) ≡ cause
alone None = refl
alone (Some cause) = refl

-- a commit ties nothing
pub commit_unties : (session : Session) (answer : Answer) → TiesNothing (Some (CommitWork session)) answer.reply
unfolding Ties
commit_unties session answer before after image = tt

module _ (session : Session) where
  -- whether a commit is refused
  refusal_online : (w : World) → refusal page_reading (record w { state = Online }) no_facts (CommitWork session) ≡ log_full w (CommitWork session)
  refusal_online w = alone (log_full w (CommitWork session))

  refusal_is : (w : World) → w.state ≡ Online → refusal page_reading w no_facts (CommitWork session) ≡ log_full w (CommitWork session)
  refusal_is w online = subst (λ (s : State). refusal page_reading (record w { state = s }) no_facts (CommitWork session) ≡ log_full w (CommitWork session)) (sym online) (refusal_online w)

  abbrev pub own_changes : World → List Change
  own_changes w = net_changes (transaction w session.0).changes

  module _ (w : World) (online : w.state ≡ Online) where
    cause_is : (some : Bool) → has_changes w session.0 ≡ some → refusal page_reading w no_facts (CommitWork session)
        ≡ refuse_if (some && nat_lt w.ring (unsaved w + group_bytes (own_changes w) + 1)) (LogFull (unsaved w) w.ring)
    cause_is some is = refusal_is w online ∙ (λ i. refuse_if (is i && nat_lt w.ring (unsaved w + group_bytes (own_changes w) + 1)) (LogFull (unsaved w) w.ring))

    -- there is nothing to commit
    pub nothing_step : has_changes w session.0 ≡ false → OneStep page_reading w (CommitWork session) (plain NothingToCommit) (without_transaction w session.0)
    nothing_step none =
        subst (λ (p : Answer × World). OneStep page_reading w (CommitWork session) p.0 p.1) result
        (entry_done page_reading w (CommitWork session) (cause_is false none) refl tt)
      where
        result : done page_reading w no_facts (CommitWork session) ≡ (plain NothingToCommit, without_transaction w session.0)
        result i = if none i then (plain (Committed (last w.history + 1)), committed_by w session.0) else (plain NothingToCommit, without_transaction w session.0)

    pub commit_of_nothing : (disk : Disk) (fits : List World → Type 0) → has_changes w session.0 ≡ false → AllStand (off w) disk → fits (without_transaction w session.0 ∷ [])
        → Completes page_reading StandsFor disk disk (w ∷ []) (Some (CommitWork session)) (plain NothingToCommit) fits
    commit_of_nothing disk fits none all fit =
        completes_still disk w (without_transaction w session.0) (Some (CommitWork session)) (plain NothingToCommit) fits all (nothing_step none) refl
        (λ image left. commit_unties session (plain NothingToCommit) w (without_transaction w session.0) image) fit

    module _ (some : has_changes w session.0 ≡ true) where
      -- the log has no room
      pub full_step : w.ring < unsaved w + group_bytes (own_changes w) + 1 → OneStep page_reading w (CommitWork session) (refused (LogFull (unsaved w) w.ring)) w
      full_step full =
          entry_refused page_reading (w ∷ []) (CommitWork session) (LogFull (unsaved w) w.ring)
          (All-cons (λ v. refusal page_reading v no_facts (CommitWork session) ≡ Some (LogFull (unsaved w) w.ring)) w [] (cause_is true some ∙ yes) (All-nil _))
        where
          yes : refuse_if (nat_lt w.ring (unsaved w + group_bytes (own_changes w) + 1)) (LogFull (unsaved w) w.ring) ≡ Some (LogFull (unsaved w) w.ring)
          yes = let t : nat_lt w.ring (unsaved w + group_bytes (own_changes w) + 1) ≡ true = lt-ltb _ _ full in λ i. refuse_if (t i) (LogFull (unsaved w) w.ring)

      pub commit_is_full : (disk : Disk) (fits : List World → Type 0) → w.ring < unsaved w + group_bytes (own_changes w) + 1 → AllStand (off w) disk → fits (w ∷ [])
          → Completes page_reading StandsFor disk disk (w ∷ []) (Some (CommitWork session)) (refused (LogFull (unsaved w) w.ring)) fits
      commit_is_full disk fits full all fit =
          completes_still disk w w (Some (CommitWork session)) (refused (LogFull (unsaved w) w.ring)) fits all (full_step full) refl
          (λ image left. commit_unties session (refused (LogFull (unsaved w) w.ring)) w w image) fit

      module _ (room : unsaved w + group_bytes (own_changes w) + 1 ≤ w.ring) where
        admitted : refusal page_reading w no_facts (CommitWork session) ≡ None
        admitted = cause_is true some ∙ no
          where
            no : refuse_if (nat_lt w.ring (unsaved w + group_bytes (own_changes w) + 1)) (LogFull (unsaved w) w.ring) ≡ None
            no = let t : nat_lt w.ring (unsaved w + group_bytes (own_changes w) + 1) ≡ false = le-ltb _ _ room in λ i. refuse_if (t i) (LogFull (unsaved w) w.ring)

        result : done page_reading w no_facts (CommitWork session) ≡ (plain (Committed (last w.history + 1)), committed_by w session.0)
        result i = if some i then (plain (Committed (last w.history + 1)), committed_by w session.0) else (plain NothingToCommit, without_transaction w session.0)

        step : OneStep page_reading w (CommitWork session) (plain (Committed (last w.history + 1))) (committed_by w session.0)
        step = subst (λ (p : Answer × World). OneStep page_reading w (CommitWork session) p.0 p.1) result (entry_done page_reading w (CommitWork session) admitted refl tt)

        -- a stop inside it leaves the commits without it or with it
        outcomes_are : AreOutcomes page_reading w (Some (CommitWork session)) (off w ∷ off (committed_by w session.0) ∷ [])
        outcomes_are = (Some no_facts, (ap is_some admitted, tt), (λ i. off w ∷ off (sym result i).1 ∷ []))

        failed_step : Entry page_reading (w ∷ []) (Some (CommitWork session)) (refused DeviceFailed) (off w ∷ off (committed_by w session.0) ∷ [])
        failed_step =
            Failed w [] (off w ∷ off (committed_by w session.0) ∷ [], [], refl, outcomes_are, refl) (only w)
            (no_facts, (done page_reading w no_facts (CommitWork session)).0.items, refl)

        module _ (d0 d1 : Disk) (moments : AtEachMoment d0 d1 (λ image. StandsFor image (off w) ⊎ StandsFor image (with_commit (off w) (record { changes = net_changes (transaction w session.0).changes })))) where
          stop : (image : Image) → StandsFor image (off w) ⊎ StandsFor image (with_commit (off w) (record { changes = net_changes (transaction w session.0).changes }))
              → (v : World) × StandsFor image v × MayBe page_reading StandsFor (w ∷ []) (Some (CommitWork session)) v × Contains (off w ∷ off (committed_by w session.0) ∷ []) v
          stop image (inl stands) = (off w, stands, (w, only w, inl refl), (0, omega arith, refl))
          stop image (inr stands) = (
            off (committed_by w session.0),
            stands,
            (w, only w, inr (off w ∷ off (committed_by w session.0) ∷ [], outcomes_are, (1, omega arith, refl))),
            (1, omega arith, refl),
          )

          pub commit_in_doubt : Completes page_reading StandsFor d0 d1 (w ∷ []) (Some (CommitWork session)) (refused DeviceFailed) AreOff
          commit_in_doubt =
              completes_failed d0 d1 w (off w) (off (committed_by w session.0)) (Some (CommitWork session)) (refused DeviceFailed) _ moments stop failed_step refl refl
              (commit_unties session (refused DeviceFailed))

          pub commit_is_done : (fits : List World → Type 0) → AllStand (off (committed_by w session.0)) d1 → fits (committed_by w session.0 ∷ [])
              → Completes page_reading StandsFor d0 d1 (w ∷ []) (Some (CommitWork session)) (plain (Committed (last w.history + 1))) fits
          commit_is_done fits all fit = record {
            after = committed_by w session.0 ∷ [];
            does = does_moments d0 d1 (w ∷ []) (Some (CommitWork session)) (plain (Committed (last w.history + 1))) (committed_by w session.0 ∷ []) _ moments
                (λ image p. let s = stop image p in (s.0, s.1, s.2)) step (leaves_one d1 (committed_by w session.0) all)
                (ties_none d0 d1 (w ∷ []) (Some (CommitWork session)) (plain (Committed (last w.history + 1))) (committed_by w session.0 ∷ []) (commit_unties session (plain (Committed (last w.history + 1)))));
            fit = fit;
          }
