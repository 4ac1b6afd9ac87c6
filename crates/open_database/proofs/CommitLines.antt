-- A commit on an open database, against the world that it serves.
--     commit_in_admin      the sessions are not let in
--     committed_serves      the database serves the world with the commit
--     has_some      the machine has changes where the transactions have some
--     spells_commit, can_commit      the group is that of the machine's commit, which has room
--     commit_nothing, commit_full, commit_fails, commit_done      what the line does
use Rattle.std.proofs.Common.{◌≡◌, refl, sym, subst, ap, ◌∙◌, ℕ, ◌+◌, ◌-◌, ◌<◌, ◌≤◌, true, false, not, List, [], ◌∷◌, Some, Ok, Err, IsTrue}
use Rattle.std.proofs.lemmas.Bool.{ne_eqb, eq-eqb}
use Rattle.std.specs.FinMap.{len, values, remove}
use Rattle.mdb_model.specs.declared.change.Change.{Change}
use Rattle.mdb_model.specs.declared.change.Commit.{Commit}
use Rattle.mdb_model.specs.declared.fault.PageFault.{PageFault}
use Rattle.mdb_model.specs.declared.fault.PageFault.TheVariants.{Failed, Damaged}
use Rattle.mdb_model.specs.declared.name.Name.{Name}
use Rattle.mdb_model.specs.declared.name.Session.{Session}
use Rattle.mdb_model.specs.declared.name.State.TheVariants as state
use Rattle.mdb_model.specs.declared.script.Command.TheVariants.{CommitWork}
use Rattle.mdb_model.specs.declared.script.Refusal.{Refusal}
use Rattle.mdb_model.specs.declared.script.Refusal.TheVariants.{WrongState, LogFull}
use Rattle.mdb_model.specs.declared.script.Reply.TheVariants.{Committed, NothingToCommit, Refused}
use Rattle.mdb_model.specs.Answers.{plain, refused}
use Rattle.mdb_model.specs.History.{last, tables_of}
use Rattle.mdb_model.specs.Script.{is_session}
use Rattle.mdb_model.specs.Sessions.{net_changes, group_bytes, unsaved}
use Rattle.mdb_model.specs.Space.{commit_has_room, kept_for_snapshots, kept_for_backup}
use Rattle.mdb_model.specs.Steps.{committed_by, has_changes}
use Rattle.mdb_model.specs.Worlds.{World, off, transaction, without_transaction}
use Rattle.mdb_host.specs.Disk.{Disk}
use Rattle.mdb_bytes.specs.Fields.{Spells}
use Rattle.mdb_bytes.specs.Groups.{group_format}
use Rattle.session_rows.specs.Scan.{seen_rows}
use Rattle.session_rows.specs.Serving.{HasKeys, IsServed}
use Rattle.space_lines.specs.Counted.{IsCounted}
use Rattle.space_rule.specs.Spaces.{known_costs}
use Rattle.transactions.specs.Ongoing.{changes_of}
use Rattle.transactions.proofs.Machine.{same-net, same-count}
use Rattle.store_rows.specs.StoredRows.{stored_rows}
use Rattle.live_area.specs.Serving.{ServesWorld, CanTakeCommit}
use Rattle.opened_worlds.proofs.Ascending.{group_apart}
use Rattle.open_database.specs.declared.database.Access.{Access}
use Rattle.open_database.specs.declared.database.Access.TheVariants.{Admin, Online}
use Rattle.open_database.specs.declared.database.Database.{Database}
use Rattle.open_database.specs.Groups.{GroupLeaves}
use Rattle.open_database.specs.Outside.{page_reading, StandsFor}
use Rattle.open_database.specs.Serving.{open_state, Serves, FitsOpen, LineDoes}
use Rattle.open_database.specs.Stretch.{Completes}
use Rattle.open_database.proofs.Answering.{AreaServes, still_served, serves_on}
use Rattle.open_database.proofs.Commits.{commit_unties, commit_of_nothing, commit_is_full, commit_in_doubt, commit_is_done}
use Rattle.open_database.proofs.Doing.{entry_state}
use Rattle.open_database.proofs.Kept.{kept_none}
use Rattle.open_database.proofs.Stretches.{completes_still}

-- a line for the sessions, where they are not let in
pub commit_in_admin : (tells : Type 0) (database : Database) (d : Disk) (session : Session) → database.access ≡ Admin → (ws : List World) → FitsOpen tells database d ws
    → LineDoes tells d d ws (CommitWork session) plain database (Ok (Refused (WrongState state.Admin)))
commit_in_admin tells database d session admin ws fit =
    subst (λ (vs : List World). Completes page_reading StandsFor d d vs (Some (CommitWork session)) (refused (WrongState state.Admin)) (FitsOpen tells database d)) (sym fit.is)
    (completes_still d fit.w fit.w (Some (CommitWork session)) (refused (WrongState state.Admin)) (FitsOpen tells database d) fit.serves.area.stand
    (entry_state fit.w (CommitWork session) state.Admin refl refl (fit.serves.state ∙ ap open_state admin)) refl
    (λ image left. commit_unties session (refused (WrongState state.Admin)) fit.w fit.w image) (record { w = fit.w; is = refl; serves = fit.serves }))

module _ (tells : Type 0) (old : Database) (d : Disk) (session : Session) (is : IsTrue (is_session session.0)) (w : World) (s : Serves tells old d w) (online : old.access ≡ Online) where
  is_online : w.state ≡ state.Online
  is_online = s.state ∙ ap open_state online

  -- its net changes are those of the machine
  nets : values (changes_of old.transactions session.0) ≡ net_changes (transaction w session.0).changes
  nets = same-net old.transactions w s.matches session.0 is

  -- the commit of the machine
  abbrev pub commit_of : Commit
  commit_of = record { changes = net_changes (transaction w session.0).changes }

  -- there is nothing to commit
  pub commit_nothing : (new : Database) → len (changes_of old.transactions session.0) ≡ 0 → new.access ≡ old.access → new.area ≡ old.area
      → IsServed (stored_rows old.area.store d.seen) new.transactions (without_transaction w session.0) × IsCounted (known_costs new.space) (without_transaction w session.0)
      → Completes page_reading StandsFor d d (w ∷ []) (Some (CommitWork session)) (plain NothingToCommit) (FitsOpen tells new d)
  commit_nothing new none access area after =
      commit_of_nothing session w is_online d (FitsOpen tells new d) has_none s.area.stand
      (record {
        w = without_transaction w session.0;
        is = refl;
        serves = still_served tells old d w s online new d access (subst (λ a. ServesWorld tells a.in_force.slots a.in_force.record a.store a.ring d (off w)) (sym area) s.area) (stored_rows old.area.store d.seen) (remove w.sessions session.0) after;
      })
    where
      has_none : has_changes w session.0 ≡ false
      has_none = sym (same-count old.transactions w s.matches session.0 is) ∙ ap not (eq-eqb (len (changes_of old.transactions session.0)) 0 none)

  -- the database serves the world with the commit
  pub committed_serves : (new : Database) (e : Disk) → new.access ≡ old.access
      → AreaServes tells new e (committed_by w session.0)
      → IsServed (seen_rows (stored_rows old.area.store d.seen) old.transactions session.0) new.transactions (committed_by w session.0) × IsCounted (known_costs new.space) (committed_by w session.0)
      → Serves tells new e (committed_by w session.0)
  committed_serves new e access area after = record {
    area = area;
    state = s.state ∙ ap open_state (sym access);
    alone = λ admin. absurd (not_both new.access (access ∙ online) admin);
    no_savepoint = s.no_savepoint;
    no_backup = s.no_backup;
    keys = subst HasKeys (sym after.0.tables) after.0.keys;
    matches = after.0.stands;
    most = after.0.most;
    counted = after.1;
  }
    where
      not_both : (access : Access) → access ≡ Online → access ≡ Admin → ⊥
      not_both access one two = cc

  module _ (some : len (changes_of old.transactions session.0) ≡ 0 → ⊥) where
    -- the machine has changes
    pub has_some : IsTrue (has_changes w session.0)
    has_some = sym (same-count old.transactions w s.matches session.0 is) ∙ ap not (ne_eqb (len (changes_of old.transactions session.0)) 0 some)

    -- the bytes of the group are those of the machine's
    pub spells_commit : (name : Name) (number : ℕ) (group : List ℕ)
        → Spells group_format (record { name = name; number = number; changes = values (changes_of old.transactions session.0) }) group
        → Spells group_format (record { name = name; number = number; changes = net_changes (transaction w session.0).changes }) group
    spells_commit name number group spelled = subst (λ (changes : List Change). Spells group_format (record { name = name; number = number; changes = changes }) group) nets spelled

    -- there is room for the commit
    pub can_commit : (name : Name) (number : ℕ) (group : List ℕ)
        → Spells group_format (record { name = name; number = number; changes = values (changes_of old.transactions session.0) }) group
        → commit_has_room (tables_of w.history) (net_changes (transaction w session.0).changes) (kept_for_snapshots w + kept_for_backup w) w.blocks ≡ true
        → CanTakeCommit (off w) (record { changes = net_changes (transaction w session.0).changes })
    can_commit name number group spelled room = record {
      room = subst (λ (kept : ℕ). commit_has_room (tables_of w.history) (net_changes (transaction w session.0).changes) kept w.blocks ≡ true) (kept_none w s.area.plain.no_snapshots s.no_backup) room;
      differ = group_apart (record { name = name; number = number; changes = net_changes (transaction w session.0).changes }) group (spells_commit name number group spelled);
    }

    module _ (n : ℕ) (long : n ≡ group_bytes (values (changes_of old.transactions session.0)))
        (ring : w.ring ≡ old.area.ring.size) (unsaved_is : unsaved w ≡ old.area.ring.end_position - old.area.ring.saved_position) where
      bytes_are : n ≡ group_bytes (net_changes (transaction w session.0).changes)
      bytes_are = long ∙ ap group_bytes nets

      has_room : (old.area.ring.end_position - old.area.ring.saved_position) + n + 1 ≤ old.area.ring.size
          → unsaved w + group_bytes (net_changes (transaction w session.0).changes) + 1 ≤ w.ring
      has_room room = subst (λ (p : ℕ × ℕ × ℕ). p.0 + p.1 + 1 ≤ p.2) (λ i. (sym unsaved_is i, bytes_are i, sym ring i)) room

      is_full : old.area.ring.size < (old.area.ring.end_position - old.area.ring.saved_position) + n + 1
          → w.ring < unsaved w + group_bytes (net_changes (transaction w session.0).changes) + 1
      is_full full = subst (λ (p : ℕ × ℕ × ℕ). p.2 < p.0 + p.1 + 1) (λ i. (sym unsaved_is i, bytes_are i, sym ring i)) full

      -- the log has no room
      pub commit_full : (new : Database) (cause : Refusal) → old.area.ring.size < (old.area.ring.end_position - old.area.ring.saved_position) + n + 1
          → cause ≡ LogFull (old.area.ring.end_position - old.area.ring.saved_position) old.area.ring.size
          → new.access ≡ old.access → new.transactions ≡ old.transactions → known_costs new.space ≡ known_costs old.space → new.area ≡ old.area
          → Completes page_reading StandsFor d d (w ∷ []) (Some (CommitWork session)) (refused cause) (FitsOpen tells new d)
      commit_full new cause full says access transactions space area =
          subst (λ (c : Refusal). Completes page_reading StandsFor d d (w ∷ []) (Some (CommitWork session)) (refused c) (FitsOpen tells new d)) same
          (commit_is_full session w is_online has_some d (FitsOpen tells new d) (is_full full) s.area.stand
          (record { w = w; is = refl; serves = serves_on tells old new d d w s access transactions space (subst (λ a. ServesWorld tells a.in_force.slots a.in_force.record a.store a.ring d (off w)) (sym area) s.area) }))
        where
          same : LogFull (unsaved w) w.ring ≡ cause
          same = (λ i. LogFull (unsaved_is i) (ring i)) ∙ sym says

      module _ (new : Database) (e : Disk) where
        -- a device failed
        pub commit_fails : (serves : World → Type 0) (fault : PageFault) → (old.area.ring.end_position - old.area.ring.saved_position) + n + 1 ≤ old.area.ring.size
            → GroupLeaves d e (off w) commit_of serves (Err fault)
            → LineDoes tells d e (w ∷ []) (CommitWork session) plain new (Err fault)
        commit_fails serves Failed room leaves = commit_in_doubt session w is_online has_some (has_room room) d e leaves
        commit_fails serves (Damaged damage) room leaves = leaves

        -- it is kept
        pub commit_done : (number : ℕ) → (old.area.ring.end_position - old.area.ring.saved_position) + n + 1 ≤ old.area.ring.size
            → number ≡ last w.history + 1 → new.access ≡ old.access
            → GroupLeaves d e (off w) commit_of (λ v. ServesWorld tells new.area.in_force.slots new.area.in_force.record new.area.store new.area.ring e v) (Ok true)
            → IsServed (seen_rows (stored_rows old.area.store d.seen) old.transactions session.0) new.transactions (committed_by w session.0) × IsCounted (known_costs new.space) (committed_by w session.0)
            → Completes page_reading StandsFor d e (w ∷ []) (Some (CommitWork session)) (plain (Committed number)) (FitsOpen tells new e)
        commit_done number room says access leaves after =
            subst (λ (k : ℕ). Completes page_reading StandsFor d e (w ∷ []) (Some (CommitWork session)) (plain (Committed k)) (FitsOpen tells new e)) (sym says)
            (commit_is_done session w is_online has_some (has_room room) d e leaves.0 (FitsOpen tells new e) leaves.1.stand
            (record { w = committed_by w session.0; is = refl; serves = committed_serves new e access leaves.1 after }))
