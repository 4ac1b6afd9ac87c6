-- The ends of a transaction, in a world that is counted.
--     rolled      a rollback
--     given_up      the world without the transaction
--     committed_served      the rows after a commit
use Rattle.std.proofs.Common.{sym, ◌∙◌, false, true, IsTrue}
use Rattle.std.specs.List.{list_all}
use Rattle.std.specs.FinMap.{values}
use Rattle.mdb_model.specs.declared.name.Session.{Session}
use Rattle.mdb_model.specs.declared.script.Command.TheVariants.{RollbackWork}
use Rattle.mdb_model.specs.declared.script.Reply.TheVariants.{RolledBack}
use Rattle.mdb_model.specs.Answers.{plain}
use Rattle.mdb_model.specs.Script.{is_session}
use Rattle.mdb_model.specs.Sessions.{net_changes}
use Rattle.mdb_model.specs.Steps.{committed_by}
use Rattle.mdb_model.specs.Tables.{Tables, with_changes}
use Rattle.mdb_model.specs.Worlds.{World, transaction, without_transaction}
use Rattle.mdb_model.proofs.SerialPlaces.{with_commits-push}
use Rattle.mdb_bytes.specs.Groups.{change_fits}
use Rattle.transactions.specs.Ongoing.{Ongoing, changes_of, EndsTransaction}
use Rattle.transactions.proofs.Machine.{stands-ended, stands-committed}
use Rattle.session_rows.specs.Scan.{seen_rows}
use Rattle.session_rows.specs.Serving.{no_pages, IsServed, IsAnswered}
use Rattle.session_rows.proofs.Answering.{rollback_answered}
use Rattle.session_rows.proofs.Keys.{keys_after}
use Rattle.space_rule.specs.KnownCosts.{KnownCosts, ended}
use Rattle.space_lines.specs.Counted.{IsCounted}
use Rattle.space_lines.proofs.Alike.{counted_matched}
use Rattle.space_lines.proofs.Counting.{counted_rolled, counted_committed}
use Rattle.space_lines.proofs.Lines.{Serves, widen}

module _ (rows : Tables) (old new : Ongoing) (w : World) (s : IsServed rows old w) (known : KnownCosts) (c : IsCounted known w) (session : Session)
    (is_one : IsTrue (is_session session.0)) (end : EndsTransaction old new session.0) where
  -- a rollback
  pub rolled : IsAnswered no_pages w (RollbackWork session) (plain RolledBack) (Serves rows new (ended known session.0 false))
  rolled =
      let stands = stands-ended old new w s.stands session.0 is_one end in
      widen w (RollbackWork session) (plain RolledBack) (IsServed rows new) (Serves rows new (ended known session.0 false))
      (λ sessions served. (
        served,
        counted_matched new (without_transaction w session.0) (λ number is. stands.changes number is) stands.numbered sessions served.stands (ended known session.0 false) (counted_rolled known w c session.0),
      ))
      (rollback_answered no_pages rows old new w s session is_one end)

  -- the world without the transaction
  pub given_up : Serves rows new (ended known session.0 false) (without_transaction w session.0)
  given_up = (
    record {
      online = s.online;
      tables = s.tables;
      keys = s.keys;
      stands = stands-ended old new w s.stands session.0 is_one end;
      most = end.most ∙ s.most;
    },
    counted_rolled known w c session.0,
  )

  -- a commit
  pub committed_served : IsTrue (list_all change_fits (values (changes_of old session.0))) → Serves (seen_rows rows old session.0) new (ended known session.0 true) (committed_by w session.0)
  committed_served fit = (
    record {
      online = s.online;
      tables = with_commits-push w.history.commits (record { changes = net_changes (transaction w session.0).changes }) w.history.start
          ∙ (λ i. with_changes (values (sym (s.stands.changes session.0 is_one) i)) (s.tables i));
      keys = keys_after (values (changes_of old session.0)) rows fit s.keys;
      stands = stands-committed old new w s.stands session.0 is_one end;
      most = end.most ∙ s.most;
    },
    counted_committed known w c session.0,
  )
