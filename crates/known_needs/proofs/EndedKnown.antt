-- What is known after a transaction ended.
--     rollback_known, commit_known      after a rollback, and after a commit
use Rattle.std.proofs.Common.{◌≡◌, ◌≢◌, inl, inr, refl, sym, ap, ◌∙◌, ℕ, ◌<◌, ◌≤◌, cond, true, false, subst, List, [], length, map, get_or, set, None, is_some, arith}
use Rattle.std.specs.Prelude.{unwrap_or, IsSome, slice_index}
use Rattle.std.specs.Ordering.{nat_cmp, is_eq}
use Rattle.std.specs.Cmp.{tied_itself, nat_cmp_total}
use Rattle.std.specs.FinMap.{get, entries, entries_sorted, get-remove, nat_cmp-IsAntisymmetric}
use Rattle.std.proofs.lemmas.Bool.{cases_eq, cases_lt, false≢true}
use Rattle.std.proofs.lemmas.List.{get_or-set_same, get_or-set_other, length-set}
use Rattle.mdb_model.specs.History.{tables_of}
use Rattle.mdb_model.specs.declared.change.Change.{Change}
use Rattle.mdb_model.specs.Sessions.{last_changes, net_changes}
use Rattle.mdb_model.specs.Space.{table_cost}
use Rattle.mdb_model.specs.Steps.{committed_by}
use Rattle.mdb_model.specs.Tables.{Place, Tables, place_of, with_changes}
use Rattle.mdb_model.specs.Worlds.{World, transaction, no_transaction, without_transaction}
use Rattle.mdb_model.proofs.SerialPlaces.{with_commits-push}
use Rattle.session_rows.proofs.NetRows.{net_rows}
use Rattle.standing.specs.RedoRoom.{AllApart}
use Rattle.session_room.specs.SessionRoom.{Changes, ChangesAreApart}
use Rattle.session_room.proofs.Changing.{not_changed}
use Rattle.space_rule.specs.declared.open_change.OpenChange.{OpenChange}
use Rattle.space_rule.specs.KnownCosts.{KnownCosts, changes_at, ended, with_settled}
use Rattle.known_needs.specs.KnownNeeds.{IsKnownOf, opened}
use Rattle.known_needs.proofs.Found.{other_key}
use Rattle.known_needs.proofs.LastChanges.{net_places, net_changed, opened_none}
use Rattle.known_needs.proofs.SessionSums.{past_end}
use Rattle.known_needs.proofs.CostSums.{keys_apart}
use Rattle.known_needs.proofs.Settled.{opened_same, settled_cost_is}

-- nothing is left at a number
gone : {A : Type 0} (l : List A) (i : ℕ) (d : A) → get_or (set l i d) i d ≡ d
gone l i d = elim (cases_lt i (length l)) [
  | inl inside ↦ get_or-set_same l i d d inside
  | inr past ↦ past_end (set l i d) i d (omega (arith, length-set l i d, past))
]

module _ (known : KnownCosts) (w : World) (session : ℕ) (is : IsKnownOf known w) where
  -- the world without the transaction
  abbrev rest : World
  rest = without_transaction w session

  -- the open changes after it
  abbrev lists : List (List OpenChange)
  lists = set known.sessions session []

  -- the session has no transaction
  got_none : get rest.sessions session ≡ None
  got_none = get-remove nat_cmp_total w.sessions session session ∙ ap (λ o. cond (is_eq o) None (get w.sessions session)) (tied_itself nat_cmp_total session)

  -- the others have theirs
  got_other : (s : ℕ) → s ≢ session → get rest.sessions s ≡ get w.sessions s
  got_other s other = get-remove nat_cmp_total w.sessions session s ∙ ap (λ b. cond b None (get w.sessions s)) (other_key nat_cmp nat_cmp-IsAntisymmetric s session other)

  -- the changes of each session, on tables on which those of others are opened as before
  pub each_left : (t : Tables) → ((s : ℕ) → s ≢ session → opened (tables_of w.history) (transaction w s).changes ≡ opened t (transaction w s).changes)
      → (s : ℕ) → changes_at lists s ≡ opened t (transaction rest s).changes
  each_left t same s = elim (cases_eq s session) [
    | inl mine ↦
        ap (changes_at lists) mine ∙ gone known.sessions session []
        ∙ sym (ap (λ q. opened t (transaction rest q).changes) mine ∙ ap (λ o. opened t (unwrap_or o no_transaction).changes) got_none ∙ opened_none t)
    | inr other ↦
        get_or-set_other known.sessions session s [] [] other ∙ is.sessions s ∙ same s other
        ∙ sym (ap (λ o. opened t (unwrap_or o no_transaction).changes) (got_other s other))
  ]

  -- their numbers are known
  pub small_left : (s : ℕ) → IsSome (get rest.sessions s) → s < length lists
  small_left s there = elim (cases_eq s session) [
    | inl mine ↦ absurd (false≢true (ap is_some (sym (ap (get rest.sessions) mine ∙ got_none)) ∙ there))
    | inr other ↦ omega (arith, is.numbers s (ap is_some (sym (got_other s other)) ∙ there), length-set known.sessions session [])
  ]

  -- a session that rolled back has no open changes
  pub rollback_known : IsKnownOf (ended known session false) rest
  rollback_known =
      record {
        blocks = is.blocks;
        kept = is.kept;
        committed = is.committed;
        sessions = each_left (tables_of w.history) (λ s other. refl);
        numbers = small_left;
      }

module _ (known : KnownCosts) (w : World) (session : ℕ) (is : IsKnownOf known w) (apart : ChangesAreApart w) (many : 500 < length known.committed) where
  -- the rows before the commit
  abbrev t : Tables
  t = tables_of w.history

  -- the last changes of the session
  abbrev net : List Change
  net = net_changes (transaction w session).changes

  -- the rows after the commit
  abbrev after : Tables
  after = tables_of (committed_by w session).history

  -- the rows after the commit
  rows_after : after ≡ with_changes net t
  rows_after = with_commits-push w.history.commits (record { changes = net }) w.history.start

  -- these are of places that do not repeat
  net_apart : AllApart (map place_of net)
  net_apart = subst AllApart (sym (net_places (transaction w session).changes)) (keys_apart (entries (last_changes (transaction w session).changes)) (entries_sorted (last_changes (transaction w session).changes)))

  -- the costs after it
  costs_are : (table : ℕ) → 1 ≤ table → table ≤ 500 → slice_index (ended known session true).committed table ≡ table_cost after after table
  costs_are table low high =
      ap (λ xs. slice_index (with_settled xs known.committed) table) (is.sessions session)
      ∙ settled_cost_is t table net known.committed net_apart (omega (arith, high, many)) (is.committed table low high)
      ∙ ap (λ rows. table_cost rows rows table) (sym rows_after)

  -- a row that another session has changed stands as before
  row_same : (s : ℕ) → s ≢ session → (p : Place) → Changes (transaction w s).changes p → get t p ≡ get after p
  row_same s other p his =
      sym (ap (λ rows. get rows p) (rows_after ∙ net_rows (transaction w session).changes t)
      ∙ not_changed (transaction w session).changes t p (λ mine. apart s session p other his mine))

  -- what is known after the commit is known of the world after it
  pub commit_known : IsKnownOf (ended known session true) (committed_by w session)
  commit_known =
      record {
        blocks = is.blocks;
        kept = is.kept;
        committed = costs_are;
        sessions = each_left known w session is after (λ s other. opened_same t after (net_changes (transaction w s).changes) (λ p there. row_same s other p (net_changed (transaction w s).changes p there)));
        numbers = small_left known w session is;
      }
