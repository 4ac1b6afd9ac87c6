-- The transactions that are kept against those of the machine.
--     stands-none, stands-took, stands-changed, stands-ended, stands-committed      they stand for a world at first, after a lock, a change, an end and a commit
--     same-holder, same-row, same-net, same-bytes, same-count      what is known of them is what the machine has
use Rattle.std.proofs.Common.{◌≡◌, refl, sym, ap, ◌∙◌, ℕ, Bool, true, false, not, ◌==◌, cond, List, [], ◌∷◌, ◌++◌, None, unwrap_or, length, IsTrue, arith}
use Rattle.std.proofs.lemmas.Bool.{eqb-true, eqb-false, ne_eqb, eq-eqb}
use Rattle.std.specs.Ordering.{nat_cmp}
use Rattle.std.specs.FinMap as fin
use Rattle.std.specs.FinMap.{FinMap, get, insert, empty, values, len, get-remove, get-empty}
use Rattle.std.specs.Cmp.{nat_cmp_total}
use Rattle.mdb_model.specs.declared.change.Change.{Change}
use Rattle.mdb_model.specs.Script.{is_session}
use Rattle.mdb_model.specs.Tables.{Place, place_cmp, place_of}
use Rattle.mdb_model.specs.History.{tables_of}
use Rattle.mdb_model.specs.Worlds.{World, Transaction, Lock, ExclusiveKey, transaction, no_transaction, with_transaction, without_transaction}
use Rattle.mdb_model.specs.Sessions.{holder, visible, last_changes, net_changes, group_bytes}
use Rattle.mdb_model.specs.Steps.{locked, changed, committed_by, has_changes}
use Rattle.sorted_places.proofs.Tests.{tie-eqb}
use Rattle.record_locks.specs.Holders.{bars, holder_in}
use Rattle.record_locks.proofs.Agreement.{holder-agrees, agrees-none, agrees-locked, agrees-changed, agrees-ended, numbered-none, numbered-with, numbered-without, transaction-with}
use Rattle.transactions.specs.Net.{seen_row}
use Rattle.transactions.specs.Ongoing.{Ongoing, changes_of, AddsLock, AddsChange, EndsTransaction}
use Rattle.transactions.specs.Calls.{bytes_with}
use Rattle.transactions.specs.Standing.{MatchesWorld}
use Rattle.transactions.proofs.NetChanges.{last_push, visible_row, none_changed, changed_none}

-- What is known is what the machine has
module _ (x : Ongoing) (w : World) (stands : MatchesWorld x w) (session : ℕ) where
  -- the session that is named for a lock
  pub same-holder : (lock : Lock) → holder_in x.locks session lock ≡ holder w session lock
  same-holder lock = holder-agrees x.locks w stands.numbered stands.locks session lock

  module _ (is : IsTrue (is_session session)) where
    -- the rows that the session sees
    pub same-row : (place : Place) → seen_row (get (changes_of x session) place) (get (tables_of w.history) place) ≡ get (visible w session) place
    same-row place =
        ap (λ (m : FinMap place_cmp Change). seen_row (get m place) (get (tables_of w.history) place)) (stands.changes session is)
        ∙ sym (visible_row (transaction w session).changes (tables_of w.history) place)

    -- its net changes
    pub same-net : values (changes_of x session) ≡ net_changes (transaction w session).changes
    same-net = ap (λ (m : FinMap place_cmp Change). values m) (stands.changes session is)

    -- the bytes of its commit with one more change
    pub same-bytes : (change : Change) → bytes_with x session change ≡ group_bytes (net_changes (transaction (changed w session change) session).changes)
    same-bytes change =
        ap (λ (m : FinMap place_cmp Change). group_bytes (values (insert m (place_of change) change))) (stands.changes session is)
        ∙ ap (λ (m : FinMap place_cmp Change). group_bytes (values m)) (sym (last_push (transaction w session).changes change))
        ∙ ap (λ (y : Transaction). group_bytes (net_changes y.changes)) (sym (own-transaction w session _))
      where
        own-transaction : (w : World) (session : ℕ) (y : Transaction) → transaction (with_transaction w session y) session ≡ y
        own-transaction w session y = transaction-with w session y session ∙ ap (λ b. cond b y (transaction w session)) (eq-eqb session session refl)

    -- whether it has changes
    pub same-count : not (len (changes_of x session) == 0) ≡ has_changes w session
    same-count = ap (λ (m : FinMap place_cmp Change). not (len m == 0)) (stands.changes session is) ∙ ap not (counted (transaction w session).changes) where
      no_items : (cs : List Change) → length cs ≡ 0 → cs ≡ []
      no_items [] none = refl
      no_items (c ∷ cs) none = absurd (omega (arith, none))

      counted : (cs : List Change) → (len (last_changes cs) == 0) ≡ (length cs == 0)
      counted cs = by_count (length cs == 0) refl where
        by_count : (b : Bool) → (length cs == 0) ≡ b → (len (last_changes cs) == 0) ≡ b
        by_count true none = eq-eqb (len (last_changes cs)) 0 (changed_none cs (no_items cs (eqb-true (length cs) 0 none)))
        by_count false some = ne_eqb (len (last_changes cs)) 0 (λ none. eqb-false (length cs) 0 some (ap length (none_changed cs none)))

-- They stand for a world

pub stands-none : (x : Ongoing) (w : World) → ((session : ℕ) (lock : Lock) → bars x.locks session lock ≡ false) → ((session : ℕ) → changes_of x session ≡ empty) → w.sessions ≡ empty → MatchesWorld x w
stands-none x w free none begun = record {
  locks = agrees-none x.locks w free begun;
  changes = λ session is. none session
      ∙ sym (fin.empty_of_len (last_changes []) (changed_none [] refl))
      ∙ sym (ap (λ (m : FinMap nat_cmp Transaction). last_changes (unwrap_or (get m session) no_transaction).changes) begun
      ∙ ap (λ o. last_changes (unwrap_or o no_transaction).changes) (get-empty {X = Transaction} nat_cmp session));
  numbered = numbered-none w begun;
}

module _ (x y : Ongoing) (w : World) (stands : MatchesWorld x w) (session : ℕ) (is : IsTrue (is_session session)) where
  -- one more lock
  pub stands-took : (lock : Lock) → AddsLock x y session lock → MatchesWorld y (locked w session lock)
  stands-took lock took = record {
    locks = agrees-locked x.locks y.locks w session lock took.taken stands.locks;
    changes = λ other numbered.
        ap (λ (changes : List (FinMap place_cmp Change)). changes_of (record { locks = y.locks; changes = changes; most = y.most }) other) took.changes
        ∙ stands.changes other numbered
        ∙ by_session other (other == session) refl
        ∙ ap (λ (t : Transaction). last_changes t.changes) (sym (transaction-with w session _ other));
    numbered = numbered-with w session _ is stands.numbered;
  } where
    by_session : (other : ℕ) (b : Bool) → (other == session) ≡ b → last_changes (transaction w other).changes
        ≡ last_changes (cond b (record { changes = (transaction w session).changes; locks = lock ∷ (transaction w session).locks }) (transaction w other)).changes
    by_session other true own = ap (λ k. last_changes (transaction w k).changes) (eqb-true other session own)
    by_session other false apart = refl

  -- one more change
  pub stands-changed : (change : Change) → AddsChange x y session change → MatchesWorld y (changed w session change)
  stands-changed change done = record {
    locks = agrees-changed x.locks y.locks w session (ExclusiveKey (place_of change)) done.taken stands.locks change refl;
    changes = λ other numbered. done.changes other ∙ by_session other numbered (other == session) refl ∙ ap (λ (t : Transaction). last_changes t.changes) (sym (transaction-with w session _ other));
    numbered = numbered-with w session _ is stands.numbered;
  } where
    by_session : (other : ℕ) → IsTrue (is_session other) → (b : Bool) → (other == session) ≡ b
        → cond b (insert (changes_of x session) (place_of change) change) (changes_of x other)
        ≡ last_changes (cond b (record { changes = (transaction w session).changes ++ change ∷ []; locks = ExclusiveKey (place_of change) ∷ (transaction w session).locks }) (transaction w other)).changes
    by_session other numbered true own =
        ap (λ (m : FinMap place_cmp Change). insert m (place_of change) change) (stands.changes session is) ∙ sym (last_push (transaction w session).changes change)
    by_session other numbered false apart = stands.changes other numbered

  -- the session has ended
  pub stands-ended : EndsTransaction x y session → MatchesWorld y (without_transaction w session)
  stands-ended ended = record {
    locks = agrees-ended x.locks y.locks w session ended.locks stands.locks;
    changes = λ other numbered. ended.changes other ∙ by_session other numbered (other == session)
        ∙ ap (λ b. last_changes (unwrap_or (cond b None (get w.sessions other)) no_transaction).changes) (λ i. sym (tie-eqb other) i session)
        ∙ ap (λ o. last_changes (unwrap_or o no_transaction).changes) (sym (get-remove nat_cmp_total w.sessions session other));
    numbered = numbered-without w session stands.numbered;
  } where
    by_session : (other : ℕ) → IsTrue (is_session other) → (b : Bool) → cond b empty (changes_of x other) ≡ last_changes (unwrap_or (cond b None (get w.sessions other)) no_transaction).changes
    by_session other numbered true = sym (fin.empty_of_len (last_changes []) (changed_none [] refl))
    by_session other numbered false = stands.changes other numbered

  -- and its changes are the next commit
  pub stands-committed : EndsTransaction x y session → MatchesWorld y (committed_by w session)
  stands-committed ended = record { locks = (stands-ended ended).locks; changes = (stands-ended ended).changes; numbered = (stands-ended ended).numbered }
