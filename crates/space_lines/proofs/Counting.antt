-- What the space rule knows after a change, and after the end of a transaction.
--     counted_prepared      whatever is prepared
--     seen_is      the length that is seen is that of the machine
--     need_changed, counted_changed      with one more change
--     counted_rolled, counted_committed      after a rollback, and after a commit
--     counted_alone      without sessions
use Rattle.std.proofs.Common.{◌≡◌, ◌⊎◌, inl, inr, refl, sym, ap, ◌∙◌, subst, ℕ, ◌+◌, ◌<◌, ◌≤◌, Bool, true, false, not, ◌==◌, cond, List, [], ◌∷◌, length, Option, None, unwrap_or, option_map, set, IsTrue, arith}
use Rattle.std.specs.Ordering.{nat_cmp, eq_by_cmp}
use Rattle.std.specs.Cmp.{nat_cmp_total}
use Rattle.std.specs.FinMap.{FinMap, empty, get, get-empty, get-remove}
use Rattle.std.proofs.lemmas.Bool.{false≢true, ne_eqb}
use Rattle.std.proofs.lemmas.List.{length-set}
use Rattle.mdb_model.specs.declared.change.Change.{Change}
use Rattle.mdb_model.specs.History.{tables_of}
use Rattle.mdb_model.specs.Script.{is_session}
use Rattle.mdb_model.specs.Sessions.{visible, net_changes}
use Rattle.mdb_model.specs.Space.{need, has_room, kept_for_snapshots, kept_for_backup}
use Rattle.mdb_model.specs.Steps.{changed, committed_by, has_changes}
use Rattle.mdb_model.specs.Tables.{Place, Tables, place_of, with_changes}
use Rattle.mdb_model.specs.Worlds.{World, Transaction, ExclusiveKey, transaction, no_transaction, without_transaction}
use Rattle.mdb_model.proofs.SerialPlaces.{with_commits-push}
use Rattle.record_locks.specs.Holders.{holder_in}
use Rattle.record_locks.proofs.Numbers.{session-below}
use Rattle.transactions.specs.Locked.{AreLocked}
use Rattle.transactions.specs.Net.{seen_row, seen_length}
use Rattle.transactions.specs.Ongoing.{Ongoing, changes_of}
use Rattle.transactions.specs.Standing.{MatchesWorld}
use Rattle.transactions.proofs.Machine.{same-row}
use Rattle.session_rows.specs.Serving.{IsServed}
use Rattle.session_room.specs.SessionRoom.{Changes, ChangesAreApart}
use Rattle.session_room.proofs.SessionRoom.{rollback_need, commit_need, room_after}
use Rattle.space_rule.specs.declared.open_change.OpenChange.{OpenChange}
use Rattle.space_rule.specs.KnownCosts.{KnownCosts, changes_at, ended, need_of, noted, opened_change, prepared_for, with_open, with_settled}
use Rattle.known_needs.specs.KnownNeeds.{IsKnownOf, length_seen}
use Rattle.known_needs.proofs.EndedKnown.{rollback_known, commit_known}
use Rattle.known_needs.proofs.LastChanges.{net_none}
use Rattle.known_needs.proofs.NeedKnown.{need_is}
use Rattle.known_needs.proofs.NotedKnown.{noted_known}
use Rattle.space_lines.specs.Counted.{IsCounted}
use Rattle.space_lines.proofs.Locks.{apart_changed}

-- what is prepared does not matter
pub counted_prepared : (known : KnownCosts) (p : Option Place) (w : World) → IsCounted known w → IsCounted (prepared_for known p) w
counted_prepared known p w c = record {
  known_of = record { blocks = c.known_of.blocks; kept = c.known_of.kept; committed = c.known_of.committed; sessions = c.known_of.sessions; numbers = c.known_of.numbers };
  tables = c.tables;
  numbers = c.numbers;
  apart = c.apart;
  rows_fit = c.rows_fit;
  changes_fit = c.changes_fit;
}

-- the length that is seen is that of the machine
pub seen_is : (rows : Tables) (x : Ongoing) (w : World) → IsServed rows x w → (session : ℕ) → IsTrue (is_session session) → (place : Place)
    → seen_length (get (changes_of x session) place) (get rows place) ≡ option_map (λ value. length value) (get (visible w session) place)
seen_is rows x w s session is_one place =
    ap (option_map (λ value. length value))
    ((λ i. seen_row (get (changes_of x session) place) (get (sym s.tables i) place)) ∙ same-row x w s.stands session is_one place)

module _ (x : Ongoing) (w : World) (stands : MatchesWorld x w) (locked : AreLocked x.locks x.changes) (known : KnownCosts) (c : IsCounted known w)
    (session : ℕ) (is_one : IsTrue (is_session session)) (change : Change) (before : Option ℕ) (seen : before ≡ length_seen w session change)
    (free : holder_in x.locks session (ExclusiveKey (place_of change)) ≡ None) where
  -- what is known then, and the world
  abbrev more : KnownCosts
  more = noted known session change before

  abbrev next : World
  next = changed w session change

  inside : session < length known.sessions
  inside = let below = session-below session is_one in let many = c.numbers in omega (arith, below, many)

  known_next : IsKnownOf more next
  known_next = subst (λ (b : Option ℕ). IsKnownOf (noted known session change b) next) (sym seen) (noted_known known w session change c.known_of inside)

  apart_next : ChangesAreApart next
  apart_next = apart_changed x w stands locked c.apart session change free

  -- the need with one more change
  pub need_changed : need_of more ≡ need next
  need_changed = need_is more next known_next apart_next

  -- the world is counted where there is room for it
  pub counted_changed : need_of more + 160 ≤ known.blocks → IsCounted more next
  counted_changed room = record {
    known_of = known_next;
    tables = c.tables;
    numbers = (let same = length-set known.sessions session (with_open (opened_change change before) (changes_at known.sessions session)) in let many = c.numbers in omega (arith, same, many));
    apart = apart_next;
    rows_fit = c.rows_fit;
    changes_fit = λ s has. (let blocks = c.known_of.blocks in omega (arith, need_changed, room, blocks));
  }

module _ (known : KnownCosts) (w : World) (c : IsCounted known w) (session : ℕ) where
  -- the world without the transaction
  abbrev rest : World
  rest = without_transaction w session

  -- a transaction is gone or stays
  left : (s : ℕ) → (transaction rest s ≡ no_transaction) ⊎ (transaction rest s ≡ transaction w s)
  left s = by_session (eq_by_cmp nat_cmp s session) refl where
    by_session : (b : Bool) → eq_by_cmp nat_cmp s session ≡ b → (transaction rest s ≡ no_transaction) ⊎ (transaction rest s ≡ transaction w s)
    by_session true mine = inl (ap (λ o. unwrap_or o no_transaction) (get-remove nat_cmp_total w.sessions session s ∙ ap (λ b. cond b None (get w.sessions s)) mine))
    by_session false other = inr (ap (λ o. unwrap_or o no_transaction) (get-remove nat_cmp_total w.sessions session s ∙ ap (λ b. cond b None (get w.sessions s)) other))

  -- what is changed there was changed before
  left_changes : (s : ℕ) (place : Place) → Changes (transaction rest s).changes place → Changes (transaction w s).changes place
  left_changes s place there = elim (left s) [
    | inl gone ↦ absurd (subst (λ (t : Transaction). Changes t.changes place) gone there)
    | inr same ↦ subst (λ (t : Transaction). Changes t.changes place) same there
  ]

  left_apart : ChangesAreApart rest
  left_apart one two place differ mine his = c.apart one two place differ (left_changes one place mine) (left_changes two place his)

  left_has : (s : ℕ) → IsTrue (has_changes rest s) → IsTrue (has_changes w s)
  left_has s has = elim (left s) [
    | inl gone ↦ absurd (false≢true (sym (ap (λ (t : Transaction). not (length t.changes == 0)) gone) ∙ has))
    | inr same ↦ sym (ap (λ (t : Transaction). not (length t.changes == 0)) same) ∙ has
  ]

  left_numbers : 64 < length (set known.sessions session [])
  left_numbers = let same = length-set known.sessions session [] in let many = c.numbers in omega (arith, same, many)

  -- after a rollback
  pub counted_rolled : IsCounted (ended known session false) rest
  counted_rolled = record {
    known_of = rollback_known known w session c.known_of;
    tables = c.tables;
    numbers = left_numbers;
    apart = left_apart;
    rows_fit = c.rows_fit;
    changes_fit = λ s has. (let fits = c.changes_fit s (left_has s has) in let less = rollback_need w session c.apart in omega (arith, fits, less));
  }

  -- the rows after a commit have room
  committed_fit : has_room (tables_of (committed_by w session).history) (tables_of (committed_by w session).history) 0 (kept_for_snapshots w + kept_for_backup w) w.blocks ≡ true
  committed_fit = by_changes (has_changes w session) refl where
    no_items : (cs : List Change) → not (length cs == 0) ≡ false → cs ≡ []
    no_items [] none = refl
    no_items (change ∷ cs) none = absurd (false≢true (sym none ∙ ap not (ne_eqb (length (change ∷ cs)) 0 (λ e. omega (arith, e)))))

    by_changes : (b : Bool) → has_changes w session ≡ b
        → has_room (tables_of (committed_by w session).history) (tables_of (committed_by w session).history) 0 (kept_for_snapshots w + kept_for_backup w) w.blocks ≡ true
    by_changes true has = room_after w session c.apart (c.changes_fit session has)
    by_changes false none =
        let same : tables_of (committed_by w session).history ≡ tables_of w.history =
        with_commits-push w.history.commits (record { changes = net_changes (transaction w session).changes }) w.history.start
        ∙ ap (λ (cs : List Change). with_changes (net_changes cs) (tables_of w.history)) (no_items (transaction w session).changes none)
        ∙ ap (λ (cs : List Change). with_changes cs (tables_of w.history)) net_none in
        subst (λ t. has_room t t 0 (kept_for_snapshots w + kept_for_backup w) w.blocks ≡ true) (sym same) c.rows_fit

  settled_length : (xs : List OpenChange) (committed : List ℕ) → length (with_settled xs committed) ≡ length committed
  settled_length [] committed = refl
  settled_length (x ∷ xs) committed = length-set (with_settled xs committed) x.table.0 _ ∙ settled_length xs committed

  -- after a commit
  pub counted_committed : IsCounted (ended known session true) (committed_by w session)
  counted_committed = record {
    known_of = commit_known known w session c.known_of c.apart c.tables;
    tables = (let same = settled_length (changes_at known.sessions session) known.committed in let many = c.tables in omega (arith, same, many));
    numbers = left_numbers;
    apart = left_apart;
    rows_fit = committed_fit;
    changes_fit = λ s has. (let fits = c.changes_fit s (left_has s has) in let less = commit_need w session c.apart in omega (arith, fits, less));
  }

-- a world without sessions
pub counted_alone : (known : KnownCosts) (w : World) → IsKnownOf known w → w.sessions ≡ empty → 500 < length known.committed → 64 < length known.sessions
    → has_room (tables_of w.history) (tables_of w.history) 0 (kept_for_snapshots w + kept_for_backup w) w.blocks ≡ true → IsCounted known w
counted_alone known w is none tables numbers room =
    let nothing : (s : ℕ) → transaction w s ≡ no_transaction =
    λ s. ap (λ (m : FinMap nat_cmp Transaction). unwrap_or (get m s) no_transaction) none ∙ ap (λ o. unwrap_or o no_transaction) (get-empty {X = Transaction} nat_cmp s) in
    record {
      known_of = is;
      tables = tables;
      numbers = numbers;
      apart = λ one two place differ mine his. subst (λ (t : Transaction). Changes t.changes place) (nothing one) mine;
      rows_fit = room;
      changes_fit = λ s has. absurd (false≢true (sym (ap (λ (t : Transaction). not (length t.changes == 0)) (nothing s)) ∙ has));
    }
