-- What is known after one more change.
--     opened_push      the open changes of a session with one more
--     noted_known      what is noted is known of the world after it
use Rattle.std.proofs.Common.{◌≡◌, ◌≢◌, inl, inr, refl, sym, ap, ◌∙◌, ℕ, ◌<◌, cond, T, List, [], ◌∷◌, ◌++◌, length, map, Option, Some, None, is_some, arith}
use Rattle.std.specs.Prelude.{option_map, unwrap_or, IsSome}
use Rattle.std.specs.declared.cmp.Ordering.{Ordering}
use Rattle.std.specs.declared.cmp.Ordering.TheVariants.{Less, Equal, Greater}
use Rattle.std.specs.Ordering.{nat_cmp, is_eq, ordering_reverse}
use Rattle.std.specs.Cmp.{tied_itself, nat_cmp_total}
use Rattle.std.specs.FinMap.{get, entries, entries_sorted, get-entries, get-insert, nat_cmp-IsAntisymmetric}
use Rattle.std.specs.FinMap.Entries.{is_sorted, find, put, by_order}
use Rattle.std.proofs.lemmas.Bool.{cases_eq}
use Rattle.std.proofs.lemmas.List.{get_or-set_same, get_or-set_other, length-set}
use Rattle.mdb_model.specs.declared.change.Change.{Change}
use Rattle.mdb_model.specs.declared.change.Change.TheVariants.{Put, Del}
use Rattle.mdb_model.specs.History.{tables_of}
use Rattle.mdb_model.specs.Sessions.{last_changes}
use Rattle.mdb_model.specs.Steps.{changed}
use Rattle.mdb_model.specs.Tables.{Place, Tables, place_cmp, place_of}
use Rattle.mdb_model.specs.Worlds.{World, Transaction, ExclusiveKey, transaction, no_transaction}
use Rattle.mdb_model.proofs.Computing.{places_total, entries-insert_change}
use Rattle.mdb_model.proofs.SerialPlaces.{places_antisymmetric}
use Rattle.transactions.specs.Net.{seen_row}
use Rattle.transactions.proofs.NetChanges.{last_push, visible_row}
use Rattle.space_rule.specs.declared.open_change.OpenChange.{OpenChange}
use Rattle.space_rule.specs.KnownCosts.{KnownCosts, open_place, open_by, opened_change, with_open, noted, changes_at}
use Rattle.known_needs.specs.KnownNeeds.{opened_one, IsKnownOf, length_before, opened, length_seen}
use Rattle.known_needs.proofs.Found.{none_below, below_too, others_sorted, other_key}
use Rattle.known_needs.proofs.LastChanges.{AreOwn, own_each}

module _ (t : Tables) where
  -- an open change stands at the place of its change
  place_is : (c : Change) (before : Option ℕ) → open_place (opened_change c before) ≡ place_of c
  place_is (Put table key value) before = refl
  place_is (Del table key) before = refl

  -- an earlier change of the place with what is now is the later one
  earlier : (one c : Change) (before : Option ℕ) → place_of one ≡ place_of c → record (opened_one t one) { now = (opened_change c before).now } ≡ opened_one t c
  earlier (Put table key value) (Put number other val) before is = λ i. record { table = record { 0 = (is i).0 }; key = (is i).1; before = option_map (λ v. length v) (get t (is i)); now = Some (length val) }
  earlier (Put table key value) (Del number other) before is = λ i. record { table = record { 0 = (is i).0 }; key = (is i).1; before = option_map (λ v. length v) (get t (is i)); now = None }
  earlier (Del table key) (Put number other val) before is = λ i. record { table = record { 0 = (is i).0 }; key = (is i).1; before = option_map (λ v. length v) (get t (is i)); now = Some (length val) }
  earlier (Del table key) (Del number other) before is = λ i. record { table = record { 0 = (is i).0 }; key = (is i).1; before = option_map (λ v. length v) (get t (is i)); now = None }

  -- one more among the entries
  with_one : (c : Change) (before : Option ℕ) (es : List (Place × Change)) → T (is_sorted place_cmp es) → AreOwn es → (find place_cmp (place_of c) es ≡ None → before ≡ length_before t c)
      → with_open (opened_change c before) (map (opened_one t) (map (λ e. e.1) es)) ≡ map (opened_one t) (map (λ e. e.1) (put place_cmp (place_of c) c es))
  with_one c before [] sorted own fresh = ap (λ n. opened_change c n ∷ []) (fresh refl)
  with_one c before (e ∷ es) sorted own fresh =
      ap (λ o. open_by o x y ys (with_open x ys)) order
      ∙ by_order_of (with_one c before es (others_sorted place_cmp places_total places_antisymmetric e es sorted) own.1) (place_cmp k e.0) refl
    where
      k : Place
      k = place_of c

      x : OpenChange
      x = opened_change c before

      y : OpenChange
      y = opened_one t e.1

      ys : List OpenChange
      ys = map (opened_one t) (map (λ e. e.1) es)

      order : place_cmp (open_place y) (open_place x) ≡ ordering_reverse (place_cmp k e.0)
      order = (λ i. place_cmp ((place_is e.1 (length_before t e.1) ∙ own.0) i) (place_is c before i)) ∙ places_total.antisymm e.0 k

      by_order_of : ((find place_cmp k es ≡ None → before ≡ length_before t c) → with_open x ys ≡ map (opened_one t) (map (λ e. e.1) (put place_cmp k c es)))
          → (o : Ordering) → place_cmp k e.0 ≡ o
          → open_by (ordering_reverse o) x y ys (with_open x ys) ≡ map (opened_one t) (map (λ e. e.1) (by_order o ((k, c) ∷ e ∷ es) ((e.0, c) ∷ es) (e ∷ put place_cmp k c es)))
      by_order_of more Less tie = ap (λ n. opened_change c n ∷ y ∷ ys) (fresh (none_below place_cmp places_total places_antisymmetric k (e ∷ es) (below_too place_cmp places_total places_antisymmetric k e es sorted tie)))
      by_order_of more Equal tie = ap (λ z. z ∷ ys) (earlier e.1 c before (own.0 ∙ sym (places_antisymmetric k e.0 tie)))
      by_order_of more Greater tie = ap (λ zs. y ∷ zs) (more (λ none. fresh (ap (λ o. cond (is_eq o) (Some e.1) (find place_cmp k es)) tie ∙ none)))

  -- the open changes of a session with one more
  opened_push : (cs : List Change) (c : Change) (before : Option ℕ) → (get (last_changes cs) (place_of c) ≡ None → before ≡ length_before t c) → with_open (opened_change c before) (opened t cs) ≡ opened t (cs ++ c ∷ [])
  opened_push cs c before fresh =
      with_one c before (entries (last_changes cs)) (entries_sorted (last_changes cs)) (own_each cs) (λ none. fresh (get-entries (last_changes cs) (place_of c) ∙ none))
      ∙ ap (λ es. map (opened_one t) (map (λ e. e.1) es)) (sym (ap entries (last_push cs c) ∙ entries-insert_change (last_changes cs) (place_of c) c))

module _ (known : KnownCosts) (w : World) (session : ℕ) (change : Change) (is : IsKnownOf known w) (inside : session < length known.sessions) where
  -- the committed rows
  abbrev t : Tables
  t = tables_of w.history

  -- the changes of the session so far
  abbrev cs : List Change
  cs = (transaction w session).changes

  -- the world after the change
  abbrev next : World
  next = changed w session change

  -- a key that was not changed is seen as it is committed
  seen : get (last_changes cs) (place_of change) ≡ None → length_seen w session change ≡ length_before t change
  seen none = ap (option_map (λ value. length value)) (visible_row cs t (place_of change) ∙ ap (λ o. seen_row o (get t (place_of change))) none)

  -- the transaction after the change
  abbrev more : Transaction
  more = record { changes = cs ++ change ∷ []; locks = ExclusiveKey (place_of change) ∷ (transaction w session).locks }

  -- the session has it
  got_mine : get next.sessions session ≡ Some more
  got_mine = get-insert nat_cmp_total w.sessions session more session ∙ ap (λ o. cond (is_eq o) (Some more) (get w.sessions session)) (tied_itself nat_cmp_total session)

  -- the others have theirs
  got_other : (s : ℕ) → s ≢ session → get next.sessions s ≡ get w.sessions s
  got_other s other = get-insert nat_cmp_total w.sessions session more s ∙ ap (λ b. cond b (Some more) (get w.sessions s)) (other_key nat_cmp nat_cmp-IsAntisymmetric s session other)

  -- the open changes after it
  abbrev lists : List (List OpenChange)
  lists = (noted known session change (length_seen w session change)).sessions

  -- the open changes of each session
  each : (s : ℕ) → changes_at lists s ≡ opened t (transaction next s).changes
  each s = elim (cases_eq s session) [
    | inl same ↦
        ap (changes_at lists) same
        ∙ get_or-set_same known.sessions session (with_open (opened_change change (length_seen w session change)) (changes_at known.sessions session)) [] inside
        ∙ ap (with_open (opened_change change (length_seen w session change))) (is.sessions session)
        ∙ opened_push t cs change (length_seen w session change) seen
        ∙ sym (ap (λ q. opened t (transaction next q).changes) same ∙ ap (λ o. opened t (unwrap_or o no_transaction).changes) got_mine)
    | inr other ↦
        get_or-set_other known.sessions session s (with_open (opened_change change (length_seen w session change)) (changes_at known.sessions session)) [] other
        ∙ is.sessions s
        ∙ sym (ap (λ o. opened t (unwrap_or o no_transaction).changes) (got_other s other))
  ]

  -- there are as many sessions
  still : length lists ≡ length known.sessions
  still = length-set known.sessions session (with_open (opened_change change (length_seen w session change)) (changes_at known.sessions session))

  -- their numbers are known
  small : (s : ℕ) → IsSome (get next.sessions s) → s < length lists
  small s there = elim (cases_eq s session) [
    | inl same ↦ omega (arith, same, inside, still)
    | inr other ↦ omega (arith, is.numbers s (ap is_some (sym (got_other s other)) ∙ there), still)
  ]

  -- what is noted is known of the world after the change
  pub noted_known : IsKnownOf (noted known session change (length_seen w session change)) next
  noted_known =
      record {
        blocks = is.blocks;
        kept = is.kept;
        committed = is.committed;
        sessions = each;
        numbers = small;
      }
