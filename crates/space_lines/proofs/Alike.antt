-- Worlds in which each session has the same last changes.
--     last_is_there      a place that was changed has a last change
--     nobody      a number that is none of a session has no transaction
--     counted_alike      one is counted where the other is
--     counted_matched      so it is where the same transactions stand for both
use Rattle.std.proofs.Common.{◌≡◌, inl, inr, refl, sym, ap, ◌∙◌, ℕ, ◌<◌, Bool, true, false, not, ◌==◌, cond, is_some, List, [], ◌∷◌, ◌++◌, map, reverse, Option, Some, None, unwrap_or, length, IsTrue, arith}
use Rattle.std.specs.Prelude.{IsSome}
use Rattle.std.specs.Ordering.{nat_cmp, eq_by_cmp}
use Rattle.std.specs.FinMap.{FinMap, get, len, find, values, get-from_entries}
use Rattle.std.proofs.lemmas.Bool.{false≢true, ne_eqb}
use Rattle.std.proofs.lemmas.List.{reverse-append}
use Rattle.mdb_model.specs.declared.change.Change.{Change}
use Rattle.mdb_model.specs.History.{tables_of}
use Rattle.mdb_model.specs.Script.{is_session}
use Rattle.mdb_model.specs.Sessions.{last_changes, same_place}
use Rattle.mdb_model.specs.Space.{need}
use Rattle.mdb_model.specs.Tables.{Place, place_cmp}
use Rattle.mdb_model.specs.Worlds.{World, Transaction, transaction, no_transaction}
use Rattle.mdb_model.proofs.SerialPlaces.{same_place-itself}
use Rattle.sorted_places.proofs.Places.{place_total}
use Rattle.record_locks.specs.Agreeing.{AreNumbered}
use Rattle.record_locks.proofs.Numbers.{session-below}
use Rattle.transactions.specs.Net.{keyed_change}
use Rattle.transactions.specs.Ongoing.{Ongoing, changes_of}
use Rattle.transactions.specs.Standing.{MatchesWorld}
use Rattle.transactions.proofs.NetChanges.{none_changed, changed_none}
use Rattle.session_rows.specs.Serving.{with_sessions}
use Rattle.session_room.specs.SessionRoom.{Changes, ChangesAreApart}
use Rattle.session_room.proofs.Changing.{last_is_changed}
use Rattle.space_rule.specs.KnownCosts.{KnownCosts}
use Rattle.known_needs.specs.KnownNeeds.{IsKnownOf, opened_one}
use Rattle.known_needs.proofs.NeedKnown.{need_is}
use Rattle.space_lines.specs.Counted.{IsCounted}

-- what is found in a list is found in a longer one
found_still : (p : Place) (es : List (Place × Change)) (e : Place × Change) → is_some (find place_cmp p es) ≡ true → is_some (find place_cmp p (es ++ e ∷ [])) ≡ true
found_still p [] e some = cc
found_still p (x ∷ es) e some = by_test (found_still p es e) (eq_by_cmp place_cmp p x.0) some where
  by_test : (is_some (find place_cmp p es) ≡ true → is_some (find place_cmp p (es ++ e ∷ [])) ≡ true) → (b : Bool) → is_some (cond b (Some x.1) (find place_cmp p es)) ≡ true
      → is_some (cond b (Some x.1) (find place_cmp p (es ++ e ∷ []))) ≡ true
  by_test more true some = refl
  by_test more false some = more some

-- so is one that is added
found_last : (p : Place) (es : List (Place × Change)) (e : Place × Change) → eq_by_cmp place_cmp p e.0 ≡ true → is_some (find place_cmp p (es ++ e ∷ [])) ≡ true
found_last p [] e is = ap (λ b. is_some (cond b (Some e.1) None)) is
found_last p (x ∷ es) e is = by_test (found_last p es e is) (eq_by_cmp place_cmp p x.0) where
  by_test : is_some (find place_cmp p (es ++ e ∷ [])) ≡ true → (b : Bool) → is_some (cond b (Some x.1) (find place_cmp p (es ++ e ∷ []))) ≡ true
  by_test more true = refl
  by_test more false = more

-- a place that was changed has a last change
has_last : (cs : List Change) (p : Place) → Changes cs p → is_some (find place_cmp p (reverse (map keyed_change cs))) ≡ true
has_last [] p there = absurd there
has_last (c ∷ cs) p (inl is) =
    ap (λ es. is_some (find place_cmp p es)) (reverse-append (keyed_change c ∷ []) (map keyed_change cs))
    ∙ found_last p (reverse (map keyed_change cs)) (keyed_change c) (ap (λ q. same_place p q) (sym is) ∙ same_place-itself p)
has_last (c ∷ cs) p (inr later) =
    ap (λ es. is_some (find place_cmp p es)) (reverse-append (keyed_change c ∷ []) (map keyed_change cs))
    ∙ found_still p (reverse (map keyed_change cs)) (keyed_change c) (has_last cs p later)

pub last_is_there : (cs : List Change) (p : Place) → Changes cs p → is_some (get (last_changes cs) p) ≡ true
last_is_there cs p there = ap is_some (get-from_entries place_total (reverse (map keyed_change cs)) p) ∙ has_last cs p there

-- a place that has a last change was changed
last_there : (cs : List Change) (p : Place) → is_some (get (last_changes cs) p) ≡ true → Changes cs p
last_there cs p some = by_last (get (last_changes cs) p) refl some where
  by_last : (o : Option Change) → get (last_changes cs) p ≡ o → is_some o ≡ true → Changes cs p
  by_last (Some c) is some = last_is_changed cs p c is
  by_last None is some = cc

-- changes with the same last ones are about the same places
same_places : (cs ds : List Change) (p : Place) → last_changes cs ≡ last_changes ds → Changes cs p → Changes ds p
same_places cs ds p same there =
    last_there ds p
    (ap (λ (m : FinMap place_cmp Change). is_some (get m p)) (sym same) ∙ last_is_there cs p there)

-- where there are some, there are some of the others
has_alike : (cs ds : List Change) → last_changes cs ≡ last_changes ds → IsTrue (not (length cs == 0)) → IsTrue (not (length ds == 0))
has_alike cs [] same some =
    let none : cs ≡ [] = none_changed cs (ap (λ (m : FinMap place_cmp Change). len m) same ∙ changed_none [] refl) in
    absurd (false≢true (sym (ap (λ (l : List Change). not (length l == 0)) none) ∙ some))
has_alike cs (d ∷ ds) same some = ap not (ne_eqb (length (d ∷ ds)) 0 (λ none. omega (arith, none)))

module _ (known : KnownCosts) (w : World) (sessions : FinMap nat_cmp Transaction) (c : IsCounted known w)
    (alike : (s : ℕ) → last_changes (transaction (with_sessions w sessions) s).changes ≡ last_changes (transaction w s).changes)
    (numbers : (s : ℕ) → IsSome (get sessions s) → s < length known.sessions) where
  -- the other world
  abbrev next : World
  next = with_sessions w sessions

  known_next : IsKnownOf known next
  known_next = record {
    blocks = c.known_of.blocks;
    kept = c.known_of.kept;
    committed = c.known_of.committed;
    sessions = λ s. c.known_of.sessions s ∙ ap (λ (m : FinMap place_cmp Change). map (opened_one (tables_of w.history)) (values m)) (sym (alike s));
    numbers = numbers;
  }

  apart_next : ChangesAreApart next
  apart_next one two place differ mine his =
      c.apart one two place differ (same_places (transaction next one).changes (transaction w one).changes place (alike one) mine)
      (same_places (transaction next two).changes (transaction w two).changes place (alike two) his)

  need_same : need next ≡ need w
  need_same = sym (need_is known next known_next apart_next) ∙ need_is known w c.known_of c.apart

  -- it is counted
  pub counted_alike : IsCounted known next
  counted_alike = record {
    known_of = known_next;
    tables = c.tables;
    numbers = c.numbers;
    apart = apart_next;
    rows_fit = c.rows_fit;
    changes_fit = λ s has. omega (arith, need_same, c.changes_fit s (has_alike (transaction next s).changes (transaction w s).changes (alike s) has));
  }

-- a number that is none of a session has no transaction
pub nobody : (w : World) → AreNumbered w → (s : ℕ) → is_session s ≡ false → get w.sessions s ≡ None
nobody w numbered s none = by_get (get w.sessions s) refl where
  by_get : (o : Option Transaction) → get w.sessions s ≡ o → o ≡ None
  by_get None is = refl
  by_get (Some x) is = absurd (false≢true (sym none ∙ numbered s (ap is_some is)))

-- the numbers of sessions are small
numbered_below : (w : World) → AreNumbered w → (s : ℕ) → IsSome (get w.sessions s) → s < 65
numbered_below w numbered s there = session-below s (numbered s there)

-- worlds whose sessions have the changes of the same transactions
module _ (x : Ongoing) (w : World) (has : (s : ℕ) → IsTrue (is_session s) → changes_of x s ≡ last_changes (transaction w s).changes) (numbered : AreNumbered w)
    (sessions : FinMap nat_cmp Transaction) (stands : MatchesWorld x (with_sessions w sessions)) where
  -- have the same last changes
  matched : (s : ℕ) → last_changes (transaction (with_sessions w sessions) s).changes ≡ last_changes (transaction w s).changes
  matched s = by_number (is_session s) refl where
    by_number : (b : Bool) → is_session s ≡ b → last_changes (transaction (with_sessions w sessions) s).changes ≡ last_changes (transaction w s).changes
    by_number true is = sym (stands.changes s is) ∙ has s is
    by_number false none =
        ap (λ o. last_changes (unwrap_or o no_transaction).changes) (nobody (with_sessions w sessions) stands.numbered s none ∙ sym (nobody w numbered s none))

  -- one is counted where the other is
  pub counted_matched : (known : KnownCosts) → IsCounted known w → IsCounted known (with_sessions w sessions)
  counted_matched known c =
      counted_alike known w sessions c matched
      (λ s there. let below = numbered_below (with_sessions w sessions) stands.numbered s there in let many = c.numbers in omega (arith, below, many))
