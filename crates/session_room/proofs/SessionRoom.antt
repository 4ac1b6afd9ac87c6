-- The room that the changes of sessions need.
--     apart_by_locks      locked changes are apart
--     commit_room, net_room      what all sessions need suffices for the commit of one
--     room_after      the rows after it have room
--     rollback_need, commit_need      neither end of a transaction needs more
use Rattle.std.proofs.Common.{◌≡◌, ◌≢◌, inl, inr, refl, sym, ap, ◌∙◌, subst, ℕ, ◌+◌, ◌-◌, ◌*◌, ◌≤◌, Bool, true, false, cond, not, T, List, [], ◌∷◌, ◌++◌, Contains, length, map, Option, Some, None, arith}
use Rattle.std.specs.Prelude.{sum_by, option_map, unwrap_or}
use Rattle.std.specs.List.{flat_map, AllByRecursion}
use Rattle.std.specs.Ordering.{nat_cmp, eq_by_cmp, is_eq, is_lt}
use Rattle.std.specs.Cmp.{tied_itself, nat_cmp_total}
use Rattle.std.specs.FinMap.{FinMap, get, remove, values, entries, entries_sorted, get-entries, get-remove, keys, len, nat_cmp-IsAntisymmetric}
use Rattle.std.specs.FinMap.Entries.{is_sorted, below_all, find, where_key, find-where_key, is_sorted-where_key, same_entries}
use Rattle.std.proofs.lemmas.Bool.{false≢true, false_from_ne_true, le-leb, or_left}
use Rattle.std.proofs.lemmas.List.Sums.{sum_by-cons, sum_by-append}
use Rattle.std.proofs.lemmas.Grind.{flat_map-append}
use Rattle.mdb_model.specs.declared.change.Change.{Change}
use Rattle.mdb_model.specs.Space.{cost_at, length_at, tree_pages, undo_pages, undo_now, before_cost, ceil_div, present, need, has_room, commit_has_room, is_enough, converter_pages, kept_for_snapshots, kept_for_backup}
use Rattle.mdb_model.specs.History.{tables_of}
use Rattle.mdb_model.specs.Tables.{Place, Tables, place_cmp, with_changes, place_of}
use Rattle.mdb_model.specs.Worlds.{World, Transaction, Lock, ExclusiveKey, no_transaction, transaction, without_transaction}
use Rattle.mdb_model.specs.Sessions.{last_changes, net_changes, same_place, conflict}
use Rattle.mdb_model.specs.Steps.{committed_by}
use Rattle.mdb_model.proofs.Computing.{entries-empty}
use Rattle.mdb_model.proofs.SerialPlaces.{same_place-itself, with_changes-agree, with_commits-push}
use Rattle.transactions.proofs.NetChanges.{none_changed, changed_none}
use Rattle.session_rows.proofs.NetRows.{net_rows}
use Rattle.standing.specs.RedoRoom.{NoMoreCost}
use Rattle.standing.proofs.RedoRoom.{changes-append}
use Rattle.standing.proofs.CostLaws.{pages_mono, room_mono}
use Rattle.session_room.proofs.Sorted.{first, second, apart, same_key, itself, found_first, found_later}
use Rattle.session_room.specs.SessionRoom.{Changes, AreChangesLocked, ChangesAreApart}
use Rattle.session_room.proofs.Changing.{one_among, changed_or_not, not_changed, in_front, behind, either, last_is_changed, each_found, last_of_net}

-- locked changes of two sessions are of two places
pub apart_by_locks : (w : World) → AreChangesLocked w
    → ((one two : ℕ) (a b : Lock) → one ≢ two → Contains (transaction w one).locks a → Contains (transaction w two).locks b → conflict a b ≡ false)
    → ChangesAreApart w
apart_by_locks w locked calm one two place differ here there = both (one_among (transaction w one).changes place here) (one_among (transaction w two).changes place there) where
  both : ((c : Change) × Contains (transaction w one).changes c × (place ≡ place_of c)) → ((d : Change) × Contains (transaction w two).changes d × (place ≡ place_of d)) → ⊥
  both (c, mine, at) (d, his, also) =
      false≢true (sym (calm one two (ExclusiveKey (place_of c)) (ExclusiveKey (place_of d)) differ (locked one c mine) (locked two d his))
      ∙ ap (same_place (place_of c)) (sym also ∙ at) ∙ same_place-itself (place_of c))

-- The changes of one session among those of others

-- all their changes
abbrev all_of : List Transaction → List Change
all_of = flat_map (λ x. x.changes)

module _ (front back : List Transaction) (x : Transaction) (tables : Tables)
    (apart : (p : Place) → Changes x.changes p → Changes (all_of (front ++ back)) p → ⊥) where
  abbrev own : Tables
  own = with_changes x.changes tables

  abbrev everything : Tables
  everything = with_changes (all_of (front ++ x ∷ back)) tables

  abbrev others : Tables
  others = with_changes (all_of (front ++ back)) tables

  abbrev others_after : Tables
  others_after = with_changes (all_of (front ++ back)) own

  abbrev before : Tables
  before = with_changes (all_of front) tables

  others_split : all_of (front ++ back) ≡ all_of front ++ all_of back
  others_split = flat_map-append (λ (y : Transaction). y.changes) front back

  everything_is : everything ≡ with_changes (all_of back) (with_changes x.changes before)
  everything_is =
      ap (λ cs. with_changes cs tables) (flat_map-append (λ (t : Transaction). t.changes) front (x ∷ back))
      ∙ changes-append (all_of front) (x.changes ++ all_of back) tables
      ∙ changes-append x.changes (all_of back) before

  others_are : (t : Tables) → with_changes (all_of (front ++ back)) t ≡ with_changes (all_of back) (with_changes (all_of front) t)
  others_are t =
      ap (λ cs. with_changes cs t) others_split
      ∙ changes-append (all_of front) (all_of back) t

  module _ (p : Place) (mine : Changes x.changes p) where
    not_in_front : Changes (all_of front) p → ⊥
    not_in_front there = apart p mine (subst (λ cs. Changes cs p) (sym others_split) (in_front (all_of front) (all_of back) p there))

    not_behind : Changes (all_of back) p → ⊥
    not_behind there = apart p mine (subst (λ cs. Changes cs p) (sym others_split) (behind (all_of front) (all_of back) p there))

    everything_own : get everything p ≡ get own p
    everything_own =
        ap (λ t. get t p) everything_is
        ∙ not_changed (all_of back) (with_changes x.changes before) p not_behind
        ∙ with_changes-agree x.changes before tables p (not_changed (all_of front) tables p not_in_front)

    others_none : (t : Tables) → get (with_changes (all_of (front ++ back)) t) p ≡ get t p
    others_none t = not_changed (all_of (front ++ back)) t p (apart p mine)

  module _ (p : Place) (not_mine : Changes x.changes p → ⊥) where
    everything_others : get everything p ≡ get others p
    everything_others =
        ap (λ t. get t p) everything_is
        ∙ with_changes-agree (all_of back) (with_changes x.changes before) before p (not_changed x.changes before p not_mine)
        ∙ sym (ap (λ t. get t p) (others_are tables))

    own_none : get own p ≡ get tables p
    own_none = not_changed x.changes tables p not_mine

    others_still : get others_after p ≡ get others p
    others_still = with_changes-agree (all_of (front ++ back)) own tables p own_none

  cost_same : (a b : Tables) (p : Place) → get a p ≡ get b p → cost_at a p ≡ cost_at b p
  cost_same a b p is = ap (λ o. unwrap_or (option_map (λ value. 8 + length p.1 + length value) o) 0) is

  commit_costs : NoMoreCost tables own tables everything
  commit_costs p = elim (changed_or_not x.changes p) [
    | inl mine ↦ omega (arith, cost_same everything own p (everything_own p mine))
    | inr none ↦ omega (arith, cost_same own tables p (own_none p none))
  ]

  rollback_costs : NoMoreCost tables others tables everything
  rollback_costs p = elim (changed_or_not x.changes p) [
    | inl mine ↦ omega (arith, cost_same others tables p (others_none p mine tables))
    | inr none ↦ omega (arith, cost_same everything others p (everything_others p none))
  ]

  after_costs : NoMoreCost own others_after tables everything
  after_costs p = elim (changed_or_not x.changes p) [
    | inl mine ↦ omega (arith, cost_same everything own p (everything_own p mine), cost_same others_after own p (others_none p mine own))
    | inr none ↦ omega (arith, cost_same own tables p (own_none p none), cost_same others_after others p (others_still p none), cost_same everything others p (everything_others p none))
  ]

-- Undo files

-- before images cost the same on tables that agree at their places
before_same : (a b : Tables) (es : List (Place × Change)) → AllByRecursion (λ e. get a e.0 ≡ get b e.0) es → before_cost a (map (λ e. e.0) es) ≡ before_cost b (map (λ e. e.0) es)
before_same a b [] agree = refl
before_same a b (e ∷ es) agree =
    let one : length_at a e.0 ≡ length_at b e.0 = ap (λ o. unwrap_or (option_map (λ value. length value) o) 0) agree.0 in
    let rest = before_same a b es agree.1 in
    let both : 16 + length e.0.1 + length_at a e.0 + before_cost a (map (λ e. e.0) es) ≡ 16 + length e.0.1 + length_at b e.0 + before_cost b (map (λ e. e.0) es) = omega (arith, one, rest) in
    sum_by-cons (λ place. 16 + length place.1 + length_at a place) e.0 (map (λ e. e.0) es)
    ∙ both
    ∙ sym (sum_by-cons (λ place. 16 + length place.1 + length_at b place) e.0 (map (λ e. e.0) es))

-- the undo pages of changes are the same on tables that agree where they are
undo_same : (cs : List Change) (a b : Tables) → ((p : Place) → Changes cs p → get a p ≡ get b p) → undo_pages a cs ≡ undo_pages b cs
undo_same [] a b agree = refl
undo_same (c ∷ cs) a b agree =
    ap (λ cost. 1 + ceil_div (2 * cost) 8128)
    (before_same a b (entries m)
    (each_found (λ p. get a p ≡ get b p) (entries m) (entries_sorted m) (λ p last there. agree p (last_is_changed (c ∷ cs) p last (get-entries m p ∙ there)))))
  where
    m : FinMap place_cmp Change
    m = last_changes (c ∷ cs)

-- so are those of sessions
undo_all_same : (ts : List Transaction) (a b : Tables) → ((p : Place) → Changes (all_of ts) p → get a p ≡ get b p) → sum_by (λ x. undo_pages a x.changes) ts ≡ sum_by (λ x. undo_pages b x.changes) ts
undo_all_same [] a b agree = refl
undo_all_same (t ∷ ts) a b agree =
    let one = undo_same t.changes a b (λ p there. agree p (in_front t.changes (all_of ts) p there)) in
    let rest = undo_all_same ts a b (λ p there. agree p (behind t.changes (all_of ts) p there)) in
    let both : undo_pages a t.changes + sum_by (λ x. undo_pages a x.changes) ts ≡ undo_pages b t.changes + sum_by (λ x. undo_pages b x.changes) ts = omega (arith, one, rest) in
    sum_by-cons (λ (x : Transaction). undo_pages a x.changes) t ts
    ∙ both
    ∙ sym (sum_by-cons (λ (x : Transaction). undo_pages b x.changes) t ts)

-- A session among the others

abbrev but : ℕ → ℕ → Bool
but session k = not (eq_by_cmp nat_cmp session k)

all_pass : (q : ℕ) (es : List (ℕ × Transaction)) → T (below_all nat_cmp q es) → where_key nat_cmp (but q) es ≡ es
all_pass q [] below = refl
all_pass q (e ∷ es) below =
    ap (λ b. cond (not b) (e ∷ where_key nat_cmp (but q) es) (where_key nat_cmp (but q) es)) (apart (nat_cmp q e.0) (first (is_lt (nat_cmp q e.0)) (below_all nat_cmp q es) below))
    ∙ ap (λ l. e ∷ l) (all_pass q es (second (is_lt (nat_cmp q e.0)) (below_all nat_cmp q es) below))

-- the sessions before and after one
record Splits (session : ℕ) (x : Transaction) (es : List (ℕ × Transaction)) : Type 0 where
  front : List Transaction
  back : List Transaction
  all : map (λ e. e.1) es ≡ front ++ x ∷ back
  but_one : map (λ e. e.1) (where_key nat_cmp (but session) es) ≡ front ++ back

split : (session : ℕ) (x : Transaction) (es : List (ℕ × Transaction)) → T (is_sorted nat_cmp es) → find nat_cmp session es ≡ Some x → Splits session x es
split session x [] sorted found = cc
split session x (e ∷ es) sorted found = by_test (split session x es (second (below_all nat_cmp e.0 es) (is_sorted nat_cmp es) sorted)) (eq_by_cmp nat_cmp session e.0) refl found where
  by_test : (find nat_cmp session es ≡ Some x → Splits session x es) → (b : Bool) → eq_by_cmp nat_cmp session e.0 ≡ b → cond b (Some e.1) (find nat_cmp session es) ≡ Some x → Splits session x (e ∷ es)
  by_test further true here is =
      let same : session ≡ e.0 = same_key nat_cmp nat_cmp_total nat_cmp-IsAntisymmetric session e.0 here in
      let one : e.1 ≡ x = ap (λ o. unwrap_or o x) is in
      record {
        front = [];
        back = map (λ e. e.1) es;
        all = ap (λ y. y ∷ map (λ e. e.1) es) one;
        but_one = ap (λ b. map (λ e. e.1) (cond (not b) (e ∷ where_key nat_cmp (but session) es) (where_key nat_cmp (but session) es))) here
            ∙ ap (map (λ e. e.1)) (all_pass session es (subst (λ k. T (below_all nat_cmp k es)) (sym same) (first (below_all nat_cmp e.0 es) (is_sorted nat_cmp es) sorted)));
      }
  by_test further false other is =
      let s = further is in
      record {
        front = e.1 ∷ s.front;
        back = s.back;
        all = ap (λ l. e.1 ∷ l) s.all;
        but_one = ap (λ b. map (λ e. e.1) (cond (not b) (e ∷ where_key nat_cmp (but session) es) (where_key nat_cmp (but session) es))) other
            ∙ ap (λ l. e.1 ∷ l) s.but_one;
      }

-- whose change it is
who : (es : List (ℕ × Transaction)) (p : Place) → T (is_sorted nat_cmp es) → Changes (all_of (map (λ e. e.1) es)) p → (k : ℕ) × (y : Transaction) × (find nat_cmp k es ≡ Some y) × Changes y.changes p
who [] p sorted there = absurd there
who (e ∷ es) p sorted there = elim (either e.1.changes (all_of (map (λ e. e.1) es)) p there) [
  | inl mine ↦ (e.0, e.1, found_first nat_cmp nat_cmp_total nat_cmp-IsAntisymmetric e es, mine)
  | inr later ↦ further (who es p (second (below_all nat_cmp e.0 es) (is_sorted nat_cmp es) sorted) later)
] where
  further : ((k : ℕ) × (y : Transaction) × (find nat_cmp k es ≡ Some y) × Changes y.changes p) → (k : ℕ) × (y : Transaction) × (find nat_cmp k (e ∷ es) ≡ Some y) × Changes y.changes p
  further (k, y, found, changed) = (k, y, found_later nat_cmp nat_cmp_total nat_cmp-IsAntisymmetric e es sorted k y found, changed)

-- where a session has none of the entries all pass
none_pass : (session : ℕ) (es : List (ℕ × Transaction)) → find nat_cmp session es ≡ None → where_key nat_cmp (but session) es ≡ es
none_pass session [] none = refl
none_pass session (e ∷ es) none = by_test (none_pass session es) (eq_by_cmp nat_cmp session e.0) none where
  by_test : (find nat_cmp session es ≡ None → where_key nat_cmp (but session) es ≡ es) → (b : Bool) → cond b (Some e.1) (find nat_cmp session es) ≡ None → cond (not b) (e ∷ where_key nat_cmp (but session) es) (where_key nat_cmp (but session) es) ≡ e ∷ es
  by_test more true some = cc
  by_test more false further = ap (λ l. e ∷ l) (more further)

-- all changes and undo pages as those of one session among the others
record Parts (session : ℕ) (x : Transaction) (es : List (ℕ × Transaction)) : Type 0 where
  front : List Transaction
  back : List Transaction
  all : all_of (map (λ e. e.1) es) ≡ all_of (front ++ x ∷ back)
  undo : (t : Tables) → sum_by (λ y. undo_pages t y.changes) (map (λ e. e.1) es) ≡ sum_by (λ y. undo_pages t y.changes) front + (undo_pages t x.changes + sum_by (λ y. undo_pages t y.changes) back)
  but_one : map (λ e. e.1) (where_key nat_cmp (but session) es) ≡ front ++ back

sum_split : (t : Tables) (front back : List Transaction) (x : Transaction) → sum_by (λ y. undo_pages t y.changes) (front ++ x ∷ back) ≡ sum_by (λ y. undo_pages t y.changes) front + (undo_pages t x.changes + sum_by (λ y. undo_pages t y.changes) back)
sum_split t front back x =
    sum_by-append (λ (y : Transaction). undo_pages t y.changes) front (x ∷ back)
    ∙ ap (λ n. sum_by (λ y. undo_pages t y.changes) front + n) (sum_by-cons (λ (y : Transaction). undo_pages t y.changes) x back)

parts_of : (session : ℕ) (es : List (ℕ × Transaction)) → T (is_sorted nat_cmp es) → (o : Option Transaction) → find nat_cmp session es ≡ o → Parts session (unwrap_or o no_transaction) es
parts_of session es sorted None none =
    record {
      front = [];
      back = map (λ e. e.1) es;
      all = refl;
      undo = λ t. omega arith;
      but_one = ap (map (λ e. e.1)) (none_pass session es none);
    }
parts_of session es sorted (Some x) found =
    let s = split session x es sorted found in
    record {
      front = s.front;
      back = s.back;
      all = ap all_of s.all;
      undo = λ t. ap (sum_by (λ y. undo_pages t y.changes)) s.all ∙ sum_split t s.front s.back x;
      but_one = s.but_one;
    }

-- what stays when a session is taken away
removed_entries : (m : FinMap nat_cmp Transaction) (session : ℕ) → entries (remove m session) ≡ where_key nat_cmp (but session) (entries m)
removed_entries m session =
    same_entries nat_cmp nat_cmp_total nat_cmp-IsAntisymmetric (entries (remove m session)) (where_key nat_cmp (but session) (entries m))
    (entries_sorted (remove m session)) (is_sorted-where_key nat_cmp (but session) (entries m) (entries_sorted m))
    (λ q.
    sym (get-entries (remove m session) q) ∙ get-remove nat_cmp_total m session q ∙ by_test q (eq_by_cmp nat_cmp q session) refl
    ∙ sym (find-where_key nat_cmp (but session) q (λ n e. ap (but session) (sym (nat_cmp-IsAntisymmetric q n e))) (entries m)))
  where
    by_test : (q : ℕ) (b : Bool) → eq_by_cmp nat_cmp q session ≡ b → cond b None (get m q) ≡ cond (but session q) (find nat_cmp q (entries m)) None
    by_test q true here =
        let gone : but session q ≡ false = ap (but session) (same_key nat_cmp nat_cmp_total nat_cmp-IsAntisymmetric q session here) ∙ ap not (itself nat_cmp nat_cmp_total nat_cmp-IsAntisymmetric session) in
        ap (λ b. cond b (find nat_cmp q (entries m)) None) (sym gone)
    by_test q false there =
        let stays : but session q ≡ true = ap not (false_from_ne_true (eq_by_cmp nat_cmp session q) (λ one. false≢true (sym there ∙ ap (λ k. eq_by_cmp nat_cmp q k) (same_key nat_cmp nat_cmp_total nat_cmp-IsAntisymmetric session q one) ∙ itself nat_cmp nat_cmp_total nat_cmp-IsAntisymmetric q))) in
        get-entries m q ∙ ap (λ b. cond b (find nat_cmp q (entries m)) None) (sym stays)

-- undo pages of the last changes
undo_net : (cs : List Change) (t : Tables) → undo_pages t (net_changes cs) ≡ undo_pages t cs
undo_net [] t = ap (λ (es : List (Place × Change)). undo_pages t (map (λ e. e.1) es)) (entries-empty place_cmp)
undo_net (c ∷ cs) t = by_net (net_changes (c ∷ cs)) refl where
  by_net : (net : List Change) → net_changes (c ∷ cs) ≡ net → undo_pages t net ≡ undo_pages t (c ∷ cs)
  by_net [] is =
      let nothing : (c ∷ cs) ≡ [] = none_changed (c ∷ cs) (ap len (sym (last_of_net (c ∷ cs)) ∙ ap last_changes is) ∙ changed_none [] refl) in
      cc
  by_net (n ∷ ns) is = ap (λ (m : FinMap place_cmp Change). 1 + ceil_div (2 * before_cost t (keys m)) 8128) (ap last_changes (sym is) ∙ last_of_net (c ∷ cs))

module _ (w : World) (session : ℕ) (apart : ChangesAreApart w) where
  abbrev tables : Tables
  tables = tables_of w.history

  abbrev es : List (ℕ × Transaction)
  es = entries w.sessions

  abbrev mine : Transaction
  mine = transaction w session

  parts : Parts session mine es
  parts = subst (λ o. Parts session (unwrap_or o no_transaction) es) (sym (get-entries w.sessions session)) (parts_of session es (entries_sorted w.sessions) (find nat_cmp session es) refl)

  abbrev ahead : List Transaction
  ahead = parts.front

  abbrev after : List Transaction
  after = parts.back

  -- another session with a change at the place
  other : (p : Place) → Changes mine.changes p → ((k : ℕ) × (y : Transaction) × (find nat_cmp k (where_key nat_cmp (but session) es) ≡ Some y) × Changes y.changes p) → ⊥
  other p own_one (k, y, found, changed) = by_test (but session k) refl where
    is : find nat_cmp k (where_key nat_cmp (but session) es) ≡ cond (but session k) (find nat_cmp k es) None
    is = find-where_key nat_cmp (but session) k (λ n e. ap (but session) (sym (nat_cmp-IsAntisymmetric k n e))) es

    by_test : (b : Bool) → but session k ≡ b → ⊥
    by_test false one =
        let nothing : None ≡ Some y = sym (is ∙ ap (λ b. cond b (find nat_cmp k es) None) one) ∙ found in
        cc
    by_test true different =
        let there : find nat_cmp k es ≡ Some y = sym (is ∙ ap (λ b. cond b (find nat_cmp k es) None) different) ∙ found in
        let his : transaction w k ≡ y = ap (λ o. unwrap_or o no_transaction) (get-entries w.sessions k ∙ there) in
        apart session k p (λ same. false≢true (ap not (sym (ap is_eq (tied_itself nat_cmp_total session))) ∙ ap (but session) same ∙ different)) own_one (subst (λ (t : Transaction). Changes t.changes p) (sym his) changed)

  nobody_else : (p : Place) → Changes mine.changes p → Changes (all_of (ahead ++ after)) p → ⊥
  nobody_else p own_one there =
      other p own_one (who (where_key nat_cmp (but session) es) p (is_sorted-where_key nat_cmp (but session) es (entries_sorted w.sessions)) (subst (λ ts. Changes (all_of ts) p) (sym parts.but_one) there))

  present_is : present w ≡ everything ahead after mine tables nobody_else
  present_is = ap (λ cs. with_changes cs tables) parts.all

  undo_is : undo_now w ≡ sum_by (λ y. undo_pages tables y.changes) ahead + (undo_pages tables mine.changes + sum_by (λ y. undo_pages tables y.changes) after)
  undo_is = parts.undo tables

  commit_pages : tree_pages tables (with_changes mine.changes tables) ≤ tree_pages tables (present w)
  commit_pages = subst (λ t. tree_pages tables (with_changes mine.changes tables) ≤ tree_pages tables t) (sym present_is) (pages_mono tables (with_changes mine.changes tables) tables (everything ahead after mine tables nobody_else) (commit_costs ahead after mine tables nobody_else))

  abbrev kept : ℕ
  kept = kept_for_snapshots w + kept_for_backup w

  pub commit_room : need w + 160 ≤ w.blocks → commit_has_room tables mine.changes kept w.blocks ≡ true
  commit_room fits = or_left (is_enough tables (with_changes mine.changes tables) (undo_pages tables mine.changes) kept w.blocks) (is_enough tables (with_changes mine.changes tables) (undo_pages tables mine.changes) kept (w.blocks - 1))
      (le-leb (4 + tree_pages tables (with_changes mine.changes tables) + undo_pages tables mine.changes + 2 * converter_pages w.blocks + kept + 160) w.blocks (omega (arith, fits, commit_pages, undo_is)))

  pub net_room : need w + 160 ≤ w.blocks → commit_has_room tables (net_changes mine.changes) kept w.blocks ≡ true
  net_room fits =
      (λ i. has_room tables (net_rows mine.changes tables i) (undo_net mine.changes tables i) kept w.blocks)
      ∙ commit_room fits

  others_are_those : values (remove w.sessions session) ≡ ahead ++ after
  others_are_those = ap (map (λ e. e.1)) (removed_entries w.sessions session) ∙ parts.but_one

  pub rollback_need : need (without_transaction w session) ≤ need w
  rollback_need =
      let pages : tree_pages tables (present (without_transaction w session)) ≤ tree_pages tables (present w) =
      subst (λ t. tree_pages tables t ≤ tree_pages tables (present w)) (sym (ap (λ ts. with_changes (all_of ts) tables) others_are_those))
      (subst (λ t. tree_pages tables (others ahead after mine tables nobody_else) ≤ tree_pages tables t) (sym present_is)
      (pages_mono tables (others ahead after mine tables nobody_else) tables (everything ahead after mine tables nobody_else) (rollback_costs ahead after mine tables nobody_else))) in
      let undo : undo_now (without_transaction w session) ≡ sum_by (λ y. undo_pages tables y.changes) ahead + sum_by (λ y. undo_pages tables y.changes) after =
      ap (sum_by (λ y. undo_pages tables y.changes)) others_are_those ∙ sum_by-append (λ (y : Transaction). undo_pages tables y.changes) ahead after in
      omega (arith, pages, undo, undo_is)

  next_tables : tables_of (committed_by w session).history ≡ with_changes mine.changes tables
  next_tables = with_commits-push w.history.commits (record { changes = net_changes mine.changes }) w.history.start ∙ net_rows mine.changes tables

  pub commit_need : need (committed_by w session) ≤ need w
  commit_need =
      let mine_now : Tables = with_changes mine.changes tables in
      let shown : present (committed_by w session) ≡ others_after ahead after mine tables nobody_else =
      (λ i. with_changes (all_of (others_are_those i)) (next_tables i)) in
      let pages : tree_pages (tables_of (committed_by w session).history) (present (committed_by w session)) ≤ tree_pages tables (present w) =
      subst (λ t. tree_pages t (present (committed_by w session)) ≤ tree_pages tables (present w)) (sym next_tables)
      (subst (λ t. tree_pages mine_now t ≤ tree_pages tables (present w)) (sym shown)
      (subst (λ t. tree_pages mine_now (others_after ahead after mine tables nobody_else) ≤ tree_pages tables t) (sym present_is)
      (pages_mono mine_now (others_after ahead after mine tables nobody_else) tables (everything ahead after mine tables nobody_else) (after_costs ahead after mine tables nobody_else)))) in
      let undo : undo_now (committed_by w session) ≡ sum_by (λ y. undo_pages tables y.changes) ahead + sum_by (λ y. undo_pages tables y.changes) after =
      (λ i. sum_by (λ y. undo_pages (next_tables i) y.changes) (others_are_those i))
      ∙ undo_all_same (ahead ++ after) mine_now tables (λ p there. not_changed mine.changes tables p (λ own_one. nobody_else p own_one there))
      ∙ sum_by-append (λ (y : Transaction). undo_pages tables y.changes) ahead after in
      omega (arith, pages, undo, undo_is)

  pub room_after : need w + 160 ≤ w.blocks → has_room (tables_of (committed_by w session).history) (tables_of (committed_by w session).history) 0 kept w.blocks ≡ true
  room_after fits =
      let now : Tables = with_changes mine.changes tables in
      subst (λ t. has_room t t 0 kept w.blocks ≡ true) (sym next_tables)
      (room_mono now now tables now 0 (undo_pages tables mine.changes) kept w.blocks (λ p. omega arith) (omega arith) (commit_room fits))
