-- The pages of all tables from what is known.
--     grown_all      what the changes of sessions make the cost of a table grow
--     pages_are      the pages
use Rattle.std.proofs.Common.{◌≡◌, inl, inr, refl, sym, ap, ◌∙◌, subst, ℕ, zero, suc, ◌+◌, ◌<◌, ◌≤◌, T, List, [], ◌∷◌, ◌++◌, map, Option, Some, None, arith}
use Rattle.std.specs.Prelude.{sum_by, option_map, unwrap_or}
use Rattle.std.specs.List.{flat_map, range_with_len}
use Rattle.std.specs.Ordering.{nat_cmp}
use Rattle.std.specs.Cmp.{nat_cmp_total}
use Rattle.std.specs.FinMap.{get, values, entries, entries_sorted, get-entries, nat_cmp-IsAntisymmetric}
use Rattle.std.specs.FinMap.Entries.{is_sorted, find}
use Rattle.std.proofs.lemmas.List.Sums.{sum_by-cons}
use Rattle.mdb_model.specs.declared.change.Change.{Change}
use Rattle.mdb_model.specs.History.{tables_of}
use Rattle.mdb_model.specs.Sessions.{last_changes, net_changes}
use Rattle.mdb_model.specs.Space.{table_cost, table_pages, every_table, tree_pages, present}
use Rattle.mdb_model.specs.Tables.{Place, Tables, with_changes}
use Rattle.mdb_model.specs.Worlds.{World, Transaction, transaction, no_transaction}
use Rattle.session_rows.proofs.NetRows.{net_rows}
use Rattle.space_rule.specs.KnownCosts.{KnownCosts, growth_on, growth_of, open_table_cost, all_table_pages}
use Rattle.standing.specs.RedoRoom.{AllApart}
use Rattle.standing.proofs.RedoRoom.{changes-append}
use Rattle.session_room.specs.SessionRoom.{Changes, ChangesAreApart}
use Rattle.session_room.proofs.Changing.{not_changed, in_front, behind, either}
use Rattle.known_needs.specs.KnownNeeds.{IsKnownOf, opened}
use Rattle.known_needs.proofs.Found.{others_sorted, find_first, find_later, not_first}
use Rattle.known_needs.proofs.LastChanges.{net_places, net_changed, opened_none}
use Rattle.known_needs.proofs.SessionSums.{same_sum}
use Rattle.known_needs.proofs.CostSums.{keys_apart}
use Rattle.known_needs.proofs.Growths.{grown_by}

-- all changes of sessions
abbrev all_of : List Transaction → List Change
all_of = flat_map (λ x. x.changes)

-- no two of the sessions have changed the same place
abbrev AreApart : List Transaction → Type 0
AreApart [] = Unit {0}
AreApart (x ∷ xs) = ((p : Place) → Changes x.changes p → Changes (all_of xs) p → ⊥) × AreApart xs

module _ (t : Tables) (table : ℕ) where
  -- what the changes of a session make it grow
  abbrev growth_by : Transaction → ℕ
  growth_by x = sum_by (growth_on table) (opened t x.changes)

  -- by the changes of one session, of rows that stand as before
  grown_once : (x : Transaction) (rows : Tables) → ((p : Place) → Changes x.changes p → get rows p ≡ get t p) → table_cost t (with_changes x.changes rows) table ≡ table_cost t rows table + growth_by x
  grown_once x rows same =
      ap (λ r. table_cost t r table) (sym (net_rows x.changes rows))
      ∙ grown_by t table (net_changes x.changes) rows (subst AllApart (sym (net_places x.changes)) (keys_apart (entries (last_changes x.changes)) (entries_sorted (last_changes x.changes))))
      (λ p there. same p (net_changed x.changes p there))

  -- by those of all sessions
  grown_all : (xs : List Transaction) (rows : Tables) → AreApart xs → ((p : Place) → Changes (all_of xs) p → get rows p ≡ get t p)
      → table_cost t (with_changes (all_of xs) rows) table ≡ table_cost t rows table + sum_by growth_by xs
  grown_all [] rows apart same = omega arith
  grown_all (x ∷ xs) rows apart same =
      let next : Tables = with_changes x.changes rows in
      let split : table_cost t (with_changes (x.changes ++ all_of xs) rows) table ≡ table_cost t (with_changes (all_of xs) next) table = ap (λ r. table_cost t r table) (changes-append x.changes (all_of xs) rows) in
      let later = grown_all xs next apart.1 (λ p there. not_changed x.changes rows p (λ mine. apart.0 p mine there) ∙ same p (behind x.changes (all_of xs) p there)) in
      let now = grown_once x rows (λ p mine. same p (in_front x.changes (all_of xs) p mine)) in
      omega (arith, split, later, now, sum_by-cons growth_by x xs)

-- whose change it is
owner : (es : List (ℕ × Transaction)) (p : Place) → T (is_sorted nat_cmp es) → Changes (all_of (map (λ e. e.1) es)) p → (k : ℕ) × (y : Transaction) × (find nat_cmp k es ≡ Some y) × Changes y.changes p
owner [] p sorted there = absurd there
owner (e ∷ es) p sorted there = elim (either e.1.changes (all_of (map (λ x. x.1) es)) p there) [
  | inl mine ↦ (e.0, e.1, find_first nat_cmp nat_cmp_total nat_cmp-IsAntisymmetric e es, mine)
  | inr later ↦ further (owner es p (others_sorted nat_cmp nat_cmp_total nat_cmp-IsAntisymmetric e es sorted) later)
] where
  further : ((k : ℕ) × (y : Transaction) × (find nat_cmp k es ≡ Some y) × Changes y.changes p) → (k : ℕ) × (y : Transaction) × (find nat_cmp k (e ∷ es) ≡ Some y) × Changes y.changes p
  further (k, y, found, changed) = (k, y, find_later nat_cmp nat_cmp_total nat_cmp-IsAntisymmetric e es sorted k y found, changed)

-- the sessions of a world are apart
apart_entries : (w : World) → ChangesAreApart w → (es : List (ℕ × Transaction)) → T (is_sorted nat_cmp es) → ((k : ℕ) (y : Transaction) → find nat_cmp k es ≡ Some y → transaction w k ≡ y) → AreApart (map (λ e. e.1) es)
apart_entries w apart [] sorted each = tt
apart_entries w apart (e ∷ es) sorted each =
    let later : T (is_sorted nat_cmp es) = others_sorted nat_cmp nat_cmp_total nat_cmp-IsAntisymmetric e es sorted in
    (λ p mine there. meets p mine (owner es p later there), apart_entries w apart es later (λ k y found. each k y (find_later nat_cmp nat_cmp_total nat_cmp-IsAntisymmetric e es sorted k y found)))
  where
    meets : (p : Place) → Changes e.1.changes p → ((k : ℕ) × (y : Transaction) × (find nat_cmp k es ≡ Some y) × Changes y.changes p) → ⊥
    meets p mine (k, y, found, changed) =
        apart e.0 k p (λ same. not_first nat_cmp nat_cmp_total nat_cmp-IsAntisymmetric e es sorted k y found (sym same))
        (subst (λ (x : Transaction). Changes x.changes p) (sym (each e.0 e.1 (find_first nat_cmp nat_cmp_total nat_cmp-IsAntisymmetric e es))) mine)
        (subst (λ (x : Transaction). Changes x.changes p) (sym (each k y (find_later nat_cmp nat_cmp_total nat_cmp-IsAntisymmetric e es sorted k y found))) changed)

-- sums over numbers in a row, of the same terms
same_range : (f g : ℕ → ℕ) (a n : ℕ) → ((i : ℕ) → a ≤ i → i < a + n → f i ≡ g i) → sum_by f (range_with_len a n) ≡ sum_by g (range_with_len a n)
same_range f g a zero same = refl
same_range f g a (suc n) same =
    let x = sum_by-cons f a (range_with_len (a + 1) n) in
    let y = sum_by-cons g a (range_with_len (a + 1) n) in
    let first = same a (omega arith) (omega arith) in
    let rest = same_range f g (a + 1) n (λ i low high. same i (omega (arith, low)) (omega (arith, high))) in
    omega arith

module _ (known : KnownCosts) (w : World) (is : IsKnownOf known w) (apart : ChangesAreApart w) where
  -- the committed rows
  abbrev t : Tables
  t = tables_of w.history

  -- the growth of a table by all sessions
  growth_is : (table : ℕ) → growth_of table known.sessions ≡ sum_by (growth_by t table) (values w.sessions)
  growth_is table =
      same_sum (λ changes. sum_by (growth_on table) changes) (growth_by t table) [] refl (entries w.sessions) known.sessions (entries_sorted w.sessions)
      (λ session. ap (sum_by (growth_on table)) (is.sessions session) ∙ at (get w.sessions session) ∙ ap (λ o. unwrap_or (option_map (growth_by t table) o) 0) (get-entries w.sessions session))
    where
      at : (o : Option Transaction) → growth_by t table (unwrap_or o no_transaction) ≡ unwrap_or (option_map (growth_by t table) o) 0
      at None = ap (sum_by (growth_on table)) (opened_none t)
      at (Some x) = refl

  -- the cost of a table
  cost_is : (table : ℕ) → 1 ≤ table → table ≤ 500 → open_table_cost known.committed known.sessions table ≡ table_cost t (present w) table
  cost_is table low high =
      let all = grown_all t table (values w.sessions) t (apart_entries w apart (entries w.sessions) (entries_sorted w.sessions) (λ k y found. ap (λ o. unwrap_or o no_transaction) (get-entries w.sessions k ∙ found))) (λ p there. refl) in
      omega (arith, all, growth_is table, is.committed table low high)

  -- the pages of all tables
  pub pages_are : all_table_pages known.committed known.sessions ≡ tree_pages t (present w)
  unfolding every_table
  pages_are = same_range (λ table. table_pages (open_table_cost known.committed known.sessions table)) (λ table. table_pages (table_cost t (present w) table)) 1 500
      (λ table low high. ap table_pages (cost_is table low (omega (arith, high))))
