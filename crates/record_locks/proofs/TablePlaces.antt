-- The places of a session's locks, by table.
--     table-tie      tables tie where their numbers are the same
--     found, keys_in, keys_at      the keys that a table has, if it is there
--     any-key      a test that only places of one table pass
--     any-put, any-set, same-set      a new table, one key more in a table, and the same keys in one
--     any-insert_key, any-insert_table      a set of keys, and one of tables, with one more
--     any-number      a table in a set, by its number
--     other-place, same-key, any-of_table      how places of a table are tested by their keys
use Rattle.std.proofs.Common.{◌≡◌, refl, sym, ap, ◌∙◌, ℕ, Bool, true, false, not, ◌||◌, ◌==◌, ◌↔◌, IsTrue, length, arith, cond, List, [], ◌∷◌, ◌++◌, map, Option, Some, None, is_some}
use Rattle.std.proofs.lemmas.Bool.{eqb-true, eq-eqb}
use Rattle.std.proofs.lemmas.Cmp.{tied_itself}
use Rattle.std.proofs.lemmas.List.Folds.{list_any-append}
use Rattle.std.specs.List.{list_any, AllByRecursion}
use Rattle.std.specs.List.Sorted.{IsStrictlySortedBy}
use Rattle.std.specs.declared.cmp.Ordering.{Ordering}
use Rattle.std.specs.declared.cmp.Ordering.TheVariants.{Less, Equal, Greater}
use Rattle.std.specs.Ordering.{is_eq, nat_cmp, match_ordering, ordering_then}
use Rattle.std.specs.Cmp.{IsTotalOrder, on_total, nat_cmp_total}
use Rattle.std.specs.Cmp.Lexicographic.{slice_cmp}
use Rattle.std.specs.FinMap.{IsAntisymmetric, nat_cmp-IsAntisymmetric, slice_cmp-IsAntisymmetric}
use Rattle.std.specs.BTreeSet.{BTreeSet, insert_key, btree_set_len}
use Rattle.std.specs.BTreeMap.{is_at, insert_entry}
use Rattle.std.specs.Map.{lookup, keys_of, set_value}
use Rattle.mdb_model.specs.declared.name.Table.{Table}
use Rattle.mdb_model.specs.Tables.{Place}
use Rattle.mdb_model.specs.Sessions.{same_place}
use Rattle.sorted_places.proofs.Tests.{any-map, tie-eqb}
use Rattle.record_locks.specs.LockedPlaces.{TableKeys, KeysByTable, all_places}
use Rattle.record_locks.specs.LockedTables.{table_number, table_cmp}

-- Booleans

or_none : (a b : Bool) → b ≡ false → (a || b) ≡ a
or_none true b none = refl
or_none false b none = none

or_first : (a b c : Bool) → ((a || c) || b) ≡ ((a || b) || c)
or_first true b c = refl
or_first false true true = refl
or_first false true false = refl
or_first false false true = refl
or_first false false false = refl

or_turned : (a b : Bool) → (a || b) ≡ (b || a)
or_turned true true = refl
or_turned true false = refl
or_turned false true = refl
or_turned false false = refl

or_there : (a b c : Bool) → a ≡ c → (a || b) ≡ ((a || b) || c)
or_there true b c same = refl
or_there false true c same = refl
or_there false false c same = same

or_grouped : (a b c : Bool) → (a || (b || c)) ≡ ((a || b) || c)
or_grouped true b c = refl
or_grouped false b c = refl

fails-each : {X : Type 0} (test : X → Bool) (xs : List X) → ((x : X) → test x ≡ false)
    → list_any test xs ≡ false
fails-each test [] fails = refl
fails-each test (x ∷ xs) fails = (λ i. fails x i || fails-each test xs fails i)

-- Tables

table_total : IsTotalOrder table_cmp
table_total = on_total (λ table. table.0) nat_cmp_total

pub table-tie : (t u : Table) → is_eq (table_cmp t u) ≡ (t.0 == u.0)
table-tie t u = (λ i. tie-eqb t.0 i u.0)

-- tables that tie have the same number
same-number : (t u : Table) → is_eq (table_cmp t u) ≡ true → t.0 ≡ u.0
same-number t u tie = eqb-true t.0 u.0 (sym (table-tie t u) ∙ tie)

-- and those that do not tie have others
other-number : (t u : Table) → is_eq (table_cmp t u) ≡ false → (t.0 == u.0) ≡ false
other-number t u other = sym (table-tie t u) ∙ other

-- what tells the table of an entry
abbrev is_of : Table → Table → Bool
is_of t = is_at (table_cmp t)

-- the keys of a table, if it is there
abbrev pub found : Table → KeysByTable → Option (BTreeSet (List ℕ))
found t es = lookup (is_of t) es

-- the keys of a table that may not be there
abbrev pub keys_in : Option (BTreeSet (List ℕ)) → List (List ℕ)
keys_in None = []
keys_in (Some keys) = keys.keys

-- the keys that a table has
abbrev pub keys_at : Table → KeysByTable → List (List ℕ)
keys_at t es = keys_in (found t es)

-- what is found, by whether the first table is the one that is sought
found-first : (t : Table) (e : TableKeys) (es : KeysByTable) (b : Bool) → is_of t e.0 ≡ b
    → found t (e ∷ es) ≡ cond b (Some e.1) (found t es)
found-first t e es b is = ap (λ b. cond b (Some e.1) (found t es)) is

-- a test of all places, table by table
any-tables : (test : Place → Bool) (e : TableKeys) (es : KeysByTable) → list_any test (all_places (e ∷ es))
    ≡ (list_any (λ key. test (e.0.0, key)) e.1.keys || list_any test (all_places es))
any-tables test e es =
    list_any-append test (map (λ key. (e.0.0, key)) e.1.keys) (all_places es)
    ∙ ap (λ b. b || list_any test (all_places es)) (any-map test (λ key. (e.0.0, key)) e.1.keys)

module _ (t : Table) (test : Place → Bool) (only : (p : Place) → (t.0 == p.0) ≡ false → test p ≡ false) where
  -- a place of another table does not pass
  fails-table : (u : Table) (keys : List (List ℕ)) → is_eq (table_cmp t u) ≡ false
      → list_any (λ key. test (u.0, key)) keys ≡ false
  fails-table u keys other =
      fails-each (λ key. test (u.0, key)) keys (λ key. only (u.0, key) (other-number t u other))

  none-above : (es : KeysByTable) → AllByRecursion (λ u. table_cmp t u ≡ Less) (keys_of es)
      → list_any test (all_places es) ≡ false
  none-above [] each = refl
  none-above (e ∷ es) each =
      any-tables test e es
      ∙ (λ i. fails-table e.0 e.1.keys (ap is_eq each.0) i || none-above es each.1 i)

  -- what the places pass is what those of the table pass
  abbrev AreTested : KeysByTable → Type 0
  AreTested es = list_any test (all_places es) ≡ list_any (λ key. test (t.0, key)) (keys_at t es)

  -- only the keys of its own table pass the test
  pub any-key : (es : KeysByTable) → IsStrictlySortedBy table_cmp (keys_of es) → AreTested es
  unfolding IsStrictlySortedBy
  any-key [] ascend = refl
  any-key (e ∷ es) ascend = by_tie (any-key es ascend.1) (is_of t e.0) refl where
    -- what is above a table is above one that ties
    above : (ks : List Table) → table_cmp t e.0 ≡ Equal → AllByRecursion (λ u. table_cmp e.0 u ≡ Less) ks
        → AllByRecursion (λ u. table_cmp t u ≡ Less) ks
    above [] tie each = tt
    above (k ∷ ks) tie each = (table_total.congr t e.0 k tie ∙ each.0, above ks tie each.1)

    is_equal : (o : Ordering) → is_eq o ≡ true → o ≡ Equal
    is_equal Less is = cc
    is_equal Equal is = refl
    is_equal Greater is = cc

    by_tie : AreTested es → (b : Bool) → is_of t e.0 ≡ b → AreTested (e ∷ es)
    by_tie rest true is =
        any-tables test e es
        ∙ or_none _ _ (none-above es (above (keys_of es) (is_equal (table_cmp t e.0) is) ascend.0))
        ∙ ap (λ n. list_any (λ key. test (n, key)) e.1.keys) (sym (same-number t e.0 is))
        ∙ ap (λ o. list_any (λ key. test (t.0, key)) (keys_in o)) (sym (found-first t e es true is))
    by_tie rest false is =
        any-tables test e es
        ∙ (λ i. fails-table e.0 e.1.keys is i || rest i)
        ∙ ap (λ o. list_any (λ key. test (t.0, key)) (keys_in o)) (sym (found-first t e es false is))

module _ (t : Table) (now : BTreeSet (List ℕ)) where
  -- the keys of a new table, and of one that is there, are set
  abbrev put_at : KeysByTable → KeysByTable
  put_at es = insert_entry table_cmp es t now

  abbrev set_at : KeysByTable → KeysByTable
  set_at es = set_value (is_of t) es now

  put-first : (e : TableKeys) (es : KeysByTable) (o : Ordering) → table_cmp t e.0 ≡ o
      → put_at (e ∷ es) ≡ match_ordering o ((t, now) ∷ e ∷ es) ((e.0, now) ∷ es) (e ∷ put_at es)
  put-first e es o is =
      ap (λ o. match_ordering o ((t, now) ∷ e ∷ es) ((e.0, now) ∷ es) (e ∷ put_at es)) is

  set-first : (e : TableKeys) (es : KeysByTable) (b : Bool) → is_of t e.0 ≡ b
      → set_at (e ∷ es) ≡ cond b ((e.0, now) ∷ es) (e ∷ set_at es)
  set-first e es b is = ap (λ b. cond b ((e.0, now) ∷ es) (e ∷ set_at es)) is

  module _ (key : List ℕ) (test : Place → Bool) where
    abbrev any_in : KeysByTable → Bool
    any_in es = list_any test (all_places es)

    abbrev of_table : Table → List (List ℕ) → Bool
    of_table u keys = list_any (λ k. test (u.0, k)) keys

    -- the place more
    abbrev more : Bool
    more = test (t.0, key)

    abbrev Puts : KeysByTable → Type 0
    Puts es = found t es ≡ None → any_in (put_at es) ≡ (any_in es || more)

    -- a table that was not there
    pub any-put : ((any : List ℕ → Bool) → list_any any now.keys ≡ any key) → (es : KeysByTable) → Puts es
    any-put holds [] none =
        any-tables test (t, now) [] ∙ or_none _ _ refl ∙ holds (λ k. test (t.0, k))
    any-put holds (e ∷ es) none = by_order (any-put holds es) (table_cmp t e.0) refl where
      by_order : Puts es → (o : Ordering) → table_cmp t e.0 ≡ o
          → any_in (put_at (e ∷ es)) ≡ (any_in (e ∷ es) || more)
      by_order rest Less is =
          ap any_in (put-first e es Less is)
          ∙ any-tables test (t, now) (e ∷ es)
          ∙ ap (λ b. b || any_in (e ∷ es)) (holds (λ k. test (t.0, k)))
          ∙ or_turned more (any_in (e ∷ es))
      by_order rest Equal is =
          let there = sym (found-first t e es true (ap is_eq is)) ∙ none in
          cc
      by_order rest Greater is =
          ap any_in (put-first e es Greater is)
          ∙ any-tables test e (put_at es)
          ∙ ap (λ b. of_table e.0 e.1.keys || b) (rest (sym (found-first t e es false (ap is_eq is)) ∙ none))
          ∙ or_grouped (of_table e.0 e.1.keys) (any_in es) more
          ∙ ap (λ b. b || more) (sym (any-tables test e es))

    -- the table has one key more now
    abbrev Adds : KeysByTable → Type 0
    Adds es = (any : List ℕ → Bool) → list_any any now.keys ≡ (list_any any (keys_at t es) || any key)

    abbrev Sets : KeysByTable → Type 0
    Sets es = IsTrue (is_some (found t es)) → Adds es → any_in (set_at es) ≡ (any_in es || more)

    -- one key more in a table that is there
    pub any-set : (es : KeysByTable) → Sets es
    any-set [] there adds = cc
    any-set (e ∷ es) there adds = by_tie (any-set es) (is_of t e.0) refl where
      -- what the first table has with one key more, by its own number
      added : is_of t e.0 ≡ true → of_table e.0 now.keys ≡ (of_table e.0 e.1.keys || more)
      added is =
          ap (λ n. list_any (λ k. test (n, k)) now.keys) (sym (same-number t e.0 is))
          ∙ adds (λ k. test (t.0, k))
          ∙ ap (λ o. list_any (λ k. test (t.0, k)) (keys_in o) || more) (found-first t e es true is)
          ∙ ap (λ n. list_any (λ k. test (n, k)) e.1.keys || more) (same-number t e.0 is)

      by_tie : Sets es → (b : Bool) → is_of t e.0 ≡ b → any_in (set_at (e ∷ es)) ≡ (any_in (e ∷ es) || more)
      by_tie rest true is =
          ap any_in (set-first e es true is)
          ∙ any-tables test (e.0, now) es
          ∙ ap (λ b. b || any_in es) (added is)
          ∙ or_first (of_table e.0 e.1.keys) (any_in es) more
          ∙ ap (λ b. b || more) (sym (any-tables test e es))
      by_tie rest false is =
          let others = found-first t e es false is in
          ap any_in (set-first e es false is)
          ∙ any-tables test e (set_at es)
          ∙ ap (λ b. of_table e.0 e.1.keys || b) (rest (sym (ap is_some others) ∙ there) (λ any.
          adds any ∙ ap (λ o. list_any any (keys_in o) || any key) others))
          ∙ or_grouped (of_table e.0 e.1.keys) (any_in es) more
          ∙ ap (λ b. b || more) (sym (any-tables test e es))

  abbrev Keeps : KeysByTable → Type 0
  Keeps es = now.keys ≡ keys_at t es → all_places (set_at es) ≡ all_places es

  -- the same keys in a table
  pub same-set : (es : KeysByTable) → Keeps es
  same-set [] same = refl
  same-set (e ∷ es) same = by_tie (same-set es) (is_of t e.0) refl where
    by_tie : Keeps es → (b : Bool) → is_of t e.0 ≡ b → all_places (set_at (e ∷ es)) ≡ all_places (e ∷ es)
    by_tie rest true is =
        ap all_places (set-first e es true is)
        ∙ ap (λ ks. map (λ key. (e.0.0, key)) ks ++ all_places es) (same ∙ ap keys_in (found-first t e es true is))
    by_tie rest false is =
        ap all_places (set-first e es false is)
        ∙ ap (λ places. map (λ key. (e.0.0, key)) e.1.keys ++ places)
        (rest (same ∙ ap keys_in (found-first t e es false is)))

-- Sets

module _ {K J : Type 0} (cmp : K → K → Ordering) (part : K → J) (any : J → Bool) (key : K) where
  abbrev any_part : List K → Bool
  any_part ks = list_any (λ k. any (part k)) ks

  abbrev Inserts : List K → Type 0
  Inserts ks = any_part (insert_key cmp ks key) ≡ (any_part ks || any (part key))

  -- a set with one key more, by a part of the keys that is the same where they tie
  any-insert_part : ((a b : K) → cmp a b ≡ Equal → part a ≡ part b) → (ks : List K) → Inserts ks
  any-insert_part exact [] = or_turned (any (part key)) false
  any-insert_part exact (k ∷ ks) = by_order (any-insert_part exact ks) (cmp key k) refl where
    by_first : (o : Ordering) → cmp key k ≡ o → any_part (insert_key cmp (k ∷ ks) key)
        ≡ any_part (match_ordering o (key ∷ k ∷ ks) (k ∷ ks) (k ∷ insert_key cmp ks key))
    by_first o is =
        ap (λ o. any_part (match_ordering o (key ∷ k ∷ ks) (k ∷ ks) (k ∷ insert_key cmp ks key))) is

    by_order : Inserts ks → (o : Ordering) → cmp key k ≡ o → Inserts (k ∷ ks)
    by_order rest Less is = by_first Less is ∙ or_turned (any (part key)) (any_part (k ∷ ks))
    by_order rest Equal is =
        by_first Equal is
        ∙ or_there (any (part k)) (any_part ks) (any (part key)) (ap any (sym (exact key k is)))
    by_order rest Greater is =
        by_first Greater is
        ∙ ap (λ b. any (part k) || b) rest
        ∙ or_grouped (any (part k)) (any_part ks) (any (part key))

-- only equal keys tie
bytes_exact : IsAntisymmetric (slice_cmp nat_cmp)
bytes_exact = slice_cmp-IsAntisymmetric nat_cmp-IsAntisymmetric

-- a set of keys with one more
pub any-insert_key : (any : List ℕ → Bool) (ks : List (List ℕ)) (key : List ℕ)
    → list_any any (insert_key (slice_cmp nat_cmp) ks key) ≡ (list_any any ks || any key)
any-insert_key any ks key = any-insert_part (slice_cmp nat_cmp) (λ k. k) any key bytes_exact ks

-- a set of tables with one more
pub any-insert_table : (any : ℕ → Bool) (ts : List Table) (t : Table)
    → list_any any (map table_number (insert_key table_cmp ts t)) ≡ (list_any any (map table_number ts) || any t.0)
any-insert_table any ts t =
    any-map any table_number (insert_key table_cmp ts t)
    ∙ any-insert_part table_cmp table_number any t (λ a b tie. same-number a b (ap is_eq tie)) ts
    ∙ ap (λ b. b || any t.0) (sym (any-map any table_number ts))

-- a table is there where its number is
pub any-number : (t : Table) (ts : List Table)
    → list_any (is_of t) ts ≡ list_any (λ other. t.0 == other) (map table_number ts)
any-number t ts =
    (λ i. list_any (λ u. table-tie t u i) ts) ∙ sym (any-map (λ other. t.0 == other) table_number ts)

-- Places of a table

-- a key of another table is another place
pub other-place : (t : ℕ) (key : List ℕ) (p : Place) → (t == p.0) ≡ false → same_place (t, key) p ≡ false
other-place t key p other = by_table (nat_cmp t p.0) ((λ i. tie-eqb t i p.0) ∙ other) where
  by_table : (o : Ordering) → is_eq o ≡ false → is_eq (ordering_then o (slice_cmp nat_cmp key p.1)) ≡ false
  by_table Less not_same = refl
  by_table Equal not_same = cc
  by_table Greater not_same = refl

-- of one table, keys are the same places where they tie
pub same-key : (t : ℕ) (key : List ℕ) (ks : List (List ℕ))
    → list_any (is_at (slice_cmp nat_cmp key)) ks ≡ list_any (λ k. same_place (t, key) (t, k)) ks
same-key t key ks = ap (λ test. list_any test ks) tie where
  tie : is_at (slice_cmp nat_cmp key) ≡ (λ k. same_place (t, key) (t, k))
  tie i k = is_eq (ordering_then (sym (tied_itself nat_cmp_total t) i) (slice_cmp nat_cmp key k))

-- a set with a key has one of its table
pub any-of_table : (t : ℕ) (keys : BTreeSet (List ℕ)) (empty : Bool)
    → (IsTrue empty ↔ (btree_set_len keys ≡ 0)) → not empty ≡ list_any (λ k. t == t) keys.keys
any-of_table t keys empty decides = by_keys keys.keys empty decides where
  by_keys : (ks : List (List ℕ)) (empty : Bool) → (IsTrue empty ↔ (length ks ≡ 0))
      → not empty ≡ list_any (λ k. t == t) ks
  by_keys [] true decides = refl
  by_keys [] false decides = let none : IsTrue false = decides.1 refl in cc
  by_keys (k ∷ ks) true decides =
      let none = decides.0 refl in
      absurd (omega (arith, none))
  by_keys (k ∷ ks) false decides = sym (ap (λ b. b || list_any (λ k. t == t) ks) (eq-eqb t t refl))
