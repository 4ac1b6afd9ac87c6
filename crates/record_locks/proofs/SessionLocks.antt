-- The locks of one session, by what it keeps of them.
--     any-all      a test of its locks, part by part
--     share-barred, exclusive-barred, table-barred      what its locks bar
--     share-wanting, exclusive-wanting, table-wanting      what its locks do not cover
--     share-more, share-there, exclusive-more, table-more      what they bar with one more
use Rattle.std.proofs.Common.{◌≡◌, refl, sym, ap, ◌∙◌, ℕ, Bool, true, false, ◌||◌, ◌==◌, List, [], ◌∷◌, ◌++◌, map}
use Rattle.std.specs.List.{list_any}
use Rattle.std.proofs.lemmas.List.Folds.{list_any-append}
use Rattle.mdb_model.specs.Tables.{Place, place_cmp}
use Rattle.mdb_model.specs.Worlds.{Lock, ShareKey, ExclusiveKey, ShareTable}
use Rattle.mdb_model.specs.Sessions.{conflict, same_place}
use Rattle.sorted_places.proofs.Tests.{any-map, any-there}
use Rattle.sorted_places.proofs.Places.{place_exact}
use Rattle.record_locks.specs.LockedPlaces.{all_locks}
use Rattle.record_locks.specs.Holders.{covers}
use Rattle.record_locks.specs.Holding.{HasOneMore}

module _ (test : Lock → Bool) (shared exclusive : List Place) (tables : List ℕ) where
  pub any-all : list_any test (all_locks shared exclusive tables)
      ≡ (list_any (λ p. test (ShareKey p)) shared || (list_any (λ p. test (ExclusiveKey p)) exclusive || list_any (λ t. test (ShareTable t)) tables))
  any-all =
      list_any-append test (map ShareKey shared) (map ExclusiveKey exclusive ++ map ShareTable tables)
      ∙ (λ i. any-map test ShareKey shared i || list_any-append test (map ExclusiveKey exclusive) (map ShareTable tables) i)
      ∙ (λ i. list_any (λ p. test (ShareKey p)) shared || (any-map test ExclusiveKey exclusive i || any-map test ShareTable tables i))

-- what nothing passes
never : {X : Type 0} (xs : List X) → list_any (λ _. false) xs ≡ false
never [] = refl
never (x ∷ xs) = never xs

or_nothing : (a : Bool) → (a || false) ≡ a
or_nothing true = refl
or_nothing false = refl

module _ (shared exclusive : List Place) (tables : List ℕ) where
  pub share-barred : (p : Place) → list_any (conflict (ShareKey p)) (all_locks shared exclusive tables) ≡ list_any (same_place p) exclusive
  share-barred p =
      any-all (conflict (ShareKey p)) shared exclusive tables
      ∙ (λ i. never shared i || (list_any (same_place p) exclusive || never tables i))
      ∙ or_nothing (list_any (same_place p) exclusive)

  pub exclusive-barred : (p : Place) → list_any (conflict (ExclusiveKey p)) (all_locks shared exclusive tables) ≡ (list_any (same_place p) shared || (list_any (same_place p) exclusive || list_any (λ t. p.0 == t) tables))
  exclusive-barred p = any-all (conflict (ExclusiveKey p)) shared exclusive tables

  pub table-barred : (table : ℕ) → list_any (conflict (ShareTable table)) (all_locks shared exclusive tables) ≡ list_any (λ (p : Place). table == p.0) exclusive
  table-barred table =
      any-all (conflict (ShareTable table)) shared exclusive tables
      ∙ (λ i. never shared i || (list_any (λ (p : Place). table == p.0) exclusive || never tables i))
      ∙ or_nothing (list_any (λ (p : Place). table == p.0) exclusive)

module _ (shared exclusive : List Place) (tables : List ℕ) where
  pub share-wanting : (p : Place) → list_any (same_place p) shared ≡ false → list_any (same_place p) exclusive ≡ false → list_any (covers (ShareKey p)) (all_locks shared exclusive tables) ≡ false
  share-wanting p not_shared not_exclusive =
      any-all (covers (ShareKey p)) shared exclusive tables
      ∙ (λ i. not_shared i || (not_exclusive i || never tables i))

  pub exclusive-wanting : (p : Place) → list_any (same_place p) exclusive ≡ false → list_any (covers (ExclusiveKey p)) (all_locks shared exclusive tables) ≡ false
  exclusive-wanting p not_exclusive =
      any-all (covers (ExclusiveKey p)) shared exclusive tables
      ∙ (λ i. never shared i || (not_exclusive i || never tables i))

  pub table-wanting : (table : ℕ) → list_any (λ t. table == t) tables ≡ false → list_any (covers (ShareTable table)) (all_locks shared exclusive tables) ≡ false
  table-wanting table not_there =
      any-all (covers (ShareTable table)) shared exclusive tables
      ∙ (λ i. never shared i || (never exclusive i || not_there i))

-- Boolean algebra
first_more : (a b c x : Bool) → ((a || x) || (b || c)) ≡ ((a || (b || c)) || x)
first_more true b c x = refl
first_more false true c true = refl
first_more false true c false = refl
first_more false false true true = refl
first_more false false true false = refl
first_more false false false true = refl
first_more false false false false = refl

second_more : (a b c x : Bool) → (a || ((b || x) || c)) ≡ ((a || (b || c)) || x)
second_more true b c x = refl
second_more false true c x = refl
second_more false false true true = refl
second_more false false true false = refl
second_more false false false true = refl
second_more false false false false = refl

third_more : (a b c x : Bool) → (a || (b || (c || x))) ≡ ((a || (b || c)) || x)
third_more true b c x = refl
third_more false true c x = refl
third_more false false c x = refl

-- what a lock to read a key keeps from another session, one to change it does too
share-less : (lock : Lock) (p : Place) (b : Bool) → (b || conflict lock (ExclusiveKey p)) ≡ b → (b || conflict lock (ShareKey p)) ≡ b
share-less (ShareKey q) p b is = or_nothing b
share-less (ExclusiveKey q) p b is = is
share-less (ShareTable table) p b is = or_nothing b

module _ (shared exclusive : List Place) (tables : List ℕ) where
  pub share-more : (more : List Place) (p : Place) → ((test : Place → Bool) → list_any test more ≡ (list_any test shared || test p)) → HasOneMore (all_locks shared exclusive tables) (all_locks more exclusive tables) (ShareKey p)
  share-more more p adds lock =
      any-all (conflict lock) more exclusive tables
      ∙ (λ i. adds (λ q. conflict lock (ShareKey q)) i || (list_any (λ q. conflict lock (ExclusiveKey q)) exclusive || list_any (λ t. conflict lock (ShareTable t)) tables))
      ∙ first_more (list_any (λ q. conflict lock (ShareKey q)) shared) (list_any (λ q. conflict lock (ExclusiveKey q)) exclusive) (list_any (λ t. conflict lock (ShareTable t)) tables) (conflict lock (ShareKey p))
      ∙ ap (λ b. b || conflict lock (ShareKey p)) (sym (any-all (conflict lock) shared exclusive tables))

  pub exclusive-more : (more : List Place) (p : Place) → ((test : Place → Bool) → list_any test more ≡ (list_any test exclusive || test p)) → HasOneMore (all_locks shared exclusive tables) (all_locks shared more tables) (ExclusiveKey p)
  exclusive-more more p adds lock =
      any-all (conflict lock) shared more tables
      ∙ (λ i. list_any (λ q. conflict lock (ShareKey q)) shared || (adds (λ q. conflict lock (ExclusiveKey q)) i || list_any (λ t. conflict lock (ShareTable t)) tables))
      ∙ second_more (list_any (λ q. conflict lock (ShareKey q)) shared) (list_any (λ q. conflict lock (ExclusiveKey q)) exclusive) (list_any (λ t. conflict lock (ShareTable t)) tables) (conflict lock (ExclusiveKey p))
      ∙ ap (λ b. b || conflict lock (ExclusiveKey p)) (sym (any-all (conflict lock) shared exclusive tables))

  pub table-more : (more : List ℕ) (table : ℕ) → ((test : ℕ → Bool) → list_any test more ≡ (list_any test tables || test table)) → HasOneMore (all_locks shared exclusive tables) (all_locks shared exclusive more) (ShareTable table)
  table-more more table adds lock =
      any-all (conflict lock) shared exclusive more
      ∙ (λ i. list_any (λ q. conflict lock (ShareKey q)) shared || (list_any (λ q. conflict lock (ExclusiveKey q)) exclusive || adds (λ t. conflict lock (ShareTable t)) i))
      ∙ third_more (list_any (λ q. conflict lock (ShareKey q)) shared) (list_any (λ q. conflict lock (ExclusiveKey q)) exclusive) (list_any (λ t. conflict lock (ShareTable t)) tables) (conflict lock (ShareTable table))
      ∙ ap (λ b. b || conflict lock (ShareTable table)) (sym (any-all (conflict lock) shared exclusive tables))

  -- a key that may be changed may be read with no lock more
  pub share-there : (p : Place) → list_any (same_place p) exclusive ≡ true → HasOneMore (all_locks shared exclusive tables) (all_locks shared exclusive tables) (ShareKey p)
  share-there p there lock =
      sym (share-less lock p (list_any (conflict lock) (all_locks shared exclusive tables)) (sym
      (exclusive-more exclusive p (λ test. any-there place_cmp place_exact test p exclusive there) lock)))
