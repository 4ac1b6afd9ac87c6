-- What changes and commits leave of the rows at a place, and what a scan reads.
--     same_place-equal, same_place-apart      the test on places
--     with_changes-agree, with_changes-apart      a place after changes, of it and elsewhere
--     rows_of-agree      a scan of tables that agree on a table
--     net_changes-among      the net changes are among the changes
--     with_commits-push      the tables after one more commit
use Rattle.std.proofs.Common.{◌≡◌, ◌≢◌, refl, sym, ap, subst, ◌∙◌, ◌⊎◌, inl, inr, ⊎_elim, ℕ, zero, suc, Bool, true, false, cond, ◌==◌, List, [], ◌∷◌, ◌++◌, map, reverse, Contains, None, Some, arith}
use Rattle.std.proofs.lemmas.List.{reverse-append, map-append}
use Rattle.std.proofs.lemmas.List.Elements.{Contains-push_cases}
use Rattle.std.proofs.lemmas.Bool.{false_from_ne_true}
use Rattle.std.specs.declared.cmp.Ordering.{Ordering}
use Rattle.std.specs.declared.cmp.Ordering.TheVariants.{Less, Equal, Greater}
use Rattle.std.specs.Ordering.{nat_cmp, eq_by_cmp, is_eq, ordering_then}
use Rattle.std.specs.Cmp.{tied_itself, eq_by_cmp_equiv}
use Rattle.std.specs.FinMap.{IsAntisymmetric, nat_cmp-IsAntisymmetric, slice_cmp-IsAntisymmetric, entries, entries_sorted, get, remove, get-insert, get-remove, get-entries, same_map, find, put, from_entries}
use Rattle.std.specs.Cmp.Lexicographic.{slice_cmp}
use Rattle.std.specs.FinMap.Entries.{by_order, where_key, find-where_key, is_sorted-where_key, same_entries}
use Rattle.mdb_model.specs.declared.change.Change.{Change}
use Rattle.mdb_model.specs.declared.change.Change.TheVariants.{Put, Del}
use Rattle.mdb_model.specs.declared.change.Commit.{Commit}
use Rattle.mdb_model.specs.Tables.{Place, place_cmp, Tables, place_of, with_change, with_changes, with_commits}
use Rattle.mdb_model.specs.Sessions.{net_changes, same_place}
use Rattle.mdb_model.specs.Answers.{Row}
use Rattle.mdb_model.specs.Steps.{rows_of}
use Rattle.mdb_model.proofs.Computing.{places_total, entries-empty, entries-insert_change}

-- only equal places tie
pub places_antisymmetric : IsAntisymmetric place_cmp
places_antisymmetric a b is = by_table (nat_cmp a.0 b.0) refl is where
  by_table : (o : Ordering) → nat_cmp a.0 b.0 ≡ o → ordering_then o (slice_cmp nat_cmp a.1 b.1) ≡ Equal → a ≡ b
  by_table Less e is = cc
  by_table Greater e is = cc
  by_table Equal e is =
      let tables : a.0 ≡ b.0 = nat_cmp-IsAntisymmetric a.0 b.0 e in
      let keys : a.1 ≡ b.1 = slice_cmp-IsAntisymmetric nat_cmp-IsAntisymmetric a.1 b.1 is in
      λ i. (tables i, keys i)

-- what the test on orders says
is_equal : (o : Ordering) → is_eq o ≡ true → o ≡ Equal
is_equal Less e = cc
is_equal Equal e = refl
is_equal Greater e = cc

-- a place is the same as itself
pub same_place-itself : (p : Place) → same_place p p ≡ true
same_place-itself p = ap is_eq (tied_itself places_total p)

-- the test on places says that they are equal
pub same_place-equal : (p q : Place) → same_place p q ≡ true → p ≡ q
same_place-equal p q e = places_antisymmetric p q (is_equal (place_cmp p q) e)

-- and else that they are not
pub same_place-apart : (p q : Place) → p ≢ q → same_place p q ≡ false
same_place-apart p q apart = false_from_ne_true (same_place p q) (λ e. apart (same_place-equal p q e))

-- it is mutual
pub same_place-sym : (p q : Place) → same_place p q ≡ same_place q p
same_place-sym p q = (eq_by_cmp_equiv places_total).symm p q

-- Changes

-- what stands at a place after a change depends on what stood there
pub with_change-agree : (change : Change) (s t : Tables) (p : Place) → get s p ≡ get t p → get (with_change change s) p ≡ get (with_change change t) p
with_change-agree (Put table key value) s t p e =
    get-insert places_total s (table.0, key) value p
    ∙ ap (cond (eq_by_cmp place_cmp p (table.0, key)) (Some value)) e
    ∙ sym (get-insert places_total t (table.0, key) value p)
with_change-agree (Del table key) s t p e =
    get-remove places_total s (table.0, key) p
    ∙ ap (cond (eq_by_cmp place_cmp p (table.0, key)) None) e
    ∙ sym (get-remove places_total t (table.0, key) p)

-- and so after changes
pub with_changes-agree : (changes : List Change) (s t : Tables) (p : Place) → get s p ≡ get t p → get (with_changes changes s) p ≡ get (with_changes changes t) p
with_changes-agree [] s t p e = e
with_changes-agree (change ∷ changes) s t p e = with_changes-agree changes (with_change change s) (with_change change t) p (with_change-agree change s t p e)

-- a change elsewhere leaves a place
pub with_change-apart : (change : Change) (t : Tables) (p : Place) → p ≢ place_of change → get (with_change change t) p ≡ get t p
with_change-apart (Put table key value) t p apart =
    get-insert places_total t (table.0, key) value p
    ∙ ap (λ b. cond b (Some value) (get t p)) (same_place-apart p (table.0, key) apart)
with_change-apart (Del table key) t p apart =
    get-remove places_total t (table.0, key) p
    ∙ ap (λ b. cond b None (get t p)) (same_place-apart p (table.0, key) apart)

-- and so do changes elsewhere
pub with_changes-apart : (changes : List Change) (t : Tables) (p : Place) → ((change : Change) → Contains changes change → p ≢ place_of change) → get (with_changes changes t) p ≡ get t p
with_changes-apart [] t p apart = refl
with_changes-apart (change ∷ changes) t p apart =
    with_changes-apart changes (with_change change t) p (λ c (k, inside, is). apart c (suc k, omega (arith, inside), is))
    ∙ with_change-apart change t p (apart change (0, omega arith, refl))

-- the tables after one more change
pub with_changes-push : (changes : List Change) (change : Change) (t : Tables) → with_changes (changes ++ change ∷ []) t ≡ with_change change (with_changes changes t)
with_changes-push [] change t = refl
with_changes-push (first ∷ changes) change t = with_changes-push changes change (with_change first t)

-- to take away a row that is not there leaves the tables
pub remove-absent : (t : Tables) (p : Place) → get t p ≡ None → remove t p ≡ t
remove-absent t p none = same_map places_total places_antisymmetric (remove t p) t (λ q. get-remove places_total t p q ∙ by_test q (same_place q p) refl) where
  by_test : (q : Place) (b : Bool) → same_place q p ≡ b → cond b None (get t q) ≡ get t q
  by_test q true e = sym (ap (get t) (same_place-equal q p e) ∙ none)
  by_test q false e = refl

-- A scan

module _ (table : ℕ) where
  -- whether a place is of the table
  abbrev in_table : Place → Bool
  in_table p = p.0 == table

  -- places that tie are of one table
  alike : (q x : Place) → place_cmp q x ≡ Equal → in_table x ≡ in_table q
  alike q x e = ap in_table (sym (places_antisymmetric q x e))

  -- tables that agree on the table have the same rows of it
  found : (s t : Tables) → ((p : Place) → in_table p ≡ true → get s p ≡ get t p) → (q : Place)
      → find place_cmp q (where_key place_cmp in_table (entries s)) ≡ find place_cmp q (where_key place_cmp in_table (entries t))
  found s t agree q =
      find-where_key place_cmp in_table q (alike q) (entries s)
      ∙ by_test (in_table q) refl
      ∙ sym (find-where_key place_cmp in_table q (alike q) (entries t)) where
        by_test : (b : Bool) → in_table q ≡ b → cond b (find place_cmp q (entries s)) None ≡ cond b (find place_cmp q (entries t)) None
        by_test true e = sym (get-entries s q) ∙ agree q e ∙ get-entries t q
        by_test false e = refl

  -- a scan reads the places of its table alone
  pub rows_of-agree : (s t : Tables) → ((p : Place) → in_table p ≡ true → get s p ≡ get t p) → rows_of s table ≡ rows_of t table
  rows_of-agree s t agree =
      ap (map (λ e. Row e.0.1 e.1))
      (same_entries place_cmp places_total places_antisymmetric
      (where_key place_cmp in_table (entries s)) (where_key place_cmp in_table (entries t))
      (is_sorted-where_key place_cmp in_table (entries s) (entries_sorted s)) (is_sorted-where_key place_cmp in_table (entries t) (entries_sorted t))
      (found s t agree))

-- Net changes

-- what stands in a map with one put in stood there before or is the one
put-among : (p : Place) (v c : Change) (es : List (Place × Change)) → Contains (map (λ e. e.1) (put place_cmp p v es)) c → (v ≡ c) ⊎ Contains (map (λ e. e.1) es) c
put-among p v c [] (zero, inside, is) = inl is
put-among p v c [] (suc k, inside, is) = absurd (omega (arith, inside))
put-among p v c (e ∷ es) there = by_tie (put-among p v c es) (place_cmp p e.0) there where
  by_tie : (Contains (map (λ e. e.1) (put place_cmp p v es)) c → (v ≡ c) ⊎ Contains (map (λ e. e.1) es) c) → (o : Ordering)
      → Contains (map (λ e. e.1) (by_order o ((p, v) ∷ e ∷ es) ((e.0, v) ∷ es) (e ∷ put place_cmp p v es))) c
      → (v ≡ c) ⊎ Contains (map (λ e. e.1) (e ∷ es)) c
  by_tie further Less (zero, inside, is) = inl is
  by_tie further Less (suc k, inside, is) = inr (k, omega (arith, inside), is)
  by_tie further Equal (zero, inside, is) = inl is
  by_tie further Equal (suc k, inside, is) = inr (suc k, inside, is)
  by_tie further Greater (zero, inside, is) = inr (zero, omega arith, is)
  by_tie further Greater (suc k, inside, is) = ⊎_elim inl (λ (j, within, at). inr (suc j, omega (arith, within), at)) (further (k, omega (arith, inside), is))

-- what stands in a map made of a list stood in the list
from_entries-among : (es : List (Place × Change)) (c : Change) → Contains (map (λ e. e.1) (entries (from_entries {R = place_cmp} es))) c → Contains (map (λ e. e.1) es) c
from_entries-among [] c there = subst (λ (es : List (Place × Change)). Contains (map (λ e. e.1) es) c) (entries-empty place_cmp) there
from_entries-among (e ∷ es) c there =
    ⊎_elim (λ is. (zero, omega arith, is)) (λ deeper. one_deeper (from_entries-among es c deeper))
    (put-among e.0 e.1 c (entries (from_entries es)) (subst (λ (all : List (Place × Change)). Contains (map (λ e. e.1) all) c) (entries-insert_change (from_entries es) e.0 e.1) there)) where
      one_deeper : Contains (map (λ e. e.1) es) c → Contains (map (λ e. e.1) (e ∷ es)) c
      one_deeper (k, inside, is) = (suc k, omega (arith, inside), is)

-- a list turned round, with one more in front
reverse-cons : {A : Type 0} (x : A) (xs : List A) → reverse (x ∷ xs) ≡ reverse xs ++ x ∷ []
reverse-cons x xs = reverse-append (x ∷ []) xs

-- what stands in the changes turned round is among them
reverse-among : (changes : List Change) (c : Change) → Contains (map (λ (e : Place × Change). e.1) (reverse (map (λ change. (place_of change, change)) changes))) c → Contains changes c
reverse-among [] c there = there
reverse-among (change ∷ changes) c there =
    ⊎_elim (λ deeper. one_deeper (reverse-among changes c deeper)) (λ is. (zero, omega arith, is))
    (Contains-push_cases (map (λ (e : Place × Change). e.1) (reverse pairs)) change c
    (subst (λ all. Contains all c) (ap (map (λ (e : Place × Change). e.1)) (reverse-cons (place_of change, change) pairs) ∙ map-append (λ (e : Place × Change). e.1) (reverse pairs) ((place_of change, change) ∷ [])) there)) where
      pairs : List (Place × Change)
      pairs = map (λ change. (place_of change, change)) changes

      one_deeper : Contains changes c → Contains (change ∷ changes) c
      one_deeper (k, inside, is) = (suc k, omega (arith, inside), is)

-- the net changes are among the changes
pub net_changes-among : (changes : List Change) (c : Change) → Contains (net_changes changes) c → Contains changes c
net_changes-among changes c there = reverse-among changes c (from_entries-among (reverse (map (λ change. (place_of change, change)) changes)) c there)

-- Commits

-- the tables after one more commit
pub with_commits-push : (commits : List Commit) (commit : Commit) (t : Tables) → with_commits (commits ++ commit ∷ []) t ≡ with_changes commit.changes (with_commits commits t)
with_commits-push [] commit t = refl
with_commits-push (first ∷ commits) commit t = with_commits-push commits commit (with_changes first.changes t)
