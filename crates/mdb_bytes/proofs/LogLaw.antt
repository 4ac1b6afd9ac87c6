-- The log that is computed is the one that is meant.
use Rattle.std.proofs.Common.{◌≡◌, refl, sym, ap, subst, ◌∙◌, ℕ, zero, suc, ◌+◌, ◌<◌, ◌≤◌, ◌==◌, true, false, cond, ◌&&◌, List, [], ◌∷◌, length, get_or, take, Option, Some, None, arith}
use Rattle.std.specs.Prelude.{option_map, option_and_then}
use Rattle.std.proofs.lemmas.Bool.{eqb-true, eqb-false, eq-eqb, ne_eqb}
use Rattle.std.proofs.lemmas.Option.{option_and_then_some, same_Some, none-some, cond_some}
use Rattle.mdb_model.specs.declared.change.Commit.{Commit}
use Rattle.mdb_model.specs.declared.name.Name.{Name}
use Rattle.mdb_model.specs.Backups.{same_name}
use Rattle.mdb_model.specs.Sessions.{group_bytes}
use Rattle.mdb_bytes.specs.Fields.{Spells, spelled, number_at}
use Rattle.mdb_bytes.specs.Groups.{Group, group_format, group_fields, group_fits, open_gate}
use Rattle.mdb_bytes.specs.LogReading.{bytes_from, group_of, group_due, log_from, IsLog}
use Rattle.mdb_bytes.proofs.Decoding.{and_left, and_right, decoded-spells, spelled-decoded}
use Rattle.mdb_bytes.proofs.GroupBack.{group_again}
use Rattle.mdb_bytes.proofs.ReadBack.{four_in}
use Rattle.byteorder.specs.Numbers.{big_from-take}
use Rattle.mdb_bytes.proofs.GroupLaw.{option_map_some, due_len, group_is_long}

same_group : (name : Name) (number : ℕ) (g : Group) → (same_name g.name name && g.number == number) ≡ true → g ≡ record { name = name; number = number; changes = g.changes }
same_group name number g e =
    let names = and_left (same_name g.name name) (g.number == number) e in
    let b : g.name.birth ≡ name.birth = eqb-true _ _ (and_left (g.name.birth == name.birth) _ names) in
    let v : g.name.generation ≡ name.generation = eqb-true _ _ (and_right (g.name.birth == name.birth) _ names) in
    let n : g.number ≡ number = eqb-true _ _ (and_right (same_name g.name name) (g.number == number) e) in
    λ i. record { name = record { birth = b i; generation = v i }; number = n i; changes = g.changes }

-- the group that is due stands there, spelled
due_spells : (ring : ℕ → ℕ) (name : Name) (p n : ℕ) (g : Group) → group_due ring name p n ≡ Some g
    → Spells group_format (record { name = name; number = n + 1; changes = g.changes }) (bytes_from ring p (group_bytes g.changes))
unfolding group_of
due_spells ring name p n g e =
    let len = number_at 4 1 (bytes_from ring p 5) in
    option_and_then_some (λ group. cond (same_name group.name name && group.number == n + 1) (Some group) None) (group_of (bytes_from ring p len)) g e (λ group there kept.
    let found = cond_some (same_name group.name name && group.number == n + 1) group g kept in
    let is : g ≡ record { name = name; number = n + 1; changes = g.changes } =
    same_group name (n + 1) g (subst (λ g. (same_name g.name name && g.number == n + 1) ≡ true) found.1 found.0) in
    let spells : Spells group_format g (bytes_from ring p len) = subst (λ g. Spells group_format g (bytes_from ring p len)) found.1 (decoded-spells group_format (bytes_from ring p len) group there) in
    subst (λ (x : Group × ℕ). Spells group_format x.0 (bytes_from ring p x.1)) (λ i. (is i, due_len ring name p n g e i)) spells)

pub log_from-is_log : (ring : ℕ → ℕ) (name : Name) (most p n : ℕ) (cs : List Commit) → log_from ring name most p n ≡ Some cs → IsLog ring name p n cs
log_from-is_log ring name zero p n cs e = absurd (none-some cs e)
log_from-is_log ring name (suc most) p n cs e =
    let read : Option Group → Option (List Commit) = λ due. option_and_then
    (λ g. option_map (λ commits. record { changes = g.changes } ∷ commits) (log_from ring name most (p + group_bytes g.changes) (n + 1))) due in
    elim (ring p == open_gate) as (λ b. (ring p == open_gate) ≡ b → cond b (read (group_due ring name p n)) (Some []) ≡ Some cs → IsLog ring name p n cs) [
      | false ↦ λ closed none. subst (IsLog ring name p n) (same_Some [] cs none) (eqb-false (ring p) open_gate closed)
      | true ↦ λ opened some.
          option_and_then_some (λ g. option_map (λ commits. record { changes = g.changes } ∷ commits) (log_from ring name most (p + group_bytes g.changes) (n + 1)))
          (group_due ring name p n) cs some (λ g due more.
          option_map_some (λ commits. record { changes = g.changes } ∷ commits) (log_from ring name most (p + group_bytes g.changes) (n + 1)) cs more (λ rest there whole.
          subst (IsLog ring name p n) whole
          (due_spells ring name p n g due, log_from-is_log ring name most (p + group_bytes g.changes) (n + 1) rest there)))
    ] refl e

-- And the one that is meant is computed.

take-zero : (xs : List ℕ) → take 0 xs ≡ []
take-zero [] = refl
take-zero (x ∷ xs) = refl

pub bytes_from-take : (ring : ℕ → ℕ) (p k n : ℕ) → k ≤ n → take k (bytes_from ring p n) ≡ bytes_from ring p k
bytes_from-take ring p zero n le = take-zero (bytes_from ring p n)
bytes_from-take ring p (suc k) zero le = absurd (omega (arith, le))
bytes_from-take ring p (suc k) (suc n) le = ap (λ bs. ring p ∷ bs) (bytes_from-take ring (p + 1) k n (omega (arith, le)))

bytes_from-first : (ring : ℕ → ℕ) (p n : ℕ) → 0 < n → get_or (bytes_from ring p n) 0 0 ≡ ring p
bytes_from-first ring p zero lt = absurd (omega (arith, lt))
bytes_from-first ring p (suc n) lt = refl

-- the length in the first five bytes
pub length_in : (xs : List ℕ) → number_at 4 1 (take 5 xs) ≡ number_at 4 1 xs
unfolding number_at
length_in [] = refl
length_in (x ∷ xs) = big_from-take 0 4 4 xs (omega arith)

pub first_is_gate : (g : Group) → get_or (spelled (group_fields g)) 0 0 ≡ open_gate
unfolding spelled
first_is_gate g = refl

pub is_log-log_from : (ring : ℕ → ℕ) (name : Name) (most p n : ℕ) (cs : List Commit) → IsLog ring name p n cs → length cs < most → log_from ring name most p n ≡ Some cs
unfolding group_of
is_log-log_from ring name zero p n cs log lt = absurd (omega (arith, lt))
is_log-log_from ring name (suc most) p n [] closed lt =
    ap (λ b. cond b (option_and_then (λ g. option_map (λ commits. record { changes = g.changes } ∷ commits) (log_from ring name most (p + group_bytes g.changes) (n + 1))) (group_due ring name p n)) (Some []))
    (ne_eqb (ring p) open_gate closed)
is_log-log_from ring name (suc most) p n (c ∷ cs) log lt =
    let g : Group = record { name = name; number = n + 1; changes = c.changes } in
    let len = group_bytes c.changes in
    let long = group_is_long c.changes in
    let spells : Spells group_format g (bytes_from ring p len) = log.0 in
    let gate : ring p ≡ open_gate = sym (bytes_from-first ring p len (omega (arith, long))) ∙ ap (λ bs. get_or bs 0 0) spells.1 ∙ first_is_gate g in
    let said : number_at 4 1 (bytes_from ring p 5) ≡ len =
    ap (number_at 4 1) (sym (bytes_from-take ring p 5 len (omega (arith, long)))) ∙ length_in (bytes_from ring p len) ∙ ap (number_at 4 1) spells.1
    ∙ four_in (group_fields g) 1 len (and_right (group_fits g) _ spells.0) refl in
    let test : Group → Option Group = λ group. cond (same_name group.name name && group.number == n + 1) (Some group) None in
    let passed : (same_name name name && (n + 1) == (n + 1)) ≡ true =
    λ i. (eq-eqb name.birth name.birth refl i && eq-eqb name.generation name.generation refl i) && eq-eqb (n + 1) (n + 1) refl i in
    let due : group_due ring name p n ≡ Some g =
    ap (λ k. option_and_then test (group_of (bytes_from ring p k))) said ∙ ap (option_and_then test) (spelled-decoded group_format group_again (bytes_from ring p len) g spells)
    ∙ ap (λ b. cond b (Some g) None) passed in
    let rest : log_from ring name most (p + len) (n + 1) ≡ Some cs = is_log-log_from ring name most (p + len) (n + 1) cs log.1 (omega (arith, lt)) in
    let read : Option Group → Option (List Commit) = λ o. option_and_then
    (λ g. option_map (λ commits. record { changes = g.changes } ∷ commits) (log_from ring name most (p + group_bytes g.changes) (n + 1))) o in
    ap (λ b. cond b (read (group_due ring name p n)) (Some [])) (eq-eqb (ring p) open_gate gate) ∙ ap read due ∙ ap (option_map (λ commits. c ∷ commits)) rest

-- a position has one log
pub one_log : (ring : ℕ → ℕ) (name : Name) (p n : ℕ) (cs ds : List Commit) → IsLog ring name p n cs → IsLog ring name p n ds → cs ≡ ds
one_log ring name p n cs ds one two =
    let most = length cs + length ds + 1 in
    let a : log_from ring name most p n ≡ Some cs = is_log-log_from ring name most p n cs one (omega arith) in
    let b : log_from ring name most p n ≡ Some ds = is_log-log_from ring name most p n ds two (omega arith) in
    same_Some cs ds (sym a ∙ b)
