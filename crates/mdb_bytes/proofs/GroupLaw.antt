-- How long groups are, and that the log depends on no byte after its closed gate.
use Rattle.std.proofs.Common.{◌≡◌, refl, sym, ap, ◌∙◌, ℕ, zero, suc, ◌+◌, ◌<◌, ◌≤◌, ◌==◌, true, false, cond, ◌&&◌, List, [], ◌∷◌, ◌++◌, length, sum_by, Option, Some, None, arith, length-append, append_assoc}
use Rattle.std.specs.Prelude.{option_map, option_and_then}
use Rattle.std.specs.List.{flat_map}
use Rattle.std.proofs.lemmas.List.Sums.{sum_by-cons}
use Rattle.std.proofs.lemmas.Option.{option_and_then_some, same_Some, none-some, cond_some}
use Rattle.mdb_model.specs.declared.change.Change.{Change}
use Rattle.mdb_model.specs.declared.change.Change.TheVariants.{Put, Del}
use Rattle.mdb_model.specs.declared.change.Commit.{Commit}
use Rattle.mdb_model.specs.declared.name.Name.{Name}
use Rattle.mdb_model.specs.Backups.{same_name}
use Rattle.mdb_model.specs.Sessions.{change_bytes, group_bytes}
use Rattle.mdb_bytes.specs.Fields.{Field, spelled, number_at, field_bytes}
use Rattle.mdb_bytes.specs.Groups.{Group, group_format, group_fields, change_fields, open_gate}
use Rattle.mdb_bytes.specs.LogReading.{bytes_from, group_of, group_due, log_from, log_bytes}
use Rattle.mdb_bytes.proofs.Decoding.{decoded-spells}

pub option_map_some : {A B P : Type 0} (h : A → B) (o : Option A) (y : B) → option_map h o ≡ Some y → ((x : A) → o ≡ Some x → h x ≡ y → P) → P
option_map_some h None y is goes = absurd (none-some y is)
option_map_some h (Some x) y is goes = goes x refl (same_Some (h x) y is)

-- Lengths

pub spelled-append : (xs ys : List Field) → spelled (xs ++ ys) ≡ spelled xs ++ spelled ys
unfolding spelled
spelled-append [] ys = refl
spelled-append (x ∷ xs) ys = ap (λ t. field_bytes x ++ t) (spelled-append xs ys) ∙ sym (append_assoc (field_bytes x) (spelled xs) (spelled ys))

pub length-change : (c : Change) → length (spelled (change_fields c)) ≡ change_bytes c
unfolding spelled
length-change (Put table key value) = omega (arith, length-append key (value ++ []), length-append value [])
length-change (Del table key) = omega (arith, length-append key [])

pub length-changes : (cs : List Change) → length (spelled (flat_map change_fields cs)) ≡ sum_by change_bytes cs
unfolding spelled
length-changes [] = refl
length-changes (c ∷ cs) =
    ap length (spelled-append (change_fields c) (flat_map change_fields cs)) ∙ length-append (spelled (change_fields c)) (spelled (flat_map change_fields cs))
    ∙ (λ i. length-change c i + length-changes cs i) ∙ sym (sum_by-cons change_bytes c cs)

pub length-group : (g : Group) → length (spelled (group_fields g)) ≡ group_bytes g.changes
unfolding spelled
length-group g = omega (arith, length-changes g.changes)

pub length-bytes_from : (ring : ℕ → ℕ) (p n : ℕ) → length (bytes_from ring p n) ≡ n
length-bytes_from ring p zero = refl
length-bytes_from ring p (suc n) = ap suc (length-bytes_from ring (p + 1) n)

pub bytes_from-same : (old new : ℕ → ℕ) (p n : ℕ) → ((q : ℕ) → p ≤ q → q < p + n → new q ≡ old q) → bytes_from new p n ≡ bytes_from old p n
bytes_from-same old new p zero same = refl
bytes_from-same old new p (suc n) same =
    λ i. same p (omega arith) (omega arith) i ∷ bytes_from-same old new (p + 1) n (λ q from to. same q (omega arith) (omega arith)) i

-- The log

-- the bytes of a group that was decoded are as many as the group has
pub due_len : (old : ℕ → ℕ) (name : Name) (p n : ℕ) (g : Group) → group_due old name p n ≡ Some g → number_at 4 1 (bytes_from old p 5) ≡ group_bytes g.changes
unfolding group_of
due_len old name p n g e =
    let len = number_at 4 1 (bytes_from old p 5) in
    option_and_then_some (λ group. cond (same_name group.name name && group.number == n + 1) (Some group) None) (group_of (bytes_from old p len)) g e (λ group there kept.
    let same : group ≡ g = (cond_some (same_name group.name name && group.number == n + 1) group g kept).1 in
    let spells = decoded-spells group_format (bytes_from old p len) group there in
    sym (length-bytes_from old p len) ∙ ap length spells.1 ∙ length-group group ∙ ap (λ g. group_bytes g.changes) same)

pub group_is_long : (changes : List Change) → 33 ≤ group_bytes changes
group_is_long changes = omega arith

pub due_same : (old new : ℕ → ℕ) (name : Name) (p n : ℕ) (g : Group) → group_due old name p n ≡ Some g
    → ((q : ℕ) → p ≤ q → q < p + group_bytes g.changes → new q ≡ old q) → group_due new name p n ≡ group_due old name p n
due_same old new name p n g e same =
    let long = group_is_long g.changes in
    let head : bytes_from new p 5 ≡ bytes_from old p 5 = bytes_from-same old new p 5 (λ q from to. same q (omega arith) (omega arith)) in
    let len = due_len old name p n g e in
    let body : bytes_from new p (number_at 4 1 (bytes_from old p 5)) ≡ bytes_from old p (number_at 4 1 (bytes_from old p 5)) =
    bytes_from-same old new p (number_at 4 1 (bytes_from old p 5)) (λ q from to. same q from (omega (arith, len))) in
    ap (λ bytes. option_and_then (λ group. cond (same_name group.name name && group.number == n + 1) (Some group) None) (group_of (bytes_from new p (number_at 4 1 bytes)))) head
    ∙ ap (λ bytes. option_and_then (λ group. cond (same_name group.name name && group.number == n + 1) (Some group) None) (group_of bytes)) body

-- rings that agree up to the closed gate have the same log
pub log_from-same : (old new : ℕ → ℕ) (name : Name) (most p n : ℕ) (cs : List Commit) → log_from old name most p n ≡ Some cs
    → ((q : ℕ) → p ≤ q → q ≤ p + log_bytes cs → new q ≡ old q) → log_from new name most p n ≡ Some cs
log_from-same old new name zero p n cs e same = absurd (none-some cs e)
log_from-same old new name (suc most) p n cs e same =
    let read : (ℕ → ℕ) → Option Group → Option (List Commit) = λ ring due. option_and_then
    (λ g. option_map (λ commits. record { changes = g.changes } ∷ commits) (log_from ring name most (p + group_bytes g.changes) (n + 1))) due in
    let here : new p ≡ old p = same p (omega arith) (omega arith) in
    ap (λ byte. cond (byte == open_gate) (read new (group_due new name p n)) (Some [])) here ∙ elim (old p == open_gate) as (λ b. cond b (read old (group_due old name p n)) (Some []) ≡ Some cs → cond b (read new (group_due new name p n)) (Some []) ≡ Some cs) [
      | false ↦ λ closed. closed
      | true ↦ λ opened.
          option_and_then_some (λ g. option_map (λ commits. record { changes = g.changes } ∷ commits) (log_from old name most (p + group_bytes g.changes) (n + 1)))
          (group_due old name p n) cs opened (λ g due more.
          option_map_some (λ commits. record { changes = g.changes } ∷ commits) (log_from old name most (p + group_bytes g.changes) (n + 1)) cs more (λ rest there whole.
          let first : Commit = record { changes = g.changes } in
          let bytes : log_bytes cs ≡ group_bytes g.changes + log_bytes rest = ap log_bytes (sym whole) ∙ sum_by-cons (λ commit. group_bytes commit.changes) first rest in
          let again : log_from new name most (p + group_bytes g.changes) (n + 1) ≡ Some rest =
          log_from-same old new name most (p + group_bytes g.changes) (n + 1) rest there (λ q from to. same q (omega arith) (omega (arith, bytes))) in
          let due_new : group_due new name p n ≡ Some g = due_same old new name p n g due (λ q from to. same q from (omega (arith, bytes))) ∙ due in
          ap (read new) due_new ∙ ap (option_map (λ commits. first ∷ commits)) again ∙ ap Some whole))
    ] e
