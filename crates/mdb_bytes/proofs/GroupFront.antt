-- What stands at the front of bytes that begin with a head.
use Rattle.std.proofs.Common.{◌≢◌, refl, sym, ap, subst, ◌∙◌, ℕ, zero, suc, take, ◌+◌, ◌<◌, ◌≤◌, ◌^◌, List, [], ◌∷◌, ◌++◌, length, drop, Option, Some, None, ◌≡◌, true, arith, length-append}
use Rattle.std.specs.Prelude.{nat_lt, ◌&&◌, IsTrue}
use Rattle.std.specs.List.{list_all, flat_map}
use Rattle.std.proofs.lemmas.Bool.{lt-ltb, ltb-true}
use Rattle.std.proofs.lemmas.List.{take_at, take-append-le, take-append-drop, append-nil, drop-drop, length-drop}
use Rattle.std.proofs.lemmas.List.Folds.{list_all-append}
use Rattle.byteorder.specs.Endian.{big_bytes}
use Rattle.byteorder.specs.Numbers.{big_from-lt}
use Rattle.mdb_bytes.specs.declared.group.GroupHead.{GroupHead}
use Rattle.mdb_bytes.specs.Fields.{Text, Spells, field_fits, fields_fit, spelled, number_at, number_limit}
use Rattle.mdb_bytes.specs.Groups.{Group, group_format, group_fits, group_fields, group_head, change_fields, open_gate}
use Rattle.mdb_bytes.specs.GroupHeads.{group_head_fields, group_head_of, head_read, BeginsWithHead, FindsHead}
use Rattle.mdb_bytes.proofs.Decoding.{and_left, and_right, and_both}
use Rattle.mdb_bytes.proofs.ReadBack.{byte_in, four_in, eight_in}
use Rattle.mdb_bytes.proofs.GroupLaw.{spelled-append}
use Rattle.mdb_bytes.proofs.NumberBytes.{AreBytes, bytes-drop, bytes_pass, number-then_rest, fields_are_bytes}
use Rattle.mdb_bytes.proofs.ChangeFront.{right_bytes}

spelled-with_rest : (h : GroupHead) (rest : List ℕ) → spelled (group_head_fields h ++ (Text rest ∷ [])) ≡ spelled (group_head_fields h) ++ rest
unfolding spelled
spelled-with_rest h rest = spelled-append (group_head_fields h) (Text rest ∷ []) ∙ ap (λ t. spelled (group_head_fields h) ++ t) (append-nil rest)

fit-with_rest : (h : GroupHead) (rest : List ℕ) → IsTrue (fields_fit (group_head_fields h)) → AreBytes rest → list_all field_fits (group_head_fields h ++ (Text rest ∷ [])) ≡ true
fit-with_rest h rest fit all =
    list_all-append field_fits (group_head_fields h) (Text rest ∷ [])
    ∙ and_both (list_all field_fits (group_head_fields h)) _ fit (and_both (field_fits (Text rest)) true (bytes_pass rest all) refl)

-- a front says its numbers
pub head-says : (h : GroupHead) (bytes rest : List ℕ) → AreBytes bytes → BeginsWithHead h bytes rest
    → (number_at 1 0 bytes ≡ open_gate) × (head_read bytes ≡ h) × (length bytes ≡ 33 + length rest)
unfolding spelled
head-says h bytes rest all b =
    let fs = group_head_fields h ++ (Text rest ∷ []) in
    let rest_all = right_bytes (spelled (group_head_fields h)) rest (subst AreBytes b.1 all) in
    let fit = fit-with_rest h rest b.0 rest_all in
    let whole : bytes ≡ spelled fs = b.1 ∙ sym (spelled-with_rest h rest) in (
      ap (number_at 1 0) whole ∙ byte_in fs 0 open_gate fit refl,
      ap head_read whole ∙ λ i. record {
        length = four_in fs 1 h.length fit refl i;
        name = record { birth = eight_in fs 5 h.name.birth fit refl i; generation = eight_in fs 13 h.name.generation fit refl i };
        number = eight_in fs 21 h.number fit refl i;
        changes = four_in fs 29 h.changes fit refl i;
      },
      ap length b.1 ∙ length-append (spelled (group_head_fields h)) rest,
    )

-- the numbers at the front, spelled
front_of : (bytes : List ℕ) → AreBytes bytes → 33 ≤ length bytes
    → bytes ≡ big_bytes 1 (number_at 1 0 bytes) ++ (big_bytes 4 (number_at 4 1 bytes) ++ (big_bytes 8 (number_at 8 5 bytes) ++ (big_bytes 8 (number_at 8 13 bytes) ++ (big_bytes 8 (number_at 8 21 bytes) ++ (big_bytes 4 (number_at 4 29 bytes) ++ drop 33 bytes)))))
unfolding number_at
front_of bytes all le =
    let gate = number-then_rest 1 bytes all (omega arith) in
    let len = number-then_rest 4 (drop 1 bytes) (bytes-drop 1 bytes all) (omega (arith, length-drop 1 bytes)) in
    let birth = number-then_rest 8 (drop 5 bytes) (bytes-drop 5 bytes all) (omega (arith, length-drop 5 bytes)) in
    let generation = number-then_rest 8 (drop 13 bytes) (bytes-drop 13 bytes all) (omega (arith, length-drop 13 bytes)) in
    let number = number-then_rest 8 (drop 21 bytes) (bytes-drop 21 bytes all) (omega (arith, length-drop 21 bytes)) in
    let changes = number-then_rest 4 (drop 29 bytes) (bytes-drop 29 bytes all) (omega (arith, length-drop 29 bytes)) in
    sym gate
    ∙ ap (λ t. big_bytes 1 (number_at 1 0 bytes) ++ t) (sym len ∙ ap (λ t. big_bytes 4 (number_at 4 1 bytes) ++ t) (drop-drop 4 1 bytes
    ∙ sym birth ∙ ap (λ t. big_bytes 8 (number_at 8 5 bytes) ++ t) (drop-drop 8 5 bytes
    ∙ sym generation ∙ ap (λ t. big_bytes 8 (number_at 8 13 bytes) ++ t) (drop-drop 8 13 bytes
    ∙ sym number ∙ ap (λ t. big_bytes 8 (number_at 8 21 bytes) ++ t) (drop-drop 8 21 bytes
    ∙ sym changes ∙ ap (λ t. big_bytes 4 (number_at 4 29 bytes) ++ t) (drop-drop 4 29 bytes))))))

number_below : (n at : ℕ) (bytes : List ℕ) → AreBytes bytes → number_at n at bytes < 256 ^ n
unfolding number_at
number_below n at bytes all = big_from-lt 0 n (drop at bytes) (bytes-drop at bytes all)

head_spelled : (gate : ℕ) (h : GroupHead) (rest : List ℕ) → gate ≡ open_gate
    → big_bytes 1 gate ++ (big_bytes 4 h.length ++ (big_bytes 8 h.name.birth ++ (big_bytes 8 h.name.generation ++ (big_bytes 8 h.number ++ (big_bytes 4 h.changes ++ rest))))) ≡ spelled (group_head_fields h) ++ rest
unfolding spelled
head_spelled gate h rest e = ap (λ n. big_bytes 1 n ++ (big_bytes 4 h.length ++ (big_bytes 8 h.name.birth ++ (big_bytes 8 h.name.generation ++ (big_bytes 8 h.number ++ (big_bytes 4 h.changes ++ rest)))))) e

pub head_fits : (h : GroupHead) → h.length < 2 ^ 32 → h.changes < 2 ^ 32 → (h.name.birth < number_limit) × (h.name.generation < number_limit) × (h.number < number_limit) → IsTrue (fields_fit (group_head_fields h))
head_fits h len count small =
    and_both (nat_lt open_gate 256) _ refl (
    and_both (nat_lt h.length (2 ^ 32)) _ (lt-ltb h.length (2 ^ 32) len) (
    and_both (nat_lt h.name.birth number_limit) _ (lt-ltb h.name.birth number_limit small.0) (
    and_both (nat_lt h.name.generation number_limit) _ (lt-ltb h.name.generation number_limit small.1) (
    and_both (nat_lt h.number number_limit) _ (lt-ltb h.number number_limit small.2) (
    and_both (nat_lt h.changes (2 ^ 32)) true (lt-ltb h.changes (2 ^ 32) count) refl)))))

-- an open gate and numbers in their limits are a head
pub head_found : (bytes : List ℕ) (h : GroupHead) → AreBytes bytes → 33 ≤ length bytes → number_at 1 0 bytes ≡ open_gate → h ≡ head_read bytes
    → (h.name.birth < number_limit) × (h.name.generation < number_limit) × (h.number < number_limit) → BeginsWithHead h bytes (drop 33 bytes)
head_found bytes h all le gate is small =
    let len : h.length < 2 ^ 32 = subst (λ h. h.length < 2 ^ 32) (sym is) (number_below 4 1 bytes all) in
    let count : h.changes < 2 ^ 32 = subst (λ h. h.changes < 2 ^ 32) (sym is) (number_below 4 29 bytes all) in (
      head_fits h len count small,
      subst (λ h. bytes ≡ spelled (group_head_fields h) ++ drop 33 bytes) (sym is) (front_of bytes all le ∙ head_spelled (number_at 1 0 bytes) (head_read bytes) (drop 33 bytes) gate),
    )

-- when bytes begin with no head
pub no_head_short : (bytes : List ℕ) → AreBytes bytes → length bytes < 33 → (h : GroupHead) (rest : List ℕ) → BeginsWithHead h bytes rest → ⊥
no_head_short bytes all lt h rest b = let says = head-says h bytes rest all b in omega (arith, says.2)

pub no_head_closed : (bytes : List ℕ) → AreBytes bytes → number_at 1 0 bytes ≢ open_gate → (h : GroupHead) (rest : List ℕ) → BeginsWithHead h bytes rest → ⊥
no_head_closed bytes all closed h rest b = closed (head-says h bytes rest all b).0

abbrev pub AreSmall : GroupHead → Type 0
AreSmall h = (h.name.birth < number_limit) × (h.name.generation < number_limit) × (h.number < number_limit)

small_in : (h : GroupHead) → IsTrue (fields_fit (group_head_fields h)) → AreSmall h
small_in h fit =
    let behind_len = and_right (nat_lt h.length (2 ^ 32)) _ (and_right (nat_lt open_gate 256) _ fit) in
    let behind_birth = and_right (nat_lt h.name.birth number_limit) _ behind_len in
    let behind_generation = and_right (nat_lt h.name.generation number_limit) _ behind_birth in (
      ltb-true h.name.birth number_limit (and_left (nat_lt h.name.birth number_limit) _ behind_len),
      ltb-true h.name.generation number_limit (and_left (nat_lt h.name.generation number_limit) _ behind_birth),
      ltb-true h.number number_limit (and_left (nat_lt h.number number_limit) _ behind_generation),
    )

pub no_head_large : (bytes : List ℕ) (found : GroupHead) → AreBytes bytes → found ≡ head_read bytes → ¬ AreSmall found → (h : GroupHead) (rest : List ℕ) → BeginsWithHead h bytes rest → ⊥
no_head_large bytes found all is large h rest b = large (subst AreSmall (sym (is ∙ (head-says h bytes rest all b).1)) (small_in h b.0))

-- a group begins with its head
group_begins : (v : Group) (bytes : List ℕ) → Spells group_format v bytes → BeginsWithHead (group_head_of v) bytes (spelled (flat_map change_fields v.changes))
group_begins v bytes s =
    let fit : (list_all field_fits (group_head v) && list_all field_fits (flat_map change_fields v.changes)) ≡ true =
    sym (list_all-append field_fits (group_head v) (flat_map change_fields v.changes)) ∙ and_right (group_fits v) _ s.0 in
    (and_left (list_all field_fits (group_head v)) _ fit, s.1 ∙ spelled-append (group_head v) (flat_map change_fields v.changes))

group_bytes_are : (v : Group) (bytes : List ℕ) → Spells group_format v bytes → AreBytes bytes
group_bytes_are v bytes s = subst AreBytes (sym s.1) (fields_are_bytes (group_fields v) (and_right (group_fits v) _ s.0))

-- what is found at the front of a group is its head
pub finds_head : (bytes : List ℕ) (o : Option GroupHead) → FindsHead bytes o → (v : Group) → Spells group_format v bytes → o ≡ Some (group_head_of v)
finds_head bytes None none v s = absurd (none (group_head_of v) (spelled (flat_map change_fields v.changes)) (group_begins v bytes s))
finds_head bytes (Some h) b v s =
    let all = group_bytes_are v bytes s in
    let found = head-says h bytes (drop 33 bytes) all b in
    let meant = head-says (group_head_of v) bytes (spelled (flat_map change_fields v.changes)) all (group_begins v bytes s) in
    ap Some (sym found.1 ∙ meant.1)

-- bytes that begin with a head are not shorter
pub head_long : (h : GroupHead) (bytes rest : List ℕ) → BeginsWithHead h bytes rest → 33 ≤ length bytes
unfolding spelled
head_long h bytes rest b = let len = ap length b.1 ∙ length-append (spelled (group_head_fields h)) rest in omega (arith, len)

left_bytes : (xs ys : List ℕ) → AreBytes (xs ++ ys) → AreBytes xs
left_bytes [] ys all k = omega arith
left_bytes (x ∷ xs) ys all zero = all zero
left_bytes (x ∷ xs) ys all (suc k) = left_bytes xs ys (λ k. all (suc k)) k

-- the same where only a front of the group is there
pub front_finds_head : (front more bytes : List ℕ) (o : Option GroupHead) → bytes ≡ front ++ more → 33 ≤ length front → FindsHead front o → (v : Group) → Spells group_format v bytes → o ≡ Some (group_head_of v)
unfolding spelled
front_finds_head front more bytes o parts long found v s =
    let body = spelled (flat_map change_fields v.changes) in
    let b = group_begins v bytes s in
    let same : take 33 front ≡ spelled (group_head_fields (group_head_of v)) =
    sym (take-append-le 33 front more long) ∙ ap (take 33) (sym parts ∙ b.1) ∙ take_at (spelled (group_head_fields (group_head_of v))) body 33 refl in
    let begins : BeginsWithHead (group_head_of v) front (drop 33 front) = (b.0, sym (take-append-drop 33 front) ∙ ap (λ t. t ++ drop 33 front) same) in
    let all : AreBytes front = left_bytes front more (subst AreBytes parts (group_bytes_are v bytes s)) in
    elim o as (λ o. FindsHead front o → o ≡ Some (group_head_of v)) [
      | None ↦ λ none. absurd (none (group_head_of v) (drop 33 front) begins)
      | Some h ↦ λ is. ap Some (sym (head-says h front (drop 33 front) all is).1 ∙ (head-says (group_head_of v) front (drop 33 front) all begins).1)
    ] found
