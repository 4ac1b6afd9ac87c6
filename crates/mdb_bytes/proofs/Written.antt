-- What was written.
use Rattle.std.proofs.Common.{◌≡◌, refl, sym, ap, subst, ◌∙◌, ℕ, zero, suc, ◌+◌, ◌<◌, ◌≤◌, ◌%◌, ◌^◌, Bool, true, List, [], ◌∷◌, ◌++◌, length, take, get_or, arith, append_assoc, length-append}
use Rattle.std.specs.Prelude.{nat_lt, sum_by, IsTrue}
use Rattle.std.specs.List.{list_all, flat_map}
use Rattle.std.proofs.Math.Nat.{mod-eq_of_lt}
use Rattle.std.proofs.lemmas.Bool.{lt-ltb}
use Rattle.std.proofs.lemmas.List.{append-nil, take_more}
use Rattle.std.proofs.lemmas.List.Concat.{flat_map-append}
use Rattle.std.proofs.lemmas.List.Folds.{list_all-append}
use Rattle.std.proofs.lemmas.List.Sums.{sum_by_more_le, sum_by_more, sum_by-cons}
use Rattle.byteorder.specs.Endian.{big_bytes}
use Rattle.mdb_model.specs.declared.change.Change.{Change}
use Rattle.mdb_model.specs.declared.change.Change.TheVariants.{Put, Del}
use Rattle.mdb_model.specs.declared.name.Name.{Name}
use Rattle.mdb_model.specs.declared.name.Table.{Table}
use Rattle.mdb_model.specs.Sessions.{change_bytes, group_bytes}
use Rattle.mdb_bytes.specs.declared.group.GroupHead.{GroupHead}
use Rattle.mdb_bytes.specs.Fields.{Byte, Two, Text, Spells, field_fits, fields_fit, spelled, number_limit}
use Rattle.mdb_bytes.specs.Groups.{Group, group_format, group_fits, group_fields, group_head, change_fields, longest_group}
use Rattle.mdb_bytes.specs.GroupHeads.{group_head_fields, group_head_of}
use Rattle.mdb_bytes.proofs.Decoding.{and_left, and_right, and_both}
use Rattle.mdb_bytes.proofs.GroupLaw.{spelled-append, length-changes}
use Rattle.mdb_bytes.proofs.NumberBytes.{AreBytes, bytes_pass}
use Rattle.mdb_bytes.proofs.GroupFront.{head_fits}
use Rattle.mdb_bytes.proofs.GroupChecked.{group_limits}
use Rattle.mdb_bytes.proofs.ChangeRuns.{change_is_long}

pub all_at : {A : Type 0} (p : A → Bool) (xs : List A) (i : ℕ) (d : A) → i < length xs → list_all p xs ≡ true → p (get_or xs i d) ≡ true
all_at p [] i d lt all = absurd (omega arith)
all_at p (x ∷ xs) zero d lt all = and_left (p x) _ all
all_at p (x ∷ xs) (suc i) d lt all = all_at p xs i d (omega (arith, lt)) (and_right (p x) _ all)

-- bytes that were put one after the other
regrouped : (old a b c d key value : List ℕ) → (((((old ++ a) ++ b) ++ c) ++ d) ++ key) ++ value ≡ old ++ (a ++ (b ++ (c ++ (d ++ (key ++ value)))))
regrouped old a b c d key value = simp append_assoc

pub parts_spelled : (old key value : List ℕ) (table kind : ℕ) → kind < 256
    → (((((old ++ big_bytes 2 table) ++ (kind ∷ [])) ++ big_bytes 2 (length key)) ++ big_bytes 2 (length value)) ++ key) ++ value
    ≡ old ++ spelled (Two table ∷ Byte kind ∷ Two (length key) ∷ Two (length value) ∷ Text key ∷ Text value ∷ [])
unfolding spelled
parts_spelled old key value table kind lt =
    let same : kind ≡ kind % 256 = sym (mod-eq_of_lt lt) in
    let ended : value ≡ value ++ [] = sym (append-nil value) in
    regrouped old (big_bytes 2 table) (kind ∷ []) (big_bytes 2 (length key)) (big_bytes 2 (length value)) key value
    ∙ (λ i. old ++ (big_bytes 2 table ++ ((same i ∷ []) ++ (big_bytes 2 (length key) ++ (big_bytes 2 (length value) ++ (key ++ ended i))))))

pub parts_fit : (key value : List ℕ) (table kind : ℕ) → table < 2 ^ 16 → kind < 256 → length key < 2 ^ 16 → length value < 2 ^ 16 → AreBytes key → AreBytes value
    → IsTrue (fields_fit (Two table ∷ Byte kind ∷ Two (length key) ∷ Two (length value) ∷ Text key ∷ Text value ∷ []))
parts_fit key value table kind t k kl vl bytes_k bytes_v =
    and_both (nat_lt table (2 ^ 16)) _ (lt-ltb table (2 ^ 16) t) (
    and_both (nat_lt kind 256) _ (lt-ltb kind 256 k) (
    and_both (nat_lt (length key) (2 ^ 16)) _ (lt-ltb (length key) (2 ^ 16) kl) (
    and_both (nat_lt (length value) (2 ^ 16)) _ (lt-ltb (length value) (2 ^ 16) vl) (
    and_both (list_all (λ b. nat_lt b 256) key) _ (bytes_pass key bytes_k) (
    and_both (list_all (λ b. nat_lt b 256) value) true (bytes_pass value bytes_v) refl)))))

-- a deletion has no value
pub del_written : (c : Change) (into old key bytes : List ℕ) (table : Table) → c ≡ Del table key → bytes ≡ key
    → into ≡ old ++ spelled (Two table.0 ∷ Byte 2 ∷ Two (length bytes) ∷ Two 0 ∷ Text bytes ∷ Text [] ∷ []) → into ≡ old ++ spelled (change_fields c)
unfolding spelled
del_written c into old key bytes table is same e =
    e ∙ ap (λ bytes. old ++ spelled (Two table.0 ∷ Byte 2 ∷ Two (length bytes) ∷ Two 0 ∷ Text bytes ∷ Text [] ∷ [])) same ∙ ap (λ c. old ++ spelled (change_fields c)) (sym is)

pub del_fits : (c : Change) (key bytes : List ℕ) (table : Table) → c ≡ Del table key → bytes ≡ key
    → IsTrue (fields_fit (Two table.0 ∷ Byte 2 ∷ Two (length bytes) ∷ Two 0 ∷ Text bytes ∷ Text [] ∷ [])) → IsTrue (fields_fit (change_fields c))
del_fits c key bytes table is same fit =
    subst (λ c. IsTrue (fields_fit (change_fields c))) (sym is)
    (subst (λ bytes. IsTrue (fields_fit (Two table.0 ∷ Byte 2 ∷ Two (length bytes) ∷ Two 0 ∷ Text bytes ∷ Text [] ∷ []))) same fit)

pub put_fits : (c : Change) (key value bytes value_bytes : List ℕ) (table : Table) → c ≡ Put table key value → bytes ≡ key → value_bytes ≡ value
    → IsTrue (fields_fit (Two table.0 ∷ Byte 1 ∷ Two (length bytes) ∷ Two (length value_bytes) ∷ Text bytes ∷ Text value_bytes ∷ [])) → IsTrue (fields_fit (change_fields c))
put_fits c key value bytes value_bytes table is k v fit =
    subst (λ c. IsTrue (fields_fit (change_fields c))) (sym is)
    (subst (λ (p : List ℕ × List ℕ). IsTrue (fields_fit (Two table.0 ∷ Byte 1 ∷ Two (length p.0) ∷ Two (length p.1) ∷ Text p.0 ∷ Text p.1 ∷ []))) (λ i. (k i, v i)) fit)

-- the changes so far, and one more
fields_more : (cs : List Change) (i : ℕ) (d : Change) → i < length cs → flat_map change_fields (take (i + 1) cs) ≡ flat_map change_fields (take i cs) ++ change_fields (get_or cs i d)
fields_more cs i d lt =
    ap (flat_map change_fields) (take_more cs i d lt) ∙ flat_map-append change_fields (take i cs) (get_or cs i d ∷ [])
    ∙ ap (λ t. flat_map change_fields (take i cs) ++ t) (append-nil (change_fields (get_or cs i d)))

pub written_more : (cs : List Change) (i : ℕ) (d : Change) (front old new : List ℕ) → i < length cs → old ≡ front ++ spelled (flat_map change_fields (take i cs))
    → new ≡ old ++ spelled (change_fields (get_or cs i d)) → new ≡ front ++ spelled (flat_map change_fields (take (i + 1) cs))
written_more cs i d front old new lt was is =
    is ∙ ap (λ t. t ++ spelled (change_fields (get_or cs i d))) was ∙ append_assoc front (spelled (flat_map change_fields (take i cs))) (spelled (change_fields (get_or cs i d)))
    ∙ ap (λ t. front ++ t) (sym (spelled-append (flat_map change_fields (take i cs)) (change_fields (get_or cs i d))) ∙ ap spelled (sym (fields_more cs i d lt)))

pub fit_more : (cs : List Change) (i : ℕ) (d : Change) → i < length cs → IsTrue (fields_fit (flat_map change_fields (take i cs))) → IsTrue (fields_fit (change_fields (get_or cs i d)))
    → IsTrue (fields_fit (flat_map change_fields (take (i + 1) cs)))
fit_more cs i d lt was is =
    ap fields_fit (fields_more cs i d lt) ∙ list_all-append field_fits (flat_map change_fields (take i cs)) (change_fields (get_or cs i d))
    ∙ and_both (fields_fit (flat_map change_fields (take i cs))) (fields_fit (change_fields (get_or cs i d))) was is

-- there is room for one more
pub room_for : (cs : List Change) (i : ℕ) (d : Change) (h : GroupHead) (old : List ℕ) → i < length cs → group_bytes cs ≤ longest_group
    → old ≡ spelled (group_head_fields h) ++ spelled (flat_map change_fields (take i cs)) → length old + change_bytes (get_or cs i d) ≤ longest_group
unfolding spelled
room_for cs i d h old lt most was =
    let len : length old ≡ 33 + sum_by change_bytes (take i cs) =
    ap length was ∙ length-append (spelled (group_head_fields h)) (spelled (flat_map change_fields (take i cs))) ∙ ap (λ n. 33 + n) (length-changes (take i cs)) in
    let more = sum_by_more_le change_bytes cs i d lt in
    omega arith

pub sum_room : (cs : List Change) (i : ℕ) (d : Change) (so_far : ℕ) → i < length cs → group_bytes cs ≤ longest_group → so_far ≡ 33 + sum_by change_bytes (take i cs)
    → so_far + change_bytes (get_or cs i d) ≤ longest_group
sum_room cs i d so_far lt most is = let more = sum_by_more_le change_bytes cs i d lt in omega arith

pub sum_more : (cs : List Change) (i : ℕ) (d : Change) (so_far : ℕ) → i < length cs → so_far ≡ 33 + sum_by change_bytes (take i cs)
    → so_far + change_bytes (get_or cs i d) ≡ 33 + sum_by change_bytes (take (i + 1) cs)
sum_more cs i d so_far lt is = let more = sum_by_more change_bytes cs i d lt in omega arith

-- there are fewer changes than bytes
pub count_small : (cs : List Change) → length cs ≤ sum_by change_bytes cs
count_small [] = omega arith
count_small (c ∷ cs) = let more = count_small cs in let long = change_is_long c in rw sum_by-cons (omega (arith, more))

-- a group that was written
pub group_written : (name : Name) (number : ℕ) (cs : List Change) (into : List ℕ) → IsTrue (group_fits (record { name = name; number = number; changes = cs }))
    → (name.birth < number_limit) × (name.generation < number_limit) × (number < number_limit)
    → into ≡ spelled (group_head_fields (group_head_of (record { name = name; number = number; changes = cs }))) ++ spelled (flat_map change_fields cs)
    → IsTrue (fields_fit (flat_map change_fields cs)) → Spells group_format (record { name = name; number = number; changes = cs }) into
group_written name number cs into fits small is fit =
    let v : Group = record { name = name; number = number; changes = cs } in
    let limits = group_limits v fits in
    let count = count_small cs in
    let len : group_bytes cs < 2 ^ 32 = omega (arith, limits.2) in
    let few : length cs < 2 ^ 32 = omega (arith, limits.2) in
    let room = list_all-append field_fits (group_head v) (flat_map change_fields cs) ∙ and_both (fields_fit (group_head v)) (fields_fit (flat_map change_fields cs)) (head_fits (group_head_of v) len few small) fit in
    (and_both (group_fits v) (fields_fit (group_fields v)) fits room, is ∙ sym (spelled-append (group_head v) (flat_map change_fields cs)))
