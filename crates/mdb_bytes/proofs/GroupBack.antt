-- A commit group is read back, and so decoded exactly.
use Rattle.std.proofs.Common.{◌≡◌, refl, sym, ap, ◌∙◌, ℕ, ◌+◌, ◌==◌, true, List, [], ◌∷◌, ◌++◌, length, take, drop}
use Rattle.std.specs.Prelude.{if◌then◌else◌}
use Rattle.std.specs.List.{list_all, flat_map}
use Rattle.std.proofs.lemmas.List.{take_at, drop_at, drop-drop}
use Rattle.mdb_model.specs.declared.change.Change.{Change}
use Rattle.mdb_model.specs.declared.change.Change.TheVariants.{Put, Del}
use Rattle.mdb_model.specs.Sessions.{change_bytes}
use Rattle.mdb_bytes.specs.Fields.{Field, ReadsBack, Decodes, decoded, field_fits, spelled, number_at, read_run}
use Rattle.mdb_bytes.specs.Groups.{change_fields, change_reads, group_head, group_fields, group_fits, group_format}
use Rattle.mdb_bytes.proofs.Decoding.{and_right, decoded-exact}
use Rattle.mdb_bytes.proofs.ReadBack.{byte_in, two_in, four_in, eight_in}
use Rattle.mdb_bytes.proofs.GroupLaw.{spelled-append, length-change}

pub all_right : (xs ys : List Field) → list_all field_fits (xs ++ ys) ≡ true → list_all field_fits ys ≡ true
all_right [] ys e = e
all_right (x ∷ xs) ys e = all_right xs ys (and_right (field_fits x) _ e)

pub change_again : (c : Change) (more : List Field) → list_all field_fits (change_fields c ++ more) ≡ true → change_reads (spelled (change_fields c ++ more)) ≡ c
unfolding spelled
change_again (Put table key value) more fit =
    let fs = change_fields (Put table key value) ++ more in
    let bytes = spelled fs in
    let kind : number_at 1 2 bytes ≡ 1 = byte_in fs 2 1 fit refl in
    let number : number_at 2 0 bytes ≡ table.0 = two_in fs 0 table.0 fit refl in
    let key_len : number_at 2 3 bytes ≡ length key = two_in fs 3 (length key) fit refl in
    let value_len : number_at 2 5 bytes ≡ length value = two_in fs 5 (length value) fit refl in
    let body : drop 7 bytes ≡ key ++ (value ++ spelled more) = refl in
    let first : take (number_at 2 3 bytes) (drop 7 bytes) ≡ key = ap (λ n. take n (drop 7 bytes)) key_len ∙ take_at key (value ++ spelled more) (length key) refl in
    let rest : drop (7 + number_at 2 3 bytes) bytes ≡ value ++ spelled more =
    ap (λ n. drop (7 + n) bytes) key_len ∙ sym (drop-drop (length key) 7 bytes) ∙ drop_at key (value ++ spelled more) (length key) refl in
    let second : take (number_at 2 5 bytes) (drop (7 + number_at 2 3 bytes) bytes) ≡ value =
    (λ i. take (value_len i) (rest i)) ∙ take_at value (spelled more) (length value) refl in
    λ i. if kind i == 1 then Put (record { 0 = number i }) (first i) (second i) else Del (record { 0 = number i }) (first i)
change_again (Del table key) more fit =
    let fs = change_fields (Del table key) ++ more in
    let bytes = spelled fs in
    let kind : number_at 1 2 bytes ≡ 2 = byte_in fs 2 2 fit refl in
    let number : number_at 2 0 bytes ≡ table.0 = two_in fs 0 table.0 fit refl in
    let key_len : number_at 2 3 bytes ≡ length key = two_in fs 3 (length key) fit refl in
    let first : take (number_at 2 3 bytes) (drop 7 bytes) ≡ key = ap (λ n. take n (drop 7 bytes)) key_len ∙ take_at key (spelled more) (length key) refl in
    λ i. if kind i == 1 then Put (record { 0 = number i }) (first i) (take (number_at 2 5 bytes) (drop (7 + number_at 2 3 bytes) bytes)) else Del (record { 0 = number i }) (first i)

changes_again : (cs : List Change) → list_all field_fits (flat_map change_fields cs) ≡ true
    → read_run change_reads change_bytes (length cs) (spelled (flat_map change_fields cs)) ≡ cs
unfolding read_run
changes_again [] fit = refl
changes_again (c ∷ cs) fit =
    let more = flat_map change_fields cs in
    let bytes = spelled (change_fields c ++ more) in
    let first : change_reads bytes ≡ c = change_again c more fit in
    let rest : drop (change_bytes (change_reads bytes)) bytes ≡ spelled more =
    ap (λ c. drop (change_bytes c) bytes) first ∙ ap (drop (change_bytes c)) (spelled-append (change_fields c) more)
    ∙ drop_at (spelled (change_fields c)) (spelled more) (change_bytes c) (length-change c) in
    (λ i. first i ∷ read_run change_reads change_bytes (length cs) (rest i)) ∙ ap (λ cs. c ∷ cs) (changes_again cs (all_right (change_fields c) more fit))

pub group_again : ReadsBack group_format
unfolding spelled
group_again v kept =
    let fs = group_fields v in
    let bytes = spelled fs in
    let fit : list_all field_fits fs ≡ true = and_right (group_fits v) _ kept in
    let count : number_at 4 29 bytes ≡ length v.changes = four_in fs 29 (length v.changes) fit refl in
    let body : drop 33 bytes ≡ spelled (flat_map change_fields v.changes) = refl in
    let changes : read_run change_reads change_bytes (number_at 4 29 bytes) (drop 33 bytes) ≡ v.changes =
    (λ i. read_run change_reads change_bytes (count i) (body i)) ∙ changes_again v.changes (all_right (group_head v) (flat_map change_fields v.changes) fit) in
    λ i. record {
      name = record { birth = eight_in fs 5 v.name.birth fit refl i; generation = eight_in fs 13 v.name.generation fit refl i };
      number = eight_in fs 21 v.number fit refl i;
      changes = changes i;
    }

pub group-exact : (bytes : List ℕ) → Decodes group_format bytes (decoded group_format bytes)
group-exact bytes = decoded-exact group_format group_again bytes
