-- The group of changes as it is written, one change after another.
--     written_push, fit_push      one more change after others
--     one_fits      one of changes that fit does
--     room_push      there is room for it
--     group_whole, group_length      the group of all changes, and how long it is
use Rattle.std.proofs.Common.{◌≡◌, sym, ap, ◌∙◌, ℕ, ◌+◌, ◌<◌, ◌≤◌, List, [], ◌∷◌, ◌++◌, length, arith, append_assoc, length-append}
use Rattle.std.specs.Prelude.{sum_by, IsTrue}
use Rattle.std.specs.List.{flat_map, list_all}
use Rattle.std.proofs.lemmas.Bool.{le-leb}
use Rattle.std.proofs.lemmas.List.{append-nil}
use Rattle.std.proofs.lemmas.List.Concat.{flat_map-append}
use Rattle.std.proofs.lemmas.List.Folds.{list_all-append}
use Rattle.std.proofs.lemmas.List.Sums.{sum_by-cons, sum_by-append}
use Rattle.mdb_model.specs.declared.change.Change.{Change}
use Rattle.mdb_model.specs.declared.name.Name.{Name}
use Rattle.mdb_model.specs.Sessions.{change_bytes, group_bytes}
use Rattle.mdb_bytes.specs.declared.group.GroupHead.{GroupHead}
use Rattle.mdb_bytes.specs.Fields.{Spells, field_fits, fields_fit, spelled, number_limit}
use Rattle.mdb_bytes.specs.Groups.{group_format, group_fits, change_fits, change_fields, longest_group}
use Rattle.mdb_bytes.specs.GroupHeads.{group_head_fields, group_head_of}
use Rattle.mdb_bytes.proofs.Decoding.{and_left, and_right, and_both}
use Rattle.mdb_bytes.proofs.GroupLaw.{spelled-append, length-changes}
use Rattle.mdb_bytes.proofs.Written.{group_written}
use Rattle.transactions.specs.Net.{AreNet}

-- the fields of changes with one more
fields_push : (xs : List Change) (c : Change) → flat_map change_fields (xs ++ c ∷ []) ≡ flat_map change_fields xs ++ change_fields c
fields_push xs c = flat_map-append change_fields xs (c ∷ []) ∙ ap (λ t. flat_map change_fields xs ++ t) (append-nil (change_fields c))

-- one more change after others
pub written_push : (xs : List Change) (c : Change) (front old new : List ℕ) → old ≡ front ++ spelled (flat_map change_fields xs) → new ≡ old ++ spelled (change_fields c)
    → new ≡ front ++ spelled (flat_map change_fields (xs ++ c ∷ []))
written_push xs c front old new was is =
    is ∙ ap (λ t. t ++ spelled (change_fields c)) was ∙ append_assoc front (spelled (flat_map change_fields xs)) (spelled (change_fields c))
    ∙ ap (λ t. front ++ t) (sym (spelled-append (flat_map change_fields xs) (change_fields c)) ∙ ap spelled (sym (fields_push xs c)))

-- its fields fit
pub fit_push : (xs : List Change) (c : Change) → IsTrue (fields_fit (flat_map change_fields xs)) → IsTrue (fields_fit (change_fields c)) → IsTrue (fields_fit (flat_map change_fields (xs ++ c ∷ [])))
fit_push xs c was is =
    ap fields_fit (fields_push xs c) ∙ list_all-append field_fits (flat_map change_fields xs) (change_fields c)
    ∙ and_both (fields_fit (flat_map change_fields xs)) (fields_fit (change_fields c)) was is

-- one of changes that fit does
pub one_fits : (xs rest cs : List Change) (c : Change) → xs ++ c ∷ rest ≡ cs → IsTrue (list_all change_fits cs) → IsTrue (change_fits c)
one_fits xs rest cs c whole all =
    and_left (change_fits c) (list_all change_fits rest)
    (and_right (list_all change_fits xs) (list_all change_fits (c ∷ rest)) (sym (list_all-append change_fits xs (c ∷ rest)) ∙ ap (list_all change_fits) whole ∙ all))

-- there is room for it
pub room_push : (xs rest cs : List Change) (c : Change) (h : GroupHead) (old : List ℕ) → xs ++ c ∷ rest ≡ cs → group_bytes cs ≤ longest_group
    → old ≡ spelled (group_head_fields h) ++ spelled (flat_map change_fields xs) → length old + change_bytes c ≤ longest_group
unfolding spelled
room_push xs rest cs c h old whole most was =
    let len : length old ≡ 33 + sum_by change_bytes xs =
    ap length was ∙ length-append (spelled (group_head_fields h)) (spelled (flat_map change_fields xs)) ∙ ap (λ n. 33 + n) (length-changes xs) in
    let parts : sum_by change_bytes cs ≡ sum_by change_bytes xs + sum_by change_bytes (c ∷ rest) = ap (sum_by change_bytes) (sym whole) ∙ sum_by-append change_bytes xs (c ∷ rest) in
    let more : sum_by change_bytes (c ∷ rest) ≡ change_bytes c + sum_by change_bytes rest = sum_by-cons change_bytes c rest in
    omega (arith, len, parts, more, most)

-- net changes make a group
net_fits : (name : Name) (number : ℕ) (cs : List Change) → AreNet cs → IsTrue (group_fits (record { name = name; number = number; changes = cs }))
net_fits name number cs net = and_both _ _ (and_both _ _ net.each_fits net.ascend) (le-leb _ _ net.fit)

-- the group of all changes
pub group_whole : (name : Name) (number : ℕ) (cs : List Change) (into : List ℕ) → AreNet cs
    → (name.birth < number_limit) × (name.generation < number_limit) × (number < number_limit)
    → into ≡ spelled (group_head_fields (group_head_of (record { name = name; number = number; changes = cs }))) ++ spelled (flat_map change_fields cs)
    → IsTrue (fields_fit (flat_map change_fields cs)) → Spells group_format (record { name = name; number = number; changes = cs }) into
group_whole name number cs into net small is fit = group_written name number cs into (net_fits name number cs net) small is fit

-- how long it is
pub group_length : (h : GroupHead) (cs : List Change) (into : List ℕ) → into ≡ spelled (group_head_fields h) ++ spelled (flat_map change_fields cs) → length into ≡ group_bytes cs
unfolding spelled
group_length h cs into is = ap length is ∙ length-append (spelled (group_head_fields h)) (spelled (flat_map change_fields cs)) ∙ ap (λ n. 33 + n) (length-changes cs)
