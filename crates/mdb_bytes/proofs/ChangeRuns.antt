-- Changes one after the other.
use Rattle.std.proofs.Common.{◌≡◌, refl, sym, ap, subst, ◌∙◌, ℕ, ◌+◌, ◌<◌, ◌≤◌, true, List, [], ◌∷◌, ◌++◌, length, drop, arith, length-append}
use Rattle.std.specs.Prelude.{◌&&◌, map, nat_le}
use Rattle.mdb_model.specs.Tables.{place_cmp, place_of}
use Rattle.std.specs.List.{list_all, flat_map}
use Rattle.std.proofs.lemmas.List.Folds.{list_all-append}
use Rattle.mdb_model.specs.declared.change.Change.{Change}
use Rattle.mdb_model.specs.declared.change.Change.TheVariants.{Put, Del}
use Rattle.mdb_model.specs.Sessions.{change_bytes, group_bytes}
use Rattle.mdb_bytes.specs.Fields.{Spells, rises, field_fits, fields_fit, spelled}
use Rattle.mdb_bytes.specs.Groups.{Group, longest_group, group_format, group_head, group_fits, change_fields, change_fits}
use Rattle.mdb_bytes.specs.LoggedChanges.{BeginsWithChange, HasChanges}
use Rattle.mdb_bytes.proofs.Decoding.{and_left, and_right, and_both}
use Rattle.mdb_bytes.proofs.GroupLaw.{spelled-append, length-change, length-group, group_is_long}
use Rattle.mdb_bytes.proofs.GroupBack.{all_right}
use Rattle.mdb_bytes.proofs.NumberBytes.{AreBytes, fields_are_bytes}
use Rattle.mdb_bytes.proofs.ChangeFront.{same_first}

abbrev bytes_of : List Change → List ℕ
bytes_of cs = spelled (flat_map change_fields cs)

pub changes-first : (c : Change) (cs : List Change) (bytes : List ℕ) → HasChanges bytes (c ∷ cs) → BeginsWithChange c bytes (bytes_of cs) × HasChanges (bytes_of cs) cs
changes-first c cs bytes h =
    let fits = and_left (change_fits c && list_all change_fits cs) _ h.0 in
    let room : (list_all field_fits (change_fields c) && list_all field_fits (flat_map change_fields cs)) ≡ true =
    sym (list_all-append field_fits (change_fields c) (flat_map change_fields cs)) ∙ and_right (change_fits c && list_all change_fits cs) _ h.0 in (
      (
        and_both (change_fits c) (fields_fit (change_fields c)) (and_left (change_fits c) _ fits) (and_left (list_all field_fits (change_fields c)) _ room),
        h.1 ∙ spelled-append (change_fields c) (flat_map change_fields cs),
      ),
      (
        and_both (list_all change_fits cs) (fields_fit (flat_map change_fields cs)) (and_right (change_fits c) _ fits) (and_right (list_all field_fits (change_fields c)) _ room),
        refl,
      ),
    )

pub changes-cons : (c : Change) (cs : List Change) (bytes rest : List ℕ) → BeginsWithChange c bytes rest → HasChanges rest cs → HasChanges bytes (c ∷ cs)
changes-cons c cs bytes rest b h =
    let fits = and_both (change_fits c) (list_all change_fits cs) (and_left (change_fits c) _ b.0) (and_left (list_all change_fits cs) _ h.0) in
    let room = list_all-append field_fits (change_fields c) (flat_map change_fields cs)
    ∙ and_both (fields_fit (change_fields c)) (fields_fit (flat_map change_fields cs)) (and_right (change_fits c) _ b.0) (and_right (list_all change_fits cs) _ h.0) in (
      and_both (change_fits c && list_all change_fits cs) (fields_fit (change_fields c ++ flat_map change_fields cs)) fits room,
      b.1 ∙ ap (λ t. spelled (change_fields c) ++ t) h.1 ∙ sym (spelled-append (change_fields c) (flat_map change_fields cs)),
    )

pub begins_longer : (c : Change) (bytes rest : List ℕ) → BeginsWithChange c bytes rest → length bytes ≡ change_bytes c + length rest
begins_longer c bytes rest b = ap length b.1 ∙ length-append (spelled (change_fields c)) rest ∙ ap (λ n. n + length rest) (length-change c)

pub change_is_long : (c : Change) → 7 ≤ change_bytes c
change_is_long (Put table key value) = omega arith
change_is_long (Del table key) = omega arith

pub shorter : (c : Change) (bytes rest : List ℕ) → BeginsWithChange c bytes rest → length rest < length bytes
shorter c bytes rest b = let longer = begins_longer c bytes rest b in let long = change_is_long c in omega arith

-- what a reader gives next
pub gives_none : (bytes : List ℕ) → ((c : Change) (rest : List ℕ) → BeginsWithChange c bytes rest → ⊥) → (cs : List Change) → HasChanges bytes cs → cs ≡ []
gives_none bytes none [] h = refl
gives_none bytes none (c ∷ cs) h = absurd (none c (bytes_of cs) (changes-first c cs bytes h).0)

changes_are_bytes : (cs : List Change) (bytes : List ℕ) → HasChanges bytes cs → AreBytes bytes
changes_are_bytes cs bytes h = subst AreBytes (sym h.1) (fields_are_bytes (flat_map change_fields cs) (and_right (list_all change_fits cs) _ h.0))

pub gives_some : (c : Change) (bytes rest : List ℕ) → BeginsWithChange c bytes rest → (cs : List Change) → HasChanges bytes cs
    → (others : List Change) × (cs ≡ c ∷ others) × HasChanges rest others
unfolding spelled
gives_some c bytes rest b [] h =
    let empty : length bytes ≡ 0 = ap length h.1 in
    let less = shorter c bytes rest b in
    absurd (omega arith)
gives_some c bytes rest b (d ∷ cs) h =
    let first = changes-first d cs bytes h in
    let same = same_first c d bytes rest (bytes_of cs) (changes_are_bytes (d ∷ cs) bytes h) b first.0 in
    (cs, ap (λ d. d ∷ cs) (sym same.0), subst (λ t. HasChanges t cs) (sym same.1) first.1)

-- the changes of a group stand after its head
pub group_changes : (v : Group) (bytes : List ℕ) → Spells group_format v bytes → HasChanges (drop 33 bytes) v.changes
unfolding spelled
group_changes v bytes s =
    let fits = and_left (list_all change_fits v.changes && rises place_cmp (map place_of v.changes)) (nat_le (group_bytes v.changes) longest_group) (and_left (group_fits v) _ s.0) in
    let room = all_right (group_head v) (flat_map change_fields v.changes) (and_right (group_fits v) _ s.0) in (
      and_both (list_all change_fits v.changes) (fields_fit (flat_map change_fields v.changes)) (and_left (list_all change_fits v.changes) (rises place_cmp (map place_of v.changes)) fits) room,
      ap (drop 33) s.1,
    )

pub group_long : (v : Group) (bytes : List ℕ) → Spells group_format v bytes → (length bytes ≡ group_bytes v.changes) × (33 ≤ length bytes)
group_long v bytes s = let len : length bytes ≡ group_bytes v.changes = ap length s.1 ∙ length-group v in let long = group_is_long v.changes in (len, omega arith)
