-- Where the parts of a change stand.
use Rattle.std.proofs.Common.{◌≡◌, refl, sym, ap, subst, ◌∙◌, ℕ, zero, suc, ◌+◌, ◌-◌, ◌<◌, ◌≤◌, List, [], ◌∷◌, ◌++◌, length, take, drop, Some, arith, append_assoc}
use Rattle.std.specs.Prelude.{slice_get}
use Rattle.std.proofs.lemmas.List.{append-nil, drop-drop, take_at, drop_at, length-drop}
use Rattle.mdb_model.specs.declared.change.Change.{Change}
use Rattle.mdb_model.specs.declared.change.Change.TheVariants.{Put, Del}
use Rattle.mdb_model.specs.Sessions.{change_bytes}
use Rattle.mdb_bytes.specs.declared.entry.ChangeEntry.{ChangeEntry}
use Rattle.mdb_bytes.specs.Fields.{Spells, spelled}
use Rattle.mdb_bytes.specs.Groups.{Group, group_format, change_fields}
use Rattle.mdb_bytes.specs.LoggedChanges.{BeginsWithChange, HasChanges}
use Rattle.mdb_bytes.specs.ChangeEntries.{change_key, value_of, entry_in, IsEntry, FindsChange}
use Rattle.mdb_bytes.proofs.GroupLaw.{length-change}
use Rattle.mdb_bytes.proofs.ChangeRuns.{begins_longer, gives_none, gives_some, group_changes}

-- the key and the value stand after the front
body_of : (c : Change) (bytes rest : List ℕ) → BeginsWithChange c bytes rest → drop 7 bytes ≡ change_key c ++ (value_of c ++ rest)
unfolding spelled
body_of (Put table key value) bytes rest b =
    ap (drop 7) b.1 ∙ append_assoc key (value ++ []) rest ∙ ap (λ t. key ++ (t ++ rest)) (append-nil value)
body_of (Del table key) bytes rest b = ap (drop 7) b.1 ∙ ap (λ t. t ++ rest) (append-nil key)

key_at : (c : Change) (bytes rest : List ℕ) → BeginsWithChange c bytes rest → take (length (change_key c)) (drop 7 bytes) ≡ change_key c
key_at c bytes rest b = ap (take (length (change_key c))) (body_of c bytes rest b) ∙ take_at (change_key c) (value_of c ++ rest) (length (change_key c)) refl

value_at : (c : Change) (bytes rest : List ℕ) → BeginsWithChange c bytes rest → take (length (value_of c)) (drop (length (change_key c)) (drop 7 bytes)) ≡ value_of c
value_at c bytes rest b =
    ap (λ t. take (length (value_of c)) (drop (length (change_key c)) t)) (body_of c bytes rest b)
    ∙ ap (take (length (value_of c))) (drop_at (change_key c) (value_of c ++ rest) (length (change_key c)) refl)
    ∙ take_at (value_of c) rest (length (value_of c)) refl

pub entry_there : (all bytes rest : List ℕ) (place : ℕ) (c : Change) → drop place all ≡ bytes → BeginsWithChange c bytes rest → IsEntry all (entry_in place c) c
entry_there all bytes rest place c from b =
    let body : drop (place + 7) all ≡ drop 7 bytes = sym (drop-drop 7 place all) ∙ ap (drop 7) from in
    let value : drop (place + 7 + length (change_key c)) all ≡ drop (length (change_key c)) (drop 7 bytes) =
    sym (drop-drop (length (change_key c)) (place + 7) all) ∙ ap (drop (length (change_key c))) body in (
      refl,
      refl,
      ap (take (length (change_key c))) body ∙ key_at c bytes rest b,
      refl,
      ap (take (length (value_of c))) value ∙ value_at c bytes rest b,
      refl,
    )

pub parts_len : (c : Change) → change_bytes c ≡ 7 + length (change_key c) + length (value_of c)
parts_len (Put table key value) = refl
parts_len (Del table key) = omega arith

-- what is left keeps its place when the front goes
pub left_on : (all rest behind : List ℕ) (c : Change) → length rest ≤ length all → drop (length all - length rest) all ≡ rest → BeginsWithChange c rest behind
    → (length behind ≤ length all) × (drop (length all - length behind) all ≡ behind)
left_on all rest behind c le from b =
    let longer = begins_longer c rest behind b in
    let place : length all - length behind ≡ (length all - length rest) + change_bytes c = omega arith in
    let past : drop (change_bytes c) rest ≡ behind = ap (drop (change_bytes c)) b.1 ∙ drop_at (spelled (change_fields c)) behind (change_bytes c) (length-change c) in
    (omega arith, ap (λ (n : ℕ). drop n all) place ∙ sym (drop-drop (change_bytes c) (length all - length rest) all) ∙ ap (drop (change_bytes c)) from ∙ past)

get_from_drop : {A : Type 0} (xs : List A) (i : ℕ) (y : A) (ys : List A) → drop i xs ≡ y ∷ ys → slice_get xs i ≡ Some y
get_from_drop [] zero y ys e = absurd cc
get_from_drop [] (suc i) y ys e = absurd cc
get_from_drop (x ∷ xs) zero y ys e = cc
get_from_drop (x ∷ xs) (suc i) y ys e = get_from_drop xs i y ys e

pub changes_on : (c : Change) (rest behind : List ℕ) (i : ℕ) (cs : List Change) → BeginsWithChange c rest behind → HasChanges rest (drop i cs) → HasChanges behind (drop (i + 1) cs)
changes_on c rest behind i cs b h =
    let given = gives_some c rest behind b (drop i cs) h in
    let next : drop (i + 1) cs ≡ given.0 = sym (drop-drop 1 i cs) ∙ ap (drop 1) given.1 in
    subst (λ cs. HasChanges behind cs) (sym next) given.2

pub changes_past : (rest : List ℕ) (i n : ℕ) (cs : List Change) → i < n → ((c : Change) (behind : List ℕ) → BeginsWithChange c rest behind → ⊥) → HasChanges rest (drop i cs) → length cs < n
changes_past rest i n cs lt none h = let end = ap length (gives_none rest none (drop i cs) h) in omega (arith, length-drop i cs)

pub none_there : (rest : List ℕ) (i : ℕ) (cs : List Change) → ((c : Change) (behind : List ℕ) → BeginsWithChange c rest behind → ⊥) → HasChanges rest (drop i cs) → length cs ≤ i
none_there rest i cs none h = let end = ap length (gives_none rest none (drop i cs) h) in omega (arith, length-drop i cs)

pub change_there : (c : Change) (rest behind : List ℕ) (i : ℕ) (cs : List Change) → BeginsWithChange c rest behind → HasChanges rest (drop i cs) → slice_get cs i ≡ Some c
change_there c rest behind i cs b h = let given = gives_some c rest behind b (drop i cs) h in get_from_drop cs i c given.0 given.1

-- In a group

body_changes : (v : Group) (bytes body : List ℕ) → Spells group_format v bytes → body ≡ drop 33 bytes → HasChanges body v.changes
body_changes v bytes body s is = let h = group_changes v bytes s in (h.0, is ∙ h.1)

pub entry_past : (v : Group) (bytes body : List ℕ) (i : ℕ) → Spells group_format v bytes → body ≡ drop 33 bytes → ((changes : List Change) → HasChanges body changes → length changes < i) → length v.changes ≤ i
entry_past v bytes body i s is few = let less = few v.changes (body_changes v bytes body s is) in omega arith

pub entry_none : (v : Group) (bytes body rest : List ℕ) (i : ℕ) → Spells group_format v bytes → body ≡ drop 33 bytes → ((changes : List Change) → HasChanges body changes → HasChanges rest (drop i changes))
    → ((c : Change) (behind : List ℕ) → BeginsWithChange c rest behind → ⊥) → length v.changes ≤ i
entry_none v bytes body rest i s is left none = none_there rest i v.changes none (left v.changes (body_changes v bytes body s is))

-- the place of what is left
place_in : (bytes body rest : List ℕ) → 33 ≤ length bytes → body ≡ drop 33 bytes → length rest ≤ length body → drop (length body - length rest) body ≡ rest → drop (length bytes - length rest) bytes ≡ rest
place_in bytes body rest long is le from =
    let len : length body ≡ length bytes - 33 = ap length is ∙ length-drop 33 bytes in
    let place : length bytes - length rest ≡ 33 + (length body - length rest) = omega arith in
    ap (λ (n : ℕ). drop n bytes) place ∙ sym (drop-drop (length body - length rest) 33 bytes) ∙ ap (drop (length body - length rest)) (sym is) ∙ from

pub entry_found : (v : Group) (bytes body rest behind : List ℕ) (c : Change) (entry : ChangeEntry) (i : ℕ) → 33 ≤ length bytes → body ≡ drop 33 bytes
    → (length rest ≤ length body) × (drop (length body - length rest) body ≡ rest) × ((changes : List Change) → HasChanges body changes → HasChanges rest (drop i changes))
    → BeginsWithChange c rest behind → entry ≡ entry_in (length bytes - length rest) c → Spells group_format v bytes → FindsChange bytes v.changes i (Some entry)
entry_found v bytes body rest behind c entry i long is skips b entry_is s = (
  c,
  change_there c rest behind i v.changes b (skips.2 v.changes (body_changes v bytes body s is)),
  subst (λ entry. IsEntry bytes entry c) (sym entry_is) (entry_there bytes rest behind (length bytes - length rest) c (place_in bytes body rest long is skips.0 skips.1) b),
)

pub entry_within : (bytes body rest behind : List ℕ) (c : Change) (entry : ChangeEntry) → 33 ≤ length bytes → body ≡ drop 33 bytes → length rest ≤ length body
    → BeginsWithChange c rest behind → entry ≡ entry_in (length bytes - length rest) c → (entry.key.0 + entry.key.1 ≤ length bytes) × (entry.value.0 + entry.value.1 ≤ length bytes)
entry_within bytes body rest behind c entry long is le b entry_is =
    let len : length body ≡ length bytes - 33 = ap length is ∙ length-drop 33 bytes in
    let longer = begins_longer c rest behind b in
    let parts = parts_len c in
    subst (λ (entry : ChangeEntry). (entry.key.0 + entry.key.1 ≤ length bytes) × (entry.value.0 + entry.value.1 ≤ length bytes)) (sym entry_is) (omega arith, omega arith)
