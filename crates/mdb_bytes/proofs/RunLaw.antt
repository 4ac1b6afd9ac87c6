-- Changes that ascend.
use Rattle.std.proofs.Common.{◌≡◌, refl, sym, ap, subst, ◌∙◌, ℕ, suc, ◌+◌, ◌-◌, ◌<◌, ◌↔◌, Bool, true, false, List, [], ◌∷◌, length, Option, Some, None, arith}
use Rattle.std.specs.Prelude.{◌&&◌, IsTrue, map}
use Rattle.std.specs.declared.cmp.Ordering.{Ordering}
use Rattle.std.specs.declared.cmp.Ordering.TheVariants.{Less, Equal, Greater}
use Rattle.std.specs.Ordering.{is_lt}
use Rattle.std.specs.List.{flat_map}
use Rattle.std.specs.FinMap.Entries.{below_all}
use Rattle.mdb_model.specs.declared.change.Change.{Change}
use Rattle.mdb_model.specs.Tables.{Place, place_cmp, place_of}
use Rattle.mdb_model.proofs.Computing.{places_total}
use Rattle.mdb_bytes.specs.Fields.{rises, spelled}
use Rattle.mdb_bytes.specs.Groups.{change_fields}
use Rattle.mdb_bytes.specs.LoggedChanges.{BeginsWithChange, HasChanges}
use Rattle.mdb_bytes.specs.ChangeOrder.{place_follows, ascends, IsChangeRun}
use Rattle.mdb_bytes.proofs.Decoding.{and_left, and_right, and_both}
use Rattle.mdb_bytes.proofs.ChangeRuns.{changes-first, changes-cons, gives_some}

less : (o : Ordering) → is_lt o ≡ true → o ≡ Less
less Less e = refl
less Equal e = absurd cc
less Greater e = absurd cc

-- whether a place is before each of these
abbrev before_all : Place → List Place → Bool
before_all place [] = true
before_all place (other ∷ places) = is_lt (place_cmp place other) && before_all place places

-- a key as an entry
abbrev with_unit : Place → Place × Unit {0}
with_unit place = (place, tt)

same_before : (place : Place) (places : List Place) → below_all place_cmp place (map with_unit places) ≡ before_all place places
same_before place [] = refl
same_before place (other ∷ places) = ap (λ b. is_lt (place_cmp place other) && b) (same_before place places)

rises-cons : (place : Place) (places : List Place) → rises place_cmp (place ∷ places) ≡ (before_all place places && rises place_cmp places)
rises-cons place places = ap (λ b. b && rises place_cmp places) (same_before place places)

before_through : (a b : Place) (places : List Place) → place_cmp a b ≡ Less → before_all b places ≡ true → before_all a places ≡ true
before_through a b [] lt all = refl
before_through a b (c ∷ places) lt all =
    and_both (is_lt (place_cmp a c)) (before_all a places)
    (ap is_lt (places_total.trans a b c lt (less (place_cmp b c) (and_left (is_lt (place_cmp b c)) _ all))))
    (before_through a b places lt (and_right (is_lt (place_cmp b c)) _ all))

-- each before the next is each before all that follow
after-rises : (place : Place) (cs : List Change) → ascends (Some place) cs ≡ true → (before_all place (map place_of cs) ≡ true) × (rises place_cmp (map place_of cs) ≡ true)
after-rises place [] asc = (refl, refl)
after-rises place (c ∷ cs) asc =
    let lt = less (place_cmp place (place_of c)) (and_left (is_lt (place_cmp place (place_of c))) _ asc) in
    let more = after-rises (place_of c) cs (and_right (is_lt (place_cmp place (place_of c))) _ asc) in (
      and_both (is_lt (place_cmp place (place_of c))) (before_all place (map place_of cs)) (ap is_lt lt) (before_through place (place_of c) (map place_of cs) lt more.0),
      rises-cons (place_of c) (map place_of cs) ∙ and_both (before_all (place_of c) (map place_of cs)) (rises place_cmp (map place_of cs)) more.0 more.1,
    )

pub ascends-rises : (cs : List Change) → ascends None cs ≡ true → rises place_cmp (map place_of cs) ≡ true
ascends-rises [] asc = refl
ascends-rises (c ∷ cs) asc =
    let more = after-rises (place_of c) cs asc in
    rises-cons (place_of c) (map place_of cs) ∙ and_both (before_all (place_of c) (map place_of cs)) (rises place_cmp (map place_of cs)) more.0 more.1

rises-after : (place : Place) (cs : List Change) → before_all place (map place_of cs) ≡ true → rises place_cmp (map place_of cs) ≡ true → ascends (Some place) cs ≡ true
rises-after place [] first up = refl
rises-after place (c ∷ cs) first up =
    let parts : (before_all (place_of c) (map place_of cs) && rises place_cmp (map place_of cs)) ≡ true = sym (rises-cons (place_of c) (map place_of cs)) ∙ up in
    and_both (is_lt (place_cmp place (place_of c))) (ascends (Some (place_of c)) cs) (and_left (is_lt (place_cmp place (place_of c))) _ first)
    (rises-after (place_of c) cs (and_left (before_all (place_of c) (map place_of cs)) _ parts) (and_right (before_all (place_of c) (map place_of cs)) _ parts))

pub rises-ascends : (cs : List Change) → rises place_cmp (map place_of cs) ≡ true → ascends None cs ≡ true
rises-ascends [] up = refl
rises-ascends (c ∷ cs) up =
    let parts : (before_all (place_of c) (map place_of cs) && rises place_cmp (map place_of cs)) ≡ true = sym (rises-cons (place_of c) (map place_of cs)) ∙ up in
    rises-after (place_of c) cs (and_left (before_all (place_of c) (map place_of cs)) _ parts) (and_right (before_all (place_of c) (map place_of cs)) _ parts)

-- One step along a run

run_parts : (last : Option Place) (n : ℕ) (c : Change) (bytes rest : List ℕ) → BeginsWithChange c bytes rest → IsChangeRun last (suc n) bytes → (place_follows last (place_of c) ≡ true) × IsChangeRun (Some (place_of c)) n rest
unfolding IsChangeRun
run_parts last n c bytes rest b run =
    let given = gives_some c bytes rest b run.0 run.3 in
    let asc : ascends last (c ∷ given.0) ≡ true = ap (ascends last) (sym given.1) ∙ run.2 in
    let len : suc (length given.0) ≡ suc n = ap length (sym given.1) ∙ run.1 in
    (and_left (place_follows last (place_of c)) _ asc, (given.0, omega arith, and_right (place_follows last (place_of c)) _ asc, given.2))

run_cons : (last : Option Place) (n : ℕ) (c : Change) (bytes rest : List ℕ) → BeginsWithChange c bytes rest → place_follows last (place_of c) ≡ true → IsChangeRun (Some (place_of c)) n rest → IsChangeRun last (suc n) bytes
unfolding IsChangeRun
run_cons last n c bytes rest b up run =
    (c ∷ run.0, ap suc run.1, and_both (place_follows last (place_of c)) (ascends (Some (place_of c)) run.0) up run.2, changes-cons c run.0 bytes rest b run.3)

count_down : (count i : ℕ) → i < count → count - i ≡ suc (count - (i + 1))
count_down count i lt = omega arith

-- W is what is asked for, of all the bytes
pub run_on : {W : Type 0} (last : Option Place) (count i : ℕ) (c : Change) (bytes rest : List ℕ) → i < count → BeginsWithChange c bytes rest → place_follows last (place_of c) ≡ true
    → (W ↔ IsChangeRun last (count - i) bytes) → (W ↔ IsChangeRun (Some (place_of c)) (count - (i + 1)) rest)
run_on {W = W} last count i c bytes rest lt b up w =
    let w0 = subst (λ n. W ↔ IsChangeRun last n bytes) (count_down count i lt) w in
    (λ x. (run_parts last (count - (i + 1)) c bytes rest b (w0.0 x)).1, λ run. w0.1 (run_cons last (count - (i + 1)) c bytes rest b up run))

pub run_breaks : {W : Type 0} (last : Option Place) (count i : ℕ) (c : Change) (bytes rest : List ℕ) → i < count → BeginsWithChange c bytes rest → place_follows last (place_of c) ≡ false
    → (W ↔ IsChangeRun last (count - i) bytes) → (IsTrue false ↔ W)
run_breaks {W = W} last count i c bytes rest lt b down w =
    let w0 = subst (λ n. W ↔ IsChangeRun last n bytes) (count_down count i lt) w in
    (λ f. absurd cc, λ x. let up = (run_parts last (count - (i + 1)) c bytes rest b (w0.0 x)).0 in absurd cc)

none_first : (last : Option Place) (n : ℕ) (bytes : List ℕ) → ((c : Change) (rest : List ℕ) → BeginsWithChange c bytes rest → ⊥) → (cs : List Change) → length cs ≡ suc n → HasChanges bytes cs → ⊥
none_first last n bytes none [] len h = omega arith
none_first last n bytes none (c ∷ cs) len h = none c (spelled (flat_map change_fields cs)) (changes-first c cs bytes h).0

pub run_lacks : {W : Type 0} (last : Option Place) (count i : ℕ) (bytes : List ℕ) → i < count → ((c : Change) (rest : List ℕ) → BeginsWithChange c bytes rest → ⊥)
    → (W ↔ IsChangeRun last (count - i) bytes) → (IsTrue false ↔ W)
unfolding IsChangeRun
run_lacks {W = W} last count i bytes lt none w =
    let w0 = subst (λ n. W ↔ IsChangeRun last n bytes) (count_down count i lt) w in
    (λ f. absurd cc, λ x. let run = w0.0 x in absurd (none_first last (count - (i + 1)) bytes none run.0 run.1 run.3))

no_bytes : (cs : List Change) → length cs ≡ 0 → (bytes : List ℕ) → HasChanges bytes cs → bytes ≡ []
unfolding spelled
no_bytes [] len bytes h = h.1
no_bytes (c ∷ cs) len bytes h = absurd (omega arith)

pub run_ends : {W : Type 0} (last : Option Place) (n : ℕ) (bytes : List ℕ) (b : Bool) → n ≡ 0 → (IsTrue b ↔ (bytes ≡ [])) → (W ↔ IsChangeRun last n bytes) → (IsTrue b ↔ W)
unfolding IsChangeRun spelled
run_ends last n bytes b zero_is empty w = (
  λ t. w.1 ([], sym zero_is, refl, (refl, empty.0 t)),
  λ x. let run = w.0 x in empty.1 (no_bytes run.0 (run.1 ∙ zero_is) bytes run.3),
)
