-- Entries one after the other, and what a walk over them keeps.
--     IsLayout      what holds of the layout of a page
--     entries_first, entries_cons, gives      the first entry and the others
--     run_on, run_breaks, run_slot, run_lacks, run_ends      one step along a run
use Rattle.std.proofs.Common.{◌≡◌, refl, sym, ap, subst, ◌∙◌, ℕ, suc, ◌+◌, ◌-◌, ◌<◌, ◌^◌, ◌↔◌, Bool, true, false, List, [], ◌∷◌, ◌++◌, length, take, drop, Option, arith, length-append}
use Rattle.std.specs.Prelude.{◌&&◌, IsTrue, map}
use Rattle.std.specs.List.{flat_map, list_all}
use Rattle.std.proofs.lemmas.List.{append-nil, take_at, drop_at}
use Rattle.std.proofs.lemmas.List.Concat.{flat_map-cons}
use Rattle.std.proofs.lemmas.List.Folds.{list_all-append}
use Rattle.mdb_bytes.proofs.Booleans.{never}
use Rattle.mdb_bytes.specs.Fields.{Field, Text, field_fits, fields_fit, spelled}
use Rattle.mdb_bytes.specs.Parts.{fields_len}
use Rattle.mdb_bytes.specs.EntryPages.{Layout, key_follows, ascend, BeginsWith, HasEntries, IsEntryRun}
use Rattle.mdb_bytes.proofs.Decoding.{and_left, and_right, and_both}
use Rattle.mdb_bytes.proofs.GroupLaw.{spelled-append}
use Rattle.mdb_bytes.proofs.PartBytes.{length-spelled}
use Rattle.mdb_bytes.proofs.NumberBytes.{AreBytes, bytes_pass, fields_are_bytes}
use Rattle.mdb_bytes.proofs.ChangeFront.{right_bytes}

-- what the fields, lengths and slots of a layout have to do with one another
pub record IsLayout {X : Type 0} (layout : Layout X) (slot_len : ℕ) : Type 0 where
  -- an entry that was spelled is read again, whatever follows
  pub again : (x : X) (more : List Field) → list_all field_fits (layout.entry.fields x ++ more) ≡ true
      → layout.entry.reads (spelled (layout.entry.fields x ++ more)) ≡ x
  pub len_is : (x : X) → fields_len (layout.entry.fields x) ≡ layout.len x
  pub cost_is : (x : X) → layout.cost x ≡ layout.len x + slot_len
  pub slot_is : (at : ℕ) → fields_len (layout.slot at) ≡ slot_len
  pub slot_fits : (at : ℕ) → at < 2 ^ 16 → fields_fit (layout.slot at) ≡ true
  pub none : (at : ℕ) → layout.slots at [] ≡ []
  pub more : (at len : ℕ) (lens : List ℕ) → layout.slots at (len ∷ lens) ≡ layout.slots (at + len) lens ++ layout.slot at

-- what stands in front of the same rest is the same
pub same_front : (a b c : List ℕ) → a ++ c ≡ b ++ c → a ≡ b
same_front a b c e =
    let len : length a ≡ length b = let both = ap length e in omega (arith, length-append a c, length-append b c) in
    sym (take_at a c (length a) refl) ∙ ap (take (length a)) e ∙ take_at b c (length a) (sym len)

module _ {X : Type 0} (layout : Layout X) where
  pub entries_first : (x : X) (xs : List X) (bytes : List ℕ) → HasEntries layout.entry bytes (x ∷ xs)
      → BeginsWith layout.entry x bytes (spelled (flat_map layout.entry.fields xs)) × HasEntries layout.entry (spelled (flat_map layout.entry.fields xs)) xs
  entries_first x xs bytes h =
      let format = layout.entry in
      let more : List Field = flat_map format.fields xs in
      let fits = and_left (format.fits x && list_all format.fits xs) _ h.0 in
      let room : (list_all field_fits (format.fields x) && list_all field_fits more) ≡ true =
      sym (list_all-append field_fits (format.fields x) more) ∙ ap (list_all field_fits) (sym (flat_map-cons format.fields x xs))
      ∙ and_right (format.fits x && list_all format.fits xs) _ h.0 in (
        (
          and_both (format.fits x) (fields_fit (format.fields x)) (and_left (format.fits x) _ fits) (and_left (list_all field_fits (format.fields x)) _ room),
          h.1 ∙ ap spelled (flat_map-cons format.fields x xs) ∙ spelled-append (format.fields x) more,
        ),
        (
          and_both (list_all format.fits xs) (fields_fit more) (and_right (format.fits x) _ fits) (and_right (list_all field_fits (format.fields x)) _ room),
          refl,
        ),
      )

  pub entries_cons : (x : X) (xs : List X) (bytes rest : List ℕ) → BeginsWith layout.entry x bytes rest → HasEntries layout.entry rest xs → HasEntries layout.entry bytes (x ∷ xs)
  entries_cons x xs bytes rest b h =
      let format = layout.entry in
      let more : List Field = flat_map format.fields xs in
      let fits = and_both (format.fits x) (list_all format.fits xs) (and_left (format.fits x) _ b.0) (and_left (list_all format.fits xs) _ h.0) in
      let room : fields_fit (flat_map format.fields (x ∷ xs)) ≡ true =
      ap (list_all field_fits) (flat_map-cons format.fields x xs) ∙ list_all-append field_fits (format.fields x) more
      ∙ and_both (fields_fit (format.fields x)) (fields_fit more) (and_right (format.fits x) _ b.0) (and_right (list_all format.fits xs) _ h.0) in (
        and_both (format.fits x && list_all format.fits xs) (fields_fit (flat_map format.fields (x ∷ xs))) fits room,
        b.1 ∙ ap (λ t. spelled (format.fields x) ++ t) h.1 ∙ sym (spelled-append (format.fields x) more) ∙ ap spelled (sym (flat_map-cons format.fields x xs)),
      )

  pub entries_are_bytes : (xs : List X) (bytes : List ℕ) → HasEntries layout.entry bytes xs → AreBytes bytes
  entries_are_bytes xs bytes h = subst AreBytes (sym h.1) (fields_are_bytes (flat_map layout.entry.fields xs) (and_right (list_all layout.entry.fits xs) _ h.0))

  -- a rest as one more field
  spelled-with_rest : (x : X) (rest : List ℕ) → spelled (layout.entry.fields x ++ (Text rest ∷ [])) ≡ spelled (layout.entry.fields x) ++ rest
  unfolding spelled
  spelled-with_rest x rest = spelled-append (layout.entry.fields x) (Text rest ∷ []) ∙ ap (λ t. spelled (layout.entry.fields x) ++ t) (append-nil rest)

  pub with_rest : (x : X) (bytes rest : List ℕ) → AreBytes bytes → BeginsWith layout.entry x bytes rest
      → (bytes ≡ spelled (layout.entry.fields x ++ (Text rest ∷ []))) × (list_all field_fits (layout.entry.fields x ++ (Text rest ∷ [])) ≡ true)
  with_rest x bytes rest all b =
      let format = layout.entry in
      let rest_all = right_bytes (spelled (format.fields x)) rest (subst AreBytes b.1 all) in (
        b.1 ∙ sym (spelled-with_rest x rest),
        list_all-append field_fits (format.fields x) (Text rest ∷ [])
            ∙ and_both (list_all field_fits (format.fields x)) _ (and_right (format.fits x) _ b.0) (and_both (field_fits (Text rest)) true (bytes_pass rest rest_all) refl),
      )

  module _ (slot_len : ℕ) (law : IsLayout layout slot_len) where
    pub begins_longer : (x : X) (bytes rest : List ℕ) → BeginsWith layout.entry x bytes rest → length bytes ≡ layout.len x + length rest
    begins_longer x bytes rest b =
        ap length b.1 ∙ length-append (spelled (layout.entry.fields x)) rest ∙ ap (λ n. n + length rest) (length-spelled (layout.entry.fields x) ∙ law.len_is x)

    -- the entry that bytes begin with is the one that is read there
    pub begins_read : (x : X) (bytes rest : List ℕ) → AreBytes bytes → BeginsWith layout.entry x bytes rest → (layout.entry.reads bytes ≡ x) × (drop (layout.len x) bytes ≡ rest)
    begins_read x bytes rest all b =
        let format = layout.entry in
        let whole = with_rest x bytes rest all b in
        let len : length (spelled (format.fields x)) ≡ layout.len x = length-spelled (format.fields x) ∙ law.len_is x in (
          ap format.reads whole.0 ∙ law.again x (Text rest ∷ []) whole.1,
          ap (drop (layout.len x)) b.1 ∙ drop_at (spelled (format.fields x)) rest (layout.len x) len,
        )

    -- the first of some entries, and the others
    pub gives : (x y : X) (ys : List X) (bytes rest : List ℕ) → BeginsWith layout.entry x bytes rest → HasEntries layout.entry bytes (y ∷ ys)
        → (y ≡ x) × HasEntries layout.entry rest ys
    gives x y ys bytes rest b h =
        let all = entries_are_bytes (y ∷ ys) bytes h in
        let first = entries_first y ys bytes h in
        let mine = begins_read x bytes rest all b in
        let other = begins_read y bytes (spelled (flat_map layout.entry.fields ys)) all first.0 in
        let same : y ≡ x = sym other.0 ∙ mine.0 in
        let behind : spelled (flat_map layout.entry.fields ys) ≡ rest = sym other.1 ∙ ap (λ x. drop (layout.len x) bytes) same ∙ mine.1 in
        (same, subst (λ t. HasEntries layout.entry t ys) behind first.1)

    pub slots_more : (at : ℕ) (y : X) (ys : List X)
        → spelled (layout.slots at (map layout.len (y ∷ ys))) ≡ spelled (layout.slots (at + layout.len y) (map layout.len ys)) ++ spelled (layout.slot at)
    slots_more at y ys =
        ap spelled (law.more at (layout.len y) (map layout.len ys)) ∙ spelled-append (layout.slots (at + layout.len y) (map layout.len ys)) (layout.slot at)

    -- A run of one entry more

    -- its last slot is that of its first entry
    slot_of_first : (last : Option (List ℕ)) (n at : ℕ) (bytes slots : List ℕ) → IsEntryRun layout last (suc n) at bytes slots → (others : List ℕ) × (slots ≡ others ++ spelled (layout.slot at))
    slot_of_first last n at bytes slots run = by_entries run.entries run.all run.place where
      by_entries : (xs : List X) → length xs ≡ suc n → slots ≡ spelled (layout.slots at (map layout.len xs)) → (others : List ℕ) × (slots ≡ others ++ spelled (layout.slot at))
      by_entries [] all place = absurd (omega arith)
      by_entries (y ∷ ys) all place = (spelled (layout.slots (at + layout.len y) (map layout.len ys)), place ∙ slots_more at y ys)

    begins_some : (last : Option (List ℕ)) (n at : ℕ) (bytes slots : List ℕ) → IsEntryRun layout last (suc n) at bytes slots → (x : X) × (rest : List ℕ) × BeginsWith layout.entry x bytes rest
    begins_some last n at bytes slots run = by_entries run.entries run.all run.spell where
      by_entries : (xs : List X) → length xs ≡ suc n → HasEntries layout.entry bytes xs → (x : X) × (rest : List ℕ) × BeginsWith layout.entry x bytes rest
      by_entries [] all h = absurd (omega arith)
      by_entries (y ∷ ys) all h = (y, spelled (flat_map layout.entry.fields ys), (entries_first y ys bytes h).0)

    first_follows : (last : Option (List ℕ)) (n at : ℕ) (x : X) (bytes rest slots : List ℕ) → BeginsWith layout.entry x bytes rest → IsEntryRun layout last (suc n) at bytes slots
        → key_follows last (layout.key x) ≡ true
    first_follows last n at x bytes rest slots b run = by_entries run.entries run.all run.order run.spell where
      by_entries : (xs : List X) → length xs ≡ suc n → ascend layout last xs ≡ true → HasEntries layout.entry bytes xs → key_follows last (layout.key x) ≡ true
      by_entries [] all up h = absurd (omega arith)
      by_entries (y ∷ ys) all up h = subst (λ x. key_follows last (layout.key x) ≡ true) (gives x y ys bytes rest b h).0 (and_left (key_follows last (layout.key y)) _ up)

    run_rest : (last : Option (List ℕ)) (n at : ℕ) (x : X) (bytes rest slots others : List ℕ) → BeginsWith layout.entry x bytes rest → slots ≡ others ++ spelled (layout.slot at)
        → IsEntryRun layout last (suc n) at bytes slots → IsEntryRun layout (layout.key x) n (at + layout.len x) rest others
    run_rest last n at x bytes rest slots others b slot run = by_entries run.entries run.all run.order run.spell run.place where
      by_entries : (xs : List X) → length xs ≡ suc n → ascend layout last xs ≡ true → HasEntries layout.entry bytes xs → slots ≡ spelled (layout.slots at (map layout.len xs))
          → IsEntryRun layout (layout.key x) n (at + layout.len x) rest others
      by_entries [] all up h place = absurd (omega arith)
      by_entries (y ∷ ys) all up h place =
          let first = gives x y ys bytes rest b h in
          let front : others ≡ spelled (layout.slots (at + layout.len y) (map layout.len ys)) =
          same_front others (spelled (layout.slots (at + layout.len y) (map layout.len ys))) (spelled (layout.slot at)) (sym slot ∙ place ∙ slots_more at y ys) in record {
            entries = ys;
            all = omega arith;
            order = subst (λ x. ascend layout (layout.key x) ys ≡ true) first.0 (and_right (key_follows last (layout.key y)) _ up);
            spell = first.1;
            place = subst (λ x. others ≡ spelled (layout.slots (at + layout.len x) (map layout.len ys))) first.0 front;
          }

    run_cons : (last : Option (List ℕ)) (n at : ℕ) (x : X) (bytes rest slots others : List ℕ) → BeginsWith layout.entry x bytes rest → slots ≡ others ++ spelled (layout.slot at)
        → key_follows last (layout.key x) ≡ true → IsEntryRun layout (layout.key x) n (at + layout.len x) rest others → IsEntryRun layout last (suc n) at bytes slots
    run_cons last n at x bytes rest slots others b slot up run = record {
      entries = x ∷ run.entries;
      all = ap suc run.all;
      order = and_both (key_follows last (layout.key x)) (ascend layout (layout.key x) run.entries) up run.order;
      spell = entries_cons x run.entries bytes rest b run.spell;
      place = slot ∙ ap (λ t. t ++ spelled (layout.slot at)) run.place ∙ sym (slots_more at x run.entries);
    }

    count_down : (count i : ℕ) → i < count → count - i ≡ suc (count - (i + 1))
    count_down count i lt = omega arith

    module _ {W : Type 0} (last : Option (List ℕ)) (count i at : ℕ) (bytes slots : List ℕ) (lt : i < count) (w : W ↔ IsEntryRun layout last (count - i) at bytes slots) where
      -- W is what is asked for, of all the bytes
      more : W ↔ IsEntryRun layout last (suc (count - (i + 1))) at bytes slots
      more = subst (λ n. W ↔ IsEntryRun layout last n at bytes slots) (count_down count i lt) w

      pub run_on : (x : X) (rest others : List ℕ) → BeginsWith layout.entry x bytes rest → slots ≡ others ++ spelled (layout.slot at) → key_follows last (layout.key x) ≡ true
          → W ↔ IsEntryRun layout (layout.key x) (count - (i + 1)) (at + layout.len x) rest others
      run_on x rest others b slot up = (
        λ a. run_rest last (count - (i + 1)) at x bytes rest slots others b slot (more.0 a),
        λ run. more.1 (run_cons last (count - (i + 1)) at x bytes rest slots others b slot up run),
      )

      pub run_breaks : (x : X) (rest : List ℕ) → BeginsWith layout.entry x bytes rest → key_follows last (layout.key x) ≡ false → IsTrue false ↔ W
      run_breaks x rest b down = never (λ a. (let up = first_follows last (count - (i + 1)) at x bytes rest slots b (more.0 a) in absurd cc))

      pub run_slot : ((others : List ℕ) → slots ≡ others ++ spelled (layout.slot at) → ⊥) → IsTrue false ↔ W
      run_slot other = never (λ a. let first = slot_of_first last (count - (i + 1)) at bytes slots (more.0 a) in other first.0 first.1)

      pub run_lacks : ((x : X) (rest : List ℕ) → BeginsWith layout.entry x bytes rest → ⊥) → IsTrue false ↔ W
      run_lacks none = never (λ a. let first = begins_some last (count - (i + 1)) at bytes slots (more.0 a) in none first.0 first.1 first.2)

    pub run_ends : {W : Type 0} (last : Option (List ℕ)) (n at : ℕ) (bytes slots : List ℕ) (b : Bool) → n ≡ 0 → (IsTrue b ↔ ((bytes ≡ []) × (slots ≡ [])))
        → (W ↔ IsEntryRun layout last n at bytes slots) → IsTrue b ↔ W
    unfolding spelled
    run_ends last n at bytes slots b zero_is empty w = (
      λ t. w.1 (record {
        entries = [];
        all = sym zero_is;
        order = refl;
        spell = (refl, (empty.0 t).0);
        place = (empty.0 t).1 ∙ ap spelled (sym (law.none at));
      }),
      λ a. let run = w.0 a in empty.1 (by_entries run.entries (run.all ∙ zero_is) run.spell run.place),
    ) where
      by_entries : (xs : List X) → length xs ≡ 0 → HasEntries layout.entry bytes xs → slots ≡ spelled (layout.slots at (map layout.len xs)) → (bytes ≡ []) × (slots ≡ [])
      by_entries [] all h place = (h.1, place ∙ ap spelled (law.none at))
      by_entries (y ∷ ys) all h place = absurd (omega arith)
