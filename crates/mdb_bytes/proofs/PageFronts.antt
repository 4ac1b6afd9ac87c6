-- Where an entry of a page stands.
--     entry_split, slot_split      an entry among the others, and its slot
--     page_entry      the bytes from its place on
--     front_none, front_some      what is found by its slot
use Rattle.std.proofs.Common.{◌≡◌, refl, sym, ap, ◌∙◌, ℕ, zero, suc, ◌+◌, ◌-◌, ◌*◌, ◌<◌, ◌≤◌, inl, inr, true, List, [], ◌∷◌, ◌++◌, length, take, drop, Some, None, arith, append_assoc}
use Rattle.std.specs.Prelude.{map, sum_by, slice_get, nat_lt}
use Rattle.std.specs.List.{flat_map, list_all}
use Rattle.std.specs.Borrow.{Bor}
use Rattle.std.proofs.lemmas.Bool.{cases_Bool, ltb-true, ltb-false}
use Rattle.std.proofs.lemmas.List.{append-nil}
use Rattle.std.proofs.lemmas.List.Concat.{flat_map-cons}
use Rattle.std.proofs.lemmas.List.Sums.{sum_by-cons, sum_by-take-le}
use Rattle.mdb_bytes.specs.declared.page_sections.PageHead.{PageHead}
use Rattle.mdb_bytes.specs.Fields.{Field, Two, Zeros, field_fits, spelled, number_at}
use Rattle.mdb_bytes.specs.Parts.{page_len, page_room, fields_len}
use Rattle.mdb_bytes.specs.LogicalPages.{count_on}
use Rattle.mdb_bytes.specs.EntryPages.{Layout, page_head_fields, FindsFront}
use Rattle.mdb_bytes.proofs.GroupBack.{all_right}
use Rattle.mdb_bytes.proofs.ReadBack.{two_in}
use Rattle.mdb_bytes.proofs.PartBytes.{length-spelled}
use Rattle.mdb_bytes.proofs.NumberBytes.{AreBytes}
use Rattle.mdb_bytes.proofs.TableLaws.{fields_len-append, drop_fields, number_behind}
use Rattle.mdb_bytes.proofs.PageParts.{parts_say}
use Rattle.mdb_bytes.proofs.EntryRuns.{IsLayout}
use Rattle.mdb_bytes.proofs.EntryPageLaws.{page_fields, IsEntryPage, page_parts, cost-parts}

-- there is an entry with each number below their count
pub get_some : {X : Type 0} (xs : List X) (i : ℕ) → i < length xs → (x : X) × (slice_get xs i ≡ Some x)
get_some [] i lt = absurd (omega arith)
get_some (y ∷ ys) zero lt = (y, refl)
get_some (y ∷ ys) (suc i) lt = get_some ys i (omega arith)

module _ {X : Type 0} (layout : Layout X) (slot_len : ℕ) (law : IsLayout layout slot_len) where
  -- the fields of an entry among those of the others
  pub entry_split : (xs : List X) (i : ℕ) (x : X) → slice_get xs i ≡ Some x
      → (pre : List Field) × (post : List Field) × (flat_map layout.entry.fields xs ≡ pre ++ (layout.entry.fields x ++ post)) × (fields_len pre ≡ sum_by layout.len (take i xs))
  entry_split [] zero x e = absurd cc
  entry_split [] (suc i) x e = absurd cc
  entry_split (y ∷ ys) zero x e =
      let same : y ≡ x = cc in
      ([], flat_map layout.entry.fields ys, flat_map-cons layout.entry.fields y ys ∙ ap (λ x. layout.entry.fields x ++ flat_map layout.entry.fields ys) same, refl)
  entry_split (y ∷ ys) (suc i) x e =
      let rest = entry_split ys i x e in (
        layout.entry.fields y ++ rest.0,
        rest.1,
        flat_map-cons layout.entry.fields y ys ∙ ap (λ fs. layout.entry.fields y ++ fs) rest.2 ∙ sym (append_assoc (layout.entry.fields y) rest.0 (layout.entry.fields x ++ rest.1)),
        fields_len-append (layout.entry.fields y) rest.0 ∙ (λ i. law.len_is y i + rest.3 i) ∙ sym (sum_by-cons layout.len y (take i ys)),
      )

  -- its slot among those of the others
  pub slot_split : (at : ℕ) (xs : List X) (i : ℕ) (x : X) → slice_get xs i ≡ Some x
      → (pre : List Field) × (post : List Field) × (layout.slots at (map layout.len xs) ≡ pre ++ (layout.slot (at + sum_by layout.len (take i xs)) ++ post)) × (fields_len post ≡ slot_len * i)
  slot_split at [] zero x e = absurd cc
  slot_split at [] (suc i) x e = absurd cc
  slot_split at (y ∷ ys) zero x e =
      let place : at ≡ at + 0 = omega arith in (
        layout.slots (at + layout.len y) (map layout.len ys),
        [],
        law.more at (layout.len y) (map layout.len ys)
            ∙ ap (λ fs. layout.slots (at + layout.len y) (map layout.len ys) ++ fs) (sym (append-nil (layout.slot at)) ∙ ap (λ (at : ℕ). layout.slot at ++ []) place),
        omega arith,
      )
  slot_split at (y ∷ ys) (suc i) x e =
      let rest = slot_split (at + layout.len y) ys i x e in
      let place : at + layout.len y + sum_by layout.len (take i ys) ≡ at + sum_by layout.len (y ∷ take i ys) = omega (arith, sum_by-cons layout.len y (take i ys)) in
      let slot = layout.slot (at + layout.len y + sum_by layout.len (take i ys)) in
      let product : slot_len * suc i ≡ slot_len * i + slot_len = omega arith in (
        rest.0,
        rest.1 ++ layout.slot at,
        law.more at (layout.len y) (map layout.len ys) ∙ ap (λ fs. fs ++ layout.slot at) rest.2
            ∙ append_assoc rest.0 (slot ++ rest.1) (layout.slot at) ∙ ap (λ fs. rest.0 ++ fs) (append_assoc slot rest.1 (layout.slot at))
            ∙ ap (λ (p : ℕ). rest.0 ++ (layout.slot p ++ (rest.1 ++ layout.slot at))) place,
        fields_len-append rest.1 (layout.slot at) ∙ (λ i. rest.3 i + law.slot_is at i) ∙ sym product,
      )

  -- where an entry begins
  abbrev pub place_of : List X → ℕ → ℕ
  place_of xs i = 64 + sum_by layout.len (take i xs)

  module _ (head : PageHead) (xs : List X) (bytes : List ℕ) (p : IsEntryPage layout head xs bytes) where
    -- the bytes from the place of an entry on
    pub page_entry : (i : ℕ) (x : X) → slice_get xs i ≡ Some x
        → (more : List Field) × (drop (place_of xs i) bytes ≡ spelled (layout.entry.fields x ++ more)) × (list_all field_fits (layout.entry.fields x ++ more) ≡ true)
    page_entry i x e =
        let split = entry_split xs i x e in
        let tail : List Field = Zeros (page_room - sum_by layout.cost xs) ∷ layout.slots 64 (map layout.len xs) in
        let front : List Field = page_head_fields head ++ split.0 in
        let more : List Field = split.1 ++ tail in
        let parts : page_fields layout head xs ≡ front ++ (layout.entry.fields x ++ more) =
        ap (λ fs. page_head_fields head ++ (fs ++ tail)) split.2
        ∙ ap (λ fs. page_head_fields head ++ fs) (append_assoc split.0 (layout.entry.fields x ++ split.1) tail ∙ ap (λ fs. split.0 ++ fs) (append_assoc (layout.entry.fields x) split.1 tail))
        ∙ sym (append_assoc (page_head_fields head) split.0 (layout.entry.fields x ++ more)) in
        let len : fields_len front ≡ place_of xs i = fields_len-append (page_head_fields head) split.0 ∙ ap (λ (n : ℕ). 64 + n) split.3 in (
          more,
          ap (drop (place_of xs i)) (p.whole ∙ ap spelled parts) ∙ drop_fields front (layout.entry.fields x ++ more) (place_of xs i) len,
          all_right front (layout.entry.fields x ++ more) (ap (list_all field_fits) (sym parts) ∙ p.fits),
        )

    -- the place in its slot
    page_slot : (i : ℕ) (x : X) → slice_get xs i ≡ Some x → layout.slot (place_of xs i) ≡ Two (place_of xs i) ∷ [] → slot_len ≡ 2
        → number_at 2 (length bytes - 2 * (i + 1)) bytes ≡ place_of xs i
    page_slot i x e two slot_two =
        let split = slot_split 64 xs i x e in
        let entries : List Field = flat_map layout.entry.fields xs in
        let gap : Field = Zeros (page_room - sum_by layout.cost xs) in
        let front : List Field = page_head_fields head ++ (entries ++ gap ∷ split.0) in
        let slot : List Field = Two (place_of xs i) ∷ split.1 in
        let parts : page_fields layout head xs ≡ front ++ slot =
        ap (λ fs. page_head_fields head ++ (entries ++ gap ∷ fs)) (split.2 ∙ ap (λ (fs : List Field). split.0 ++ (fs ++ split.1)) two)
        ∙ ap (λ fs. page_head_fields head ++ fs) (sym (append_assoc entries (gap ∷ split.0) slot)) ∙ sym (append_assoc (page_head_fields head) (entries ++ gap ∷ split.0) slot) in
        let product : slot_len * i ≡ 2 * i = ap (λ (n : ℕ). n * i) slot_two in
        let slot_len_is : fields_len slot ≡ 2 + 2 * i = ap (λ (n : ℕ). 2 + n) (split.3 ∙ product) in
        let len : length bytes ≡ fields_len front + (2 + 2 * i) =
        ap length (p.whole ∙ ap spelled parts) ∙ length-spelled (front ++ slot) ∙ fields_len-append front slot ∙ ap (λ (n : ℕ). fields_len front + n) slot_len_is in
        let place : length bytes - 2 * (i + 1) ≡ fields_len front + 0 = omega arith in
        ap (λ (n : ℕ). number_at 2 n bytes) place ∙ ap (number_at 2 (fields_len front + 0)) (p.whole ∙ ap spelled parts)
        ∙ number_behind 2 0 (fields_len front) front slot refl
        ∙ two_in slot 0 (place_of xs i) (all_right front slot (ap (list_all field_fits) (sym parts) ∙ p.fits)) refl

    module _ (all : AreBytes bytes) (slot_two : slot_len ≡ 2) (two : (at : ℕ) → layout.slot at ≡ Two at ∷ []) where
      -- what the page says of its entries
      says_count : count_on bytes ≡ length xs
      says_count =
          let says = parts_say slot_len head (spelled (flat_map layout.entry.fields xs)) (spelled (layout.slots 64 (map layout.len xs))) bytes all (page_parts layout slot_len law head xs bytes p) in
          ap (λ (h : PageHead). h.count) says.header ∙ sym p.counted

      says_long : length bytes ≡ page_len
      says_long =
          (parts_say slot_len head (spelled (flat_map layout.entry.fields xs)) (spelled (layout.slots 64 (map layout.len xs))) bytes all (page_parts layout slot_len law head xs bytes p)).long

      place_within : (i : ℕ) → place_of xs i ≤ length bytes
      place_within i =
          let long = says_long in
          let cost = cost-parts layout slot_len law xs in
          let used = p.used in
          let within = p.within in
          omega (arith, sum_by-take-le layout.len xs i)

      slots_within : (i : ℕ) → i < length xs → 2 * i < page_room
      slots_within i lt =
          let cost = cost-parts layout slot_len law xs in
          let used = p.used in
          let within = p.within in
          let product : slot_len * length xs ≡ 2 * length xs = ap (λ (n : ℕ). n * length xs) slot_two in
          omega arith

      -- no front, no entry
      pub front_none : (i : ℕ) → FindsFront bytes i None → length xs ≤ i
      front_none i none =
          elim (cases_Bool (nat_lt i (length xs))) [
            | inr past ↦ ltb-false i (length xs) past
            | inl there ↦
                let lt : i < length xs = ltb-true i (length xs) there in
                let x = get_some xs i lt in
                let number = page_slot i x.0 x.1 (two (place_of xs i)) slot_two in
                let count = says_count in
                let far : length bytes < number_at 2 (length bytes - 2 * (i + 1)) bytes = none says_long (omega arith) (slots_within i lt) in
                let near = place_within i in
                absurd (omega arith)
          ]

      -- a front is that of the entry with this number
      pub front_some : (i : ℕ) (r : ℕ × Bor (List ℕ)) → FindsFront bytes i (Some r)
          → (x : X) × (slice_get xs i ≡ Some x) × (more : List Field) × (r.1.now ≡ spelled (layout.entry.fields x ++ more)) × (list_all field_fits (layout.entry.fields x ++ more) ≡ true)
      front_some i r found =
          let count = says_count in
          let below : i < count_on bytes = found.1 in
          let x = get_some xs i (omega arith) in
          let entry = page_entry i x.0 x.1 in
          let place : r.0 ≡ place_of xs i = found.3 ∙ page_slot i x.0 x.1 (two (place_of xs i)) slot_two in
          (x.0, x.1, entry.0, found.5 ∙ ap (λ (n : ℕ). drop n bytes) place ∙ entry.1, entry.2)
