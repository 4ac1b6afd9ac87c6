-- What makes bytes a page of entries.
--     page_fields, IsEntryPage      the bytes are the page of a header and of entries
--     page_parts, page_run, run_page      its parts, and back
--     not_parted, other_head, page_by_run      what a check answers
use Rattle.std.proofs.Common.{◌≡◌, refl, sym, ap, subst, ◌∙◌, ℕ, suc, ◌+◌, ◌-◌, ◌*◌, ◌<◌, ◌≤◌, ◌^◌, ◌↔◌, Bool, true, false, List, [], ◌∷◌, ◌++◌, length, None, arith}
use Rattle.std.specs.Prelude.{◌&&◌, IsTrue, map, replicate, sum_by}
use Rattle.std.specs.List.{flat_map, list_all}
use Rattle.std.proofs.lemmas.List.Concat.{flat_map-cons}
use Rattle.std.proofs.lemmas.List.Folds.{list_all-append}
use Rattle.std.proofs.lemmas.List.Sums.{sum_by-cons}
use Rattle.mdb_bytes.proofs.Booleans.{never}
use Rattle.mdb_bytes.specs.declared.page_sections.PageHead.{PageHead}
use Rattle.mdb_bytes.specs.Fields.{Field, Zeros, Format, Spells, field_fits, fields_fit, spelled}
use Rattle.mdb_bytes.specs.Parts.{page_room, fields_len}
use Rattle.mdb_bytes.specs.EntryPages.{Layout, ascend, IsEntryRun, page_head_fields, HasSections}
use Rattle.mdb_bytes.proofs.Decoding.{and_left, and_right, and_both}
use Rattle.mdb_bytes.proofs.GroupLaw.{spelled-append}
use Rattle.mdb_bytes.proofs.PartBytes.{length-spelled}
use Rattle.mdb_bytes.proofs.NumberBytes.{AreBytes}
use Rattle.mdb_bytes.proofs.TableLaws.{fields_len-append}
use Rattle.mdb_bytes.proofs.PageParts.{sections_same}
use Rattle.mdb_bytes.proofs.EntryRuns.{IsLayout}

module _ {X : Type 0} (layout : Layout X) where
  -- all that stands after the header
  abbrev pub body_fields : List X → List Field
  body_fields xs = flat_map layout.entry.fields xs ++ (Zeros (page_room - sum_by layout.cost xs) ∷ layout.slots 64 (map layout.len xs))

  -- the header and all after it
  abbrev pub page_fields : PageHead → List X → List Field
  page_fields head xs = page_head_fields head ++ body_fields xs

  -- the bytes are the page of this header and of these entries
  pub record IsEntryPage (head : PageHead) (xs : List X) (bytes : List ℕ) : Type 0 where
    pub keeps : list_all layout.entry.fits xs ≡ true
    pub order : ascend layout None xs ≡ true
    pub counted : length xs ≡ head.count
    pub used : sum_by layout.cost xs ≡ head.used
    pub within : head.used ≤ page_room
    pub fits : fields_fit (page_fields head xs) ≡ true
    pub whole : bytes ≡ spelled (page_fields head xs)

  module _ (slot_len : ℕ) (law : IsLayout layout slot_len) where
    -- Lengths

    -- how many bytes entries have
    pub len-entries : (xs : List X) → fields_len (flat_map layout.entry.fields xs) ≡ sum_by layout.len xs
    len-entries [] = refl
    len-entries (x ∷ xs) =
        ap fields_len (flat_map-cons layout.entry.fields x xs) ∙ fields_len-append (layout.entry.fields x) (flat_map layout.entry.fields xs)
        ∙ (λ i. law.len_is x i + len-entries xs i) ∙ sym (sum_by-cons layout.len x xs)

    -- and their slots
    pub len-slots : (at : ℕ) (xs : List X) → fields_len (layout.slots at (map layout.len xs)) ≡ slot_len * length xs
    len-slots at [] = ap fields_len (law.none at) ∙ omega arith
    len-slots at (x ∷ xs) =
        let product : slot_len * suc (length xs) ≡ slot_len * length xs + slot_len = omega arith in
        ap fields_len (law.more at (layout.len x) (map layout.len xs)) ∙ fields_len-append (layout.slots (at + layout.len x) (map layout.len xs)) (layout.slot at)
        ∙ (λ i. len-slots (at + layout.len x) xs i + law.slot_is at i) ∙ sym product

    -- the cost of entries is their length with that of their slots
    pub cost-parts : (xs : List X) → sum_by layout.cost xs ≡ sum_by layout.len xs + slot_len * length xs
    cost-parts [] = omega arith
    cost-parts (x ∷ xs) =
        let product : slot_len * suc (length xs) ≡ slot_len * length xs + slot_len = omega arith in
        let here = law.cost_is x in
        omega (arith, sum_by-cons layout.cost x xs, sum_by-cons layout.len x xs, cost-parts xs)

    -- places have room in their slots
    slots_fit : (at : ℕ) (xs : List X) → at + sum_by layout.len xs < 2 ^ 16 → fields_fit (layout.slots at (map layout.len xs)) ≡ true
    slots_fit at [] lt = ap fields_fit (law.none at)
    slots_fit at (x ∷ xs) lt =
        let sum = sum_by-cons layout.len x xs in
        ap fields_fit (law.more at (layout.len x) (map layout.len xs))
        ∙ list_all-append field_fits (layout.slots (at + layout.len x) (map layout.len xs)) (layout.slot at)
        ∙ and_both (fields_fit (layout.slots (at + layout.len x) (map layout.len xs))) (fields_fit (layout.slot at)) (slots_fit (at + layout.len x) xs (omega arith)) (law.slot_fits at (omega arith))

    -- A page as its parts

    -- all that stands after the header, in parts
    spelled-body : (xs : List X)
        → spelled (body_fields xs) ≡ spelled (flat_map layout.entry.fields xs) ++ (replicate (page_room - sum_by layout.cost xs) 0 ++ spelled (layout.slots 64 (map layout.len xs)))
    unfolding spelled
    spelled-body xs = spelled-append (flat_map layout.entry.fields xs) (Zeros (page_room - sum_by layout.cost xs) ∷ layout.slots 64 (map layout.len xs))

    -- the parts of a page
    pub page_parts : (head : PageHead) (xs : List X) (bytes : List ℕ) → IsEntryPage head xs bytes
        → HasSections slot_len head (spelled (flat_map layout.entry.fields xs)) (spelled (layout.slots 64 (map layout.len xs))) bytes
    page_parts head xs bytes p =
        let entries_len : length (spelled (flat_map layout.entry.fields xs)) ≡ sum_by layout.len xs = length-spelled (flat_map layout.entry.fields xs) ∙ len-entries xs in
        let slots_len : length (spelled (layout.slots 64 (map layout.len xs))) ≡ slot_len * length xs = length-spelled (layout.slots 64 (map layout.len xs)) ∙ len-slots 64 xs in
        let cost = cost-parts xs in
        let used = p.used in
        let fit : (fields_fit (page_head_fields head) && fields_fit (body_fields xs)) ≡ true = sym (list_all-append field_fits (page_head_fields head) (body_fields xs)) ∙ p.fits in record {
          fits = and_left (fields_fit (page_head_fields head)) _ fit;
          used = omega arith;
          counted = slots_len ∙ ap (λ (n : ℕ). slot_len * n) p.counted;
          within = p.within;
          whole = p.whole ∙ spelled-append (page_head_fields head) (body_fields xs)
              ∙ ap (λ t. spelled (page_head_fields head) ++ t) (spelled-body xs
              ∙ ap (λ (n : ℕ). spelled (flat_map layout.entry.fields xs) ++ (replicate (page_room - n) 0 ++ spelled (layout.slots 64 (map layout.len xs)))) p.used);
        }

    -- the fields of the entries have room
    entries_fit : (head : PageHead) (xs : List X) (bytes : List ℕ) → IsEntryPage head xs bytes → fields_fit (flat_map layout.entry.fields xs) ≡ true
    entries_fit head xs bytes p =
        let slots : List Field = Zeros (page_room - sum_by layout.cost xs) ∷ layout.slots 64 (map layout.len xs) in
        let fit : (fields_fit (page_head_fields head) && fields_fit (body_fields xs)) ≡ true = sym (list_all-append field_fits (page_head_fields head) (body_fields xs)) ∙ p.fits in
        let body : (fields_fit (flat_map layout.entry.fields xs) && fields_fit slots) ≡ true =
        sym (list_all-append field_fits (flat_map layout.entry.fields xs) slots) ∙ and_right (fields_fit (page_head_fields head)) _ fit in
        and_left (fields_fit (flat_map layout.entry.fields xs)) _ body

    -- the header and the entries that a page is parted into
    pub page_run : (found head : PageHead) (entries slots : List ℕ) (xs : List X) (bytes : List ℕ) → AreBytes bytes → HasSections slot_len found entries slots bytes → IsEntryPage head xs bytes
        → (head ≡ found) × IsEntryRun layout None found.count 64 entries slots
    page_run found head entries slots xs bytes all h p =
        let run = spelled (flat_map layout.entry.fields xs) in
        let same = sections_same slot_len head found run (spelled (layout.slots 64 (map layout.len xs))) entries slots bytes all (page_parts head xs bytes p) h in (
          same.0,
          record {
            entries = xs;
            all = p.counted ∙ ap (λ (h : PageHead). h.count) same.0;
            order = p.order;
            spell = (and_both (list_all layout.entry.fits xs) (fields_fit (flat_map layout.entry.fields xs)) p.keeps (entries_fit head xs bytes p), sym same.1);
            place = sym same.2;
          },
        )

    -- the entries of a run after a header are a page
    pub run_page : (head : PageHead) (entries slots bytes : List ℕ) → HasSections slot_len head entries slots bytes → (run : IsEntryRun layout None head.count 64 entries slots) → IsEntryPage head run.entries bytes
    run_page head entries slots bytes h run =
        let xs : List X = run.entries in
        let entries_len : length entries ≡ sum_by layout.len xs = ap length run.spell.1 ∙ length-spelled (flat_map layout.entry.fields xs) ∙ len-entries xs in
        let slots_len : length slots ≡ slot_len * length xs = ap length run.place ∙ length-spelled (layout.slots 64 (map layout.len xs)) ∙ len-slots 64 xs in
        let cost = cost-parts xs in
        let used = h.used in
        let within = h.within in
        let used_is : sum_by layout.cost xs ≡ head.used = omega arith in
        let run_fits : fields_fit (flat_map layout.entry.fields xs) ≡ true = and_right (list_all layout.entry.fits xs) _ run.spell.0 in
        let body_fits : fields_fit (body_fields xs) ≡ true =
        list_all-append field_fits (flat_map layout.entry.fields xs) (Zeros (page_room - sum_by layout.cost xs) ∷ layout.slots 64 (map layout.len xs))
        ∙ and_both (fields_fit (flat_map layout.entry.fields xs)) (fields_fit (layout.slots 64 (map layout.len xs))) run_fits (slots_fit 64 xs (omega arith)) in record {
          keeps = and_left (list_all layout.entry.fits xs) _ run.spell.0;
          order = run.order;
          counted = run.all;
          used = used_is;
          within = within;
          fits = list_all-append field_fits (page_head_fields head) (body_fields xs) ∙ and_both (fields_fit (page_head_fields head)) (fields_fit (body_fields xs)) h.fits body_fits;
          whole = h.whole
              ∙ ap (λ t. spelled (page_head_fields head) ++ t)
              ((λ i. run.spell.1 i ++ (replicate (page_room - sym used_is i) 0 ++ run.place i)) ∙ sym (spelled-body xs))
              ∙ sym (spelled-append (page_head_fields head) (body_fields xs));
        }

    -- What a check answers, of values whose pages these are

    module _ {V : Type 0} (format : Format V) (head_of : V → PageHead) (xs_of : V → List X) (IsHead : PageHead → Type 0) (bytes : List ℕ) (all : AreBytes bytes)
        (page_of : (v : V) → Spells format v bytes → IsHead (head_of v) × IsEntryPage (head_of v) (xs_of v) bytes) where
      -- bytes without parts are no page
      pub not_parted : ((head : PageHead) (entries slots : List ℕ) → HasSections slot_len head entries slots bytes → ⊥) → IsTrue false ↔ ((v : V) × Spells format v bytes)
      not_parted none =
          never (λ w. (let page = page_of w.0 w.1 in
          none (head_of w.0) (spelled (flat_map layout.entry.fields (xs_of w.0))) (spelled (layout.slots 64 (map layout.len (xs_of w.0)))) (page_parts (head_of w.0) (xs_of w.0) bytes page.1)))

      module _ (found : PageHead) (entries slots : List ℕ) (h : HasSections slot_len found entries slots bytes) where
        -- nor are bytes with another header
        pub other_head : ¬ (IsHead found) → IsTrue false ↔ ((v : V) × Spells format v bytes)
        other_head other =
            never (λ w. (let page = page_of w.0 w.1 in other (subst IsHead (page_run found (head_of w.0) entries slots (xs_of w.0) bytes all h page.1).0 page.0)))

        -- others are a page where they have a run
        pub page_by_run : (b : Bool) → ((xs : List X) → IsEntryPage found xs bytes → (v : V) × Spells format v bytes) → (IsTrue b ↔ IsEntryRun layout None found.count 64 entries slots)
            → IsTrue b ↔ ((v : V) × Spells format v bytes)
        page_by_run b value_of run = (
          λ t. let r = run.0 t in value_of r.entries (run_page found entries slots bytes h r),
          λ w. run.1 (page_run found (head_of w.0) entries slots (xs_of w.0) bytes all h (page_of w.0 w.1).1).1,
        )
