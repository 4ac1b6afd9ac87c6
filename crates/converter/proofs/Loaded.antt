-- Reading a map, page by page.
use Rattle.std.proofs.Common.{◌≡◌, ◌≢◌, ◌⊎◌, inl, inr, ℕ, zero, suc, ◌+◌, ◌-◌, ◌*◌, ◌/◌, ◌<◌, ◌≤◌, ◌^◌, List, [], ◌∷◌, length, get_or, set, replicate, Bool, true, false, Result, Ok, Err, refl, ap, sym, subst, ◌∙◌, arith, length-set}
use Rattle.std.specs.Prelude.{IsTrue, ◌&&◌, ◌||◌, ◌==◌, nat_lt, IfErr, IsErrAnd}
use Rattle.std.specs.List.{list_all}
use Rattle.std.proofs.lemmas.Bool.{cases_eq, cases_lt, ltb-true, false≢true, eqb-true, false_from_ne_true}
use Rattle.std.proofs.lemmas.List.{get_or_past, get_or-set_same, get_or-set_other, length-replicate}
use Rattle.mdb_model.specs.declared.fault.Damage.{Damage}
use Rattle.mdb_model.specs.declared.fault.Rule.TheVariants.{Block}
use Rattle.mdb_model.specs.declared.fault.PageFault.{PageFault}
use Rattle.mdb_model.specs.declared.fault.PageFault.TheVariants.{Failed, Damaged}
use Rattle.mdb_bytes.specs.declared.converter_pages.ConverterEntry.{ConverterEntry}
use Rattle.mdb_bytes.specs.declared.converter_pages.ConverterLeaf.{ConverterLeaf}
use Rattle.mdb_bytes.specs.declared.converter_pages.ConverterRoot.{ConverterRoot}
use Rattle.mdb_bytes.specs.Fields.{fields_fit, Spells}
use Rattle.mdb_bytes.specs.Parts.{page_room}
use Rattle.mdb_bytes.specs.ConverterPages.{converter_entry_fits, converter_entry_fields, converter_leaf_fits, converter_leaf_front, converter_leaf_format, converter_root_format, converter_root_fits, converter_root_fields}
use Rattle.mdb_bytes.proofs.ConverterLaws.{converter_leaf_again, converter_root_again}
use Rattle.mdb_bytes.proofs.TableLaws.{room-section}
use Rattle.mdb_bytes.specs.Firsts.{no_entry}
use Rattle.converter.specs.Maps.{Maps, entry_at, block_of, IsUsed, IsSoundMaps, with_loaded, empty_maps}
use Rattle.converter.specs.Tree.{IsLeafOf, IsRootOf, HasLeafBytes, HasRootBytes}
use Rattle.converter.specs.Loads.{IsOff, IsRead, IsLoading, Admitted, IsEntryRefused, Breaks, FaultReports, row_of, TakesLeaf, RefusesLeaf, IsUnderWay, named, BreaksPlace, BreaksRow, BreaksLeaf, BreaksPages}
use Rattle.converter.proofs.Sound.{none_there}

-- bytes spell one leaf and one root only
pub leaf_same : (v w : ConverterLeaf) (bytes : List ℕ) → Spells converter_leaf_format v bytes → Spells converter_leaf_format w bytes → v ≡ w
leaf_same v w bytes one two = sym (converter_leaf_again v one.0) ∙ ap converter_leaf_format.reads (sym one.1 ∙ two.1) ∙ converter_leaf_again w two.0

pub root_same : (v w : ConverterRoot) (bytes : List ℕ) → Spells converter_root_format v bytes → Spells converter_root_format w bytes → v ≡ w
root_same v w bytes one two = sym (converter_root_again v one.0) ∙ ap converter_root_format.reads (sym one.1 ∙ two.1) ∙ converter_root_again w two.0

-- another leaf number, or a page past the area
pub no_leaf : (w : ConverterLeaf) (bytes : List ℕ) (n i : ℕ) → Spells converter_leaf_format w bytes → (w.leaf ≡ i → ((k : ℕ) → k < 600 → n ≤ 600 * i + k → entry_at w.entries k ≡ no_entry) → ⊥)
    → (v : ConverterLeaf) → IsLeafOf n i bytes v → ⊥
no_leaf w bytes n i spells other v is =
    let e = leaf_same v w bytes is.spells spells in
    other (subst (λ (x : ConverterLeaf). x.leaf ≡ i) e is.number) (subst (λ (x : ConverterLeaf). (k : ℕ) → k < 600 → n ≤ 600 * i + k → entry_at x.entries k ≡ no_entry) e is.past)

-- another number of leaves
pub no_root : (w : ConverterRoot) (bytes : List ℕ) (conv : ℕ) → Spells converter_root_format w bytes → (length w.leaves.items + 1 ≡ conv → ⊥) → (v : ConverterRoot) → IsRootOf conv bytes v → ⊥
no_root w bytes conv spells other v is = other (subst (λ (x : ConverterRoot). length x.leaves.items + 1 ≡ conv) (root_same v w bytes is.spells spells) is.count)

-- Limits of what is spelled

both_left : (a b : Bool) → (a && b) ≡ true → a ≡ true
both_left true b is = refl
both_left false b is = is

both_right : (a b : Bool) → (a && b) ≡ true → b ≡ true
both_right true b is = is
both_right false b is = absurd (cc)

each_passes : {A : Type 0} (p : A → Bool) (l : List A) (d : A) (k : ℕ) → list_all p l ≡ true → k < length l → p (get_or l k d) ≡ true
each_passes p [] d k all lt = absurd (omega (arith, lt))
each_passes p (x ∷ xs) d zero all lt = both_left (p x) (list_all p xs) all
each_passes p (x ∷ xs) d (suc k) all lt = each_passes p xs d k (both_right (p x) (list_all p xs) all) (omega (arith, lt))

-- an entry of a leaf that was spelled
module _ (v : ConverterLeaf) (bytes : List ℕ) (spells : Spells converter_leaf_format v bytes) (k : ℕ) (lt : k < length v.entries) where
  pub entry_spelled : IsTrue (converter_entry_fits (entry_at v.entries k))
  entry_spelled =
      each_passes converter_entry_fits v.entries no_entry k
      (both_right (nat_lt v.leaf 110 && length v.entries == 600) (list_all converter_entry_fits v.entries) (both_left (converter_leaf_fits v) (fields_fit (converter_leaf_format.fields v)) spells.0)) lt

  pub stamp_small : (entry_at v.entries k).stamp < 2 ^ 62
  stamp_small =
      let fit = both_right (converter_leaf_fits v) (fields_fit (converter_leaf_format.fields v)) spells.0 in
      let rows = both_right (fields_fit (converter_leaf_front v)) (list_all (λ x. fields_fit (converter_entry_fields x)) v.entries) (sym (room-section converter_entry_fields 12 page_room (converter_leaf_front v) v.entries) ∙ fit) in
      let e = entry_at v.entries k in
      ltb-true e.stamp (2 ^ 62) (both_left (nat_lt e.stamp (2 ^ 62)) true (both_right (nat_lt e.block (2 ^ 32)) (nat_lt e.stamp (2 ^ 62) && true) (each_passes (λ x. fields_fit (converter_entry_fields x)) v.entries no_entry k rows lt)))

-- the savepoint number of a root that was spelled
pub root_small : (v : ConverterRoot) (bytes : List ℕ) → Spells converter_root_format v bytes → v.savepoint < 2 ^ 62
root_small v bytes spells =
    let fit = both_right (converter_root_fits v) (fields_fit (converter_root_fields v)) spells.0 in
    ltb-true v.savepoint (2 ^ 62) (both_left (nat_lt v.savepoint (2 ^ 62)) _ fit)

-- an entry without a block is none
pub none_is : (e : ConverterEntry) → IsTrue (converter_entry_fits e) → e.block ≡ 0 → e ≡ no_entry
none_is e fits zero_is = elim (cases_eq e.stamp 0) [
  | inl stamp ↦ λ i. record { block = zero_is i; stamp = stamp i }
  | inr some ↦ absurd (not_both e.block e.stamp zero_is some fits)
]
  where
    not_both : (b s : ℕ) → b ≡ 0 → s ≢ 0 → IsTrue ((b == 0 && s == 0) || (nat_lt 0 b && nat_lt 0 s)) → ⊥
    not_both b s is other holds =
        let first : (s == 0) ≡ false = false_from_ne_true (s == 0) (λ is_true. other (eqb-true s 0 is_true)) in
        false≢true (sym (ap (λ t. (t == 0 && s == 0) || (nat_lt 0 t && nat_lt 0 s)) is ∙ ap (λ t. (true && t) || (false && nat_lt 0 s)) first) ∙ holds)

-- One entry after the other

-- nothing yet
pub admitted_none : (m : Maps) (at : ℕ) (f : ℕ → ConverterEntry) → IsLoading m → Admitted m m at f 0
admitted_none m at f loading = record { loading = loading; conv = refl; area = refl; set = λ k lt. absurd (omega (arith, lt)); others = λ q out. refl }

module _ (old now : Maps) (at k : ℕ) (f : ℕ → ConverterEntry) (before : Admitted old now at f k) where
  -- one entry more
  pub admitted_more : at + k < length now.saved → Admitted old (with_loaded now (at + k) (f k)) at f (k + 1)
  admitted_more lt = record {
    loading = record { same = ap (λ (l : List ConverterEntry). set l (at + k) (f k)) before.loading.same; blank = before.loading.blank; thawed = before.loading.thawed };
    conv = before.conv;
    area = length-set now.owner (f k).block (at + k) ∙ before.area;
    set = λ j less. elim (cases_eq j k) [
      | inl is ↦ subst (λ (i : ℕ). entry_at (set now.saved (at + k) (f k)) (at + i) ≡ f i) (sym is) (get_or-set_same now.saved (at + k) (f k) no_entry lt)
      | inr other ↦ get_or-set_other now.saved (at + k) (at + j) (f k) no_entry (λ is. other (omega (arith, is))) ∙ before.set j (omega (arith, less, other))
    ];
    others = λ q out. get_or-set_other now.saved (at + k) q (f k) no_entry (apart q out) ∙ before.others q (still q out);
  }
    where
      apart : (q : ℕ) → (q < at) ⊎ (at + (k + 1) ≤ q) → q ≢ at + k
      apart q out is = elim out [ inl lt ↦ omega (arith, lt, is) | inr le ↦ omega (arith, le, is) ]

      still : (q : ℕ) → (q < at) ⊎ (at + (k + 1) ≤ q) → (q < at) ⊎ (at + k ≤ q)
      still q out = elim out [ inl lt ↦ inl lt | inr le ↦ inr (omega (arith, le)) ]

  -- an entry of no page, where none was
  pub admitted_skip : f k ≡ no_entry → entry_at old.saved (at + k) ≡ no_entry → Admitted old now at f (k + 1)
  admitted_skip none was = record {
    loading = before.loading;
    conv = before.conv;
    area = before.area;
    set = λ j less. elim (cases_eq j k) [
      | inl is ↦ subst (λ (i : ℕ). entry_at now.saved (at + i) ≡ f i) (sym is) (before.others (at + k) (inr (omega arith)) ∙ was ∙ sym none)
      | inr other ↦ before.set j (omega (arith, less, other))
    ];
    others = λ q out. before.others q (still q out);
  }
    where
      still : (q : ℕ) → (q < at) ⊎ (at + (k + 1) ≤ q) → (q < at) ⊎ (at + k ≤ q)
      still q out = elim out [ inl lt ↦ inl lt | inr le ↦ inr (omega (arith, le)) ]

  -- why an entry was refused
  saved_has : (q : ℕ) → block_of now.saved q ≡ (f k).block → 0 < (f k).block → IsEntryRefused old f k
  saved_has q has some = elim (cases_lt q at) [
    | inl low ↦ inr (inl (q, sym (ap (λ (e : ConverterEntry). e.block) (before.others q (inl low))) ∙ has))
    | inr high ↦ elim (cases_lt q (at + k)) [
      | inl lt ↦
          let e : at + (q - at) ≡ q = omega (arith, high) in
          let here : entry_at now.saved q ≡ f (q - at) = subst (λ (p : ℕ). entry_at now.saved p ≡ f (q - at)) e (before.set (q - at) (omega (arith, lt, high))) in
          inr (inr (q - at, omega (arith, lt, high), sym (ap (λ (x : ConverterEntry). x.block) here) ∙ has))
      | inr past ↦ inr (inl (q, sym (ap (λ (e : ConverterEntry). e.block) (before.others q (inr past))) ∙ has))
    ]
  ]

  pub refused : IsOff (length now.owner) (f k).block ⊎ IsUsed now (f k).block → IsEntryRefused old f k
  refused why = elim why [
    | inl off ↦ inl (subst (λ (n : ℕ). IsOff n (f k).block) before.area off)
    | inr used ↦ elim (cases_lt (f k).block 2) [
      | inl low ↦ inl (inl low)
      | inr high ↦ elim used.1 [
        | inl here ↦ saved_has used.0 (sym (ap (λ (l : List ConverterEntry). block_of l used.0) before.loading.same) ∙ here) (omega (arith, high))
        | inr kept ↦ elim kept [
          | inl here ↦ saved_has used.0 here (omega (arith, high))
          | inr here ↦ absurd (omega (arith, high, sym here ∙ ap (λ (l : List ConverterEntry). block_of l used.0) before.loading.blank ∙ ap (λ (e : ConverterEntry). e.block) (none_there (length now.frozen) used.0)))
        ]
      ]
    ]
  ]

-- One leaf after the other

-- what a fault says follows from what it said
pub tells_on : (P Q : Damage → Type 0) (fault : PageFault) → ((d : Damage) → P d → Q d) → FaultReports P fault → FaultReports Q fault
tells_on P Q Failed on is = tt
tells_on P Q (Damaged d) on is = on d is

-- what a fault says follows on the answer that passes it on
pub tells_passed : {U : Type 0} (P Q : Damage → Type 0) (fault : PageFault) (answer : Result U PageFault)
    → IsErrAnd answer (λ passed. passed ≡ fault) → ((d : Damage) → P d → Q d) → FaultReports P fault
    → IfErr answer (FaultReports Q)
tells_passed P Q fault (Ok value) is on tells = absurd is
tells_passed P Q fault (Err passed) is on tells =
    subst (FaultReports Q) (sym is) (tells_on P Q fault on tells)

-- the same maps over a row that reads the same
pub under_row : (T : Type 0) (a m : Maps) (root : ℕ) (row other : ℕ → List ℕ) (i : ℕ) → (T → row ≡ other) → IsUnderWay T a m root row i → IsUnderWay T a m root other i
under_row T a m root row other i same way = record {
  loading = way.loading;
  conv = way.conv;
  area = way.area;
  at = way.at;
  some = way.some;
  placed = way.placed;
  rest = way.rest;
  held = λ told. subst (λ (r : ℕ → List ℕ). HasRootBytes m.saved m.conv (r root)) (same told) (way.held told);
  leaves = λ told j lt. subst (λ (r : ℕ → List ℕ). HasLeafBytes m.saved m.conv j (r (block_of m.saved (j + 1)))) (same told) (way.leaves told j lt);
}

-- the same maps, counted from others of one size
pub under_from : (T : Type 0) (a b m : Maps) (root : ℕ) (row : ℕ → List ℕ) (i : ℕ) → a.conv ≡ b.conv → length a.owner ≡ length b.owner → IsUnderWay T a m root row i → IsUnderWay T b m root row i
under_from T a b m root row i conv area way = record {
  loading = way.loading;
  conv = way.conv ∙ conv;
  area = way.area ∙ area;
  at = way.at;
  some = way.some;
  placed = way.placed;
  rest = way.rest;
  held = way.held;
  leaves = way.leaves;
}

module _ (T : Type 0) (first m : Maps) (root : ℕ) (row : ℕ → List ℕ) (i : ℕ) (way : IsUnderWay T first m root row i) (sound : IsSoundMaps m) where
  -- what was read
  pub read_of : T → IsRead m.conv (length m.owner) root row i m.saved
  read_of told = record {
    long = sound.saved_long;
    at = way.at;
    own = λ q lt. elim (cases_eq q 0) [
      | inl is ↦ subst (λ (p : ℕ). 1 < block_of m.saved p) (sym is) (omega (arith, way.at, way.some))
      | inr other ↦
          let e : q - 1 + 1 ≡ q = omega (arith, other) in
          subst (λ (p : ℕ). 1 < block_of m.saved p) e (way.placed (q - 1) (omega (arith, lt, other)))
    ];
    held = way.held told;
    leaves = way.leaves told;
    rest = way.rest;
    placed = λ q some off. elim off [
      | inl low ↦ omega (arith, sound.high q (block_of m.saved q) some (inr (inl refl)), low)
      | inr high ↦ omega (arith, (sound.saved_small q).0, high)
    ];
    apart = λ p q some same. sym (sound.owned p (block_of m.saved p) some (inr (inl refl))) ∙ sound.owned q (block_of m.saved p) some (inr (inl (sym same)));
  }

  -- a leaf that was refused breaks a rule
  pub refused_breaks : (sizes : List ℕ) (d : Damage) → T → i + 1 < m.conv → RefusesLeaf sizes m i (row (block_of m.saved (i + 1))) d → Breaks sizes first.conv (length first.owner) root row d
  refused_breaks sizes d told lt refuses =
      subst (λ (c : ℕ). Breaks sizes c (length first.owner) root row d) way.conv (subst (λ (n : ℕ). Breaks sizes m.conv n root row d) way.area (elim refuses [
        | inl none ↦ inr (inr (inr (inl record { map = m.saved; leaf = i; there = lt; before = read_of told; none = none.0; is = none.1 })))
        | inr page ↦ inr (inr (inr (inr record {
          map = m.saved;
          leaf = i;
          there = lt;
          before = read_of told;
          value = page.0;
          leaf_is = page.1;
          page = page.2.0;
          within = page.2.1;
          some = page.2.2;
          bad = page.2.3;
          is = page.3;
        })))
      ]))

  -- a leaf more
  pub under_more : (next : Maps) (bytes : List ℕ) → i + 1 < m.conv → TakesLeaf m next i bytes → (T → bytes ≡ row (block_of m.saved (i + 1))) → IsUnderWay T first next root row (i + 1)
  under_more next bytes lt takes is = record {
    loading = takes.taken.loading;
    conv = takes.taken.conv ∙ way.conv;
    area = takes.taken.area ∙ way.area;
    at = own_same 0 (omega (arith, lt)) ∙ way.at;
    some = way.some;
    placed = λ j less. omega (arith, own_same (j + 1) (omega (arith, less, takes.taken.conv)), way.placed j (omega (arith, less, takes.taken.conv)));
    rest = λ q le. takes.taken.others q (inr (omega (arith, le, takes.taken.conv))) ∙ way.rest q (omega (arith, le, takes.taken.conv));
    held = λ told. let h = way.held told in record {
      root = h.root;
      is = subst (λ (c : ℕ). IsRootOf c (row root) h.root) (sym takes.taken.conv) h.is;
      leaves = λ j less. h.leaves j (omega (arith, less, takes.taken.conv)) ∙ sym (own_same (j + 1) (omega (arith, less, takes.taken.conv)));
    };
    leaves = λ told j less. elim (cases_eq j i) [
      | inl here ↦ subst (λ (x : ℕ). HasLeafBytes next.saved next.conv x (row (block_of next.saved (x + 1)))) (sym here) (this told)
      | inr other ↦ before told j (omega (arith, less, other))
    ];
  }
    where
      own_same : (q : ℕ) → q < m.conv → block_of next.saved q ≡ block_of m.saved q
      own_same q less = ap (λ (e : ConverterEntry). e.block) (takes.taken.others q (inl (omega (arith, less))))

      this : T → HasLeafBytes next.saved next.conv i (row (block_of next.saved (i + 1)))
      this told = record {
        leaf = takes.value;
        spells = subst (λ (l : List ℕ). Spells converter_leaf_format takes.value l) (is told ∙ ap row (sym (own_same (i + 1) lt))) takes.is.spells;
        number = takes.is.number;
        entries = λ k less. sym (takes.taken.set k less) ∙ ap (λ (c : ℕ). entry_at next.saved (c + 600 * i + k)) (sym takes.taken.conv);
      }

      before : T → (j : ℕ) → j < i → HasLeafBytes next.saved next.conv j (row (block_of next.saved (j + 1)))
      before told j less =
          let h = way.leaves told j less in
          record {
            leaf = h.leaf;
            spells = subst (λ (l : List ℕ). Spells converter_leaf_format h.leaf l) (ap row (sym (own_same (j + 1) (omega (arith, less, lt))))) h.spells;
            number = h.number;
            entries = λ k small. h.entries k small ∙ sym (takes.taken.others (m.conv + 600 * j + k) (inl (omega (arith, less, small)))) ∙ ap (λ (c : ℕ). entry_at next.saved (c + 600 * j + k)) (sym takes.taken.conv);
          }

-- The root

-- the maps with the root alone, and no page
module _ (T : Type 0) (old now : Maps) (root : ℕ) (row : ℕ → List ℕ) (value : ConverterRoot) (bytes : List ℕ) (blank : old ≡ empty_maps (length old.owner) old.owner)
    (is : IsRootOf old.conv bytes value) (there : T → bytes ≡ row root) where
  rooted : Maps
  rooted = with_loaded old 0 record { block = root; stamp = value.savepoint }

  none_at : (q : ℕ) → entry_at old.saved q ≡ no_entry
  none_at q = ap (λ (m : Maps). entry_at m.saved q) blank ∙ none_there (1 + (length old.owner + 599) / 600 + length old.owner) q

  some_long : 0 < length old.saved
  some_long = omega (arith, ap (λ (m : Maps). length m.saved) blank, length-replicate (1 + (length old.owner + 599) / 600 + length old.owner) no_entry)

  root_at : entry_at (set old.saved 0 record { block = root; stamp = value.savepoint }) 0 ≡ record { block = root; stamp = value.savepoint }
  root_at = get_or-set_same old.saved 0 record { block = root; stamp = value.savepoint } no_entry some_long

  rest_at : (q : ℕ) → 0 < q → entry_at (set old.saved 0 record { block = root; stamp = value.savepoint }) q ≡ no_entry
  rest_at q some = get_or-set_other old.saved 0 q record { block = root; stamp = value.savepoint } no_entry (λ e. omega (arith, e, some)) ∙ none_at q

  pub rooted_loading : IsLoading (with_loaded old 0 record { block = root; stamp = value.savepoint })
  rooted_loading = record {
    same = ap (λ (l : List ConverterEntry). set l 0 record { block = root; stamp = value.savepoint }) (ap (λ (m : Maps). m.present) blank ∙ sym (ap (λ (m : Maps). m.saved) blank));
    blank = ap (λ (m : Maps). m.frozen) blank ∙ ap (λ (n : ℕ). replicate n no_entry) (sym (ap (λ (m : Maps). length m.frozen) blank ∙ length-replicate (1 + (length old.owner + 599) / 600 + length old.owner) no_entry));
    thawed = ap (λ (m : Maps). m.frozen_at) blank;
  }

  -- its leaves were put, and no leaf is read yet
  pub way_begins : 1 < root → Admitted (with_loaded old 0 record { block = root; stamp = value.savepoint }) now 1 (row_of value) (length value.leaves.items) → ((k : ℕ) → k < length value.leaves.items → 1 < get_or value.leaves.items k 0)
      → IsUnderWay T now now root row 0
  way_begins some taken placed = record {
    loading = taken.loading;
    conv = refl;
    area = refl;
    some = some;
    at = ap (λ (e : ConverterEntry). e.block) (taken.others 0 (inl (omega arith)) ∙ root_at);
    placed = λ j lt. omega (arith, leaf_at j lt, placed j (omega (arith, lt, taken.conv, is.count)));
    rest = λ q le. taken.others q (inr (omega (arith, le, taken.conv, is.count))) ∙ rest_at q (omega (arith, le, taken.conv, is.count));
    held = λ told. record {
      root = value;
      is = subst (λ (c : ℕ). IsRootOf c (row root) value) (sym taken.conv) (subst (λ (l : List ℕ). IsRootOf old.conv l value) (there told) is);
      leaves = λ j lt. sym (leaf_at j lt);
    };
    leaves = λ told j lt. absurd (omega (arith, lt));
  }
    where
      leaf_at : (j : ℕ) → j + 1 < now.conv → block_of now.saved (j + 1) ≡ get_or value.leaves.items j 0
      leaf_at j lt =
          let e : 1 + j ≡ j + 1 = omega arith in
          ap (λ (x : ConverterEntry). x.block) (subst (λ (p : ℕ). entry_at now.saved p ≡ row_of value j) e (taken.set j (omega (arith, lt, taken.conv, is.count))))

  -- a leaf that was refused breaks a rule
  pub row_breaks : (sizes : List ℕ) (d : Damage) → T → (k : ℕ) → k < length value.leaves.items → IsEntryRefused (with_loaded old 0 record { block = root; stamp = value.savepoint }) (row_of value) k → d ≡ named sizes root Block
      → Breaks sizes old.conv (length old.owner) root row d
  row_breaks sizes d told k lt refused d_is = inr (inr (inl record {
    value = value;
    root_is = subst (λ (l : List ℕ). IsRootOf old.conv l value) (there told) is;
    leaf = k;
    there = omega (arith, lt, is.count);
    bad = elim refused [
      | inl off ↦ inl (subst (λ (n : ℕ). IsOff n (get_or value.leaves.items k 0)) (length-set old.owner root 0) off)
      | inr taken ↦ elim taken [
        | inl had ↦ elim (cases_eq had.0 0) [
          | inl zero_is ↦ inr (inl (sym had.1 ∙ ap (λ (q : ℕ). block_of (set old.saved 0 record { block = root; stamp = value.savepoint }) q) zero_is ∙ ap (λ (e : ConverterEntry). e.block) root_at))
          | inr other ↦ inl (inl (omega (arith, sym had.1 ∙ ap (λ (e : ConverterEntry). e.block) (rest_at had.0 (omega (arith, other))))))
        ]
        | inr twice ↦ inr (inr twice)
      ]
    ];
    is = d_is;
  }))

-- A map that was read whole

-- its root and leaves are the only ones that the bytes spell
module _ (conv n root : ℕ) (row : ℕ → List ℕ) (i j : ℕ) (a b : List ConverterEntry) (one : IsRead conv n root row i a) (two : IsRead conv n root row j b) where
  same_own : (q : ℕ) → q < conv → block_of a q ≡ block_of b q
  same_own q lt = elim (cases_eq q 0) [
    | inl is ↦ subst (λ (p : ℕ). block_of a p ≡ block_of b p) (sym is) (one.at ∙ sym two.at)
    | inr other ↦
        let e : q - 1 + 1 ≡ q = omega (arith, other) in
        let roots = root_same one.held.root two.held.root (row root) one.held.is.spells two.held.is.spells in
        subst (λ (p : ℕ). block_of a p ≡ block_of b p) e
        (sym (one.held.leaves (q - 1) (omega (arith, lt, other))) ∙ ap (λ (r : ConverterRoot). get_or r.leaves.items (q - 1) 0) roots ∙ two.held.leaves (q - 1) (omega (arith, lt, other)))
  ]

  same_leaf : (k p : ℕ) → k < i → k < j → k + 1 < conv → p < 600 → entry_at a (conv + 600 * k + p) ≡ entry_at b (conv + 600 * k + p)
  same_leaf k p ki kj lt less =
      let x = one.leaves k ki in
      let y = two.leaves k kj in
      let e : block_of a (k + 1) ≡ block_of b (k + 1) = same_own (k + 1) lt in
      let leaves = leaf_same x.leaf y.leaf (row (block_of b (k + 1))) (subst (λ (c : ℕ). Spells converter_leaf_format x.leaf (row c)) e x.spells) y.spells in
      sym (x.entries p less) ∙ ap (λ (v : ConverterLeaf). entry_at v.entries p) leaves ∙ y.entries p less

  same_front : j ≤ i → j + 1 ≤ conv → (q : ℕ) → q < conv + 600 * j → block_of a q ≡ block_of b q
  same_front le few q lt = elim (cases_lt q conv) [
    | inl low ↦ same_own q low
    | inr high ↦
        let k = (q - conv) / 600 in
        let p = q - conv - 600 * k in
        let e : conv + 600 * k + p ≡ q = omega (arith, high) in
        subst (λ (c : ℕ). block_of a c ≡ block_of b c) e (ap (λ (x : ConverterEntry). x.block) (same_leaf k p (omega (arith, lt, high, le)) (omega (arith, lt, high)) (omega (arith, lt, high, few)) (omega arith)))
  ]

-- no rule is broken where a map was read whole
module _ (sizes : List ℕ) (conv n root : ℕ) (row : ℕ → List ℕ) (l : List ConverterEntry) (d : Damage) (whole : IsRead conv n root row (conv - 1) l) where
  -- what the bytes of a leaf spell is that leaf of the map
  the_leaf : (map : List ConverterEntry) (leaf : ℕ) → leaf + 1 < conv → IsRead conv n root row leaf map → (value : ConverterLeaf) → IsLeafOf n leaf (row (block_of map (leaf + 1))) value → (k : ℕ) → k < 600
      → entry_at value.entries k ≡ entry_at l (conv + 600 * leaf + k)
  the_leaf map leaf lt before value is k less =
      let h = whole.leaves leaf (omega (arith, lt)) in
      let e : block_of map (leaf + 1) ≡ block_of l (leaf + 1) = same_own conv n root row leaf (conv - 1) map l before whole (leaf + 1) lt in
      let same = leaf_same value h.leaf (row (block_of l (leaf + 1))) (subst (λ (c : ℕ). Spells converter_leaf_format value (row c)) e is.spells) h.spells in
      ap (λ (v : ConverterLeaf). entry_at v.entries k) same ∙ h.entries k less

  pub no_place : BreaksPlace n root d → ⊥
  no_place breaks = whole.placed 0 (omega (arith, some)) (subst (λ (b : ℕ). IsOff n b) (sym whole.at) breaks.off)
    where
      some : 1 < block_of l 0
      some = whole.own 0 (omega (arith, whole.held.is.count))

  pub no_row : BreaksRow sizes conv n root row d → ⊥
  no_row breaks =
      let k = breaks.leaf in
      let roots = root_same breaks.value whole.held.root (row root) breaks.root_is.spells whole.held.is.spells in
      let at = λ (j : ℕ) (lt : j + 1 < conv). ap (λ (r : ConverterRoot). get_or r.leaves.items j 0) roots ∙ whole.held.leaves j lt in
      let here : get_or breaks.value.leaves.items k 0 ≡ block_of l (k + 1) = at k breaks.there in
      let some = whole.own (k + 1) breaks.there in
      elim breaks.bad [
        | inl off ↦ whole.placed (k + 1) (omega (arith, some)) (subst (λ (b : ℕ). IsOff n b) here off)
        | inr used ↦ elim used [
          | inl is ↦ omega (arith, whole.apart (k + 1) 0 (omega (arith, some)) (sym here ∙ is ∙ sym whole.at))
          | inr twice ↦ omega (arith, twice.1, whole.apart (k + 1) (twice.0 + 1) (omega (arith, some)) (sym here ∙ sym twice.2 ∙ at twice.0 (omega (arith, twice.1, breaks.there))))
        ]
      ]

  pub no_bad_leaf : BreaksLeaf sizes conv n root row d → ⊥
  no_bad_leaf breaks =
      let i = breaks.leaf in
      let h = whole.leaves i (omega (arith, breaks.there)) in
      let e : block_of l (i + 1) ≡ block_of breaks.map (i + 1) = same_own conv n root row (conv - 1) i l breaks.map whole breaks.before (i + 1) breaks.there in
      breaks.none h.leaf record {
        spells = subst (λ (c : ℕ). Spells converter_leaf_format h.leaf (row c)) e h.spells;
        number = h.number;
        past = λ k lt le. h.entries k lt ∙ get_or_past l (conv + 600 * i + k) no_entry (omega (arith, whole.long, le));
      }

  pub no_bad_page : BreaksPages sizes conv n root row d → ⊥
  no_bad_page breaks =
      let i = breaks.leaf in
      let k = breaks.page in
      let at = λ (j : ℕ) (lt : j < 600). ap (λ (x : ConverterEntry). x.block) (the_leaf breaks.map i breaks.there breaks.before breaks.value breaks.leaf_is j lt) in
      let here : block_of breaks.value.entries k ≡ block_of l (conv + 600 * i + k) = at k breaks.within in
      elim breaks.bad [
        | inl off ↦ whole.placed (conv + 600 * i + k) (omega (arith, here, breaks.some)) (subst (λ (b : ℕ). IsOff n b) here off)
        | inr used ↦ elim used [
          | inl had ↦ elim (cases_lt had.0 (conv + 600 * i)) [
            | inl lt ↦
                let same = same_front conv n root row (conv - 1) i l breaks.map whole breaks.before (omega (arith, breaks.there)) (omega (arith, breaks.there)) had.0 lt in
                omega (arith, lt, whole.apart (conv + 600 * i + k) had.0 (omega (arith, here, breaks.some)) (sym here ∙ sym had.1 ∙ sym same))
            | inr past ↦ omega (arith, breaks.some, sym had.1 ∙ ap (λ (x : ConverterEntry). x.block) (breaks.before.rest had.0 past))
          ]
          | inr twice ↦
              let less : twice.0 < 600 = omega (arith, twice.1, breaks.within) in
              omega (arith, twice.1, whole.apart (conv + 600 * i + k) (conv + 600 * i + twice.0) (omega (arith, here, breaks.some)) (sym here ∙ sym twice.2 ∙ at twice.0 less))
        ]
      ]

  pub whole_unbroken : Breaks sizes conv n root row d → ⊥
  whole_unbroken breaks = elim breaks [
    | inl a ↦ no_place a
    | inr rest ↦ elim rest [
      | inl a ↦ a.none whole.held.root whole.held.is
      | inr rest ↦ elim rest [
        | inl a ↦ no_row a
        | inr rest ↦ elim rest [ inl a ↦ no_bad_leaf a | inr a ↦ no_bad_page a ]
      ]
    ]
  ]
