-- Stores after a page was moved, given up or made.
use Rattle.std.proofs.Common.{◌≡◌, ◌≢◌, ◌⊎◌, inl, inr, ℕ, ◌+◌, ◌<◌, List, length, get_or, set, Bool, true, false, Some, None, refl, ap, sym, subst, ◌∙◌, arith, length-set}
use Rattle.std.proofs.lemmas.Bool.{cases_eq, cases_lt, false≢true}
use Rattle.std.proofs.lemmas.List.{get_or-set_same, get_or-set_other, get_or_past}
use Rattle.free_blocks.specs.Free.{IsFree}
use Rattle.free_blocks.specs.Marked.{IsMarked}
use Rattle.mdb_bytes.specs.declared.converter_pages.ConverterEntry.{ConverterEntry}
use Rattle.mdb_bytes.specs.Firsts.{no_entry}
use Rattle.converter.specs.Maps.{block_of, entry_at, KeepsAt, HasAt, IsUsed, IsSoundMaps, AreUnused}
use Rattle.converter.proofs.Sound.{block_set}
use Rattle.converter.proofs.Spelled.{free_below}
use Rattle.page_store.specs.Store.{Store, block_count, page_block, frame_of, has_changed, IsHeld, IsStore, PinMarks}
use Rattle.page_store.specs.Stamps.{page_entry}
use Rattle.page_store.specs.Steps.{moved_to, newer_at, without_page, given_block}

-- a test that was set for one block
pub set_true : (l : List Bool) (b c : ℕ) → get_or (set l b true) c false ≡ true → (c ≡ b) ⊎ (get_or l c false ≡ true)
set_true l b c is = elim (cases_eq c b) [
  | inl same ↦ inl same
  | inr other ↦ inr (sym (get_or-set_other l b c true false other) ∙ is)
]

pub set_false : (l : List Bool) (b c : ℕ) → get_or (set l b false) c false ≡ true → (c ≢ b) × (get_or l c false ≡ true)
set_false l b c is = elim (cases_eq c b) [
  | inl same ↦ absurd (elim (cases_lt b (length l)) [
    | inl lt ↦ false≢true (sym (get_or-set_same l b false false lt) ∙ subst (λ (x : ℕ). get_or (set l b false) x false ≡ true) same is)
    | inr past ↦ false≢true (sym (get_or_past (set l b false) c false (omega (arith, length-set l b false, past, same))) ∙ is)
  ])
  | inr other ↦ (other, sym (get_or-set_other l b c false false other) ∙ is)
]

module _ (s : Store) (page b : ℕ) (bytes : List ℕ) (sound : IsSoundMaps s.maps) (store : IsStore s) (below : page < block_count s) (free : IsFree s.free b)
    (left : (page_block s page ≡ 0) ⊎ IsHeld s (page_block s page)) where
  abbrev place : ℕ
  place = s.maps.conv + page

  abbrev e : ConverterEntry
  e = record { block = b; stamp = s.next }

  abbrev now : Store
  now = moved_to s page b bytes

  pub is_below : b < block_count s
  is_below = omega (arith, free_below s.free b free, store.area)

  pub not_used : IsUsed s.maps b → ⊥
  not_used = (store.unused b free).1

  pub entry_here : page_entry now page ≡ e
  entry_here = get_or-set_same s.maps.present place e no_entry (omega (arith, sound.present_long, below))

  pub here : page_block now page ≡ b
  here = ap (λ (x : ConverterEntry). x.block) entry_here

  pub other_entry : (q : ℕ) → q ≢ place → entry_at now.maps.present q ≡ entry_at s.maps.present q
  other_entry q other = get_or-set_other s.maps.present place q e no_entry other

  pub other_place : (q : ℕ) → q ≢ place → block_of now.maps.present q ≡ block_of s.maps.present q
  other_place q other = ap (λ (x : ConverterEntry). x.block) (other_entry q other)

  pub used_before : (c q : ℕ) → c ≢ b → HasAt now.maps q c → HasAt s.maps q c
  used_before c q other has = elim has [
    | inl now ↦ elim (block_set s.maps.present place q c e now) [
      | inl was ↦ inl was
      | inr new ↦ absurd (other (sym new.1))
    ]
    | inr kept ↦ inr kept
  ]

  still_freed : (c : ℕ) → 1 < c → c < block_count now → (IsUsed now.maps c → ⊥) → (IsMarked s.marks c → ⊥) → IsFree now.free c
  still_freed c high lt unused unmarked =
      let other : c ≢ b = λ same. unused (place, inl (here ∙ sym same)) in
      let before : IsUsed s.maps c → ⊥ = λ used. elim used.1 [
        | inl present ↦ elim (cases_eq used.0 place) [
          | inl at ↦
              let old : page_block s page ≡ c = subst (λ (q : ℕ). block_of s.maps.present q ≡ c) at present in
              elim left [
                | inl none ↦ omega (arith, high, old, none)
                | inr held ↦ elim held [
                  | inl kept ↦ unused (kept.0, inr (subst (λ (x : ℕ). KeepsAt s.maps kept.0 x) old kept.1))
                  | inr marked ↦ unmarked (subst (λ (x : ℕ). IsMarked s.marks x) old marked)
                ]
              ]
          | inr away ↦ unused (used.0, inl (other_place used.0 away ∙ present))
        ]
        | inr kept ↦ unused (used.0, inr kept)
      ] in
      get_or-set_other s.free b c false false other ∙ store.freed c high (omega (arith, lt, length-set s.maps.owner b place)) before unmarked

  pub moved_store : IsStore now
  moved_store = record {
    area = omega (arith, length-set s.free b false, length-set s.maps.owner b place, store.area);
    marks_long = omega (arith, length-set s.maps.owner b place, store.marks_long);
    sixteen = store.sixteen;
    frames_long = omega (arith, length-set s.frames b (Some bytes), length-set s.maps.owner b place, store.frames_long);
    changed_long = omega (arith, length-set s.changed b true, length-set s.maps.owner b place, store.changed_long);
    blocks = omega (arith, length-set s.maps.owner b place, store.blocks);
    unused = λ c is. let f = set_false s.free b c is in ((store.unused c f.1).0, λ used. (store.unused c f.1).1 (used.0, used_before c used.0 f.0 used.1));
    unmarked = λ c is. store.unmarked c (set_false s.free b c is).1;
    freed = still_freed;
    saved_same = λ q. get_or-set_other s.changed b (block_of s.maps.saved q) true false (λ is. not_used (q, inr (inl is))) ∙ store.saved_same q;
    own_same = λ q lt.
        let same = other_place q (λ at. omega (arith, at, lt)) in
        ap (λ (x : ℕ). get_or (set s.changed b true) x false) same
        ∙ get_or-set_other s.changed b (block_of s.maps.present q) true false (λ is. not_used (q, inl is)) ∙ store.own_same q lt;
    free_same = λ c is. let f = set_false s.free b c is in get_or-set_other s.changed b c true false f.0 ∙ store.free_same c f.1;
    marked_same = λ c marked. get_or-set_other s.changed b c true false (λ is. store.unmarked b free (subst (λ (x : ℕ). IsMarked s.marks x) is marked)) ∙ store.marked_same c marked;
    framed = λ c is. elim (cases_eq c b) [
      | inl same ↦ (bytes, subst (λ (x : ℕ). get_or (set s.frames b (Some bytes)) x None ≡ Some bytes) (sym same) (get_or-set_same s.frames b (Some bytes) None (omega (arith, is_below, store.frames_long))))
      | inr other ↦
          let was = store.framed c (sym (get_or-set_other s.changed b c true false other) ∙ is) in
          (was.0, get_or-set_other s.frames b c (Some bytes) None other ∙ was.1)
    ];
    thawed = store.thawed;
    some_next = store.some_next;
    small_next = store.small_next;
    pins = subst (λ (n : ℕ). PinMarks s.maps.conv n s.marks s.pinned) (sym (length-set s.maps.owner b place)) store.pins;
  }

-- a page whose frame is newer, on a block that nothing keeps
pub newer_store : (s : Store) (page b : ℕ) (bytes : List ℕ) → IsSoundMaps s.maps → IsStore s → 0 < b → page_block s page ≡ b → (IsHeld s b → ⊥) → frame_of s b ≡ Some bytes → IsStore (newer_at s b)
newer_store s page b bytes sound store some is owned there = record {
  area = store.area;
  marks_long = store.marks_long;
  sixteen = store.sixteen;
  frames_long = store.frames_long;
  changed_long = length-set s.changed b true ∙ store.changed_long;
  blocks = store.blocks;
  unused = store.unused;
  unmarked = store.unmarked;
  freed = store.freed;
  saved_same = λ q. get_or-set_other s.changed b (block_of s.maps.saved q) true false (λ same. owned (inl (q, inl same))) ∙ store.saved_same q;
  own_same = λ q lt. get_or-set_other s.changed b (block_of s.maps.present q) true false (λ same.
      let one = sound.owned q b some (inl same) in
      let two = sound.owned (s.maps.conv + page) b some (inl is) in
      omega (arith, one, two, lt)) ∙ store.own_same q lt;
  free_same = λ c free. get_or-set_other s.changed b c true false (λ same. (store.unused c free).1 (s.maps.conv + page, inl (is ∙ sym same))) ∙ store.free_same c free;
  marked_same = λ c marked. get_or-set_other s.changed b c true false (λ same. owned (inr (subst (λ (x : ℕ). IsMarked s.marks x) same marked))) ∙ store.marked_same c marked;
  framed = λ c is_newer. elim (set_true s.changed b c is_newer) [
    | inl same ↦ (bytes, ap (frame_of s) same ∙ there)
    | inr was ↦ store.framed c was
  ];
  thawed = store.thawed;
  some_next = store.some_next;
  small_next = store.small_next;
  pins = store.pins;
}

module _ (s : Store) (page : ℕ) (sound : IsSoundMaps s.maps) (store : IsStore s) (below : page < block_count s) (lives : 0 < page_block s page) where
  abbrev spot : ℕ
  spot = s.maps.conv + page

  abbrev bare : Store
  bare = without_page s page

  pub gone_entry : page_entry bare page ≡ no_entry
  gone_entry = get_or-set_same s.maps.present spot no_entry no_entry (omega (arith, sound.present_long, below))

  pub gone_here : page_block bare page ≡ 0
  gone_here = ap (λ (x : ConverterEntry). x.block) gone_entry

  pub spot_entry : (q : ℕ) → q ≢ spot → entry_at bare.maps.present q ≡ entry_at s.maps.present q
  spot_entry q other = get_or-set_other s.maps.present spot q no_entry no_entry other

  pub other_spot : (q : ℕ) → q ≢ spot → block_of bare.maps.present q ≡ block_of s.maps.present q
  other_spot q other = ap (λ (x : ConverterEntry). x.block) (spot_entry q other)

  pub has_before : (c q : ℕ) → 0 < c → HasAt bare.maps q c → HasAt s.maps q c
  has_before c q some has = elim has [
    | inl here ↦ elim (block_set s.maps.present spot q c no_entry here) [
      | inl was ↦ inl was
      | inr new ↦ absurd (omega (arith, new.1, some))
    ]
    | inr kept ↦ inr kept
  ]

  still_unused : AreUnused bare.maps s.free
  still_unused c free = let u = store.unused c free in (u.0, λ used. u.1 (used.0, has_before c used.0 (omega (arith, u.0)) used.1))

  still_own : (q : ℕ) → q < s.maps.conv → has_changed s (block_of bare.maps.present q) ≡ false
  still_own q lt = ap (has_changed s) (other_spot q (λ is. omega (arith, is, lt))) ∙ store.own_same q lt

  -- what was used before and is not now is the page's block
  only_lost : (c : ℕ) → (IsUsed bare.maps c → ⊥) → IsUsed s.maps c → page_block s page ≡ c
  only_lost c unused used = elim used.1 [
    | inl present ↦ elim (cases_eq used.0 spot) [
      | inl at ↦ subst (λ (q : ℕ). block_of s.maps.present q ≡ c) at present
      | inr away ↦ absurd (unused (used.0, inl (other_spot used.0 away ∙ present)))
    ]
    | inr kept ↦ absurd (unused (used.0, inr kept))
  ]

  -- the block stays where something keeps it
  pub bare_store : IsHeld s (page_block s page) → IsStore bare
  bare_store held = record {
    area = store.area;
    marks_long = store.marks_long;
    sixteen = store.sixteen;
    frames_long = store.frames_long;
    changed_long = store.changed_long;
    blocks = store.blocks;
    unused = still_unused;
    unmarked = store.unmarked;
    freed = λ c high lt unused unmarked. store.freed c high lt (λ used.
        let is = only_lost c unused used in
        elim held [
          | inl kept ↦ unused (kept.0, inr (subst (λ (x : ℕ). KeepsAt s.maps kept.0 x) is kept.1))
          | inr marked ↦ unmarked (subst (λ (x : ℕ). IsMarked s.marks x) is marked)
        ]) unmarked;
    saved_same = store.saved_same;
    own_same = still_own;
    free_same = store.free_same;
    marked_same = store.marked_same;
    framed = store.framed;
    thawed = store.thawed;
    some_next = store.some_next;
    small_next = store.small_next;
    pins = store.pins;
  }

  pub not_free : IsFree s.free (page_block s page) → ⊥
  not_free free = (store.unused (page_block s page) free).1 (spot, inl refl)

  module _ (b : ℕ) (is : page_block s page ≡ b) (owned : IsHeld s b → ⊥) where
    some_b : 0 < b
    some_b = omega (arith, is, lives)

    mine : (q : ℕ) → HasAt s.maps q b → q ≡ spot
    mine q has = sym (sound.owned q b some_b has) ∙ sound.owned spot b some_b (inl is)

    unused_b : IsUsed bare.maps b → ⊥
    unused_b used = elim used.1 [
      | inl here ↦
          let at = mine used.0 (has_before b used.0 some_b (inl here)) in
          let none : b ≡ 0 = sym here ∙ ap (λ (q : ℕ). block_of bare.maps.present q) at ∙ gone_here in
          omega (arith, none, some_b)
      | inr kept ↦ owned (inl (used.0, kept))
    ]

    unchanged_to : (c : ℕ) → c ≢ b → has_changed s c ≡ false → get_or (set s.changed b false) c false ≡ false
    unchanged_to c other same = get_or-set_other s.changed b c false false other ∙ same

    unchanged_all : (c : ℕ) → has_changed s c ≡ false → get_or (set s.changed b false) c false ≡ false
    unchanged_all c same = elim (cases_eq c b) [
      | inl at ↦ elim (cases_lt b (length s.changed)) [
        | inl lt ↦ ap (λ (x : ℕ). get_or (set s.changed b false) x false) at ∙ get_or-set_same s.changed b false false lt
        | inr past ↦ get_or_past (set s.changed b false) c false (omega (arith, length-set s.changed b false, past, at))
      ]
      | inr other ↦ unchanged_to c other same
    ]

    b_low : b < block_count s
    b_low = omega (arith, is, (sound.present_small spot).0)

    b_same : get_or (set s.changed b false) b false ≡ false
    b_same = get_or-set_same s.changed b false false (omega (arith, b_low, store.changed_long))

    pub given_store : IsStore (given_block bare b)
    given_store = record {
      area = length-set s.free b true ∙ store.area;
      marks_long = store.marks_long;
      sixteen = store.sixteen;
      frames_long = length-set s.frames b None ∙ store.frames_long;
      changed_long = length-set s.changed b false ∙ store.changed_long;
      blocks = store.blocks;
      unused = λ c free. elim (set_true s.free b c free) [
        | inl same ↦ (subst (λ (x : ℕ). 1 < x) (sym same) (sound.high spot b some_b (inl is)), λ used. unused_b (subst (λ (x : ℕ). IsUsed bare.maps x) same used))
        | inr was ↦ still_unused c was
      ];
      unmarked = λ c free marked. elim (set_true s.free b c free) [
        | inl same ↦ owned (inr (subst (λ (x : ℕ). IsMarked s.marks x) same marked))
        | inr was ↦ store.unmarked c was marked
      ];
      freed = λ c high lt unused unmarked. elim (cases_eq c b) [
        | inl same ↦ ap (λ (x : ℕ). get_or (set s.free b true) x false) same ∙ get_or-set_same s.free b true false (omega (arith, b_low, store.area))
        | inr other ↦ get_or-set_other s.free b c true false other ∙ store.freed c high lt (λ used. other (sym (only_lost c unused used) ∙ is)) unmarked
      ];
      saved_same = λ q. unchanged_all (block_of s.maps.saved q) (store.saved_same q);
      own_same = λ q lt. unchanged_all (block_of bare.maps.present q) (still_own q lt);
      free_same = λ c free. elim (set_true s.free b c free) [
        | inl same ↦ ap (λ (x : ℕ). get_or (set s.changed b false) x false) same ∙ b_same
        | inr was ↦ unchanged_all c (store.free_same c was)
      ];
      marked_same = λ c marked. unchanged_all c (store.marked_same c marked);
      framed = λ c newer.
          let f = set_false s.changed b c newer in
          let was = store.framed c f.1 in
          (was.0, get_or-set_other s.frames b c None None f.0 ∙ was.1);
      thawed = store.thawed;
      some_next = store.some_next;
      small_next = store.small_next;
      pins = store.pins;
    }
