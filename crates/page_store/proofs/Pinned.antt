-- Stores of which a map is pinned, or given up.
--     pin_is, pinned_store      the last savepoint's map is pinned
--     no_mark, unpinned_store      no map is
--     pinned_kept, unpinned_kept, pinned_room      the same in memory
--     passed_fault      a fault that is passed on
use Rattle.std.proofs.Common.{◌≡◌, ◌⊎◌, ◌↔◌, inl, inr, ℕ, ◌+◌, ◌<◌, List, [], length, get_or, Bool, true, false, Option, Some, None, Result, Ok, Err, refl, ap, sym, subst, ◌∙◌, arith}
use Rattle.std.specs.Prelude.{IsSome, IsErrAnd, IfErr}
use Rattle.std.proofs.lemmas.Bool.{cases_eq, cases_lt, false≢true}
use Rattle.std.proofs.lemmas.List.{get_or_past}
use Rattle.mdb_model.specs.declared.fault.PageFault.{PageFault}
use Rattle.mdb_model.specs.declared.fault.PageFault.TheVariants.{Failed}
use Rattle.mdb_bytes.specs.declared.converter_pages.ConverterEntry.{ConverterEntry}
use Rattle.mdb_bytes.specs.Firsts.{no_entry}
use Rattle.free_blocks.specs.Free.{IsFree}
use Rattle.free_blocks.specs.Marked.{HasMark, IsMarked}
use Rattle.converter.specs.Maps.{Maps, block_of, IsSoundMaps, IsUsed}
use Rattle.page_store.specs.declared.store.FrameState.{FrameState}
use Rattle.page_store.specs.Store.{Store, IsStore, IsKeptStore, IsPinned, PinMarks, store_of, shown_pin, block_count, has_changed}
use Rattle.page_store.specs.Pins.{MarksAlso, UnmarksThese, GivesThese}

-- a place that has a block is one of the map
there : (m : List ConverterEntry) (q : ℕ) → 0 < block_of m q → q < length m
there m q some = elim (cases_lt q (length m)) [
  | inl lt ↦ lt
  | inr past ↦ absurd (let none = ap (λ (e : ConverterEntry). e.block) (get_or_past m q no_entry past) in omega (arith, none, some))
]

module _ (s : Store) (sound : IsSoundMaps s.maps) (store : IsStore s) (none : s.pinned ≡ None) (marks : List (List Bool)) (also : MarksAlso s.maps.saved (s.maps.conv + block_count s) s.marks marks) where
  bare : (b : ℕ) → HasMark s.marks b 0 → ⊥
  bare = subst (λ (o : Option (List ConverterEntry)). PinMarks s.maps.conv (block_count s) s.marks o) none store.pins

  only : (b : ℕ) → HasMark marks b 0 → (0 < b) × ((q : ℕ) × (block_of s.maps.saved q ≡ b))
  only b has = elim (also.only b 0 has) [
    | inl old ↦ absurd (bare b old)
    | inr new ↦ (new.1, new.2)
  ]

  -- a block with a mark had one, or is one of the map
  marked_by : (b : ℕ) → IsMarked marks b → IsMarked s.marks b ⊎ ((q : ℕ) × (block_of s.maps.saved q ≡ b))
  marked_by b marked = elim (also.only b marked.0 marked.1) [
    | inl old ↦ inl (marked.0, old)
    | inr new ↦ inr new.2
  ]

  -- the other marks are as they were
  pub others_stay : (b i : ℕ) → 0 < i → HasMark s.marks b i ↔ HasMark marks b i
  others_stay b i some = (
    also.stays b i,
    λ has. elim (also.only b i has) [
      | inl old ↦ old
      | inr new ↦ absurd (omega (arith, some, new.0))
    ],
  )

  pub pin_is : IsPinned s.maps.conv (block_count s) marks s.maps.saved
  pin_is = record {
    long = sound.saved_long;
    below = λ q. (sound.saved_small q).0;
    high = λ q some. sound.high q (block_of s.maps.saved q) some (inr (inl refl));
    marked = λ q some. also.set q (omega (arith, there s.maps.saved q some, sound.saved_long)) some;
    only = only;
    apart = λ p q some same. sym (sound.owned p (block_of s.maps.saved p) some (inr (inl refl))) ∙ ap (λ (b : ℕ). get_or s.maps.owner b 0) same
        ∙ sound.owned q (block_of s.maps.saved q) (omega (arith, some, same)) (inr (inl refl));
  }

  pub pinned_store : IsStore record s { marks = marks; pinned = Some s.maps.saved }
  pinned_store = record {
    area = store.area;
    marks_long = also.long ∙ store.marks_long;
    sixteen = also.sixteen;
    frames_long = store.frames_long;
    changed_long = store.changed_long;
    blocks = store.blocks;
    unused = store.unused;
    unmarked = λ b free marked. elim (marked_by b marked) [
      | inl old ↦ store.unmarked b free old
      | inr (q, at) ↦ (store.unused b free).1 (q, inr (inl at))
    ];
    freed = λ b high lt unused unmarked. store.freed b high lt unused (λ marked. unmarked (marked.0, also.stays b marked.0 marked.1));
    saved_same = store.saved_same;
    own_same = store.own_same;
    free_same = store.free_same;
    marked_same = λ b marked. elim (marked_by b marked) [
      | inl old ↦ store.marked_same b old
      | inr (q, at) ↦ ap (has_changed s) (sym at) ∙ store.saved_same q
    ];
    framed = store.framed;
    thawed = store.thawed;
    some_next = store.some_next;
    small_next = store.small_next;
    pins = pin_is;
  }

module _ (s : Store) (store : IsStore s) (m : List ConverterEntry) (is : s.pinned ≡ Some m) (marks : List (List Bool)) (un : UnmarksThese m (length m) s.marks marks) where
  pin : IsPinned s.maps.conv (block_count s) s.marks m
  pin = subst (λ (o : Option (List ConverterEntry)). PinMarks s.maps.conv (block_count s) s.marks o) is store.pins

  pub no_mark : (b : ℕ) → HasMark marks b 0 → ⊥
  no_mark b has =
      let of = pin.only b (un.only b 0 has) in
      let some : 0 < block_of m of.1.0 = subst (λ (x : ℕ). 0 < x) (sym of.1.1) of.0 in
      un.taken of.1.0 (there m of.1.0 some) some (subst (λ (x : ℕ). HasMark marks x 0) (sym of.1.1) has)

  -- the other marks are as they were
  pub others_left : (b i : ℕ) → 0 < i → HasMark s.marks b i ↔ HasMark marks b i
  others_left b i some = (un.stays b i some, un.only b i)

  module _ (free : List Bool) (gives : GivesThese m (length m) s.maps marks s.free free) where
    -- a block that was freed had a mark
    pub was_marked : (b : ℕ) → IsFree free b → IsFree s.free b ⊎ IsMarked s.marks b
    was_marked b now = elim (gives.only b now) [
      | inl before ↦ inl before
      | inr given ↦
          let q = given.3.0 in
          let at : block_of m q ≡ b = given.3.2 in
          let high = given.0 in
          inr (0, subst (λ (x : ℕ). HasMark s.marks x 0) at (pin.marked q (subst (λ (x : ℕ). 0 < x) (sym at) (omega (arith, high)))))
    ]

    freed : (b : ℕ) → 1 < b → b < block_count s → (IsUsed s.maps b → ⊥) → (IsMarked marks b → ⊥) → IsFree free b
    freed b high lt unused unmarked = by_mark (get_or (get_or s.marks b []) 0 false) refl where
      by_mark : (t : Bool) → get_or (get_or s.marks b []) 0 false ≡ t → IsFree free b
      by_mark true marked =
          let of = pin.only b marked in
          let q = of.1.0 in
          let some : 0 < block_of m q = subst (λ (x : ℕ). 0 < x) (sym of.1.1) of.0 in
          subst (λ (x : ℕ). IsFree free x) of.1.1
          (gives.given q (there m q some) some (λ used. unused (subst (λ (x : ℕ). IsUsed s.maps x) of.1.1 used)) (λ still. unmarked (subst (λ (x : ℕ). IsMarked marks x) of.1.1 still)))
      by_mark false bare = gives.stays b (store.freed b high lt unused (λ marked. elim (cases_eq marked.0 0) [
        | inl first ↦ false≢true (sym bare ∙ subst (λ (i : ℕ). HasMark s.marks b i) first marked.1)
        | inr other ↦ unmarked (marked.0, un.stays b marked.0 (omega (arith, other)) marked.1)
      ]))

    pub unpinned_store : IsStore record s { marks = marks; free = free; pinned = None }
    unpinned_store = record {
      area = gives.long ∙ store.area;
      marks_long = un.long ∙ store.marks_long;
      sixteen = un.sixteen;
      frames_long = store.frames_long;
      changed_long = store.changed_long;
      blocks = store.blocks;
      unused = λ b now. elim (gives.only b now) [
        | inl before ↦ store.unused b before
        | inr given ↦ (given.0, given.1)
      ];
      unmarked = λ b now marked. elim (gives.only b now) [
        | inl before ↦ store.unmarked b before (marked.0, un.only b marked.0 marked.1)
        | inr given ↦ given.2 marked
      ];
      freed = freed;
      saved_same = store.saved_same;
      own_same = store.own_same;
      free_same = λ b now. elim (was_marked b now) [
        | inl before ↦ store.free_same b before
        | inr marked ↦ store.marked_same b marked
      ];
      marked_same = λ b marked. store.marked_same b (marked.0, un.only b marked.0 marked.1);
      framed = store.framed;
      thawed = store.thawed;
      some_next = store.some_next;
      small_next = store.small_next;
      pins = no_mark;
    }

-- In memory

module _ (maps : Maps) (free : List Bool) (marks : List (List Bool)) (sizes : List ℕ) (frames : List (List ℕ)) (states : List FrameState) (next : ℕ) (pin : Bool) (room : List ConverterEntry)
    (now : Store) (v : store_of maps free marks sizes frames states next pin room ≡ now) (is : IsKeptStore maps free marks sizes frames states next pin room) where
  pub pinned_kept : (more : List (List Bool)) (kept : List ConverterEntry) → kept ≡ now.maps.saved → length kept ≡ length room → IsStore record now { marks = more; pinned = Some now.maps.saved } → IsKeptStore maps free more sizes frames states next true kept
  pinned_kept more kept same long store = record {
    store = subst (λ (t : Store). IsStore t) (sym whole) store;
    frames_long = is.frames_long;
    states_long = is.states_long;
    room_long = long ∙ is.room_long;
  }
    where
      whole : store_of maps free more sizes frames states next true kept ≡ record now { marks = more; pinned = Some now.maps.saved }
      whole = λ i. record (v i) { marks = more; pinned = Some (same i) }

  pub unpinned_kept : (fewer : List (List Bool)) (more : List Bool) → IsStore record now { marks = fewer; free = more; pinned = None } → IsKeptStore maps more fewer sizes frames states next false room
  unpinned_kept fewer more store = record {
    store = subst (λ (t : Store). IsStore t) (sym whole) store;
    frames_long = is.frames_long;
    states_long = is.states_long;
    room_long = is.room_long;
  }
    where
      whole : store_of maps more fewer sizes frames states next false room ≡ record now { marks = fewer; free = more; pinned = None }
      whole = λ i. record (v i) { marks = fewer; free = more; pinned = None }

-- the pinned map is the one in the room
pub pinned_room : (pin : Bool) (room : List ConverterEntry) (o : Option (List ConverterEntry)) → shown_pin pin room ≡ o → IsSome o → o ≡ Some room
pinned_room true room o is some = sym is
pinned_room false room o is some = absurd (false≢true (subst (λ (x : Option (List ConverterEntry)). IsSome x) (sym is) some))

-- a fault that is passed on
pub passed_fault : {U : Type 0} (r : Result U PageFault) (e : PageFault) → IsErrAnd r (λ f. f ≡ e) → e ≡ Failed → IfErr r (λ f. f ≡ Failed)
passed_fault (Ok x) e is same = tt
passed_fault (Err f) e is same = is ∙ same
