-- What the converter and a release leave of a store.
use Rattle.std.proofs.Common.{◌≡◌, ◌⊎◌, inl, inr, ℕ, ◌+◌, ◌-◌, ◌<◌, ◌≤◌, List, length, Bool, true, false, Option, Some, None, refl, ap, sym, subst, ◌∙◌, arith}
use Rattle.std.specs.Prelude.{unwrap_or, sum}
use Rattle.std.proofs.lemmas.Bool.{cases_eq, cases_lt, false≢true, false_from_ne_true}
use Rattle.std.proofs.lemmas.List.{get_or_past}
use Rattle.mdb_model.specs.declared.fault.Device.TheVariants.{Data}
use Rattle.mdb_model.specs.Images.{Image}
use Rattle.mdb_host.specs.Disk.{Disk, Agree, Goes}
use Rattle.free_blocks.specs.Free.{IsFree}
use Rattle.free_blocks.specs.Marked.{IsMarked}
use Rattle.mdb_bytes.specs.declared.converter_pages.ConverterEntry.{ConverterEntry}
use Rattle.mdb_bytes.specs.Firsts.{no_entry}
use Rattle.volume_disk.specs.Blocks.{IsDurable, Writes, place, block_at}
use Rattle.volume_disk.proofs.Pages.{page_agrees}
use Rattle.converter.specs.Maps.{Maps, entry_at, block_of, HasAt, IsUsed, IsSoundMaps, AreUnused, Leaves, FreesLeaving, frozen_as_saved, own_of}
use Rattle.converter.specs.Own.{OwnOnly, Fewer, TakesForFrozen}
use Rattle.converter.specs.Tree.{HasTree}
use Rattle.savepoint.specs.Stands.{HoldsMap}
use Rattle.converter.proofs.Sound.{none_there}
use Rattle.page_store.specs.declared.store.FrameState.{FrameState}
use Rattle.page_store.specs.Store.{Store, IsStore, IsKeptStore, IsKnown, PinMarks, store_of, block_count, frozen_block, frame_of, has_changed, block_bytes}
use Rattle.page_store.specs.LogicalPages.{has_block}
use Rattle.page_store.specs.Steps.{OwnAsSaved, is_unwritten, HasPages}
use Rattle.page_store.proofs.Answering.{block_true, block_some}

some_none : {A : Type 0} {x : A} → Some x ≡ None → ⊥
some_none is = cc

block_same : (a b : List ConverterEntry) (q : ℕ) → entry_at a q ≡ entry_at b q → block_of a q ≡ block_of b q
block_same a b q same = ap (λ (e : ConverterEntry). e.block) same

-- with a map frozen, the present map's own pages are the frozen map's
own_frozen : (m : Maps) (n q : ℕ) → IsSoundMaps m → m.frozen_at ≡ Some n → q < m.conv → block_of m.present q ≡ block_of m.frozen q
own_frozen m n q sound at lt = block_same m.present m.frozen q (sound.own q lt ∙ ap (λ (o : Option ℕ). entry_at (own_of o m.saved m.frozen) q) at)

-- what a changed frame is not
quiet_zero : (s : Store) → IsStore s → has_changed s 0 ≡ false
quiet_zero s store = ap (has_changed s) (sym (ap (λ (e : ConverterEntry). e.block) (get_or_past s.maps.saved (length s.maps.saved) no_entry (omega arith)))) ∙ store.saved_same (length s.maps.saved)

-- The converter took blocks for its own pages

module _ (s : Store) (m : Maps) (f : List Bool) (n k : ℕ) (sound : IsSoundMaps s.maps) (next : IsSoundMaps m) (store : IsStore s) (own : OwnOnly s.maps m) (fewer : Fewer s.free f k) (unused : AreUnused m f) (taken : TakesForFrozen 0 s.free f m)
    (later : OwnAsSaved s.maps) (frozen : s.maps.frozen_at ≡ Some n) where
  -- what was used is used, or is an own page of the last savepoint's map
  used_after : (c q : ℕ) → HasAt s.maps q c → IsUsed m c
  used_after c q has = elim (cases_lt q s.maps.conv) [
    | inl lt ↦ (q, inr (inl (ap (λ (l : List ConverterEntry). block_of l q) own.saved ∙ own_saved lt)))
    | inr le ↦ (
      q,
      elim has [
        | inl present ↦ inl (block_same m.present s.maps.present q (own.present q le) ∙ present)
        | inr kept ↦ elim kept [
          | inl saved ↦ inr (inl (ap (λ (l : List ConverterEntry). block_of l q) own.saved ∙ saved))
          | inr frozen_has ↦ inr (inr (block_same m.frozen s.maps.frozen q (own.pages q le) ∙ frozen_has))
        ]
      ],
    )
  ]
    where
      own_saved : q < s.maps.conv → block_of s.maps.saved q ≡ c
      own_saved lt = elim has [
        | inl present ↦ sym (block_same s.maps.frozen s.maps.saved q (later q lt)) ∙ sym (own_frozen s.maps n q sound frozen lt) ∙ present
        | inr kept ↦ elim kept [
          | inl saved ↦ saved
          | inr frozen_has ↦ sym (block_same s.maps.frozen s.maps.saved q (later q lt)) ∙ frozen_has
        ]
      ]

  -- a page's place has the block still
  page_after : (c q : ℕ) → s.maps.conv ≤ q → HasAt s.maps q c → HasAt m q c
  page_after c q le has = elim has [
    | inl present ↦ inl (block_same m.present s.maps.present q (own.present q le) ∙ present)
    | inr kept ↦ elim kept [
      | inl saved ↦ inr (inl (ap (λ (l : List ConverterEntry). block_of l q) own.saved ∙ saved))
      | inr frozen_has ↦ inr (inr (block_same m.frozen s.maps.frozen q (own.pages q le) ∙ frozen_has))
    ]
  ]

  own_quiet : (q c : ℕ) → q < m.conv → block_of m.present q ≡ c → has_changed s c ≡ false
  own_quiet q c lt at = false_from_ne_true (has_changed s c) (λ newer.
      let some : 0 < c = elim (cases_eq c 0) [
        | inl none ↦ absurd (false≢true (sym (quiet_zero s store) ∙ ap (has_changed s) (sym none) ∙ newer))
        | inr other ↦ omega (arith, other)
      ] in
      let high = next.high q c some (inl at) in
      let below : c < block_count s = omega (arith, at, (next.present_small q).0, own.area) in
      let free = store.freed c high below
      (λ used. elim (cases_lt used.0 s.maps.conv) [
        | inl own_lt ↦ false≢true (sym (own_has used.0 own_lt used.1) ∙ newer)
        | inr le ↦
            let one = next.owned used.0 c some (page_after c used.0 le used.1) in
            let two = next.owned q c some (inl at) in
            omega (arith, one, two, lt, le, own.conv)
      ])
      (λ marked. false≢true (sym (store.marked_same c marked) ∙ newer)) in
      false≢true (sym (store.free_same c free) ∙ newer))
    where
      own_has : (p : ℕ) → p < s.maps.conv → HasAt s.maps p c → has_changed s c ≡ false
      own_has p lt has = elim has [
        | inl present ↦ ap (has_changed s) (sym present) ∙ store.own_same p lt
        | inr kept ↦ elim kept [
          | inl saved ↦ ap (has_changed s) (sym saved) ∙ store.saved_same p
          | inr frozen_has ↦ ap (has_changed s) (sym frozen_has ∙ block_same s.maps.frozen s.maps.saved p (later p lt)) ∙ store.saved_same p
        ]
      ]

  pub own_store : IsStore record s { maps = m; free = f }
  own_store = record {
    area = omega (arith, fewer.long, own.area, store.area);
    marks_long = omega (arith, own.area, store.marks_long);
    sixteen = store.sixteen;
    frames_long = omega (arith, own.area, store.frames_long);
    changed_long = omega (arith, own.area, store.changed_long);
    blocks = omega (arith, own.area, store.blocks);
    unused = unused;
    unmarked = λ c free. store.unmarked c (fewer.only c free);
    freed = λ c high lt isnt unmarked.
        elim (taken c (store.freed c high (omega (arith, lt, own.area)) (λ used. isnt (used_after c used.0 used.1)) unmarked)) [
          | inl free ↦ free
          | inr (q, from, at) ↦ absurd (isnt (q, inr (inr at)))
        ];
    saved_same = λ q. ap (λ (l : List ConverterEntry). has_changed s (block_of l q)) own.saved ∙ store.saved_same q;
    own_same = λ q lt. own_quiet q (block_of m.present q) lt refl;
    free_same = λ c free. store.free_same c (fewer.only c free);
    marked_same = store.marked_same;
    framed = store.framed;
    thawed = λ is. absurd (some_none (sym frozen ∙ sym own.frozen_at ∙ is));
    some_next = store.some_next;
    small_next = store.small_next;
    pins = subst (λ (z : ℕ). PinMarks z (length m.owner) s.marks s.pinned) (sym own.conv) (subst (λ (z : ℕ). PinMarks s.maps.conv z s.marks s.pinned) (sym own.area) store.pins);
  }

-- The frozen map became that of the last savepoint

module _ (s : Store) (f : List Bool) (n : ℕ) (sound : IsSoundMaps s.maps) (store : IsStore s) (frozen : s.maps.frozen_at ≡ Some n) (written : (p : ℕ) → is_unwritten s p ≡ false)
    (given : FreesLeaving (Leaves s.maps s.marks) 0 (length s.maps.saved) s.free f) where
  abbrev after : Maps
  after = frozen_as_saved s.maps

  was_used : (c q : ℕ) → 0 < c → HasAt after q c → (block_of s.maps.present q ≡ c) ⊎ (block_of s.maps.frozen q ≡ c)
  was_used c q some has = elim has [
    | inl here ↦ inl here
    | inr kept ↦ elim kept [
      | inl saved ↦ inr saved
      | inr none ↦ absurd (omega (arith, some, sym none, ap (λ (e : ConverterEntry). e.block) (none_there (length s.maps.frozen) q)))
    ]
  ]

  settled_unused : AreUnused after f
  settled_unused c is = elim (given.only c is) [
    | inl was ↦
        let u = store.unused c was in (
          u.0,
          λ used. elim (was_used c used.0 (omega (arith, u.0)) used.1) [
            | inl here ↦ u.1 (used.0, inl here)
            | inr there ↦ u.1 (used.0, inr (inr there))
          ],
        )
    | inr (k, from, lt, leaves) ↦
        let mine = sound.owned k c leaves.some (inr (inl leaves.is)) in (
          sound.high k c leaves.some (inr (inl leaves.is)),
          λ used. elim (was_used c used.0 leaves.some used.1) [
            | inl here ↦ leaves.changed (subst (λ (q : ℕ). block_of s.maps.present q ≡ c) (sym (sound.owned used.0 c leaves.some (inl here)) ∙ mine) here)
            | inr there ↦ leaves.thawed (subst (λ (q : ℕ). block_of s.maps.frozen q ≡ c) (sym (sound.owned used.0 c leaves.some (inr (inr there))) ∙ mine) there)
          ],
        )
  ]

  settled_freed : (c : ℕ) → 1 < c → c < block_count s → (IsUsed after c → ⊥) → (IsMarked s.marks c → ⊥) → IsFree f c
  settled_freed c high lt isnt unmarked =
      elim (has_block s.maps.saved c) as (λ t. has_block s.maps.saved c ≡ t → IsFree f c) [
        | true ↦ λ has.
            let at = block_some s.maps.saved c has in
            given.given at.0 c (omega arith) (in_saved at.0 at.1)
            record { is = at.1; some = omega (arith, high); changed = λ is. isnt (at.0, inl is); thawed = λ is. isnt (at.0, inr (inl is)); unmarked = unmarked }
        | false ↦ λ hasnt. given.stays c (store.freed c high lt (λ used. elim used.1 [
          | inl present ↦ isnt (used.0, inl present)
          | inr kept ↦ elim kept [
            | inl saved ↦ false≢true (sym hasnt ∙ block_true s.maps.saved c used.0 (omega (arith, high)) saved)
            | inr there ↦ isnt (used.0, inr (inl there))
          ]
        ]) unmarked)
      ] refl
    where
      in_saved : (q : ℕ) → block_of s.maps.saved q ≡ c → q < length s.maps.saved
      in_saved q at = elim (cases_lt q (length s.maps.saved)) [
        | inl within ↦ within
        | inr past ↦ absurd (omega (arith, at, high, ap (λ (e : ConverterEntry). e.block) (get_or_past s.maps.saved q no_entry past)))
      ]

  pub settled_store : IsStore record s { maps = after; free = f }
  settled_store = record {
    area = given.long ∙ store.area;
    marks_long = store.marks_long;
    sixteen = store.sixteen;
    frames_long = store.frames_long;
    changed_long = store.changed_long;
    blocks = store.blocks;
    unused = settled_unused;
    unmarked = λ c is. elim (given.only c is) [
      | inl was ↦ store.unmarked c was
      | inr (k, from, lt, leaves) ↦ leaves.unmarked
    ];
    freed = settled_freed;
    saved_same = λ q. elim (cases_lt q s.maps.conv) [
      | inl lt ↦ ap (has_changed s) (sym (own_frozen s.maps n q sound frozen lt)) ∙ store.own_same q lt
      | inr le ↦
          let e : s.maps.conv + (q - s.maps.conv) ≡ q = omega (arith, le) in
          subst (λ (x : ℕ). has_changed s (block_of s.maps.frozen x) ≡ false) e (written (q - s.maps.conv))
    ];
    own_same = store.own_same;
    free_same = λ c is. elim (given.only c is) [
      | inl was ↦ store.free_same c was
      | inr (k, from, lt, leaves) ↦ ap (has_changed s) (sym leaves.is) ∙ store.saved_same k
    ];
    marked_same = store.marked_same;
    framed = store.framed;
    thawed = λ is q. ap (λ (e : ConverterEntry). e.block) (none_there (length s.maps.frozen) q);
    some_next = store.some_next;
    small_next = store.small_next;
    pins = store.pins;
  }

-- What is kept in memory, with other maps and free blocks

pub maps_kept : (maps : Maps) (free : List Bool) (marks : List (List Bool)) (sizes : List ℕ) (frames : List (List ℕ)) (states : List FrameState) (next : ℕ) (pin : Bool) (room : List ConverterEntry) (now : Store)
    → store_of maps free marks sizes frames states next pin room ≡ now → IsKeptStore maps free marks sizes frames states next pin room
    → (m : Maps) (f : List Bool) → length m.owner ≡ length maps.owner → m.conv ≡ maps.conv → IsStore record now { maps = m; free = f } → IsKeptStore m f marks sizes frames states next pin room
maps_kept maps free marks sizes frames states next pin room now v is m f long conv store = record {
  store = subst IsStore (ap (λ (t : Store). record t { maps = m; free = f }) (sym v)) store;
  frames_long = is.frames_long ∙ sym long;
  states_long = is.states_long ∙ sym long;
  room_long = omega (arith, is.room_long, long, conv);
}

-- After the sync each image has what stands on the frozen pages

known_block : (T : Type 0) (s : Store) (seen : Image) (p : ℕ) → IsKnown T s seen → 0 < frozen_block s p → is_unwritten s p ≡ false → block_at s.sizes seen (frozen_block s p) ≡ block_bytes s seen (frozen_block s p)
known_block T s seen p known some quiet =
    let b = frozen_block s p in
    elim (frame_of s b) as (λ (o : Option (List ℕ)). frame_of s b ≡ o → block_at s.sizes seen b ≡ unwrap_or o (block_at s.sizes seen b)) [
      | None ↦ λ e. refl
      | Some x ↦ λ e. known.reads (s.maps.conv + p) b x (omega arith) some (inr (inr refl)) quiet e
    ] refl

pub frozen_pages : (T : Type 0) (s : Store) (before after : Disk) → IsSoundMaps s.maps → IsStore s → (T → Agree before.seen after.seen) → (T → IsDurable s.sizes after) → IsKnown T s before.seen → ((p : ℕ) → is_unwritten s p ≡ false)
    → (image : Image) → after.may_leave after.now image → HasPages s.sizes s.maps.frozen s.maps.conv (λ p. block_bytes s before.seen (frozen_block s p)) image
frozen_pages T s before after sound store same frozen_as_saved known quiet image left p some =
    let b = frozen_block s p in
    let lt : b < sum s.sizes = omega (arith, store.blocks, (sound.frozen_small (s.maps.conv + p)).0) in
    frozen_as_saved known.told image left b lt ∙ page_agrees before.seen after.seen (Data (place 1 s.sizes b).0) (place 1 s.sizes b).1 (same known.told (Data (place 1 s.sizes b).0)) ∙ known_block T s before.seen p known some (quiet p)

-- The frozen map after its own pages were written

pub holds_after : (s : Store) (m : Maps) (d0 d1 : Disk) → IsSoundMaps s.maps → IsStore s → OwnOnly s.maps m → Goes d0 d1 (Writes s.sizes (IsFree s.free)) → (pages : ℕ → List ℕ)
    → ((image : Image) → d0.may_leave d0.now image → HasPages s.sizes s.maps.frozen s.maps.conv pages image) → (image : Image) → d1.may_leave d1.now image → HasTree m.frozen m.conv (block_at s.sizes image)
    → HoldsMap s.sizes m.frozen m.conv pages image
holds_after s m d0 d1 sound store own goes pages has image left tree = record {
  tree = tree;
  page = λ p some.
      let was = goes.since d1.now image goes.keeps.later (omega arith) left in
      let b = frozen_block s p in
      let same : block_of m.frozen (m.conv + p) ≡ b = ap (λ (n : ℕ). block_of m.frozen (n + p)) own.conv ∙ block_same m.frozen s.maps.frozen (s.maps.conv + p) (own.pages (s.maps.conv + p) (omega arith)) in
      let there : 0 < b = omega (arith, same, some) in
      let kept = was.2.outside b (omega (arith, store.blocks, (sound.frozen_small (s.maps.conv + p)).0)) (λ free. (store.unused b free).1 (s.maps.conv + p, inr (inr refl))) in
      ap (block_at s.sizes image) same ∙ kept ∙ has was.0 was.1 p there;
}
