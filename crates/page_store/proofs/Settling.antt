-- Stores of which a map is frozen, and frames that are written to their blocks.
use Rattle.std.proofs.Common.{◌≡◌, inl, inr, ℕ, zero, suc, ◌+◌, ◌<◌, ◌≤◌, ◌^◌, List, [], length, get_or, set, Bool, true, false, Option, Some, None, refl, ap, sym, subst, ◌∙◌, arith, length-set, add-one}
use Rattle.std.specs.Prelude.{unwrap_or, sum, if◌then◌else◌}
use Rattle.std.proofs.lemmas.Bool.{cases_eq, cases_lt, false≢true}
use Rattle.std.proofs.lemmas.List.{get_or-set_same, get_or-set_other, get_or_past, set-get_or}
use Rattle.std.proofs.lemmas.Option.{same_Some}
use Rattle.mdb_model.specs.Images.{Image}
use Rattle.mdb_host.specs.Disk.{Disk, Calls}
use Rattle.mdb_host.proofs.Moments.{widen}
use Rattle.mdb_bytes.specs.declared.converter_pages.ConverterEntry.{ConverterEntry}
use Rattle.mdb_bytes.specs.Firsts.{no_entry}
use Rattle.volume_disk.specs.Blocks.{Writes, IsArea, block_at}
use Rattle.volume_disk.proofs.Writes.{writes_more, area_same}
use Rattle.converter.specs.Maps.{Maps, entry_at, block_of, HasAt, IsSoundMaps, own_of}
use Rattle.page_store.specs.declared.store.FrameState.{FrameState}
use Rattle.page_store.specs.declared.store.FrameState.TheVariants.{Absent, Same, Changed}
use Rattle.page_store.specs.Store.{Store, IsStore, IsKeptStore, IsKnown, store_of, shown_frame, shown_frames, block_count, page_block, frozen_block, frame_of, has_changed, block_bytes}
use Rattle.page_store.specs.Stamps.{stays_same}
use Rattle.page_store.specs.Steps.{MayWrite, KeepsStore, CleansFrames, TurnsPage, with_frame, frozen_now, is_unwritten, unwritten_below}
use Rattle.page_store.specs.StepLaws.{keeps_itself}
use Rattle.page_store.proofs.Shown.{frame_is, seen_bytes, shown_state, shown_lent, state_set, changed_at, changed_is}
use Rattle.page_store.proofs.Moves.{set_false}
use Rattle.page_store.proofs.PageSteps.{same_stamps}

not_none : {A : Type 0} {x : A} → Some x ≡ None → ⊥
not_none is = cc

pub frozen_store : (s : Store) → IsSoundMaps s.maps → s.maps.frozen_at ≡ None → s.next + 1 < 2 ^ 62 → IsStore s → IsStore (frozen_now s)
frozen_store s sound none small store = record {
  area = store.area;
  marks_long = store.marks_long;
  sixteen = store.sixteen;
  frames_long = store.frames_long;
  changed_long = store.changed_long;
  blocks = store.blocks;
  unused = λ c free. let u = store.unused c free in (u.0, λ used. u.1 (used.0, was c used.0 used.1));
  unmarked = store.unmarked;
  freed = λ c high lt unused unmarked. store.freed c high lt (λ used. unused (used.0, now c used.0 high used.1)) unmarked;
  saved_same = store.saved_same;
  own_same = store.own_same;
  free_same = store.free_same;
  marked_same = store.marked_same;
  framed = store.framed;
  thawed = λ is. absurd (not_none is);
  some_next = omega arith;
  small_next = small;
  pins = store.pins;
}
  where
    was : (c q : ℕ) → HasAt (frozen_now s).maps q c → HasAt s.maps q c
    was c q has = elim has [
      | inl present ↦ inl present
      | inr kept ↦ elim kept [
        | inl saved ↦ inr (inl saved)
        | inr frozen ↦ inl frozen
      ]
    ]

    now : (c q : ℕ) → 1 < c → HasAt s.maps q c → HasAt (frozen_now s).maps q c
    now c q high has = elim has [
      | inl present ↦ inl present
      | inr kept ↦ elim kept [
        | inl saved ↦ inr (inl saved)
        | inr frozen ↦ absurd (omega (arith, high, frozen, store.thawed none q))
      ]
    ]

pub as_saved : (m : Maps) → IsSoundMaps m → m.frozen_at ≡ None → (q : ℕ) → q < m.conv → entry_at m.present q ≡ entry_at m.saved q
as_saved m sound none q lt = sound.own q lt ∙ ap (λ (o : Option ℕ). entry_at (own_of o m.saved m.frozen) q) none

-- a frame that its block has
quiet_all : (l : List Bool) (b c : ℕ) → get_or l c false ≡ false → get_or (set l b false) c false ≡ false
quiet_all l b c same = elim (cases_eq c b) [
  | inl at ↦ elim (cases_lt b (length l)) [
    | inl lt ↦ ap (λ (x : ℕ). get_or (set l b false) x false) at ∙ get_or-set_same l b false false lt
    | inr past ↦ get_or_past (set l b false) c false (omega (arith, length-set l b false, past, at))
  ]
  | inr other ↦ get_or-set_other l b c false false other ∙ same
]

abbrev pub quiet_at : Store → ℕ → Store
quiet_at s b = record s { changed = set s.changed b false }

pub quiet_store : (s : Store) (b : ℕ) → IsStore s → IsStore (quiet_at s b)
quiet_store s b store = record {
  area = store.area;
  marks_long = store.marks_long;
  sixteen = store.sixteen;
  frames_long = store.frames_long;
  changed_long = length-set s.changed b false ∙ store.changed_long;
  blocks = store.blocks;
  unused = store.unused;
  unmarked = store.unmarked;
  freed = store.freed;
  saved_same = λ q. quiet_all s.changed b (block_of s.maps.saved q) (store.saved_same q);
  own_same = λ q lt. quiet_all s.changed b (block_of s.maps.present q) (store.own_same q lt);
  free_same = λ c free. quiet_all s.changed b c (store.free_same c free);
  marked_same = λ c marked. quiet_all s.changed b c (store.marked_same c marked);
  framed = λ c newer. store.framed c (set_false s.changed b c newer).1;
  thawed = store.thawed;
  some_next = store.some_next;
  small_next = store.small_next;
  pins = store.pins;
}

module _ (maps : Maps) (free : List Bool) (marks : List (List Bool)) (sizes : List ℕ) (frames : List (List ℕ)) (states : List FrameState) (next : ℕ) (pin : Bool) (room : List ConverterEntry)
    (now : Store) (v : store_of maps free marks sizes frames states next pin room ≡ now) (is : IsKeptStore maps free marks sizes frames states next pin room) where
  -- a frame is not newer any more
  module _ (b : ℕ) (newer : has_changed now b ≡ true) where
    pub quiet_is : store_of maps free marks sizes frames (set states b Same) next pin room ≡ quiet_at now b
    quiet_is =
        let state = get_or states b Absent in
        let is_newer : state ≡ Changed = changed_is state (sym (changed_at states b) ∙ ap (λ (t : Store). has_changed t b) v ∙ newer) in
        let same : shown_frames (set states b Same) frames ≡ shown_frames states frames =
        shown_state states frames b Same
        ∙ ap (λ (x : FrameState). set (shown_frames states frames) b (shown_frame x (get_or frames b []))) (sym is_newer)
        ∙ sym (shown_lent states frames b (get_or frames b []))
        ∙ ap (λ (l : List (List ℕ)). shown_frames states l) (set-get_or frames b []) in
        let kept : Store = store_of maps free marks sizes frames states next pin room in
        let first : store_of maps free marks sizes frames (set states b Same) next pin room ≡ quiet_at kept b = λ i. record kept { frames = same i; changed = state_set states b Same i } in
        first ∙ ap (λ (t : Store). quiet_at t b) v

    pub newer_frame : frame_of now b ≡ Some (get_or frames b [])
    newer_frame =
        let state = get_or states b Absent in
        let is_newer : state ≡ Changed = changed_is state (sym (changed_at states b) ∙ ap (λ (t : Store). has_changed t b) v ∙ newer) in
        ap (λ (t : Store). frame_of t b) (sym v) ∙ frame_is maps free marks sizes frames states next pin room b [] is ∙ ap (λ (x : FrameState). shown_frame x (get_or frames b [])) is_newer

    pub lent_is : (w : List ℕ) → store_of maps free marks sizes (set frames b w) states next pin room ≡ with_frame now b w
    lent_is w =
        let state = get_or states b Absent in
        let is_newer : state ≡ Changed = changed_is state (sym (changed_at states b) ∙ ap (λ (t : Store). has_changed t b) v ∙ newer) in
        let kept : Store = store_of maps free marks sizes frames states next pin room in
        seen_bytes maps free marks sizes frames states next pin room b w
        ∙ ap (λ (x : FrameState). record kept { frames = set kept.frames b (shown_frame x w) }) is_newer
        ∙ ap (λ (t : Store). with_frame t b w) v

    pub quiet_kept : IsStore now → IsKeptStore maps free marks sizes frames (set states b Same) next pin room
    quiet_kept store = record {
      store = subst IsStore (sym quiet_is) (quiet_store now b store);
      frames_long = is.frames_long;
      states_long = length-set states b Same ∙ is.states_long;
      room_long = is.room_long;
    }

  -- the present map was frozen
  module _ (m : Maps) (number : ℕ) (at : number ≡ now.next) (em : m ≡ record maps { frozen = maps.present; frozen_at = Some number }) where
    pub frozen_is : store_of m free marks sizes frames states (number + 1) pin room ≡ frozen_now now
    frozen_is =
        let kept : Store = store_of maps free marks sizes frames states next pin room in
        let same : number ≡ next = at ∙ sym (ap (λ (t : Store). t.next) v) in
        let first : store_of m free marks sizes frames states (number + 1) pin room ≡ frozen_now kept =
        λ i. record kept { maps = (em ∙ ap (λ (n : ℕ). record maps { frozen = maps.present; frozen_at = Some n }) same) i; next = same i + 1 } in
        first ∙ ap frozen_now v

    pub frozen_kept : IsStore (frozen_now now) → IsKeptStore m free marks sizes frames states (number + 1) pin room
    frozen_kept store = record {
      store = subst IsStore (sym frozen_is) store;
      frames_long = is.frames_long ∙ sym (ap (λ (x : Maps). length x.owner) em);
      states_long = is.states_long ∙ sym (ap (λ (x : Maps). length x.owner) em);
      room_long = omega (arith, is.room_long, ap (λ (x : Maps). length x.owner) em, ap (λ (x : Maps). x.conv) em);
    }

-- Writing a frame

-- the block of an unwritten page may be written
pub unwritten_may : (s : Store) (page : ℕ) → IsSoundMaps s.maps → IsStore s → is_unwritten s page ≡ true → MayWrite s (frozen_block s page)
unwritten_may s page sound store newer =
    let b = frozen_block s page in
    let some : 0 < b = elim (cases_eq b 0) [
      | inl none ↦ absurd (false≢true (sym (store.saved_same (length s.maps.saved)) ∙ ap (has_changed s) (past ∙ sym none) ∙ newer))
      | inr other ↦ omega (arith, other)
    ] in
    record {
      high = sound.high (s.maps.conv + page) b some (inr (inr refl));
      unsaved = λ q is. false≢true (sym (store.saved_same q) ∙ ap (has_changed s) is ∙ newer);
      unmarked = λ marked. false≢true (sym (store.marked_same b marked) ∙ newer);
      unwritten = λ q is. newer;
    }
  where
    past : block_of s.maps.saved (length s.maps.saved) ≡ 0
    past = ap (λ (e : ConverterEntry). e.block) (get_or_past s.maps.saved (length s.maps.saved) no_entry (omega arith))

module _ (T : Type 0) (s : Store) (b : ℕ) (before after : Disk) (sound : IsSoundMaps s.maps) (store : IsStore s) (may : MayWrite s b) (newer : has_changed s b ≡ true) (calls : T → Calls before after (Writes s.sizes (λ c. c ≡ b))) where
  wider : (x y : Image) → Writes s.sizes (λ c. c ≡ b) x y → Writes s.sizes (MayWrite s) x y
  wider x y writes = writes_more s.sizes (λ c. c ≡ b) (MayWrite s) x y (λ k is. subst (λ (c : ℕ). MayWrite s c) (sym is) may) writes

  there_after : T → IsArea s.sizes before.seen → IsArea s.sizes after.seen
  there_after told there = area_same s.sizes before.seen after.seen (calls told).seen.same_sizes there

  small_block : (q c : ℕ) → HasAt s.maps q c → c < sum s.sizes
  small_block q c has = elim has [
    | inl present ↦ omega (arith, present, store.blocks, (sound.present_small q).0)
    | inr kept ↦ elim kept [
      | inl saved ↦ omega (arith, saved, store.blocks, (sound.saved_small q).0)
      | inr frozen ↦ omega (arith, frozen, store.blocks, (sound.frozen_small q).0)
    ]
  ]

  -- what stands on the blocks of a map
  same_bytes : T → (q c : ℕ) → HasAt s.maps q c → block_bytes s after.seen c ≡ block_bytes s before.seen c
  same_bytes told q c has = elim (cases_eq c b) [
    | inl at ↦
        let framed = store.framed b newer in
        let there : frame_of s c ≡ Some framed.0 = ap (frame_of s) at ∙ framed.1 in
        ap (λ (o : Option (List ℕ)). unwrap_or o (block_at s.sizes after.seen c)) there ∙ sym (ap (λ (o : Option (List ℕ)). unwrap_or o (block_at s.sizes before.seen c)) there)
    | inr other ↦ ap (λ (l : List ℕ). unwrap_or (frame_of s c) l) ((calls told).seen.outside c (small_block q c has) other)
  ]

  same_page : (page : ℕ) → IsKnown T s before.seen → block_bytes s after.seen (page_block s page) ≡ block_bytes s before.seen (page_block s page)
  same_page page known = same_bytes known.told (s.maps.conv + page) (page_block s page) (inl refl)

  -- it failed: the block may hold anything
  pub wrote_not : KeepsStore T s s before after
  wrote_not = record {
    maps = record { conv = refl; saved = refl; frozen = refl; frozen_at = refl; area = refl; marks = refl; sizes = refl; next = refl; pinned = refl; written = λ c kept is. is };
    goes = λ told. widen before after _ _ (calls told).goes (λ x y left writes. wider x y writes);
    seen = λ told. wider before.seen after.seen (calls told).seen;
    known = λ known. record {
      told = known.told;
      reads = λ q c x le some has same frame.
          (calls known.told).seen.outside c (small_block q c has) (λ is. false≢true (sym same ∙ ap (has_changed s) is ∙ newer)) ∙ known.reads q c x le some has same frame;
      there = there_after known.told known.there;
    };
    bytes = λ known q some. same_bytes known.told (s.maps.conv + q) (frozen_block s q) (inr (inr refl));
    room = λ fits. fits;
    stamps = λ is. (is, λ page. stays_same refl (same_page page));
  }

  -- it was done
  pub wrote_one : (T → frame_of s b ≡ Some (block_at s.sizes after.seen b)) → KeepsStore T s (quiet_at s b) before after
  wrote_one written = record {
    maps = record { conv = refl; saved = refl; frozen = refl; frozen_at = refl; area = refl; marks = refl; sizes = refl; next = refl; pinned = refl; written = λ c kept is. quiet_all s.changed b c is };
    goes = wrote_not.goes;
    seen = wrote_not.seen;
    known = λ known. record {
      told = known.told;
      reads = λ q c x le some has same frame. elim (cases_eq c b) [
        | inl at ↦ ap (block_at s.sizes after.seen) at ∙ same_Some _ _ (sym (written known.told) ∙ ap (frame_of s) (sym at) ∙ frame)
        | inr other ↦
            (calls known.told).seen.outside c (small_block q c has) other
            ∙ known.reads q c x le some has (sym (get_or-set_other s.changed b c false false other) ∙ same) frame
      ];
      there = there_after known.told known.there;
    };
    bytes = λ known q some. same_bytes known.told (s.maps.conv + q) (frozen_block s q) (inr (inr refl));
    room = λ fits. fits;
    stamps = λ is. (same_stamps s (quiet_at s b) refl refl refl is, λ page. stays_same refl (same_page page));
  }

-- One page after the other

pub turns_none : (T : Type 0) (s : Store) (d : Disk) (page : ℕ) → TurnsPage T s s d d page
turns_none T s d page = record { turned = record { same = refl; only = λ b is. is }; keeps = keeps_itself T s d; others = λ p away. refl }

module _ (T : Type 0) (s : Store) (page b : ℕ) (before after : Disk) (sound : IsSoundMaps s.maps) (store : IsStore s) (at : b ≡ frozen_block s page) (newer : has_changed s b ≡ true)
    (calls : T → Calls before after (Writes s.sizes (λ c. c ≡ b))) where
  may_b : MayWrite s b
  may_b = subst (λ (x : ℕ). MayWrite s x) (sym at) (unwritten_may s page sound store (ap (has_changed s) (sym at) ∙ newer))

  pub turns_not : TurnsPage T s s before after page
  turns_not = record { turned = record { same = refl; only = λ c is. is }; keeps = wrote_not T s b before after sound store may_b newer calls; others = λ p away. refl }

  pub turns_one : (T → frame_of s b ≡ Some (block_at s.sizes after.seen b)) → TurnsPage T s (quiet_at s b) before after page
  turns_one written = record {
    turned = record { same = refl; only = λ c is. (set_false s.changed b c is).1 };
    keeps = wrote_one T s b before after sound store may_b newer calls written;
    others = λ p away. get_or-set_other s.changed b (frozen_block s p) false false (λ same.
        let some : 0 < b = omega (arith, may_b.high) in
        let one = sound.owned (s.maps.conv + p) b some (inr (inr same)) in
        let two = sound.owned (s.maps.conv + page) b some (inr (inr (sym at))) in
        away (omega (arith, one, two)));
  }

  pub turned_here : is_unwritten (quiet_at s b) page ≡ false
  turned_here = ap (λ (x : ℕ). get_or (set s.changed b false) x false) (sym at) ∙ quiet_here s.changed b
    where
      quiet_here : (l : List Bool) (b : ℕ) → get_or (set l b false) b false ≡ false
      quiet_here l b = elim (cases_lt b (length l)) [
        | inl lt ↦ get_or-set_same l b false false lt
        | inr past ↦ get_or_past (set l b false) b false (omega (arith, length-set l b false, past))
      ]

abbrev pub bit : Bool → ℕ
bit t = if t then 1 else 0

pub same_below : (a b : Store) (n : ℕ) → ((k : ℕ) → k < n → is_unwritten b k ≡ is_unwritten a k) → unwritten_below b n ≡ unwritten_below a n
same_below a b zero same = refl
same_below a b (suc n) same = λ i. same_below a b n (λ k lt. same k (omega (arith, lt))) i + bit (same n (omega arith) i)

pub below_more : (s : Store) (n : ℕ) → unwritten_below s (n + 1) ≡ unwritten_below s n + bit (is_unwritten s n)
below_more s n = ap (unwritten_below s) (add-one n)

bit_none : (t : Bool) → bit t ≡ 0 → t ≡ false
bit_none true is = absurd (omega (arith, is))
bit_none false is = refl

pub none_below : (s : Store) (n k : ℕ) → unwritten_below s n ≡ 0 → k < n → is_unwritten s k ≡ false
none_below s zero k none lt = absurd (omega (arith, lt))
none_below s (suc n) k none lt = elim (cases_eq k n) [
  | inl same ↦ ap (is_unwritten s) same ∙ bit_none (is_unwritten s n) (omega (arith, none))
  | inr other ↦ none_below s n k (omega (arith, none)) (omega (arith, lt, other))
]

pub none_past : (s : Store) (k : ℕ) → IsSoundMaps s.maps → IsStore s → block_count s ≤ k → is_unwritten s k ≡ false
none_past s k sound store le =
    let none : frozen_block s k ≡ 0 = ap (λ (e : ConverterEntry). e.block) (get_or_past s.maps.frozen (s.maps.conv + k) no_entry (omega (arith, sound.frozen_long, le))) in
    let past : block_of s.maps.saved (length s.maps.saved) ≡ 0 = ap (λ (e : ConverterEntry). e.block) (get_or_past s.maps.saved (length s.maps.saved) no_entry (omega arith)) in
    ap (has_changed s) (none ∙ sym past) ∙ store.saved_same (length s.maps.saved)

pub turned_on : (a b c : Store) → CleansFrames a b → CleansFrames b c → CleansFrames a c
turned_on a b c one two = record {
  same = two.same ∙ ap (λ (s : Store). record s { changed = c.changed }) one.same;
  only = λ x is. one.only x (two.only x is);
}
