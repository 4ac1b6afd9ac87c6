-- Frames as they are kept, and as they are seen.
use Rattle.std.proofs.Common.{◌≡◌, inl, inr, ℕ, zero, suc, ◌<◌, List, [], ◌∷◌, length, get_or, set, map, Bool, true, false, Option, Some, None, refl, ap, sym, subst, ◌∙◌, arith, length-set}
use Rattle.std.proofs.lemmas.Bool.{cases_eq, cases_lt, false≢true}
use Rattle.std.proofs.lemmas.List.{get_or-set_same, get_or-set_other, set-get_or, map-set, get_or_past}
use Rattle.page_store.specs.declared.store.FrameState.{FrameState}
use Rattle.page_store.specs.declared.store.FrameState.TheVariants.{Absent, Same, Changed}
use Rattle.mdb_bytes.specs.declared.converter_pages.ConverterEntry.{ConverterEntry}
use Rattle.converter.specs.Maps.{Maps}
use Rattle.page_store.specs.Store.{Store, IsStore, IsKeptStore, store_of, shown_frame, shown_frames, is_changed_frame, block_count, frame_of, has_changed}

pub length_shown : (states : List FrameState) (frames : List (List ℕ)) → length frames ≡ length states → length (shown_frames states frames) ≡ length states
length_shown [] frames e = refl
length_shown (s ∷ ss) [] e = absurd (omega arith)
length_shown (s ∷ ss) (f ∷ fs) e = ap suc (length_shown ss fs (omega arith))

not_none : {A : Type 0} {x : A} → Some x ≡ None → ⊥
not_none is = cc

-- the frame that a block shows
pub shown_at : (states : List FrameState) (frames : List (List ℕ)) (b : ℕ) → length frames ≡ length states → get_or (shown_frames states frames) b None ≡ shown_frame (get_or states b Absent) (get_or frames b [])
shown_at [] frames b e = refl
shown_at (s ∷ ss) [] b e = absurd (omega arith)
shown_at (s ∷ ss) (f ∷ fs) zero e = refl
shown_at (s ∷ ss) (f ∷ fs) (suc b) e = shown_at ss fs b (omega arith)

-- a frame and its state were set
pub shown_set : (states : List FrameState) (frames : List (List ℕ)) (b : ℕ) (state : FrameState) (bytes : List ℕ)
    → shown_frames (set states b state) (set frames b bytes) ≡ set (shown_frames states frames) b (shown_frame state bytes)
shown_set [] frames b state bytes = refl
shown_set (s ∷ ss) [] zero state bytes = refl
shown_set (s ∷ ss) [] (suc b) state bytes = refl
shown_set (s ∷ ss) (f ∷ fs) zero state bytes = refl
shown_set (s ∷ ss) (f ∷ fs) (suc b) state bytes = ap (λ (l : List (Option (List ℕ))). shown_frame s f ∷ l) (shown_set ss fs b state bytes)

-- a frame alone was set
pub shown_lent : (states : List FrameState) (frames : List (List ℕ)) (b : ℕ) (bytes : List ℕ)
    → shown_frames states (set frames b bytes) ≡ set (shown_frames states frames) b (shown_frame (get_or states b Absent) bytes)
shown_lent states frames b bytes =
    ap (λ (l : List FrameState). shown_frames l (set frames b bytes)) (sym (set-get_or states b Absent)) ∙ shown_set states frames b (get_or states b Absent) bytes

-- a state alone was set
pub shown_state : (states : List FrameState) (frames : List (List ℕ)) (b : ℕ) (state : FrameState)
    → shown_frames (set states b state) frames ≡ set (shown_frames states frames) b (shown_frame state (get_or frames b []))
shown_state states frames b state =
    ap (λ (l : List (List ℕ)). shown_frames (set states b state) l) (sym (set-get_or frames b [])) ∙ shown_set states frames b state (get_or frames b [])

pub changed_at : (states : List FrameState) (b : ℕ) → get_or (map is_changed_frame states) b false ≡ is_changed_frame (get_or states b Absent)
changed_at [] b = refl
changed_at (s ∷ ss) zero = refl
changed_at (s ∷ ss) (suc b) = changed_at ss b

pub changed_is : (state : FrameState) → is_changed_frame state ≡ true → state ≡ Changed
changed_is Absent is = absurd (false≢true is)
changed_is Same is = absurd (false≢true is)
changed_is Changed is = refl

-- the same state was set again
pub unchanged : (states : List FrameState) (b : ℕ) (state : FrameState) → is_changed_frame (get_or states b Absent) ≡ is_changed_frame state → map is_changed_frame (set states b state) ≡ map is_changed_frame states
unchanged states b state same =
    map-set is_changed_frame states b state ∙ ap (λ (x : Bool). set (map is_changed_frame states) b x) (sym same ∙ sym (changed_at states b)) ∙ set-get_or (map is_changed_frame states) b false

pub state_set : (states : List FrameState) (b : ℕ) (state : FrameState) → map is_changed_frame (set states b state) ≡ set (map is_changed_frame states) b (is_changed_frame state)
state_set states b state = map-set is_changed_frame states b state

-- a block with a newer frame is one of the area
pub changed_below : (s : Store) (c : ℕ) → IsStore s → has_changed s c ≡ true → c < block_count s
changed_below s c store is = elim (cases_lt c (length s.changed)) [
  | inl lt ↦ omega (arith, store.changed_long, lt)
  | inr past ↦ absurd (false≢true (sym (get_or_past s.changed c false past) ∙ is))
]

-- a store with another frame: one that is newer is there
pub set_frame_store : (s : Store) (b : ℕ) (frame : Option (List ℕ)) → IsStore s → (has_changed s b ≡ true → (bytes : List ℕ) × (frame ≡ Some bytes)) → IsStore record s { frames = set s.frames b frame }
set_frame_store s b frame store there = record {
  area = store.area;
  marks_long = store.marks_long;
  sixteen = store.sixteen;
  frames_long = length-set s.frames b frame ∙ store.frames_long;
  changed_long = store.changed_long;
  blocks = store.blocks;
  unused = store.unused;
  unmarked = store.unmarked;
  freed = store.freed;
  saved_same = store.saved_same;
  own_same = store.own_same;
  free_same = store.free_same;
  marked_same = store.marked_same;
  framed = λ c is. elim (cases_eq c b) [
    | inl same ↦
        let here = there (subst (λ (x : ℕ). has_changed s x ≡ true) same is) in
        let lt : b < length s.frames = omega (arith, same, changed_below s c store is, store.frames_long) in
        (here.0, subst (λ (x : ℕ). get_or (set s.frames b frame) x None ≡ Some here.0) (sym same) (get_or-set_same s.frames b frame None lt ∙ here.1))
    | inr other ↦ ((store.framed c is).0, get_or-set_other s.frames b c frame None other ∙ (store.framed c is).1)
  ];
  thawed = store.thawed;
  some_next = store.some_next;
  small_next = store.small_next;
  pins = store.pins;
}

shown_there : (state : FrameState) (bytes : List ℕ) → is_changed_frame state ≡ true → (x : List ℕ) × (shown_frame state bytes ≡ Some x)
shown_there Absent bytes is = absurd (false≢true is)
shown_there Same bytes is = absurd (false≢true is)
shown_there Changed bytes is = (bytes, refl)

-- What is kept in memory, and what is seen of it

module _ (maps : Maps) (free : List Bool) (marks : List (List Bool)) (sizes : List ℕ) (frames : List (List ℕ)) (states : List FrameState) (next : ℕ) (pin : Bool) (room : List ConverterEntry) (b : ℕ) (bytes : List ℕ) where
  abbrev kept : Store
  kept = store_of maps free marks sizes frames states next pin room

  abbrev state : FrameState
  state = get_or states b Absent

  -- the bytes of a frame were set
  pub seen_bytes : store_of maps free marks sizes (set frames b bytes) states next pin room ≡ record kept { frames = set kept.frames b (shown_frame state bytes) }
  seen_bytes = ap (λ (l : List (Option (List ℕ))). record kept { frames = l }) (shown_lent states frames b bytes)

  -- those of a block that shows none
  pub seen_hidden : state ≡ Absent → store_of maps free marks sizes (set frames b bytes) states next pin room ≡ kept
  seen_hidden none = ap (λ (l : List (Option (List ℕ))). record kept { frames = l }) (shown_hidden none)
    where
      shown_hidden : state ≡ Absent → shown_frames states (set frames b bytes) ≡ shown_frames states frames
      shown_hidden none =
          shown_lent states frames b bytes
          ∙ ap (λ (x : FrameState). set (shown_frames states frames) b (shown_frame x bytes)) (none)
          ∙ ap (λ (x : FrameState). set (shown_frames states frames) b (shown_frame x (get_or frames b []))) (sym none)
          ∙ sym (shown_lent states frames b (get_or frames b []))
          ∙ ap (λ (l : List (List ℕ)). shown_frames states l) (set-get_or frames b [])

  -- the frame was filled
  pub seen_filled : is_changed_frame state ≡ false → store_of maps free marks sizes (set frames b bytes) (set states b Same) next pin room ≡ record kept { frames = set kept.frames b (Some bytes) }
  seen_filled same = λ i. record kept { frames = shown_set states frames b Same bytes i; changed = unchanged states b Same same i }

  -- the frame was written
  pub seen_written : store_of maps free marks sizes (set frames b bytes) (set states b Changed) next pin room ≡ record kept { frames = set kept.frames b (Some bytes); changed = set kept.changed b true }
  seen_written = λ i. record kept { frames = shown_set states frames b Changed bytes i; changed = state_set states b Changed i }

  module _ (is : IsKeptStore maps free marks sizes frames states next pin room) where
    frames_set : length (set frames b bytes) ≡ length maps.owner
    frames_set = length-set frames b bytes ∙ is.frames_long

    pub kept_bytes : IsKeptStore maps free marks sizes (set frames b bytes) states next pin room
    kept_bytes = record {
      store = subst IsStore (sym seen_bytes) (set_frame_store kept b (shown_frame state bytes) is.store (λ changed. shown_there state bytes (sym (changed_at states b) ∙ changed)));
      frames_long = frames_set;
      states_long = is.states_long;
      room_long = is.room_long;
    }

    pub kept_filled : is_changed_frame state ≡ false → IsKeptStore maps free marks sizes (set frames b bytes) (set states b Same) next pin room
    kept_filled same = record {
      store = subst IsStore (sym (seen_filled same)) (set_frame_store kept b (Some bytes) is.store (λ changed. (bytes, refl)));
      frames_long = frames_set;
      states_long = length-set states b Same ∙ is.states_long;
      room_long = is.room_long;
    }

    pub frame_is : frame_of kept b ≡ shown_frame state (get_or frames b [])
    frame_is = shown_at states frames b (is.frames_long ∙ sym is.states_long)

-- no frame is shown
pub absent_is : (state : FrameState) (bytes : List ℕ) → shown_frame state bytes ≡ None → state ≡ Absent
absent_is Absent bytes is = refl
absent_is Same bytes is = absurd (not_none is)
absent_is Changed bytes is = absurd (not_none is)

pub shown_is : (state : FrameState) (bytes x : List ℕ) → shown_frame state bytes ≡ Some x → shown_frame state bytes ≡ Some bytes
shown_is Absent bytes x is = absurd (not_none (sym is))
shown_is Same bytes x is = refl
shown_is Changed bytes x is = refl
