-- What code leaves of a store in memory.
use Rattle.std.proofs.Common.{◌≡◌, ℕ, ◌+◌, List, [], length, get_or, set, Bool, true, false, Option, Some, ap, sym, subst, ◌∙◌, arith, length-set}
use Rattle.std.proofs.lemmas.List.{set-get_or}
use Rattle.mdb_bytes.specs.declared.converter_pages.ConverterEntry.{ConverterEntry}
use Rattle.mdb_bytes.specs.Firsts.{no_entry}
use Rattle.converter.specs.Maps.{Maps}
use Rattle.page_store.specs.declared.store.FrameState.{FrameState}
use Rattle.page_store.specs.declared.store.FrameState.TheVariants.{Absent, Changed}
use Rattle.page_store.specs.Store.{Store, IsStore, IsKeptStore, store_of, shown_frames, shown_pin, frame_of}
use Rattle.page_store.specs.Steps.{moved_to, newer_at, without_page, given_block}
use Rattle.page_store.proofs.Shown.{shown_set, shown_state, shown_lent, state_set, frame_is, shown_is}

module _ (maps : Maps) (free : List Bool) (marks : List (List Bool)) (sizes : List ℕ) (frames : List (List ℕ)) (states : List FrameState) (next : ℕ) (pin : Bool) (room : List ConverterEntry)
    (now : Store) (v : store_of maps free marks sizes frames states next pin room ≡ now) (is : IsKeptStore maps free marks sizes frames states next pin room) where
  abbrev kept : Store
  kept = store_of maps free marks sizes frames states next pin room

  -- a page was put on a free block
  module _ (page b : ℕ) (bytes : List ℕ) (m : Maps) (f : List Bool)
      (em : m ≡ record maps { present = set maps.present (maps.conv + page) record { block = b; stamp = next }; owner = set maps.owner b (maps.conv + page) }) (ef : f ≡ set free b false) where
    pub moved_is : store_of m f marks sizes (set frames b bytes) (set states b Changed) next pin room ≡ moved_to now page b bytes
    moved_is =
        let first : store_of m f marks sizes (set frames b bytes) (set states b Changed) next pin room ≡ moved_to kept page b bytes =
        λ i. record { maps = em i; free = ef i; marks = marks; sizes = sizes; frames = shown_set states frames b Changed bytes i; changed = state_set states b Changed i; next = next; pinned = shown_pin pin room } in
        first ∙ ap (λ (t : Store). moved_to t page b bytes) v

    pub moved_kept : IsStore (moved_to now page b bytes) → IsKeptStore m f marks sizes (set frames b bytes) (set states b Changed) next pin room
    moved_kept store =
        let long : length m.owner ≡ length maps.owner = ap (λ (x : Maps). length x.owner) em ∙ length-set maps.owner b (maps.conv + page) in
        record {
          store = subst IsStore (sym moved_is) store;
          frames_long = length-set frames b bytes ∙ is.frames_long ∙ sym long;
          states_long = length-set states b Changed ∙ is.states_long ∙ sym long;
          room_long = omega (arith, is.room_long, long, ap (λ (x : Maps). x.conv) em);
        }

  -- a frame is newer
  module _ (b : ℕ) (bytes : List ℕ) (there : frame_of now b ≡ Some bytes) where
    pub newer_is : store_of maps free marks sizes frames (set states b Changed) next pin room ≡ newer_at now b
    newer_is =
        let state = get_or states b Absent in
        let shows = frame_is maps free marks sizes frames states next pin room b [] is in
        let some = shown_is state (get_or frames b []) bytes (sym shows ∙ ap (λ (t : Store). frame_of t b) v ∙ there) in
        let same : shown_frames (set states b Changed) frames ≡ shown_frames states frames =
        shown_state states frames b Changed
        ∙ ap (λ (o : Option (List ℕ)). set (shown_frames states frames) b o) (sym some)
        ∙ sym (shown_lent states frames b (get_or frames b []))
        ∙ ap (λ (l : List (List ℕ)). shown_frames states l) (set_same frames b) in
        let first : store_of maps free marks sizes frames (set states b Changed) next pin room ≡ newer_at kept b = λ i. record kept { frames = same i; changed = state_set states b Changed i } in
        first ∙ ap (λ (t : Store). newer_at t b) v
      where
        set_same : (l : List (List ℕ)) (b : ℕ) → set l b (get_or l b []) ≡ l
        set_same l b = set-get_or l b []

    pub newer_kept : IsStore (newer_at now b) → IsKeptStore maps free marks sizes frames (set states b Changed) next pin room
    newer_kept store = record {
      store = subst IsStore (sym newer_is) store;
      frames_long = is.frames_long;
      states_long = length-set states b Changed ∙ is.states_long;
      room_long = is.room_long;
    }

  -- a page has no block any more
  module _ (page : ℕ) (m : Maps) (em : m ≡ record maps { present = set maps.present (maps.conv + page) no_entry }) where
    pub bare_is : store_of m free marks sizes frames states next pin room ≡ without_page now page
    bare_is =
        let first : store_of m free marks sizes frames states next pin room ≡ without_page kept page = λ i. record kept { maps = em i } in
        first ∙ ap (λ (t : Store). without_page t page) v

    pub bare_kept : IsStore (without_page now page) → IsKeptStore m free marks sizes frames states next pin room
    bare_kept store = record {
      store = subst IsStore (sym bare_is) store;
      frames_long = is.frames_long ∙ sym (ap (λ (x : Maps). length x.owner) em);
      states_long = is.states_long ∙ sym (ap (λ (x : Maps). length x.owner) em);
      room_long = omega (arith, is.room_long, ap (λ (x : Maps). length x.owner) em, ap (λ (x : Maps). x.conv) em);
    }

    -- and the block is free
    module _ (b : ℕ) (f : List Bool) (ef : f ≡ set free b true) where
      pub given_is : store_of m f marks sizes frames (set states b Absent) next pin room ≡ given_block (without_page now page) b
      given_is =
          let first : store_of m f marks sizes frames (set states b Absent) next pin room ≡ given_block (without_page kept page) b =
          λ i. record { maps = em i; free = ef i; marks = marks; sizes = sizes; frames = shown_state states frames b Absent i; changed = state_set states b Absent i; next = next; pinned = shown_pin pin room } in
          first ∙ ap (λ (t : Store). given_block (without_page t page) b) v

      pub given_kept : IsStore (given_block (without_page now page) b) → IsKeptStore m f marks sizes frames (set states b Absent) next pin room
      given_kept store = record {
        store = subst IsStore (sym given_is) store;
        frames_long = is.frames_long ∙ sym (ap (λ (x : Maps). length x.owner) em);
        states_long = length-set states b Absent ∙ is.states_long ∙ sym (ap (λ (x : Maps). length x.owner) em);
        room_long = omega (arith, is.room_long, ap (λ (x : Maps). length x.owner) em, ap (λ (x : Maps). x.conv) em);
      }
