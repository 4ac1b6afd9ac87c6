use Rattle.std.proofs.Common.{◌≡◌, ◌∙◌, ◌<◌, [], get_or, set, length, Some, refl, ap, sym, arith}
use Rattle.std.proofs.lemmas.List.{get_or_read}
use Rattle.page_store.specs.Store.{Store, block_count, frame_of, has_changed, store_of, shown_frame, shown_frames}
use Rattle.page_store.specs.Steps.{with_frame}
use Rattle.page_store.specs.declared.store.FrameState.{FrameState}
use Rattle.page_store.specs.declared.store.FrameState.TheVariants.{Absent, Changed}
use Rattle.page_store.proofs.Shown.{frame_is, changed_is, changed_at, kept_bytes, seen_bytes}
use Rattle.page_store.proofs.store.PageStore.frame_mut.Goals as goal

pub invariant_of-self-lent : goal.invariant_of-self-lent
invariant_of-self-lent c w =
    let i = c.self.inside in
    kept_bytes i.converter i.free i.marks i.volumes i.frames.items i.states.items i.next i.is_pinned i.pinned.items c.args.block w c.self.invariant

pub returns : goal.returns
returns c =
    let i = c.self.inside in
    let v = c.self.view_is in
    let b = c.args.block in
    let state = get_or i.states.items b Absent in
    let lt : b < length i.converter.owner = omega (arith, ap block_count v, c.requires.below) in
    let newer : state ≡ Changed = changed_is state (sym (changed_at i.states.items b) ∙ ap (λ (s : Store). has_changed s b) v ∙ c.requires.changed) in
    let shows = frame_is i.converter i.free i.marks i.volumes i.frames.items i.states.items i.next i.is_pinned i.pinned.items b [] c.self.invariant in
    let read : c.index_mut.result.now ≡ get_or i.frames.items b [] = get_or_read i.frames.items b c.index_mut.result.now (omega (arith, lt, c.self.invariant.frames_long)) c.index_mut.ensures.value [] in (
      (
        refl,
        λ w. seen_bytes i.converter i.free i.marks i.volumes i.frames.items i.states.items i.next i.is_pinned i.pinned.items b w
            ∙ ap (λ (t : FrameState). record (store_of i.converter i.free i.marks i.volumes i.frames.items i.states.items i.next i.is_pinned i.pinned.items) { frames = set (shown_frames i.states.items i.frames.items) b (shown_frame t w) }) newer
            ∙ ap (λ (s : Store). with_frame s b w) v,
      ),
      record { lends = tt; value = ap (λ (s : Store). frame_of s b) (sym v) ∙ shows ∙ ap (λ (t : FrameState). shown_frame t (get_or i.frames.items b [])) newer ∙ ap Some (sym read) },
    )
