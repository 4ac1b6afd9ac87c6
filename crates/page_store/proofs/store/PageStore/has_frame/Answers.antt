use Rattle.std.proofs.Common.{◌≡◌, ◌∙◌, ◌<◌, [], get_or, length, Some, ap, sym, inl, inr, arith}
use Rattle.std.proofs.lemmas.Bool.{false≢true}
use Rattle.std.proofs.lemmas.List.{get_or_read}
use Rattle.page_store.specs.declared.store.FrameState.{FrameState}
use Rattle.page_store.specs.declared.store.FrameState.TheVariants.{Absent}
use Rattle.page_store.specs.Store.{Store, block_count, frame_of, shown_frame}
use Rattle.page_store.proofs.Shown.{frame_is}
use Rattle.page_store.proofs.store.PageStore.has_frame.Goals as goal

pub returns-in-Absent-clause-none : goal.returns-in-Absent-clause-none
returns-in-Absent-clause-none c is =
    let i = c.self.inside in
    let b = c.args.block in
    let v = c.self.view_is in
    let lt : b < length i.states.items = omega (arith, ap block_count v, c.requires, c.self.invariant.states_long) in
    let at : c.index.result.now ≡ get_or i.states.items b Absent = get_or_read i.states.items b c.index.result.now lt c.index.ensures Absent in
    let shows = frame_is i.converter i.free i.marks i.volumes i.frames.items i.states.items i.next i.is_pinned i.pinned.items b [] c.self.invariant in
    ap (λ (s : Store). frame_of s b) (sym v) ∙ shows ∙ ap (λ (x : FrameState). shown_frame x (get_or i.frames.items b [])) (sym at ∙ c.in-Absent.is)

pub returns-in-Same : goal.returns-in-Same
returns-in-Same c =
    let i = c.self.inside in
    let b = c.args.block in
    let v = c.self.view_is in
    let bytes = get_or i.frames.items b [] in
    let lt : b < length i.states.items = omega (arith, ap block_count v, c.requires, c.self.invariant.states_long) in
    let at : c.index.result.now ≡ get_or i.states.items b Absent = get_or_read i.states.items b c.index.result.now lt c.index.ensures Absent in
    let shows = frame_is i.converter i.free i.marks i.volumes i.frames.items i.states.items i.next i.is_pinned i.pinned.items b [] c.self.invariant in
    let there : shown_frame c.index.result.now bytes ≡ Some bytes = elim c.in-Same.is [
      | inl same ↦ ap (λ (x : FrameState). shown_frame x bytes) same
      | inr changed ↦ ap (λ (x : FrameState). shown_frame x bytes) changed
    ] in
    record {
      some = λ is. (bytes, ap (λ (s : Store). frame_of s b) (sym v) ∙ shows ∙ ap (λ (x : FrameState). shown_frame x bytes) (sym at) ∙ there);
      none = λ is. absurd (false≢true (sym is));
    }
