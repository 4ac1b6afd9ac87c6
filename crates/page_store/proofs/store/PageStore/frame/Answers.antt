use Rattle.std.proofs.Common.{◌≡◌, ◌∙◌, ◌<◌, [], get_or, length, Some, ap, sym, arith}
use Rattle.std.proofs.lemmas.List.{get_or_read}
use Rattle.page_store.specs.Store.{Store, block_count, frame_of, shown_frame}
use Rattle.page_store.specs.declared.store.FrameState.TheVariants.{Absent}
use Rattle.page_store.proofs.Shown.{frame_is, shown_is}
use Rattle.page_store.proofs.store.PageStore.frame.Goals as goal

pub returns : goal.returns
returns c =
    let i = c.self.inside in
    let v = c.self.view_is in
    let lt : c.args.block < length i.converter.owner = omega (arith, ap block_count v, c.requires.below) in
    let shows = frame_is i.converter i.free i.marks i.volumes i.frames.items i.states.items i.next i.is_pinned i.pinned.items c.args.block [] c.self.invariant in
    let bytes = get_or i.frames.items c.args.block [] in
    let some : shown_frame (get_or i.states.items c.args.block Absent) bytes ≡ Some c.requires.some.0 = sym shows ∙ ap (λ (s : Store). frame_of s c.args.block) v ∙ c.requires.some.1 in
    let read : c.index.result.now ≡ bytes = get_or_read i.frames.items c.args.block c.index.result.now (omega (arith, lt, c.self.invariant.frames_long)) c.index.ensures [] in
    ap (λ (s : Store). frame_of s c.args.block) (sym v) ∙ shows ∙ shown_is (get_or i.states.items c.args.block Absent) bytes c.requires.some.0 some ∙ ap Some (sym read)
