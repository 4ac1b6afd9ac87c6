use Rattle.std.proofs.Common.{◌≡◌, ◌∙◌, [], get_or, set, length, Some, ap, sym, arith}
use Rattle.std.proofs.lemmas.List.{get_or_read}
use Rattle.page_store.specs.Store.{block_count}
use Rattle.page_store.specs.Steps.{with_frame}
use Rattle.page_store.proofs.Shown.{kept_bytes}
use Rattle.page_store.proofs.Settling.{newer_frame, lent_is}
use Rattle.page_store.proofs.store.PageStore.edit_both.Goals as goal

pub edit_pages-answer-requires : goal.edit_pages-answer-requires
edit_pages-answer-requires g c one two =
    let i = c.self.inside in
    let long : length i.frames.items ≡ block_count c.args.self.now = omega (arith, ap block_count c.self.view_is, c.self.invariant.frames_long) in
    let read_x : c.index_mut.result.now ≡ get_or i.frames.items c.args.first [] = get_or_read i.frames.items c.args.first c.index_mut.result.now (omega (arith, long, c.requires.below.0)) c.index_mut.ensures.value [] in
    let read_y : c.index.result.now ≡ get_or i.frames.items c.args.other [] = get_or_read i.frames.items c.args.other c.index.result.now (omega (arith, long, c.requires.below.1)) c.index.ensures [] in
    c.requires.may c.index_mut.result.now c.index.result.now one two
    (newer_frame i.converter i.free i.marks i.volumes i.frames.items i.states.items i.next i.is_pinned i.pinned.items c.args.self.now c.self.view_is c.self.invariant c.args.first c.requires.changed.0 ∙ ap Some (sym read_x)) (newer_frame i.converter i.free i.marks i.volumes i.frames.items i.states.items i.next i.is_pinned i.pinned.items c.args.self.now c.self.view_is c.self.invariant c.args.other c.requires.changed.1 ∙ ap Some (sym read_y))

pub invariant_of-self : goal.invariant_of-self
invariant_of-self g c =
    let i = c.self.inside in
    kept_bytes i.converter i.free i.marks i.volumes (set i.frames.items c.args.first c.edit_pages-answer.new.one) i.states.items i.next i.is_pinned i.pinned.items c.args.other c.edit_pages-answer.new.other
    (kept_bytes i.converter i.free i.marks i.volumes i.frames.items i.states.items i.next i.is_pinned i.pinned.items c.args.first c.edit_pages-answer.new.one c.self.invariant)

pub returns : goal.returns
returns g c =
    let i = c.self.inside in
    let p = c.edit_pages-answer.new.one in
    let q = c.edit_pages-answer.new.other in
    let long : length i.frames.items ≡ block_count c.args.self.now = omega (arith, ap block_count c.self.view_is, c.self.invariant.frames_long) in
    let read_x : c.index_mut.result.now ≡ get_or i.frames.items c.args.first [] = get_or_read i.frames.items c.args.first c.index_mut.result.now (omega (arith, long, c.requires.below.0)) c.index_mut.ensures.value [] in
    let read_y : c.index.result.now ≡ get_or i.frames.items c.args.other [] = get_or_read i.frames.items c.args.other c.index.result.now (omega (arith, long, c.requires.below.1)) c.index.ensures [] in
    record {
      one = c.index_mut.result.now;
      two = c.index.result.now;
      one_now = p;
      two_now = q;
      one_was = newer_frame i.converter i.free i.marks i.volumes i.frames.items i.states.items i.next i.is_pinned i.pinned.items c.args.self.now c.self.view_is c.self.invariant c.args.first c.requires.changed.0 ∙ ap Some (sym read_x);
      two_was = newer_frame i.converter i.free i.marks i.volumes i.frames.items i.states.items i.next i.is_pinned i.pinned.items c.args.self.now c.self.view_is c.self.invariant c.args.other c.requires.changed.1 ∙ ap Some (sym read_y);
      edited = c.edit_pages-answer.ensures;
      is = lent_is i.converter i.free i.marks i.volumes (set i.frames.items c.args.first p) i.states.items i.next i.is_pinned i.pinned.items (with_frame c.args.self.now c.args.first p)
          (lent_is i.converter i.free i.marks i.volumes i.frames.items i.states.items i.next i.is_pinned i.pinned.items c.args.self.now c.self.view_is c.self.invariant c.args.first c.requires.changed.0 p) (kept_bytes i.converter i.free i.marks i.volumes i.frames.items i.states.items i.next i.is_pinned i.pinned.items c.args.first p c.self.invariant) c.args.other c.requires.changed.1 q;
    }
