use Rattle.std.proofs.Common.{◌≡◌, ◌∙◌, ◌+◌, length, List, ap, sym, subst, rules}
use Rattle.std.proofs.lemmas.List.{take_at}
use Rattle.page_store.specs.Store.{Store, FramesMatch, block_count}
use Rattle.page_store.specs.Pins.{MarksAlso}
use Rattle.page_store.proofs.Pinned.{pin_is, others_stay, pinned_store, pinned_kept}
use Rattle.page_store.proofs.store.PageStore.pin.Goals as goal

pub invariant_of-self : goal.invariant_of-self
invariant_of-self c =
    let i = c.self.inside in
    let s = c.args.self.now in
    let v = c.self.view_is in
    let e = c.blocks-blocks.ensures in
    let room = c.keep_map.new.room in
    let also = subst (λ (t : Store). MarksAlso t.maps.saved (t.maps.conv + block_count t) t.marks c.keep_map.new.marks) v c.keep_map.ensures.marks in
    let is_saved : room ≡ s.maps.saved = c.keep_map.ensures.map ∙ ap (λ (t : Store). t.maps.saved) v in
    let long : length room ≡ length i.pinned.items = ap (λ (l : List _). length l) is_saved ∙ e.sound.saved_long ∙ ap (λ (t : Store). t.maps.conv + block_count t) (sym v) ∙ sym c.self.invariant.room_long in
    let whole = take_at room _ i.pinned.len (long ∙ (search rules)) in
    pinned_kept i.converter i.free i.marks i.volumes i.frames.items i.states.items i.next i.is_pinned i.pinned.items s v c.self.invariant c.keep_map.new.marks _ (whole ∙ is_saved) (ap (λ (l : List _). length l) whole ∙ long)
    (pinned_store s e.sound e.store c.requires c.keep_map.new.marks also)

pub returns-clause-marks : goal.returns-clause-marks
returns-clause-marks c =
    let s = c.args.self.now in
    let e = c.blocks-blocks.ensures in
    let also = subst (λ (t : Store). MarksAlso t.maps.saved (t.maps.conv + block_count t) t.marks c.keep_map.new.marks) c.self.view_is c.keep_map.ensures.marks in
    pin_is s e.sound e.store c.requires c.keep_map.new.marks also

pub returns-clause-others : goal.returns-clause-others
returns-clause-others c =
    let s = c.args.self.now in
    let e = c.blocks-blocks.ensures in
    let also = subst (λ (t : Store). MarksAlso t.maps.saved (t.maps.conv + block_count t) t.marks c.keep_map.new.marks) c.self.view_is c.keep_map.ensures.marks in
    others_stay s e.sound e.store c.requires c.keep_map.new.marks also

pub returns-clause-reads : goal.returns-clause-reads
returns-clause-reads c seen reads = subst (λ (t : Store). FramesMatch t seen) (sym c.self.view_is) reads
