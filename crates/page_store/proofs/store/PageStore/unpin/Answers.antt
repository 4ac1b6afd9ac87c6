use Rattle.std.proofs.Common.{length, List, ap, sym, subst}
use Rattle.mdb_bytes.specs.declared.converter_pages.ConverterEntry.{ConverterEntry}
use Rattle.page_store.specs.Store.{Store, FramesMatch}
use Rattle.page_store.specs.Pins.{UnmarksThese, GivesThese}
use Rattle.page_store.proofs.Pinned.{no_mark, others_left, was_marked, unpinned_store, unpinned_kept, pinned_room}
use Rattle.page_store.proofs.store.PageStore.unpin.Goals as goal

pub invariant_of-self : goal.invariant_of-self
invariant_of-self c =
    let i = c.self.inside in
    let s = c.args.self.now in
    let v = c.self.view_is in
    let m = i.pinned.items in
    let is = pinned_room i.is_pinned m s.pinned (ap (λ (t : Store). t.pinned) v) c.requires in
    let un = subst (λ (t : Store). UnmarksThese m (length m) t.marks c.unmark_map.new.marks) v (subst (λ (l : List ConverterEntry). UnmarksThese l (length l) i.marks c.unmark_map.new.marks) c.deref.ensures.value c.unmark_map.ensures) in
    let gives = subst (λ (t : Store). GivesThese m (length m) t.maps c.unmark_map.new.marks t.free c.give_map.new.free) v (subst (λ (l : List ConverterEntry). GivesThese l (length l) i.converter c.unmark_map.new.marks i.free c.give_map.new.free) c.deref-2.ensures.value c.give_map.ensures) in
    unpinned_kept i.converter i.free i.marks i.volumes i.frames.items i.states.items i.next i.is_pinned i.pinned.items s v c.self.invariant c.unmark_map.new.marks c.give_map.new.free
    (unpinned_store s c.blocks-blocks.ensures.store m is c.unmark_map.new.marks un c.give_map.new.free gives)

pub returns-clause-marks : goal.returns-clause-marks
returns-clause-marks c =
    let i = c.self.inside in
    let s = c.args.self.now in
    let v = c.self.view_is in
    let m = i.pinned.items in
    let is = pinned_room i.is_pinned m s.pinned (ap (λ (t : Store). t.pinned) v) c.requires in
    let un = subst (λ (t : Store). UnmarksThese m (length m) t.marks c.unmark_map.new.marks) v (subst (λ (l : List ConverterEntry). UnmarksThese l (length l) i.marks c.unmark_map.new.marks) c.deref.ensures.value c.unmark_map.ensures) in
    no_mark s c.blocks-blocks.ensures.store m is c.unmark_map.new.marks un

pub returns-clause-others : goal.returns-clause-others
returns-clause-others c =
    let i = c.self.inside in
    let s = c.args.self.now in
    let v = c.self.view_is in
    let m = i.pinned.items in
    let is = pinned_room i.is_pinned m s.pinned (ap (λ (t : Store). t.pinned) v) c.requires in
    let un = subst (λ (t : Store). UnmarksThese m (length m) t.marks c.unmark_map.new.marks) v (subst (λ (l : List ConverterEntry). UnmarksThese l (length l) i.marks c.unmark_map.new.marks) c.deref.ensures.value c.unmark_map.ensures) in
    others_left s c.blocks-blocks.ensures.store m is c.unmark_map.new.marks un

pub returns-clause-given : goal.returns-clause-given
returns-clause-given c =
    let i = c.self.inside in
    let s = c.args.self.now in
    let v = c.self.view_is in
    let m = i.pinned.items in
    let is = pinned_room i.is_pinned m s.pinned (ap (λ (t : Store). t.pinned) v) c.requires in
    let un = subst (λ (t : Store). UnmarksThese m (length m) t.marks c.unmark_map.new.marks) v (subst (λ (l : List ConverterEntry). UnmarksThese l (length l) i.marks c.unmark_map.new.marks) c.deref.ensures.value c.unmark_map.ensures) in
    let gives = subst (λ (t : Store). GivesThese m (length m) t.maps c.unmark_map.new.marks t.free c.give_map.new.free) v (subst (λ (l : List ConverterEntry). GivesThese l (length l) i.converter c.unmark_map.new.marks i.free c.give_map.new.free) c.deref-2.ensures.value c.give_map.ensures) in
    was_marked s c.blocks-blocks.ensures.store m is c.unmark_map.new.marks un c.give_map.new.free gives

pub returns-clause-reads : goal.returns-clause-reads
returns-clause-reads c seen reads = subst (λ (t : Store). FramesMatch t seen) (sym c.self.view_is) reads
