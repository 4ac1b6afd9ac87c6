use Rattle.std.proofs.Common.{◌≡◌, ◌∙◌, ℕ, List, [], get_or, Option, ap, sym, subst, arith}
use Rattle.volume_disk.specs.Blocks.{IsArea, block_at}
use Rattle.std.specs.Prelude.{unwrap_or}
use Rattle.page_store.specs.Store.{Store, block_count, frame_of, is_changed_frame}
use Rattle.page_store.specs.Steps.{with_frame}
use Rattle.page_store.specs.declared.store.FrameState.TheVariants.{Absent}
use Rattle.page_store.proofs.Shown.{frame_is, absent_is, kept_bytes, kept_filled, seen_hidden, seen_filled}
use Rattle.mdb_model.specs.declared.fault.PageFault.TheVariants.{Failed}
use Rattle.page_store.proofs.Answering.{on_passed, if_passed}
use Rattle.page_store.proofs.store.PageStore.read_frame.Goals as goal

pub read_there-requires : goal.read_there-requires
read_there-requires g c = omega (arith, c.requires.below, ap block_count c.self.view_is, c.self.invariant.store.blocks)

pub invariant_of-self : goal.invariant_of-self
invariant_of-self g c =
    let i = c.self.inside in
    kept_bytes i.converter i.free i.marks i.volumes i.frames.items i.states.items i.next i.is_pinned i.pinned.items c.args.block c.read_there.new.into c.self.invariant

pub invariant_of-self-2 : goal.invariant_of-self-2
invariant_of-self-2 g c =
    let i = c.self.inside in
    let b = c.args.block in
    let shows = frame_is i.converter i.free i.marks i.volumes i.frames.items i.states.items i.next i.is_pinned i.pinned.items b [] c.self.invariant in
    let none = absent_is (get_or i.states.items b Absent) (get_or i.frames.items b []) (sym shows ∙ ap (λ (s : Store). frame_of s b) c.self.view_is ∙ c.requires.none) in
    kept_filled i.converter i.free i.marks i.volumes i.frames.items i.states.items i.next i.is_pinned i.pinned.items b c.read_there.new.into c.self.invariant (ap is_changed_frame none)

pub returns-in_err-read_there-clause-err : goal.returns-in_err-read_there-clause-err
returns-in_err-read_there-clause-err g c =
    let i = c.self.inside in
    let b = c.args.block in
    let shows = frame_is i.converter i.free i.marks i.volumes i.frames.items i.states.items i.next i.is_pinned i.pinned.items b [] c.self.invariant in
    let none = absent_is (get_or i.states.items b Absent) (get_or i.frames.items b []) (sym shows ∙ ap (λ (s : Store). frame_of s b) c.self.view_is ∙ c.requires.none) in
    on_passed c.in_err-read_there.field-0.0 c.from_residual.result c.from_residual.ensures.1
    (seen_hidden i.converter i.free i.marks i.volumes i.frames.items i.states.items i.next i.is_pinned i.pinned.items b c.read_there.new.into none ∙ c.self.view_is)

pub returns-clause-ok : goal.returns-clause-ok
returns-clause-ok g c =
    let i = c.self.inside in
    let b = c.args.block in
    let v = c.self.view_is in
    let s = c.args.self.now in
    let seen = (g.H.Host.disk c.args.host.now).seen in
    let shows = frame_is i.converter i.free i.marks i.volumes i.frames.items i.states.items i.next i.is_pinned i.pinned.items b [] c.self.invariant in
    let none = absent_is (get_or i.states.items b Absent) (get_or i.frames.items b []) (sym shows ∙ ap (λ (s : Store). frame_of s b) v ∙ c.requires.none) in
    record {
      bytes = c.read_there.new.into;
      is = seen_filled i.converter i.free i.marks i.volumes i.frames.items i.states.items i.next i.is_pinned i.pinned.items b c.read_there.new.into (ap is_changed_frame none) ∙ ap (λ (s : Store). with_frame s b c.read_there.new.into) v;
      same = λ told area.
          c.in_ok-read_there.ensures.bytes told (subst (λ (t : Store). IsArea t.sizes seen) (sym v) area)
          ∙ ap (λ (t : Store). block_at t.sizes seen b) v
          ∙ ap (λ (f : Option (List ℕ)). unwrap_or f (block_at s.sizes seen b)) (sym c.requires.none);
    }

pub returns-in_err-read_there-clause-whole : goal.returns-in_err-read_there-clause-whole
returns-in_err-read_there-clause-whole g c told area =
    let v = c.self.view_is in
    if_passed (λ fault. fault ≡ Failed) c.in_err-read_there.field-0.0 c.from_residual.result c.from_residual.ensures.1
    (c.in_err-read_there.ensures.whole told (subst (λ (t : Store). IsArea t.sizes (g.H.Host.disk c.args.host.now).seen) (sym v) area))
