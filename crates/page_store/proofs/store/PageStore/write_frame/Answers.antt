use Rattle.std.proofs.Common.{◌≡◌, ◌∙◌, [], get_or, length, Some, ap, sym, subst, arith}
use Rattle.std.proofs.lemmas.List.{get_or_read}
use Rattle.mdb_host.specs.Disk.{Calls}
use Rattle.volume_disk.specs.Blocks.{Writes, IsArea, block_at}
use Rattle.page_store.specs.Store.{Store, IsStore, block_count}
use Rattle.page_store.proofs.Settling.{quiet_is, quiet_kept, newer_frame}
use Rattle.page_store.proofs.store.PageStore.write_frame.Goals as goal

pub write_block-requires-clause-area : goal.write_block-requires-clause-area
write_block-requires-clause-area g c told = subst (λ (s : Store). IsArea s.sizes (g.H.Host.disk c.args.host.now).seen) (sym c.self.view_is) (c.requires.there told)

pub invariant_of-self : goal.invariant_of-self
invariant_of-self g c =
    let i = c.self.inside in
    quiet_kept i.converter i.free i.marks i.volumes i.frames.items i.states.items i.next i.is_pinned i.pinned.items c.args.self.now c.self.view_is c.self.invariant c.args.block c.requires.changed (subst IsStore c.self.view_is c.self.invariant.store)

pub returns-clause-ok : goal.returns-clause-ok
returns-clause-ok g c =
    let i = c.self.inside in
    quiet_is i.converter i.free i.marks i.volumes i.frames.items i.states.items i.next i.is_pinned i.pinned.items c.args.self.now c.self.view_is c.self.invariant c.args.block c.requires.changed

pub returns-clause-calls : goal.returns-clause-calls
returns-clause-calls g c told =
    subst (λ (s : Store). Calls (g.H.Host.disk c.args.host.now) (g.H.Host.disk c.write_block.new.host) (Writes s.sizes (λ x. x ≡ c.args.block))) c.self.view_is (c.write_block.ensures.calls told)

pub returns-in_err-write_block-clause-calls : goal.returns-in_err-write_block-clause-calls
returns-in_err-write_block-clause-calls g c told =
    subst (λ (s : Store). Calls (g.H.Host.disk c.args.host.now) (g.H.Host.disk c.write_block.new.host) (Writes s.sizes (λ x. x ≡ c.args.block))) c.self.view_is (c.write_block.ensures.calls told)

pub returns-clause-written : goal.returns-clause-written
returns-clause-written g c told =
    let i = c.self.inside in
    let long : length i.frames.items ≡ block_count c.args.self.now = omega (arith, ap block_count c.self.view_is, c.self.invariant.frames_long) in
    let read : c.index.result.now ≡ get_or i.frames.items c.args.block [] = get_or_read i.frames.items c.args.block c.index.result.now (omega (arith, long, c.requires.below)) c.index.ensures [] in
    newer_frame i.converter i.free i.marks i.volumes i.frames.items i.states.items i.next i.is_pinned i.pinned.items c.args.self.now c.self.view_is c.self.invariant c.args.block c.requires.changed ∙ ap Some (sym read ∙ sym (c.in_ok-write_block.ensures.written told) ∙ ap (λ (s : Store). block_at s.sizes (g.H.Host.disk c.write_block.new.host).seen c.args.block) c.self.view_is)
