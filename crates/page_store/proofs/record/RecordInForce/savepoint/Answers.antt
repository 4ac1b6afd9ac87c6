use Rattle.std.proofs.Common.{◌≡◌, ◌∙◌, ℕ, ◌+◌, ◌≤◌, List, get_or, sym, ap, subst, arith}
use Rattle.mdb_model.specs.Images.{Image}
use Rattle.mdb_model.specs.declared.fault.Device.TheVariants.{Log}
use Rattle.page_store.proofs.Switching.{beside_log}
use Rattle.converter.specs.Maps.{block_of}
use Rattle.page_store.specs.Store.{Store, IsKnown, FramesMatch}
use Rattle.volume_disk.specs.Blocks.{IsArea}
use Rattle.savepoint.specs.declared.states.Mark.{Mark}
use Rattle.page_store.specs.WholeSavepoint.{next_record, saved_page, present_page}
use Rattle.page_store.proofs.NextRecord.{next_keeps}
use Rattle.page_store.proofs.SavingRoom.{fits_on, spare_is}
use Rattle.page_store.proofs.Switching.{early_saves, late_saves, frozen_in_area, at_switch, slots_within, after_is, is_saved, saved_bytes, pages_stay, stand_on, can_save_on, stamped_on}
use Rattle.page_store.proofs.record.RecordInForce.savepoint.Goals as goal

pub keep_map-requires-clause-leaves : goal.keep_map-requires-clause-leaves
keep_map-requires-clause-leaves g c told i below some = ((c.requires.ready.standing told).stands (g.H.Host.disk c.args.host.now).seen (g.met.H.Host.seen_left c.args.host.now told)).map.tree.leaves i below

pub returns-in_err-state-clause-saves : goal.returns-in_err-state-clause-saves
returns-in_err-state-clause-saves g c told = early_saves g.H.Host.tells c.args.self.now.slots c.args.self.now.record c.args.store.now (g.H.Host.disk c.args.host.now) (g.H.Host.disk c.keep_map.new.host) c.requires.ready told (g.met.H.Host.seen_left c.args.host.now told) (c.keep_map.ensures.goes told) c.args.commit c.args.position

pub switch-requires-clause-may : goal.switch-requires-clause-may
switch-requires-clause-may g c =
    let placed = c.in_ok-state.ensures.written.placed in
    let high = placed.own 0 placed.some in
    let mark = c.in_ok-state.ensures.state.0 in
    let root : c.root-self.result ≡ block_of c.keep_map.new.store.maps.frozen 0 = c.root-self.ensures ∙ c.in_ok-state.ensures.state.2 in
    record {
      place = c.requires.ready.place;
      root = c.root-self.ensures;
      mark = (ap (λ (m : Mark). m.savepoint) (sym mark), ap (λ (m : Mark). m.commit) (sym mark), ap (λ (m : Mark). m.position) (sym mark));
      number = ap (λ (n : ℕ). n + 1) c.requires.ready.number;
      keeps = next_keeps c.args.self.now.record c.next.result c.args.commit c.args.position c.root-self.result c.requires.ready.keeps c.requires.slot (omega (arith, c.next.ensures, c.requires.next)) c.requires.commit c.requires.position (omega (arith, root, high)) c.root-self.type_inv;
    }

pub switch-requires-clause-within : goal.switch-requires-clause-within
switch-requires-clause-within g c told = slots_within c.args.store.now c.args.self.now.slots.place (g.H.Host.disk c.args.host.now).seen (g.H.Host.disk c.keep_map.new.host).seen c.requires.ready.place c.requires.ready.big (c.requires.ready.standing told).known.there (c.keep_map.ensures.seen told)

pub returns-in-Ok-clause-saves : goal.returns-in-Ok-clause-saves
returns-in-Ok-clause-saves g c told =
    let written = c.in_ok-state.ensures.written in
    let known = (c.requires.ready.standing told).known in
    let root : c.root-self.result ≡ block_of c.keep_map.new.store.maps.frozen 0 = c.root-self.ensures ∙ c.in_ok-state.ensures.state.2 in
    late_saves g.H.Host.tells c.args.self.now.slots c.args.self.now.record c.args.store.now (g.H.Host.disk c.args.host.now) (g.H.Host.disk c.keep_map.new.host) c.requires.ready told (g.met.H.Host.seen_left c.args.host.now told) (c.keep_map.ensures.goes told) c.args.commit c.args.position (g.H.Host.disk c.switch.new.host) c.keep_map.new.store.maps.frozen (next_record c.args.self.now.record c.next.result c.args.commit c.args.position c.root-self.result)
    (λ i. next_record c.args.self.now.record (c.next.ensures i) c.args.commit c.args.position (root i)) written.placed (frozen_in_area c.args.store.now c.keep_map.new.store written c.blocks-frozen.ensures.sound) written.frozen
    (c.switch.ensures.switches.crash told c.args.store.now.sizes c.args.self.now.record c.args.store.now.maps.saved c.keep_map.new.store.maps.frozen c.args.store.now.maps.conv (saved_page c.args.store.now (g.H.Host.disk c.args.host.now).seen) (present_page c.args.store.now (g.H.Host.disk c.args.host.now).seen)
    (at_switch g.H.Host.tells c.args.self.now.slots c.args.self.now.record c.args.store.now (g.H.Host.disk c.args.host.now) (g.H.Host.disk c.keep_map.new.host) c.requires.ready told (g.met.H.Host.seen_left c.args.host.now told) (c.keep_map.ensures.goes told) c.keep_map.new.store.maps.frozen written.placed (c.in_ok-state.ensures.holds known)) c.in_ok-state.ensures.state.2)
    (c.switch.ensures.switches.any_moment told)

pub returns-in-Err-clause-saves : goal.returns-in-Err-clause-saves
returns-in-Err-clause-saves g c told =
    let written = c.in_ok-state.ensures.written in
    let known = (c.requires.ready.standing told).known in
    let root : c.root-self.result ≡ block_of c.keep_map.new.store.maps.frozen 0 = c.root-self.ensures ∙ c.in_ok-state.ensures.state.2 in
    late_saves g.H.Host.tells c.args.self.now.slots c.args.self.now.record c.args.store.now (g.H.Host.disk c.args.host.now) (g.H.Host.disk c.keep_map.new.host) c.requires.ready told (g.met.H.Host.seen_left c.args.host.now told) (c.keep_map.ensures.goes told) c.args.commit c.args.position (g.H.Host.disk c.switch.new.host) c.keep_map.new.store.maps.frozen (next_record c.args.self.now.record c.next.result c.args.commit c.args.position c.root-self.result)
    (λ i. next_record c.args.self.now.record (c.next.ensures i) c.args.commit c.args.position (root i)) written.placed (frozen_in_area c.args.store.now c.keep_map.new.store written c.blocks-frozen.ensures.sound) written.frozen
    (c.switch.ensures.switches.crash told c.args.store.now.sizes c.args.self.now.record c.args.store.now.maps.saved c.keep_map.new.store.maps.frozen c.args.store.now.maps.conv (saved_page c.args.store.now (g.H.Host.disk c.args.host.now).seen) (present_page c.args.store.now (g.H.Host.disk c.args.host.now).seen)
    (at_switch g.H.Host.tells c.args.self.now.slots c.args.self.now.record c.args.store.now (g.H.Host.disk c.args.host.now) (g.H.Host.disk c.keep_map.new.host) c.requires.ready told (g.met.H.Host.seen_left c.args.host.now told) (c.keep_map.ensures.goes told) c.keep_map.new.store.maps.frozen written.placed (c.in_ok-state.ensures.holds known)) c.in_ok-state.ensures.state.2)
    (c.switch.ensures.switches.any_moment told)

pub returns-in-Ok-clause-saved : goal.returns-in-Ok-clause-saved
returns-in-Ok-clause-saved g c = is_saved g.H.Host.tells c.args.self.now.slots c.switch.new.slots c.args.self.now.record c.args.store.now c.keep_map.new.store c.release.new.self (g.H.Host.disk c.args.host.now) (g.H.Host.disk c.switch.new.host) c.requires.ready c.in_ok-state.ensures.written (after_is c.args.store.now c.keep_map.new.store c.switch.new.self c.release.new.self c.in_ok-state.ensures.written c.switch.ensures.store c.release.ensures.settled)

pub returns-in-Ok-clause-pages : goal.returns-in-Ok-clause-pages
returns-in-Ok-clause-pages g c told =
    pages_stay g.H.Host.tells c.args.self.now.slots c.switch.new.slots c.args.self.now.record c.args.store.now c.keep_map.new.store c.release.new.self (g.H.Host.disk c.args.host.now) (g.H.Host.disk c.switch.new.host) c.requires.ready c.in_ok-state.ensures.written (after_is c.args.store.now c.keep_map.new.store c.switch.new.self c.release.new.self c.in_ok-state.ensures.written c.switch.ensures.store c.release.ensures.settled) (next_record c.args.self.now.record c.next.result c.args.commit c.args.position c.root-self.result)
    (c.in-Ok.ensures.switches.put told c.args.store.now.sizes c.args.self.now.record c.args.store.now.maps.saved c.keep_map.new.store.maps.frozen c.args.store.now.maps.conv (saved_page c.args.store.now (g.H.Host.disk c.args.host.now).seen) (present_page c.args.store.now (g.H.Host.disk c.args.host.now).seen)
    (at_switch g.H.Host.tells c.args.self.now.slots c.args.self.now.record c.args.store.now (g.H.Host.disk c.args.host.now) (g.H.Host.disk c.keep_map.new.host) c.requires.ready told (g.met.H.Host.seen_left c.args.host.now told) (c.keep_map.ensures.goes told) c.keep_map.new.store.maps.frozen c.in_ok-state.ensures.written.placed (c.in_ok-state.ensures.holds (c.requires.ready.standing told).known)) c.in_ok-state.ensures.state.2)
    (g.met.H.Host.seen_left c.switch.new.host told)

pub returns-in-Ok-clause-bytes : goal.returns-in-Ok-clause-bytes
returns-in-Ok-clause-bytes g c told =
    saved_bytes g.H.Host.tells c.args.self.now.slots c.switch.new.slots c.args.self.now.record c.args.store.now c.keep_map.new.store c.release.new.self (g.H.Host.disk c.args.host.now) (g.H.Host.disk c.switch.new.host) c.requires.ready c.in_ok-state.ensures.written (after_is c.args.store.now c.keep_map.new.store c.switch.new.self c.release.new.self c.in_ok-state.ensures.written c.switch.ensures.store c.release.ensures.settled) (next_record c.args.self.now.record c.next.result c.args.commit c.args.position c.root-self.result)
    (c.in-Ok.ensures.switches.put told c.args.store.now.sizes c.args.self.now.record c.args.store.now.maps.saved c.keep_map.new.store.maps.frozen c.args.store.now.maps.conv (saved_page c.args.store.now (g.H.Host.disk c.args.host.now).seen) (present_page c.args.store.now (g.H.Host.disk c.args.host.now).seen)
    (at_switch g.H.Host.tells c.args.self.now.slots c.args.self.now.record c.args.store.now (g.H.Host.disk c.args.host.now) (g.H.Host.disk c.keep_map.new.host) c.requires.ready told (g.met.H.Host.seen_left c.args.host.now told) (c.keep_map.ensures.goes told) c.keep_map.new.store.maps.frozen c.in_ok-state.ensures.written.placed (c.in_ok-state.ensures.holds (c.requires.ready.standing told).known)) c.in_ok-state.ensures.state.2)
    (g.met.H.Host.seen_left c.switch.new.host told)

released_known : (T : Type 0) (v r : Store) (seen : Image) → r.sizes ≡ v.sizes → ((x : Image) → FramesMatch v x → FramesMatch r x) → IsKnown T v seen → IsKnown T r seen
released_known T v r seen same reads known = record { told = known.told; reads = reads seen known.reads; there = subst (λ (l : List ℕ). IsArea l seen) (sym same) known.there }

pub returns-in-Ok-clause-ready : goal.returns-in-Ok-clause-ready
returns-in-Ok-clause-ready g c =
    let placed = c.in_ok-state.ensures.written.placed in
    let high = placed.own 0 placed.some in
    let root : c.root-self.result ≡ block_of c.keep_map.new.store.maps.frozen 0 = c.root-self.ensures ∙ c.in_ok-state.ensures.state.2 in
    can_save_on g.H.Host.tells c.args.self.now.slots c.switch.new.slots c.args.self.now.record c.args.store.now c.keep_map.new.store c.release.new.self (g.H.Host.disk c.args.host.now) (g.H.Host.disk c.switch.new.host) c.requires.ready c.in_ok-state.ensures.written (after_is c.args.store.now c.keep_map.new.store c.switch.new.self c.release.new.self c.in_ok-state.ensures.written c.switch.ensures.store c.release.ensures.settled) (next_record c.args.self.now.record c.next.result c.args.commit c.args.position c.root-self.result) (c.in-Ok.ensures.switches.number.0 ∙ c.requires.ready.place) (sym c.in-Ok.ensures.switches.number.1)
    (next_keeps c.args.self.now.record c.next.result c.args.commit c.args.position c.root-self.result c.requires.ready.keeps c.requires.slot (omega (arith, c.next.ensures, c.requires.next)) c.requires.commit c.requires.position (omega (arith, root, high)) c.root-self.type_inv)
    c.next.ensures
    (fits_on g.H.Host.tells c.args.self.now.slots c.args.self.now.record c.args.store.now c.keep_map.new.store c.release.new.self (g.H.Host.disk c.args.host.now) c.requires.ready c.in_ok-state.ensures.written (after_is c.args.store.now c.keep_map.new.store c.switch.new.self c.release.new.self c.in_ok-state.ensures.written c.switch.ensures.store c.release.ensures.settled)
    c.blocks-old.ensures.sound c.blocks-old.ensures.store c.blocks-blocks.ensures.sound c.blocks-blocks.ensures.store)
    (λ told. stand_on g.H.Host.tells c.args.self.now.slots c.switch.new.slots c.args.self.now.record c.args.store.now c.keep_map.new.store c.release.new.self (g.H.Host.disk c.args.host.now) (g.H.Host.disk c.switch.new.host) c.requires.ready c.in_ok-state.ensures.written (after_is c.args.store.now c.keep_map.new.store c.switch.new.self c.release.new.self c.in_ok-state.ensures.written c.switch.ensures.store c.release.ensures.settled) (next_record c.args.self.now.record c.next.result c.args.commit c.args.position c.root-self.result)
    (c.in-Ok.ensures.switches.put told c.args.store.now.sizes c.args.self.now.record c.args.store.now.maps.saved c.keep_map.new.store.maps.frozen c.args.store.now.maps.conv (saved_page c.args.store.now (g.H.Host.disk c.args.host.now).seen) (present_page c.args.store.now (g.H.Host.disk c.args.host.now).seen)
    (at_switch g.H.Host.tells c.args.self.now.slots c.args.self.now.record c.args.store.now (g.H.Host.disk c.args.host.now) (g.H.Host.disk c.keep_map.new.host) c.requires.ready told (g.met.H.Host.seen_left c.args.host.now told) (c.keep_map.ensures.goes told) c.keep_map.new.store.maps.frozen c.in_ok-state.ensures.written.placed (c.in_ok-state.ensures.holds (c.requires.ready.standing told).known)) c.in_ok-state.ensures.state.2)
    (g.met.H.Host.seen_left c.switch.new.host told)
    (released_known g.H.Host.tells c.switch.new.self c.release.new.self (g.H.Host.disk c.switch.new.host).seen (ap (λ (x : Store). x.sizes) c.release.ensures.settled) c.release.ensures.reads
    (c.switch.ensures.known (subst (λ (l : List ℕ). 2 ≤ get_or l 0 0) (sym (ap (λ (x : Store). x.sizes) c.in_ok-state.ensures.written.same)) c.requires.ready.big) (c.in_ok-state.ensures.known (c.requires.ready.standing told).known))))

pub returns-in-Ok-clause-spare : goal.returns-in-Ok-clause-spare
returns-in-Ok-clause-spare g c = spare_is g.H.Host.tells c.args.self.now.slots c.args.self.now.record c.args.store.now c.keep_map.new.store c.release.new.self (g.H.Host.disk c.args.host.now) c.requires.ready c.in_ok-state.ensures.written (after_is c.args.store.now c.keep_map.new.store c.switch.new.self c.release.new.self c.in_ok-state.ensures.written c.switch.ensures.store c.release.ensures.settled)
    c.blocks-old.ensures.sound c.blocks-old.ensures.store c.blocks-blocks.ensures.sound c.blocks-blocks.ensures.store

pub returns-in-Ok-clause-stamped : goal.returns-in-Ok-clause-stamped
returns-in-Ok-clause-stamped g c = stamped_on g.H.Host.tells c.args.self.now.slots c.switch.new.slots c.args.self.now.record c.args.store.now c.keep_map.new.store c.release.new.self (g.H.Host.disk c.args.host.now) (g.H.Host.disk c.switch.new.host) c.requires.ready c.in_ok-state.ensures.written (after_is c.args.store.now c.keep_map.new.store c.switch.new.self c.release.new.self c.in_ok-state.ensures.written c.switch.ensures.store c.release.ensures.settled)

pub returns-in_err-state-clause-elsewhere : goal.returns-in_err-state-clause-elsewhere
returns-in_err-state-clause-elsewhere g c told = (c.keep_map.ensures.seen told).others Log (λ i lt is. absurd cc)

pub returns-in-Ok-clause-elsewhere : goal.returns-in-Ok-clause-elsewhere
returns-in-Ok-clause-elsewhere g c told =
    beside_log c.args.self.now.slots.place (g.H.Host.disk c.keep_map.new.host).seen (g.H.Host.disk c.switch.new.host).seen c.requires.ready.place (c.switch.ensures.switches.seen told)
    ∙ (c.keep_map.ensures.seen told).others Log (λ i lt is. absurd cc)

pub returns-in-Err-clause-elsewhere : goal.returns-in-Err-clause-elsewhere
returns-in-Err-clause-elsewhere g c told =
    beside_log c.args.self.now.slots.place (g.H.Host.disk c.keep_map.new.host).seen (g.H.Host.disk c.switch.new.host).seen c.requires.ready.place (c.switch.ensures.switches.seen told)
    ∙ (c.keep_map.ensures.seen told).others Log (λ i lt is. absurd cc)
