use Rattle.std.proofs.Common.{◌≡◌, ◌⊎◌, ◌-◌, ℕ, List, sym, subst, get_or, ◌≤◌}
use Rattle.std.specs.Prelude.{IfErr}
use Rattle.mdb_host.proofs.Reading.{reads_on}
use Rattle.mdb_model.specs.Images.{Image}
use Rattle.mdb_model.specs.declared.fault.OpenFault.TheVariants.{Failed, Memory}
use Rattle.mdb_bytes.specs.Rings.{HasRing}
use Rattle.converter.specs.Loads.{IsRead}
use Rattle.page_store.specs.Store.{block_count}
use Rattle.gate_slots.specs.declared.body.SlotBody.TheVariants.{Restart}
use Rattle.gate_slots.specs.Slots.{IsReady}
use Rattle.volume_disk.specs.Blocks.{IsArea, IsDurable, block_at}
use Rattle.page_ground.proofs.Passing.{err_passed}
use Rattle.mdb_host.proofs.Moments.{agree_on}
use Rattle.live_area.proofs.Found.{same_image, same_twice, read_after, each_still, durable_after, whole_log, no_damage, sound_map, opened_on, awaits_redo}
use Rattle.live_area.proofs.area.LiveArea.read.Goals as goal

pub returns-in_err-ring-clause-whole : goal.returns-in_err-ring-clause-whole
returns-in_err-ring-clause-whole g c told w found =
    err_passed (λ result. IfErr result (λ fault. (fault ≡ Memory) ⊎ (fault ≡ Failed))) c.in_err-ring.field-0.0 c.from_residual.result c.from_residual.ensures.1
    (no_damage c.args.in_force.record c.args.start.now (g.H.Host.disk c.args.host.now) w found c.in_err-ring.field-0.0
    (c.in_err-ring.ensures.ends told _ _ (whole_log c.args.in_force.record c.args.start.now (g.H.Host.disk c.args.host.now) w found)))

pub open-requires-2-clause-there : goal.open-requires-2-clause-there
open-requires-2-clause-there g c told =
    subst (IsArea c.args.in_force.record.volumes.items) (sym (same_image (g.H.Host.disk c.args.host.now).seen (g.H.Host.disk c.open.new.host).seen (c.open.ensures.seen told))) (c.requires.there told)

pub returns-in_err-store-clause-whole : goal.returns-in_err-store-clause-whole
returns-in_err-store-clause-whole g c told w found =
    err_passed (λ result. IfErr result (λ fault. (fault ≡ Memory) ⊎ (fault ≡ Failed))) c.in_err-store.field-0.0 c.from_residual-in_err-store.result c.from_residual-in_err-store.ensures.1
    (sound_map c.args.in_force.record c.args.start.now (g.H.Host.disk c.args.host.now) w found g.H.Host.tells (g.H.Host.disk c.open.new.host).seen c.in_err-store.field-0.0 told
    (same_image (g.H.Host.disk c.args.host.now).seen (g.H.Host.disk c.open.new.host).seen (c.open.ensures.seen told)) c.in_err-store.ensures.broken)

pub returns-in_err-store-clause-reads : goal.returns-in_err-store-clause-reads
returns-in_err-store-clause-reads g c =
    reads_on g.H.Host c.args.host.now c.open.new.host c.open-2.new.host (record { calm = c.open.ensures.calm; seen = c.open.ensures.seen; later = c.open.ensures.later; say_faults = c.open.ensures.say_faults }) c.open-2.ensures.reads

pub returns-then-not-savepoint_fits-clause-whole : goal.returns-then-not-savepoint_fits-clause-whole
returns-then-not-savepoint_fits-clause-whole g c told w found =
    let fits = c.an_opened_store_can_save.ensures.fits c.args.in_force.slots c.args.in_force.record found.info c.in_ok-store.store c.open-2.new.host w
    (opened_on c.args.in_force.record c.args.start.now (g.H.Host.disk c.args.host.now) w found g.H.Host.tells told c.args.in_force.slots c.in_ok-store.store (g.H.Host.disk c.open-2.new.host)
    (agree_on (g.H.Host.disk c.args.host.now) (g.H.Host.disk c.open.new.host) (g.H.Host.disk c.open-2.new.host) (c.open.ensures.calm told) (c.open-2.ensures.reads.calm told))
    (same_twice (g.H.Host.disk c.args.host.now).seen (g.H.Host.disk c.open.new.host).seen (g.H.Host.disk c.open-2.new.host).seen (c.open.ensures.seen told) (c.open-2.ensures.reads.seen told))
    c.requires.body (c.requires.ready told) (c.requires.durable told) c.in_ok-store.ensures.opened c.blocks-blocks.ensures.sound c.blocks-blocks.ensures.store (c.in_ok-store.ensures.known told)
    (read_after c.args.in_force.record.volumes.items (g.H.Host.disk c.open.new.host).seen (g.H.Host.disk c.open-2.new.host).seen c.in_ok-store.store c.args.in_force.record.root (c.open-2.ensures.reads.seen told) (c.in_ok-store.ensures.read told)) c.in_ok-store.ensures.own) in
    let yes = c.savepoint_fits.ensures.1 fits in
    absurd (cc (yes, c.if-not-savepoint_fits.true))

pub returns-then-not-savepoint_fits-clause-reads : goal.returns-then-not-savepoint_fits-clause-reads
returns-then-not-savepoint_fits-clause-reads g c =
    reads_on g.H.Host c.args.host.now c.open.new.host c.open-2.new.host (record { calm = c.open.ensures.calm; seen = c.open.ensures.seen; later = c.open.ensures.later; say_faults = c.open.ensures.say_faults }) c.open-2.ensures.reads

pub returns-clause-sound : goal.returns-clause-sound
returns-clause-sound g c = record {
  can_save =
      let sizes = sym c.in_ok-store.ensures.opened.sizes_are in
      c.opened_can_save.ensures c.args.in_force.slots c.args.in_force.record c.in_ok-store.store c.open-2.new.host c.requires.body c.in_ok-store.ensures.opened c.blocks-blocks.ensures.sound c.blocks-blocks.ensures.store
      (c.savepoint_fits.ensures.0 (cc (c.if-not-savepoint_fits.false)))
      (subst (λ (z : List ℕ). 2 ≤ get_or z 0 0) sizes c.requires.big)
      c.in_ok-store.ensures.own
      c.in_ok-store.ensures.known
      (λ told. subst (λ (z : List ℕ). IsRead c.in_ok-store.store.maps.conv (block_count c.in_ok-store.store) c.args.in_force.record.root (block_at z (g.H.Host.disk c.open-2.new.host).seen) (c.in_ok-store.store.maps.conv - 1) c.in_ok-store.store.maps.saved) sizes
      (read_after c.args.in_force.record.volumes.items (g.H.Host.disk c.open.new.host).seen (g.H.Host.disk c.open-2.new.host).seen c.in_ok-store.store c.args.in_force.record.root (c.open-2.ensures.reads.seen told) (c.in_ok-store.ensures.read told)))
      (λ told. subst (λ (z : List ℕ). IsDurable z (g.H.Host.disk c.open-2.new.host)) sizes (durable_after c.args.in_force.record.volumes.items (g.H.Host.disk c.args.host.now) (g.H.Host.disk c.open-2.new.host) (agree_on (g.H.Host.disk c.args.host.now) (g.H.Host.disk c.open.new.host) (g.H.Host.disk c.open-2.new.host) (c.open.ensures.calm told) (c.open-2.ensures.reads.calm told)) (same_twice (g.H.Host.disk c.args.host.now).seen (g.H.Host.disk c.open.new.host).seen (g.H.Host.disk c.open-2.new.host).seen (c.open.ensures.seen told) (c.open-2.ensures.reads.seen told)) (c.requires.durable told)))
      (λ told. each_still (g.H.Host.disk c.args.host.now) (g.H.Host.disk c.open-2.new.host) (λ image. IsReady c.args.in_force.slots (Restart c.args.in_force.record) image) (agree_on (g.H.Host.disk c.args.host.now) (g.H.Host.disk c.open.new.host) (g.H.Host.disk c.open-2.new.host) (c.open.ensures.calm told) (c.open-2.ensures.reads.calm told)) (c.requires.ready told));
  order = c.in_ok-ring.ensures.opened.order;
  there = λ told.
      let same = same_twice (g.H.Host.disk c.args.host.now).seen (g.H.Host.disk c.open.new.host).seen (g.H.Host.disk c.open-2.new.host).seen (c.open.ensures.seen told) (c.open-2.ensures.reads.seen told) in
      subst (λ (x : ℕ × Image). HasRing x.0 x.1) (λ i. (sym c.in_ok-ring.ensures.opened.size i, sym same i)) (c.requires.ring told);
}

pub returns-clause-awaits : goal.returns-clause-awaits
returns-clause-awaits g c told w found =
    let goes = agree_on (g.H.Host.disk c.args.host.now) (g.H.Host.disk c.open.new.host) (g.H.Host.disk c.open-2.new.host) (c.open.ensures.calm told) (c.open-2.ensures.reads.calm told) in
    let same = same_twice (g.H.Host.disk c.args.host.now).seen (g.H.Host.disk c.open.new.host).seen (g.H.Host.disk c.open-2.new.host).seen (c.open.ensures.seen told) (c.open-2.ensures.reads.seen told) in
    let read = read_after c.args.in_force.record.volumes.items (g.H.Host.disk c.open.new.host).seen (g.H.Host.disk c.open-2.new.host).seen c.in_ok-store.store c.args.in_force.record.root (c.open-2.ensures.reads.seen told) (c.in_ok-store.ensures.read told) in
    awaits_redo c.args.in_force.record c.args.start.now (g.H.Host.disk c.args.host.now) w found g.H.Host.tells told c.args.in_force.slots c.in_ok-store.store (g.H.Host.disk c.open-2.new.host) goes same
    c.requires.body (c.requires.ready told) (c.requires.durable told) c.in_ok-store.ensures.opened c.blocks-blocks.ensures.sound c.blocks-blocks.ensures.store (c.in_ok-store.ensures.known told) read c.in_ok-store.ensures.own
    c.in_ok-ring.ring (g.met.H.Host.seen_left c.open-2.new.host told)
    (c.an_opened_store_starts_service.ensures c.args.in_force.slots c.args.in_force.record found.info c.in_ok-store.store c.open-2.new.host w
    (opened_on c.args.in_force.record c.args.start.now (g.H.Host.disk c.args.host.now) w found g.H.Host.tells told c.args.in_force.slots c.in_ok-store.store (g.H.Host.disk c.open-2.new.host) goes same
    c.requires.body (c.requires.ready told) (c.requires.durable told) c.in_ok-store.ensures.opened c.blocks-blocks.ensures.sound c.blocks-blocks.ensures.store (c.in_ok-store.ensures.known told) read c.in_ok-store.ensures.own))
    c.in_ok-ring.ensures.opened
    (c.in_ok-ring.ensures.ends told _ _ (whole_log c.args.in_force.record c.args.start.now (g.H.Host.disk c.args.host.now) w found))

pub returns-clause-reads : goal.returns-clause-reads
returns-clause-reads g c =
    reads_on g.H.Host c.args.host.now c.open.new.host c.open-2.new.host (record { calm = c.open.ensures.calm; seen = c.open.ensures.seen; later = c.open.ensures.later; say_faults = c.open.ensures.say_faults }) c.open-2.ensures.reads
