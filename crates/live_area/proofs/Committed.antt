-- A commit was appended, and then set.
--     can_save_after, count_after, sound_set      the area is sound then
--     either, served, only_failed      what it leaves
use Rattle.std.proofs.Common.{◌≡◌, ◌⊎◌, inr, sym, ap, subst, ◌∙◌, ℕ, ◌+◌, ◌-◌, ◌^◌, ◌<◌, ◌≤◌, List, [], length, Result, Ok, Err, arith}
use Rattle.std.specs.Prelude.{OnOk, IfErr}
use Rattle.mdb_model.specs.declared.change.Commit.{Commit}
use Rattle.mdb_model.specs.declared.fault.Device.TheVariants.{Log}
use Rattle.mdb_model.specs.declared.fault.PageFault.{PageFault}
use Rattle.mdb_model.specs.declared.fault.PageFault.TheVariants.{Failed as PageFailed}
use Rattle.mdb_model.specs.Images.{size_of}
use Rattle.mdb_model.specs.Worlds.{World}
use Rattle.mdb_host.specs.Disk.{Disk, Goes, Arrives, AgreeBut}
use Rattle.mdb_bytes.specs.declared.restart_record.RestartRecord.{RestartRecord}
use Rattle.mdb_bytes.specs.Fields.{Spells}
use Rattle.mdb_bytes.specs.Groups.{group_format}
use Rattle.mdb_bytes.specs.Rings.{HasRing}
use Rattle.mdb_bytes.proofs.ChangeRuns.{group_long}
use Rattle.gate_slots.specs.declared.slots.Slots.{Slots}
use Rattle.page_store.specs.declared.record.RecordInForce.{RecordInForce}
use Rattle.page_store.specs.Opens.{own_pages}
use Rattle.page_store.specs.Store.{Store}
use Rattle.page_store.specs.WholeSavepoint.{CanSave}
use Rattle.redo_ring.specs.declared.ring.Ring.{Ring}
use Rattle.redo_ring.specs.Calls.{InOrder}
use Rattle.redo_ring.specs.Ring.{Appends, Appended, HasGroup}
use Rattle.standing.specs.Appending.{with_commit}
use Rattle.standing.specs.WholeStanding.{StandsWhole}
use Rattle.kept_worlds.specs.InService.{AtEachMoment, AllStand, IsPlain}
use Rattle.kept_worlds.proofs.Beside.{can_save_beside}
use Rattle.page_ground.specs.Aims.{KeepsWorlds}
use Rattle.page_ground.specs.AimLaws.{at_both}
use Rattle.page_ground.specs.LogKnown.{IsLogKnown}
use Rattle.store_rows.specs.StoredRows.{stored_rows, HasRows}
use Rattle.mdb_model.specs.Sessions.{group_bytes}
use Rattle.mdb_model.specs.Tables.{with_changes}
use Rattle.page_ground.specs.SetGroups.{HasTheseRows, SetsAll}
use Rattle.live_area.specs.Serving.{IsSoundArea, ServesWorld, CanTakeCommit, read_from, reader_at_end, point_before as point_at_end, IsSet}
use Rattle.live_area.proofs.Appended.{with_group, reader_after, point_before, each_either, all_more, plain_more, known, rows, stands, next_one, none_after, room_to_set, room_for_one, serves_after}

-- A savepoint can be made still once a group was appended
pub can_save_after : (tells : Type 0) (slots : Slots) (r : RestartRecord) (s : Store) (ring : Ring) (group : List ℕ) (d e : Disk) → HasGroup ring.name (ring.last_commit + 1) group → CanSave tells slots r s d
    → (tells → (c : Commit) → Spells group_format (record { name = ring.name; number = ring.last_commit + 1; changes = c.changes }) group → Goes d e (Appends ring.size ring.name ring.end_position ring.last_commit c.changes)) → (tells → AgreeBut Log d.seen e.seen) → CanSave tells slots r s e
can_save_after tells slots r s ring group d e has can goes beside = record {
  place = can.place;
  number = can.number;
  keeps = can.keeps;
  next = can.next;
  thawed = can.thawed;
  unpinned = can.unpinned;
  unmarked = can.unmarked;
  fits = can.fits;
  placed = can.placed;
  big = can.big;
  standing = λ told.
      let g = goes told (record { changes = has.0 }) has.1 in
      (can_save_beside tells slots r s d e (beside told) (λ image left. (let x = g.since e.now image g.keeps.later (omega arith) left in (x.0, x.1, x.2.others))) can).standing told;
}

-- a group has bytes
pub group_some : (ring : Ring) (group : List ℕ) → HasGroup ring.name (ring.last_commit + 1) group → 33 ≤ length group
group_some ring group has = (group_long (record { name = ring.name; number = ring.last_commit + 1; changes = has.0 }) group has.1).1

pub sound_set : (tells : Type 0) (slots : Slots) (r : RestartRecord) (t : Store) (ring ring1 ring2 : Ring) (n : ℕ) (e f : Disk) → InOrder ring → ring1 ≡ with_group ring n → ring2 ≡ read_from ring1 r → 33 ≤ n → ring.end_position + n < 2 ^ 62 → CanSave tells slots r t f → (tells → HasRing ring.size e.seen) → (tells → f.seen Log ≡ e.seen Log) → IsSoundArea tells slots r t ring2 f
sound_set tells slots r t ring ring1 ring2 n e f order one two some low can there same =
    subst (λ x. IsSoundArea tells slots r t x f) (sym (two ∙ ap (λ x. read_from x r) one)) (record {
      can_save = can;
      order = record { size = order.size; saved = omega (arith, order.saved); redo = omega arith; low = omega (arith, low); count = omega (arith, order.count, some) };
      there = λ told. ap size_of (same told) ∙ there told;
    })

pub on_both : {T E : Type 0} (A B C : Type 0) (result : Result T E) → (A → B → C) → OnOk result A → OnOk result B → OnOk result C
on_both A B C (Ok value) f a b = f a b
on_both A B C (Err fault) f a b = tt

module _ (tells : Type 0) (was now : RecordInForce) (s t : Store) (ring ring1 ring2 : Ring) (d e f : Disk) (w : World) (c : Commit) (group : List ℕ) (result : Result (Unit {0}) PageFault)
    (serves : ServesWorld tells was.slots was.record s ring d w) (can : CanTakeCommit w c) (order : InOrder ring)
    (low : ring.end_position + length group < 2 ^ 62) (unsaved : (ring.end_position - ring.saved_position) + length group + 1 ≤ ring.size) (needed : (ring.end_position - ring.redo_position) + length group + 1 ≤ ring.size)
    (goes : Goes d e (Appends ring.size ring.name ring.end_position ring.last_commit c.changes)) (arrives : Arrives d e (Appended ring.size ring.name ring.end_position ring.last_commit c.changes)) (beside : AgreeBut Log d.seen e.seen)
    (there : tells → HasRing ring.size e.seen) (seen_left : d.may_leave d.now d.seen) (seen_left2 : e.may_leave e.now e.seen) (seen_left3 : f.may_leave f.now f.seen)
    (spelled : Spells group_format (record { name = ring.name; number = ring.last_commit + 1; changes = c.changes }) group) (low_last : ring.last_commit + 1 < 2 ^ 62)
    (one : ring1 ≡ with_group ring (length group)) (two : ring2 ≡ read_from ring1 now.record) (set : IsSet tells (reader_at_end ring1) (point_at_end ring1 (length group)) s t was now group e f result) where
  abbrev n : ℕ
  n = length group

  abbrev more : World
  more = with_commit w c

  long : n ≡ group_bytes c.changes
  long = (group_long (record { name = ring.name; number = ring.last_commit + 1; changes = c.changes }) group spelled).0

  point_same : point_at_end (with_group ring n) n ≡ point_before ring
  point_same = λ i. record { commit = (let a : (ring.last_commit + 1) - 1 ≡ ring.last_commit = omega arith in a i); position = (let a : (ring.end_position + n) - n ≡ ring.end_position = omega arith in a i) }

  set_here : IsSet tells (reader_after ring n) (point_before ring) s t was now group e f result
  set_here = subst (λ p. IsSet tells (reader_after ring n) p s t was now group e f result) point_same (subst (λ x. IsSet tells (reader_at_end x) (point_at_end x n) s t was now group e f result) one set)

  has : HasRows tells s e.seen
  has = rows tells was.slots was.record s ring d e w c n group serves can order long low unsaved needed arrives beside there seen_left seen_left2 spelled low_last

  knows : IsLogKnown tells (reader_after ring n) e.seen
  knows = known tells was.slots was.record s ring d e w c n group serves can order long low unsaved needed arrives beside there seen_left seen_left2 spelled low_last

  all : AllStand more e
  all = all_more tells was.slots was.record s ring d e w c n group serves can order long low unsaved needed arrives beside there seen_left seen_left2 spelled low_last

  plain : IsPlain more
  plain = plain_more tells was.slots was.record s ring d e w c n group serves can order long low unsaved needed arrives beside there seen_left seen_left2 spelled low_last

  kept : KeepsWorlds e f × OnOk result (SetsAll tells now.slots now.record (reader_after ring n) (ring.last_commit + 1) t e f)
  kept =
      set_here.kept has knows
      (stands tells was.slots was.record s ring d e w c n group serves can order long low unsaved needed arrives beside there seen_left seen_left2 spelled low_last)
      (next_one tells was.slots was.record s ring d e w c n group serves can order long low unsaved needed arrives beside there seen_left seen_left2 spelled low_last)
      (none_after tells was.slots was.record s ring d e w c n group serves can order long low unsaved needed arrives beside there seen_left seen_left2 spelled low_last)
      (room_to_set tells was.slots was.record s ring d e w c n group serves can order long low unsaved needed arrives beside there seen_left seen_left2 spelled low_last)

  pub either : AtEachMoment d f (λ image. StandsWhole image w ⊎ StandsWhole image more)
  either =
      let each = kept.0.each_world more all plain in
      at_both d e f (λ image. StandsWhole image w ⊎ StandsWhole image more) (each_either tells was.slots was.record s ring d e w c n group serves can order long low unsaved needed goes)
      (record { keeps = each.keeps; quiet = each.quiet; each = λ at image from upto left. inr (each.each at image from upto left) })

  pub only_failed : IfErr result (λ fault. fault ≡ PageFailed)
  only_failed =
      set_here.whole has knows ring.name (ring.last_commit + 1) c.changes [] spelled
      (room_for_one tells was.slots was.record s ring d e w c n group serves can order long low unsaved needed arrives beside there seen_left seen_left2 spelled low_last)
      (serves.service.conv ∙ ap own_pages (sym serves.service.blocks))

  pub served : OnOk result (ServesWorld tells now.slots now.record t ring2 f more)
  served =
      on_both (SetsAll tells now.slots now.record (reader_after ring n) (ring.last_commit + 1) t e f) (HasTheseRows tells t f.seen (with_changes c.changes (stored_rows s e.seen))) (ServesWorld tells now.slots now.record t ring2 f more) result
      (λ sets these.
      subst (λ x. ServesWorld tells now.slots now.record t x f more) (sym (two ∙ ap (λ x. read_from x now.record) one))
      (serves_after tells was.slots was.record s ring d e w c n group serves can order long low unsaved needed arrives beside there seen_left seen_left2 spelled low_last now.slots now.record t f seen_left3 kept.0 sets these))
      kept.1 (set_here.rows has knows ring.name (ring.last_commit + 1) c.changes spelled)
