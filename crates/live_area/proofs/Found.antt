-- A database that a restart has read.
--     log_whole      both ways to the end of its log agree
--     not_damaged, sound_map      so neither the log nor the map is called damaged
--     opened_on      what was opened goes by the record
--     awaits_redo      the database is in service, with the log to be redone
use Rattle.std.proofs.Common.{◌≡◌, ◌⊎◌, inl, inr, refl, sym, ap, subst, ◌∙◌, ℕ, ◌+◌, ◌-◌, ◌<◌, min, List, length, Some, Err, arith, sum}
use Rattle.std.proofs.Math.Nat.{min-le_left, min-le_right}
use Rattle.std.proofs.lemmas.Option.{same_Some}
use Rattle.mdb_model.specs.declared.change.Commit.{Commit}
use Rattle.mdb_model.specs.declared.fault.OpenFault.{OpenFault}
use Rattle.mdb_model.specs.declared.fault.OpenFault.TheVariants.{Memory, Failed, Damaged}
use Rattle.mdb_model.specs.History.{commits_above}
use Rattle.mdb_model.specs.Images.{Image}
use Rattle.mdb_model.specs.Worlds.{World, Live}
use Rattle.mdb_host.specs.Disk.{Disk, Goes, Agree}
use Rattle.mdb_bytes.specs.declared.log_info.LogInfo.{LogInfo}
use Rattle.mdb_bytes.specs.declared.restart_record.AreaState.TheVariants.{Normal}
use Rattle.mdb_bytes.specs.declared.restart_record.RestartRecord.{RestartRecord}
use Rattle.mdb_bytes.specs.LogReading.{IsLog, log_bytes}
use Rattle.mdb_bytes.specs.Rings.{ring_byte, ring_size}
use Rattle.gate_slots.specs.declared.body.SlotBody.TheVariants.{Restart}
use Rattle.gate_slots.specs.declared.slots.Slots.{Slots}
use Rattle.gate_slots.specs.Slots.{HasBody, IsReady, in_force}
use Rattle.volume_disk.specs.Blocks.{IsDurable, block_at}
use Rattle.converter.specs.Loads.{IsRead, Breaks}
use Rattle.converter.specs.Maps.{IsSoundMaps, block_of}
use Rattle.savepoint.specs.Stands.{restart_place}
use Rattle.page_store.specs.Opens.{IsStoreOpened, OpenFaultReports, own_pages}
use Rattle.page_store.specs.Store.{Store, IsStore, IsKnown, block_count}
use Rattle.redo_ring.specs.declared.open.LogStart.{LogStart}
use Rattle.redo_ring.specs.declared.ring.Ring.{Ring}
use Rattle.redo_ring.specs.Opening.{IsWhole, OpenEnds, IsRingOpened}
use Rattle.standing.specs.Looks.{LogPoint, look, log_after, redo_after, saved_after, redo_point, saved_point, record_in, log_info_in, open_medium, saved_in_force}
use Rattle.standing.specs.Standing.{data_slots}
use Rattle.standing.specs.WholeStanding.{LookStands, StandsWhole, AreaIsLive, needed_from}
use Rattle.standing.proofs.LookLaws.{log_is}
use Rattle.standing.proofs.SavepointStands.{needed_in_service}
use Rattle.kept_worlds.specs.InService.{AtEachMoment, IsShown, IsInService}
use Rattle.opened_worlds.specs.Opened.{IsOpenedOn, StartsService}
use Rattle.opened_worlds.proofs.Live.{area, record_is, same_record, whole}
use Rattle.live_area.specs.Serving.{saved_by}
use Rattle.live_area.specs.Awaiting.{AwaitsRedo, IsFound}

pub same_image : (old new : Image) → Agree old new → new ≡ old
same_image old new agree = λ i device. agree device i

pub same_twice : (a b c : Image) → Agree a b → Agree b c → c ≡ a
same_twice a b c one two = same_image b c two ∙ same_image a b one

-- a map that was read before other reads
pub read_after : (sizes : List ℕ) (old new : Image) (s : Store) (root : ℕ) → Agree old new → IsRead s.maps.conv (block_count s) root (block_at sizes old) (s.maps.conv - 1) s.maps.saved → IsRead s.maps.conv (block_count s) root (block_at sizes new) (s.maps.conv - 1) s.maps.saved
read_after sizes old new s root agree = subst (λ (x : Image). IsRead s.maps.conv (block_count s) root (block_at sizes x) (s.maps.conv - 1) s.maps.saved) (sym (same_image old new agree))

-- what holds of each image that a crash might leave before calls that only read, holds of each after
pub each_still : (d f : Disk) (P : Image → Type 0) → Goes d f Agree → ((image : Image) → d.may_leave d.now image → P image) → (image : Image) → f.may_leave f.now image → P image
each_still d f P goes each image left =
    let x = goes.since f.now image goes.keeps.later (omega arith) left in
    subst P (sym (same_image x.0 image x.2)) (each x.0 x.1)

pub durable_after : (sizes : List ℕ) (d f : Disk) → Goes d f Agree → f.seen ≡ d.seen → IsDurable sizes d → IsDurable sizes f
durable_after sizes d f goes same durable image left b lt =
    each_still d f (λ image. block_at sizes image b ≡ block_at sizes d.seen b) goes (λ image left. durable image left b lt) image left ∙ (λ i. block_at sizes (sym same i) b)

-- calls that only read keep the world at each moment
pub reads_each : (r : RestartRecord) (start : LogStart) (d f : Disk) (w : World) → IsFound r start d w → Goes d f Agree → AtEachMoment d f (λ image. StandsWhole image w)
reads_each r start d f w found goes = record {
  keeps = goes.keeps;
  quiet = goes.quiet;
  each = λ t image from upto left.
      let x = goes.since t image from upto left in
      subst (λ l. LookStands l w) (sym (found.synced x.0 x.1) ∙ ap look (sym (same_image x.0 image x.2))) found.stands;
}

module _ (r : RestartRecord) (start : LogStart) (d : Disk) (w : World) (found : IsFound r start d w) where
  abbrev pub live : w.area ≡ Live
  live = (found.stands.stage.generation refl).0

  abbrev pub here : AreaIsLive (look d.seen) w
  here = area d.seen w r found.stands live found.restart

  in_record : record_in d.seen ≡ Some r
  in_record = record_is d.seen w r found.stands live found.restart

  abbrev info : LogInfo
  info = found.info

  abbrev saved : LogPoint
  saved = saved_point (look d.seen)

  abbrev log : List Commit
  log = here.rows.log

  abbrev unsaved : List Commit
  unsaved = commits_above w.history w.saved

  abbrev bytes : ℕ → ℕ
  bytes = ring_byte (ring_size info.pages) d.seen

  log_read : log_after d.seen info r.name (redo_point r) ≡ Some log
  log_read = sym (λ i. redo_after d.seen (found.log_info i) (in_record i)) ∙ here.rows.in_log

  log_there : IsLog bytes r.name r.position r.commit log
  log_there = log_is d.seen info r.name (redo_point r) log log_read

  saved_is : saved ≡ saved_in_force (Some r) (Some info) (open_medium d.seen)
  saved_is = λ i. saved_in_force (in_record i) (found.log_info i) (open_medium d.seen)

  unsaved_read : log_after d.seen info r.name saved ≡ Some unsaved
  unsaved_read =
      ap (log_after d.seen info r.name) saved_is
      ∙ sym (λ i. saved_after d.seen (found.log_info i) (in_record i)) ∙ found.stands.log.commits

  unsaved_there : IsLog bytes r.name saved.position saved.commit unsaved
  unsaved_there = log_is d.seen info r.name saved unsaved unsaved_read

  at_position : here.rec.position ≡ r.position
  at_position = ap (λ (x : RestartRecord). x.position) (same_record d.seen w r found.stands live found.restart)

  at_commit : here.rec.commit ≡ r.commit
  at_commit = ap (λ (x : RestartRecord). x.commit) (same_record d.seen w r found.stands live found.restart)

  normal : r.state ≡ Normal
  normal = ap (λ (x : RestartRecord). x.state) (sym (same_record d.seen w r found.stands live found.restart)) ∙ here.normal

  needed_is : needed_from (look d.seen) ≡ min r.position saved.position
  needed_is = needed_in_service (look d.seen).restart r saved.position in_record normal

  ring_is : w.ring ≡ ring_size info.pages
  ring_is = found.stands.log_size.ring ∙ ap (λ (i : LogInfo). ring_size i.pages) (same_Some found.stands.info info (sym found.stands.in_force ∙ found.log_info))

  pub whole_log : IsWhole start (ring_byte (ring_size start.pages) d.seen) log unsaved
  whole_log =
      subst (λ (x : LogStart). IsWhole x (ring_byte (ring_size x.pages) d.seen) log unsaved) (sym found.begins) (record {
        log = log_there;
        room = omega (arith, at_position, here.rows.same_end, found.stands.log.fits, needed_is, min-le_left r.position saved.position, ring_is);
        unsaved_log = unsaved_there;
        unsaved_room = omega (arith, found.stands.log.fits, needed_is, min-le_right r.position saved.position, ring_is);
        ends = omega (arith, at_position, here.rows.same_end);
        count = omega (arith, at_commit, here.rows.same_number);
      })

  pub no_damage : (fault : OpenFault) → OpenEnds start log (Err fault) → (fault ≡ Memory) ⊎ (fault ≡ Failed)
  no_damage Memory ends = inl refl
  no_damage Failed ends = inr refl
  no_damage (Damaged damage) ends = absurd ends

  -- the map is read from an image that gives the same
  pub sound_map : (tells : Type 0) (seen : Image) (fault : OpenFault) → tells → seen ≡ d.seen
      → OpenFaultReports (λ damage. tells → Breaks r.volumes.items (own_pages (sum r.volumes.items)) (sum r.volumes.items) r.root (block_at r.volumes.items seen) damage) fault → (fault ≡ Memory) ⊎ (fault ≡ Failed)
  sound_map tells seen Memory told same reports = inl refl
  sound_map tells seen Failed told same reports = inr refl
  sound_map tells seen (Damaged damage) told same reports =
      absurd (whole d.seen w r found.stands live found.restart damage (subst (λ (x : Image). Breaks r.volumes.items (own_pages (sum r.volumes.items)) (sum r.volumes.items) r.root (block_at r.volumes.items x) damage) same (reports told)))

  module _ (tells : Type 0) (told : tells) (slots : Slots) (s : Store) (f : Disk) (goes : Goes d f Agree) (same : f.seen ≡ d.seen)
      (body : HasBody restart_place slots (Restart r)) (ready : (image : Image) → d.may_leave d.now image → IsReady slots (Restart r) image) (durable : IsDurable r.volumes.items d)
      (opened : IsStoreOpened s r.volumes.items r.savepoint) (sound : IsSoundMaps s.maps) (store : IsStore s) (known : IsKnown tells s f.seen)
      (read : IsRead s.maps.conv (block_count s) r.root (block_at r.volumes.items f.seen) (s.maps.conv - 1) s.maps.saved) (own : (q : ℕ) → q < s.maps.conv → 1 < block_of s.maps.saved q) where
    pub opened_on : IsOpenedOn tells slots r info s f w
    opened_on = record {
      told = told;
      stands = subst (λ x. StandsWhole x w) (sym same) found.stands;
      synced = λ image left. each_still d f (λ image. look image ≡ look d.seen) goes found.synced image left ∙ ap look (sym same);
      restart = ap (λ x. in_force x data_slots) same ∙ found.restart;
      log_info = ap log_info_in same ∙ found.log_info;
      slots_read = body;
      ready = each_still d f (λ image. IsReady slots (Restart r) image) goes ready;
      durable = durable_after r.volumes.items d f goes same durable;
      opened = opened;
      sound = sound;
      store = store;
      known = known;
      read = read;
      own = own;
    }

    pub awaits_redo : (ring : Ring) → f.may_leave f.now f.seen → StartsService tells slots r info s f w → IsRingOpened start ring → (ring.end_position ≡ start.position + log_bytes log) × (ring.last_commit ≡ start.commit + length log) → AwaitsRedo tells slots r s ring f w
    awaits_redo ring left starts is ends =
        let shown : IsShown r info starts.saved starts.log (look f.seen) = starts.service.shown f.seen left in
        let same_log : log ≡ starts.log = same_Some log starts.log (sym here.rows.in_log ∙ (λ i. (look (sym same i)).redo_log) ∙ shown.redo) in
        let saved_now : starts.saved ≡ saved_by ring = sym shown.saved_upto ∙ ap (λ x. saved_point (look x)) same
        ∙ (λ i. record { commit = ap (λ (x : LogStart). x.saved_commit) (sym found.begins) i; position = ap (λ (x : LogStart). x.saved_position) (sym found.begins) i })
        ∙ (λ i. record { commit = sym is.saved_number i; position = sym is.saved i }) in
        record {
          stand = starts.stand;
          plain = starts.plain;
          info = info;
          log = starts.log;
          service = subst (λ p. IsInService tells slots r info p starts.log s f) saved_now starts.service;
          rows = starts.rows;
          aimed = starts.aimed;
          room = starts.room;
          blocks = starts.blocks;
          ends = record {
            position = ends.0 ∙ (λ i. (found.begins i).position + log_bytes (same_log i));
            commit = ends.1 ∙ (λ i. (found.begins i).commit + length (same_log i));
          };
          name = is.name ∙ ap (λ (x : LogStart). x.name) found.begins;
          size = is.size ∙ ap (λ (x : LogStart). ring_size x.pages) found.begins;
          there = subst (λ n. IsLog (ring_byte n f.seen) r.name r.position r.commit starts.log) (sym (is.size ∙ ap (λ (x : LogStart). ring_size x.pages) found.begins)) starts.there;
          short = omega (arith, starts.short, is.size, ap (λ (x : LogStart). ring_size x.pages) found.begins);
        }
