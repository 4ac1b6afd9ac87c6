-- What a call on a medium leaves of an area that serves a world.
--     sound_beside      the area stays sound
--     serves_beside      it serves the world with other media, where each image stands for that
--     serves_more, serves_less      so where a blank medium comes to be, and where one goes
--     each_more, each_less      at each moment each image stands for the world before it or after it
use Rattle.std.proofs.Common.{◌≡◌, ◌⊎◌, inl, inr, refl, sym, ap, subst, ◌∙◌, ℕ, ◌*◌, ◌≤◌, Bool, true, false, ◌==◌, None}
use Rattle.std.specs.Prelude.{unwrap_or, IsSome}
use Rattle.std.specs.Ordering.{nat_cmp}
use Rattle.std.specs.FinMap.{FinMap, get}
use Rattle.std.proofs.lemmas.Bool.{eqb-true, eqb-false}
use Rattle.mdb_model.specs.declared.fault.Device.TheVariants.{Data, Log, Medium as OnMedium}
use Rattle.mdb_model.specs.Backups.{Medium}
use Rattle.mdb_model.specs.Images.{Image, size_of}
use Rattle.mdb_model.specs.Worlds.{World}
use Rattle.mdb_host.specs.Disk.{Disk, Goes, Arrives, Agree, AgreeBut, Creates, Removes}
use Rattle.mdb_bytes.specs.MediumPages.{most_pages}
use Rattle.mdb_bytes.specs.declared.restart_record.RestartRecord.{RestartRecord}
use Rattle.gate_slots.specs.declared.slots.Slots.{Slots}
use Rattle.leaf_runs.specs.Runs.{rows_in_pages}
use Rattle.leaf_runs.specs.TableAreas.{IsTableArea}
use Rattle.page_store.specs.LogicalPages.{live_pages_below, lives_in, store_pages}
use Rattle.page_store.specs.Store.{Store, block_count, page_block, frame_of}
use Rattle.redo_ring.specs.declared.ring.Ring.{Ring}
use Rattle.store_rows.specs.StoredRows.{HasRows}
use Rattle.standing.specs.Looks.{look, open_medium}
use Rattle.standing.specs.WholeStanding.{StandsWhole}
use Rattle.standing.specs.MediaComing.{with_medium, without_medium, MediumComes, MediumGoes, BlankChanges}
use Rattle.standing.proofs.MediaComing.{look_resized, number_on, comes_blank, goes_blank, comes_stands, goes_from}
use Rattle.kept_worlds.specs.InService.{IsShown, IsInService, AllStand, AtEachMoment}
use Rattle.kept_worlds.proofs.Beside.{block_apart, known_apart, can_save_apart}
use Rattle.live_area.specs.Media.{ChangesMedium}
use Rattle.live_area.specs.Serving.{IsSoundArea, saved_by, ServesWorld}
use Rattle.live_area.proofs.Found.{same_image}

volume_apart : (number volume : ℕ) → Data volume ≡ OnMedium number → ⊥
volume_apart number volume e = cc

pub sound_beside : (tells : Type 0) (slots : Slots) (r : RestartRecord) (s : Store) (ring : Ring) (d e : Disk) (number : ℕ) → (tells → ChangesMedium number d e) → IsSoundArea tells slots r s ring d → IsSoundArea tells slots r s ring e
sound_beside tells slots r s ring d e number change sound =
    let can = sound.can_save in
    record {
      can_save = record {
        place = can.place;
        number = can.number;
        keeps = can.keeps;
        next = can.next;
        thawed = can.thawed;
        unpinned = can.unpinned;
        unmarked = can.unmarked;
        fits = can.fits;
        placed = can.placed;
        big = can.big;
        standing = λ told. (can_save_apart (OnMedium number) (volume_apart number) tells slots r s d e (change told).seen (change told).left can).standing told;
      };
      order = sound.order;
      there = λ told. ap size_of ((change told).seen Log (λ e. absurd cc)) ∙ sound.there told;
    }

pages_stay : (s : Store) (d e : Disk) (number : ℕ) → AgreeBut (OnMedium number) d.seen e.seen → store_pages s e.seen ≡ store_pages s d.seen
pages_stay s d e number seen =
    λ i. live_pages_below (lives_in s) (λ page. unwrap_or (frame_of s (page_block s page)) (block_apart (OnMedium number) (volume_apart number) s.sizes d.seen e.seen seen (page_block s page) i)) (block_count s)

-- images that show the same but for sizes show the same records and log
shown_resized : (r : RestartRecord) (s : Store) (ring : Ring) (d : Disk) (tells : Type 0) (slots : Slots) (w : World) (serves : ServesWorld tells slots r s ring d w) (number : ℕ) (before image : Image) → d.may_leave d.now before → BlankChanges number before image
    → IsShown r serves.info (saved_by ring) serves.log (look image)
shown_resized r s ring d tells slots w serves number before image was change =
    let shown = serves.service.shown before was in
    subst (IsShown r serves.info (saved_by ring) serves.log) (sym (look_resized number before image change)) (record {
      restart = shown.restart;
      log_info = shown.log_info;
      saved_upto = shown.saved_upto;
      redo = shown.redo;
    })

module _ (tells : Type 0) (slots : Slots) (r : RestartRecord) (s : Store) (ring : Ring) (d e : Disk) (number : ℕ)
    (seen : AgreeBut (OnMedium number) d.seen e.seen) (left : Arrives d e (BlankChanges number)) (w : World) (serves : ServesWorld tells slots r s ring d w)
    (media : FinMap nat_cmp Medium) (stand : AllStand (record w { media = media }) e) where
  others_left : Arrives d e (AgreeBut (OnMedium number))
  others_left image may = let x = left image may in (x.0, x.1, x.2.others)

  service : IsInService tells slots r serves.info (saved_by ring) serves.log s e
  service = record {
    told = serves.service.told;
    can_save = can_save_apart (OnMedium number) (volume_apart number) tells slots r s d e seen others_left serves.service.can_save;
    stamped = serves.service.stamped;
    sizes = serves.service.sizes;
    conv = serves.service.conv;
    blocks = serves.service.blocks;
    area = serves.service.area;
    bare = serves.service.bare;
    tells_saved = serves.service.tells_saved;
    shown = λ image may.
        let x = left image may in
        shown_resized r s ring d tells slots w serves number x.0 image x.1 x.2;
  }

  same_pages : store_pages s e.seen ≡ store_pages s d.seen
  same_pages = pages_stay s d e number seen

  rows : HasRows tells s e.seen
  rows = (
    known_apart (OnMedium number) (volume_apart number) tells slots r s d e seen others_left serves.service.can_save serves.rows.0,
    subst IsTableArea (sym same_pages) serves.rows.1,
  )

  pub serves_beside : ServesWorld tells slots r s ring e (record w { media = media })
  serves_beside = record {
    stand = stand;
    plain = record { live = serves.plain.live; no_snapshots = serves.plain.no_snapshots; no_base = serves.plain.no_base };
    info = serves.info;
    log = serves.log;
    service = service;
    rows = rows;
    all_set = ap rows_in_pages same_pages ∙ serves.all_set;
    ends = serves.ends;
    name = serves.name;
    size = serves.size;
    redo = serves.redo;
  }

-- Blank media

-- where the medium is as it was, nothing changed
agrees : (number : ℕ) (old new : Image) → AgreeBut (OnMedium number) old new → new (OnMedium number) ≡ old (OnMedium number) → Agree old new
agrees number old new others same (Data volume) = others (Data volume) (λ e. absurd cc)
agrees number old new others same Log = others Log (λ e. absurd cc)
agrees number old new others same (OnMedium m) = by_number (m == number) refl where
  by_number : (b : Bool) → (m == number) ≡ b → new (OnMedium m) ≡ old (OnMedium m)
  by_number true e =
      let is = eqb-true m number e in
      ap (λ k. new (OnMedium k)) is ∙ same ∙ ap (λ k. old (OnMedium k)) (sym is)
  by_number false e = others (OnMedium m) (λ is. eqb-false m number e (ap number_on is))

module _ (tells : Type 0) (slots : Slots) (r : RestartRecord) (s : Store) (ring : Ring) (d e : Disk) (w : World) (serves : ServesWorld tells slots r s ring d w) (number : ℕ) where
  module _ (pages : ℕ) (from : 1 ≤ number) (to : number ≤ 99) (least : 2 ≤ pages) (most : pages ≤ most_pages) where
    -- a medium that comes to be
    after_it : (before image : Image) → d.may_leave d.now before → MediumComes number pages before image → StandsWhole image (with_medium w number pages)
    after_it before image was comes = comes_stands before image w number pages comes (serves.stand before was) serves.plain.live from to least most

    pub each_more : Goes d e (Creates (OnMedium number) (8192 * pages)) → ((before : Image) → d.may_leave d.now before → before (OnMedium number) ≡ None)
        → AtEachMoment d e (λ image. StandsWhole image w ⊎ StandsWhole image (with_medium w number pages))
    each_more goes absent = record {
      keeps = goes.keeps;
      quiet = goes.quiet;
      each = λ at image from upto left.
          let x = goes.since at image from upto left in
          elim x.2.here [
            | inl same ↦ inl (subst (λ (i : Image). StandsWhole i w) (sym (same_image x.0 image (agrees number x.0 image x.2.others same))) (serves.stand x.0 x.1))
            | inr here ↦ inr (after_it x.0 image x.1 (record { others = x.2.others; absent = absent x.0 x.1; here = here }))
          ];
    }

    pub serves_more : MediumComes number pages d.seen e.seen → Arrives d e (MediumComes number pages) → ServesWorld tells slots r s ring e (with_medium w number pages)
    serves_more seen arrives =
        serves_beside tells slots r s ring d e number seen.others (λ image left. (let x = arrives image left in (x.0, x.1, comes_blank x.0 image number pages least x.2))) w serves (with_medium w number pages).media
        (λ image left. (let x = arrives image left in after_it x.0 image x.1 x.2))

  -- a medium that goes
  module _ (some : IsSome (get w.media number)) where
    without_it : (before image : Image) → d.may_leave d.now before → MediumGoes number before image → StandsWhole image (without_medium w number)
    without_it before image was goes = goes_from before image w number goes some (serves.stand before was) serves.plain.live

    pub each_less : Goes d e (Removes (OnMedium number)) → ((before : Image) → d.may_leave d.now before → open_medium before number ≡ None)
        → AtEachMoment d e (λ image. StandsWhole image w ⊎ StandsWhole image (without_medium w number))
    each_less goes blank = record {
      keeps = goes.keeps;
      quiet = goes.quiet;
      each = λ at image from upto left.
          let x = goes.since at image from upto left in
          elim x.2.here [
            | inl same ↦ inl (subst (λ (i : Image). StandsWhole i w) (sym (same_image x.0 image (agrees number x.0 image x.2.others same))) (serves.stand x.0 x.1))
            | inr gone ↦ inr (without_it x.0 image x.1 (record { others = x.2.others; blank = blank x.0 x.1; gone = gone }))
          ];
    }

    pub serves_less : AgreeBut (OnMedium number) d.seen e.seen → Arrives d e (MediumGoes number) → ServesWorld tells slots r s ring e (without_medium w number)
    serves_less seen arrives =
        serves_beside tells slots r s ring d e number seen (λ image left. (let x = arrives image left in (x.0, x.1, goes_blank x.0 image number x.2))) w serves (without_medium w number).media
        (λ image left. (let x = arrives image left in without_it x.0 image x.1 x.2))
