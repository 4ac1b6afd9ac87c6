-- What calls leave of what the devices of a ground stand for.
--     rows_are      the rows that an image shows are those of the world that it stands for
--     log_stays      calls on pages leave the log volume
--     calls_keep_worlds, calls_stand, calls_aim, calls_undone      calls on pages and reads of the log
--     calls_keep_all      all of it
--     room_rest      the room of commits
--     at_both      what is so at each moment of two stretches
--     keeps_through      what was known stays known over two stretches
--     keeps_still, keeps_further      nothing was done; calls one after the other
use Rattle.std.proofs.Common.{◌≡◌, ◌⊎◌, inl, inr, sym, ap, subst, ◌∙◌, ℕ, ◌+◌, ◌%◌, ◌^◌, ◌<◌, ◌≤◌, List, [], ◌∷◌, ◌++◌, length, Option, arith}
use Rattle.std.specs.Prelude.{unwrap_or, option_and_then}
use Rattle.std.specs.FinMap.{empty}
use Rattle.std.proofs.lemmas.Bool.{cases_lt}
use Rattle.mdb_model.specs.declared.change.Commit.{Commit}
use Rattle.mdb_model.specs.declared.fault.Device.TheVariants.{Log}
use Rattle.mdb_model.specs.History.{tables_of}
use Rattle.mdb_model.specs.Images.{Image, byte_at}
use Rattle.mdb_model.specs.Pages.{committed}
use Rattle.mdb_model.specs.Tables.{Tables, with_changes, with_commits}
use Rattle.mdb_model.specs.Worlds.{World, Live}
use Rattle.mdb_host.specs.Disk.{Disk, Keeps, Goes}
use Rattle.mdb_host.proofs.Moments.{keeps_all, keeps_on}
use Rattle.mdb_bytes.specs.declared.restart_record.RestartRecord.{RestartRecord}
use Rattle.mdb_bytes.specs.Forms.{reading}
use Rattle.mdb_bytes.specs.LogReading.{log_from, log_bytes}
use Rattle.mdb_bytes.specs.Rings.{ring_byte}
use Rattle.gate_slots.specs.declared.slots.Slots.{Slots}
use Rattle.volume_disk.specs.Blocks.{Writes}
use Rattle.page_store.specs.Store.{Store}
use Rattle.page_store.specs.Steps.{MayWrite, KeepsStore}
use Rattle.redo_ring.specs.declared.reader.RingReader.{RingReader}
use Rattle.standing.specs.Looks.{look}
use Rattle.standing.specs.WholeStanding.{LookStands, StandsWhole, AreaStands, AreaIsLive}
use Rattle.kept_worlds.specs.InService.{IsInService, AllStand, AtEachMoment, EndsAt, HasRoomToSet}
use Rattle.kept_worlds.proofs.Setting.{set_rest}
use Rattle.kept_worlds.proofs.Calls.{looks_stay, service_stays}
use Rattle.page_ground.specs.declared.set_point.SetPoint.{SetPoint}
use Rattle.page_ground.specs.LogKnown.{ReadsOn}
use Rattle.page_ground.specs.Aims.{rows_shown, undone_in, StandsForWorld, KeepsWorlds}

-- the rows that an image shows
pub rows_are : (image : Image) (w : World) → StandsWhole image w → w.area ≡ Live → rows_shown (look image) ≡ tables_of w.history
unfolding rows_shown
rows_are image w st live =
    let area : AreaIsLive (look image) w = subst (λ a. AreaStands a (look image) st.info w) live st.area in
    (λ i. with_commits (unwrap_or (area.rows.in_log i) []) (unwrap_or (option_and_then (λ kept. committed reading kept.pages) (area.there i)) empty))
    ∙ ap (λ (o : Option Tables). with_commits area.rows.log (unwrap_or o empty)) area.rows.in_map
    ∙ area.rows.tables

-- two images that stand for one world show the same rows
pub same_rows : (a b : Image) (w : World) → StandsWhole a w → StandsWhole b w → w.area ≡ Live → rows_shown (look b) ≡ rows_shown (look a)
same_rows a b w one two live = rows_are b w two live ∙ sym (rows_are a w one live)

-- the bytes of the ring stay where the log volume does
ring_stays : (before after : Image) → after Log ≡ before Log → (size : ℕ) → ring_byte size after ≡ ring_byte size before
ring_stays before after same size = λ i position. byte_at (same i) (16384 + position % size)

-- writes to data volumes leave it
volume_stays : (sizes : List ℕ) (set : ℕ → Type 0) (before after : Image) → Writes sizes set before after → after Log ≡ before Log
volume_stays sizes set before after writes = writes.others Log (λ i lt is. cc)

-- so calls on pages leave it
pub log_stays : (tells : Type 0) (s t : Store) (d e : Disk) → KeepsStore tells s t d e → tells → e.seen Log ≡ d.seen Log
log_stays tells s t d e keeps told = volume_stays s.sizes (MayWrite s) d.seen e.seen (keeps.seen told)

-- the commits that are not set stay where the log volume does
pub undone_same : (a b : RingReader) (one two : SetPoint) (before after : Image) → after Log ≡ before Log → b.name ≡ a.name → b.size ≡ a.size → two ≡ one → undone_in b two after ≡ undone_in a one before
unfolding undone_in
undone_same a b one two before after same name size set =
    (λ i. unwrap_or (log_from (ring_stays before after same (size i) i) (name i) (size i) (set i).position (set i).commit) [])

-- nothing was done
pub keeps_still : (d : Disk) → KeepsWorlds d d
keeps_still d = record {
  each_world = λ w stand plain. record {
    keeps = keeps_all d;
    quiet = λ t from upto. (let same : t ≡ d.now = omega (arith, from, upto) in ap d.said same);
    each = λ t image from upto left. (let same : t ≡ d.now = omega (arith, from, upto) in stand image (subst (λ n. d.may_leave n image) same left));
  };
}

-- what was known stays known over two stretches
pub keeps_through : (a b c : Disk) → Keeps a b → Keeps b c → Keeps a c
keeps_through a b c one two = keeps_on a b c one two

-- what is so at each moment of two stretches
pub at_both : (a b c : Disk) (P : Image → Type 0) → AtEachMoment a b P → AtEachMoment b c P → AtEachMoment a c P
at_both a b c P one two = record {
  keeps = keeps_on a b c one.keeps two.keeps;
  quiet = λ t from upto. by_moment t from upto (cases_lt t b.now);
  each = λ t image from upto left. each_by t image from upto left (cases_lt t b.now);
}
  where
    by_moment : (t : ℕ) → a.now ≤ t → t ≤ c.now → (t < b.now) ⊎ (b.now ≤ t) → c.said t ≡ a.said a.now
    by_moment t from upto (inl early) = two.keeps.said t (omega (arith, early)) ∙ one.quiet t from (omega (arith, early))
    by_moment t from upto (inr late) = two.quiet t late upto ∙ one.quiet b.now one.keeps.later (omega arith)

    each_by : (t : ℕ) (image : Image) → a.now ≤ t → t ≤ c.now → c.may_leave t image → (t < b.now) ⊎ (b.now ≤ t) → P image
    each_by t image from upto left (inl early) = one.each t image from (omega (arith, early)) (two.keeps.no_more t image (omega (arith, early)) left)
    each_by t image from upto left (inr late) = two.each t image late upto left

-- calls one after the other
pub keeps_further : (a b c : Disk) → KeepsWorlds a b → KeepsWorlds b c → KeepsWorlds a c
keeps_further a b c one two = record {
  each_world = λ w stand plain.
      let first = one.each_world w stand plain in
      at_both a b c (λ image. StandsWhole image w) first (two.each_world w (λ image left. first.each b.now image first.keeps.later (omega arith) left) plain);
}

module _ (tells : Type 0) (slots : Slots) (r : RestartRecord) (a b : RingReader) (one two : SetPoint) (s t : Store) (d e : Disk)
    (seen_left : d.may_leave d.now d.seen) (seen_left2 : e.may_leave e.now e.seen) (keeps : KeepsStore tells s t d e) (reads : ReadsOn tells a b d.seen e.seen) (set : two ≡ one)
    (stand : StandsForWorld tells slots r a one s d) where
  abbrev told : tells
  told = stand.service.told

  abbrev log : List Commit
  log = stand.done ++ undone_in a one d.seen

  looks : Goes d e (λ before image. look image ≡ look before)
  looks = looks_stay tells slots r stand.info stand.saved log s t d e stand.service keeps

  pub calls_keep_worlds : KeepsWorlds d e
  calls_keep_worlds = record {
    each_world = λ w all plain. record {
      keeps = looks.keeps;
      quiet = looks.quiet;
      each = λ at image from upto left.
          let x = looks.since at image from upto left in
          subst (λ l. LookStands l w) (sym x.2) (all x.0 x.1);
    };
  }

  all_after : AllStand stand.world e
  all_after image left =
      let each = calls_keep_worlds.each_world stand.world stand.stand stand.plain in
      each.each e.now image each.keeps.later (omega arith) left

  log_same : e.seen Log ≡ d.seen Log
  log_same = volume_stays s.sizes (MayWrite s) d.seen e.seen (keeps.seen told)

  pub calls_undone : undone_in b two e.seen ≡ undone_in a one d.seen
  calls_undone = undone_same a b one two d.seen e.seen log_same reads.name reads.size set

  pub calls_aim : rows_shown (look e.seen) ≡ rows_shown (look d.seen)
  calls_aim = same_rows d.seen e.seen stand.world (stand.stand d.seen seen_left) (all_after e.seen seen_left2) stand.plain.live

  pub calls_stand : StandsForWorld tells slots r b two t e
  calls_stand = record {
    world = stand.world;
    stand = all_after;
    plain = stand.plain;
    info = stand.info;
    saved = stand.saved;
    done = stand.done;
    service = subst (λ xs. IsInService tells slots r stand.info stand.saved (stand.done ++ xs) t e) (sym calls_undone) (service_stays tells slots r stand.info stand.saved log s t d e stand.service keeps);
    ends = subst (λ (p : SetPoint). EndsAt r stand.done p.position p.commit) (sym set) stand.ends;
    name = reads.name ∙ stand.name;
    size = reads.size ∙ stand.size;
    known = reads.known stand.known;
    same_end = reads.ends stand.known ∙ stand.same_end ∙ (λ i. (sym set i).position + log_bytes (sym calls_undone i));
    same_number = reads.count stand.known ∙ stand.same_number ∙ (λ i. (sym set i).commit + length (sym calls_undone i));
    low_end = subst (λ (x : SetPoint × List Commit). x.0.position + log_bytes x.1 < 2 ^ 62) (λ i. (sym set i, sym calls_undone i)) stand.low_end;
    low_number = subst (λ (x : SetPoint × List Commit). x.0.commit + length x.1 < 2 ^ 62) (λ i. (sym set i, sym calls_undone i)) stand.low_number;
  }

-- the same of a ground, whose record is as it was
pub calls_keep_all : (tells : Type 0) (slots : Slots) (r : RestartRecord) (slots2 : Slots) (r2 : RestartRecord) (a b : RingReader) (one two : SetPoint) (s t : Store) (d e : Disk)
    → (tells → d.may_leave d.now d.seen) → (tells → e.may_leave e.now e.seen) → slots2 ≡ slots → r2 ≡ r → KeepsStore tells s t d e → ReadsOn tells a b d.seen e.seen → two ≡ one
    → StandsForWorld tells slots r a one s d
    → KeepsWorlds d e × (StandsForWorld tells slots2 r2 b two t e × (rows_shown (look e.seen) ≡ rows_shown (look d.seen)) × (undone_in b two e.seen ≡ undone_in a one d.seen))
calls_keep_all tells slots r slots2 r2 a b one two s t d e left left2 same_slots same_record keeps reads set stand =
    let told = stand.service.told in (
      calls_keep_worlds tells slots r a b one two s t d e (left told) (left2 told) keeps reads set stand,
      (
        subst (λ (x : Slots × RestartRecord). StandsForWorld tells x.0 x.1 b two t e) (λ i. (sym same_slots i, sym same_record i)) (calls_stand tells slots r a b one two s t d e (left told) (left2 told) keeps reads set stand),
        calls_aim tells slots r a b one two s t d e (left told) (left2 told) keeps reads set stand,
        calls_undone tells slots r a b one two s t d e (left told) (left2 told) keeps reads set stand,
      ),
    )

-- what has room to be set, has it once the first commit is
pub room_rest : (blocks : ℕ) (c : Commit) (cs : List Commit) (rows : Tables) → HasRoomToSet blocks (c ∷ cs) rows → HasRoomToSet blocks cs (with_changes c.changes rows)
room_rest = set_rest
