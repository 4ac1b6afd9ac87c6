-- A blank medium comes to be or goes: what an image shows, and what it stands for then.
--     look_resized      an image shows the same but for sizes
--     comes_blank, goes_blank      the medium holds nothing before and after
--     backups_with, backups_without      no backup comes or goes with a blank medium
--     comes_stands, goes_from      the image stands for the world with the medium, or without it
use Rattle.std.proofs.Common.{◌≡◌, refl, sym, ap, ◌∙◌, subst, ℕ, ◌+◌, ◌*◌, ◌%◌, ◌<◌, ◌≤◌, Bool, true, false, cond, ◌&&◌, List, [], ◌∷◌, map, Option, Some, None, ◌==◌, sum, arith}
use Rattle.std.specs.Prelude.{IfSome, IsSome, MatchOption, filter_map, option_and_then, replicate, All}
use Rattle.std.specs.List.{cons_option}
use Rattle.std.specs.Cmp.{nat_cmp_total, tied_itself}
use Rattle.std.specs.Ordering.{nat_cmp, eq_by_cmp, is_eq}
use Rattle.std.specs.declared.cmp.Ordering.{Ordering}
use Rattle.std.specs.declared.cmp.Ordering.TheVariants.{Less, Equal, Greater}
use Rattle.std.specs.FinMap.Entries.{by_order}
use Rattle.std.specs.FinMap.{FinMap, get, insert, remove, entries, find, put, get-entries, entries-insert, get-insert, get-remove, same_map, nat_cmp-IsAntisymmetric}
use Rattle.std.proofs.lemmas.Bool.{eqb-true, eqb-false}
use Rattle.std.proofs.lemmas.List.{length-replicate, get_or-replicate}
use Rattle.std.proofs.lemmas.Map.Lookups.{exact_unsigned}
use Rattle.mdb_model.specs.declared.fault.Device.{Device}
use Rattle.mdb_model.specs.declared.fault.Device.TheVariants.{Data, Log, Medium as OnMedium}
use Rattle.mdb_model.specs.declared.name.Name.{Name}
use Rattle.mdb_model.specs.Backups.{Backup, Medium, name_of, same_name}
use Rattle.mdb_model.specs.Images.{Image, size_of, byte_at}
use Rattle.mdb_model.specs.Script.{is_medium}
use Rattle.mdb_model.specs.Steps.{backups_of, newest_number}
use Rattle.mdb_model.specs.Worlds.{World, Live}
use Rattle.mdb_host.specs.Disk.{AgreeBut}
use Rattle.mdb_bytes.specs.declared.log_info.LogInfo.{LogInfo}
use Rattle.mdb_bytes.specs.declared.restart_record.RestartRecord.{RestartRecord}
use Rattle.mdb_bytes.specs.Groups.{open_gate}
use Rattle.mdb_bytes.specs.KeptMaps.{kept_map}
use Rattle.mdb_bytes.specs.LogReading.{log_from}
use Rattle.mdb_bytes.specs.MediumPages.{most_pages}
use Rattle.mdb_bytes.specs.Parts.{page_len}
use Rattle.mdb_bytes.specs.Rings.{ring_size}
use Rattle.mdb_bytes.specs.SlotRecords.{slot_len}
use Rattle.gate_slots.proofs.Kept.{force_device}
use Rattle.volume_disk.specs.Blocks.{place, block_at}
use Rattle.volume_disk.proofs.Pages.{page_agrees}
use Rattle.standing.specs.Standing.{data_slots}
use Rattle.standing.specs.Looks.{Look, LogPoint, look, record_in, record_of, log_info_in, open_medium, map_under, map_of_record, snapshot_maps, log_after, name_in_force, saved_in_force, redo_point}
use Rattle.standing.specs.MediaComing.{blank_medium, with_medium, without_medium, MediumComes, MediumGoes, BlankChanges}
use Rattle.standing.specs.WholeStanding.{LookStands, StandsWhole, AreaStands, AreaIsLive, MediaStand, MediumStands, RestartHasRoom, images_of_backup, is_changed_pages}
use Rattle.standing.proofs.LookLaws.{log_info_same}

-- a look with other sizes
abbrev pub resized : Look → (Device → Option ℕ) → Look
resized l sizes = record l { sizes = sizes }

abbrev pub number_on : Device → ℕ
number_on (OnMedium number) = number
number_on _ = 0

-- What shows

module _ (number : ℕ) (old new : Image) (change : BlankChanges number old new) where
  abbrev others : AgreeBut (OnMedium number) old new
  others = change.others

  one_medium : (m : ℕ) → open_medium new m ≡ open_medium old m
  one_medium m = by_number (m == number) refl where
    by_number : (b : Bool) → (m == number) ≡ b → open_medium new m ≡ open_medium old m
    by_number true same =
        let e : m ≡ number = eqb-true m number same in
        ap (open_medium new) e ∙ change.is ∙ sym change.was ∙ ap (open_medium old) (sym e)
    by_number false apart =
        let e : new (OnMedium m) ≡ old (OnMedium m) = others (OnMedium m) (λ same. eqb-false m number apart (ap number_on same)) in
        λ i. cond (is_medium m && byte_at (e i) slot_len == open_gate) (e i) None

  media_same : open_medium new ≡ open_medium old
  media_same = λ i m. one_medium m i

  log_same : new Log ≡ old Log
  log_same = others Log (λ e. absurd cc)

  blocks_same : (sizes : List ℕ) → block_at sizes new ≡ block_at sizes old
  blocks_same sizes = λ i k. page_agrees old new (Data (place 1 sizes k).0) (place 1 sizes k).1 (others (Data (place 1 sizes k).0) (λ e. absurd cc)) i

  restart_same : record_in new ≡ record_in old
  restart_same = ap (option_and_then record_of) (force_device data_slots old new (others (Data 1) (λ e. absurd cc)))

  info_same : log_info_in new ≡ log_info_in old
  info_same = log_info_same old new log_same

  under_same : (r : RestartRecord) (root : ℕ) → map_under new r root ≡ map_under old r root
  under_same r root = λ i. kept_map (blocks_same r.volumes.items i) (sum r.volumes.items) root

  kept_same : option_and_then (map_of_record new) (record_in new) ≡ option_and_then (map_of_record old) (record_in old)
  kept_same = ap (option_and_then (map_of_record new)) restart_same ∙ by_record (record_in old) where
    by_record : (o : Option RestartRecord) → option_and_then (map_of_record new) o ≡ option_and_then (map_of_record old) o
    by_record None = refl
    by_record (Some r) = λ i. cond (r.root == 0) None (under_same r r.root i)

  snapshots_same : snapshot_maps new (record_in new) ≡ snapshot_maps old (record_in old)
  snapshots_same = ap (snapshot_maps new) restart_same ∙ by_record (record_in old) where
    by_record : (o : Option RestartRecord) → snapshot_maps new o ≡ snapshot_maps old o
    by_record None = refl
    by_record (Some r) = λ i. map (λ e. (e, under_same r e.root i)) r.snapshots.items

  log_shown : (info : LogInfo) (name : Name) (point : LogPoint) → log_after new info name point ≡ log_after old info name point
  log_shown info name point = λ i. log_from (λ position. byte_at (log_same i) (16384 + position % ring_size info.pages)) name (ring_size info.pages) point.position point.commit

  -- an image shows the same but for sizes where a medium that holds nothing changes
  pub look_resized : look new ≡ resized (look old) (λ device. size_of (new device))
  look_resized = λ i. record {
    sizes = λ device. size_of (new device);
    restart = restart_same i;
    log_info = info_same i;
    media = media_same i;
    kept = kept_same i;
    snapshots = snapshots_same i;
    saved_log = option_and_then (λ found. log_shown found (name_in_force (restart_same i) found) (saved_in_force (restart_same i) (info_same i) (media_same i)) i) (info_same i);
    redo_log = option_and_then (λ found. option_and_then (λ r. log_shown found r.name (redo_point r) i) (restart_same i)) (info_same i);
  }

-- The world

-- A look with other sizes stands for the world with other media, where those are its media, they hold
-- the same backups, and the volumes have the sizes they had.
module _ (l : Look) (sizes : Device → Option ℕ) (w : World) (media : FinMap nat_cmp Medium) (s : LookStands l w) (live : w.area ≡ Live)
    (volumes : (volume : ℕ) → sizes (Data volume) ≡ l.sizes (Data volume)) (log : sizes Log ≡ l.sizes Log)
    (backups : backups_of (record w { media = media }) ≡ backups_of w) (stand : MediaStand (resized l sizes) (record w { media = media })) where
  abbrev l2 : Look
  l2 = resized l sizes

  abbrev w2 : World
  w2 = record w { media = media }

  area : AreaIsLive l w
  area = subst (λ a. AreaStands a l s.info w) live s.area

  live_area : AreaIsLive l2 w2
  live_area = record {
    rec = area.rec;
    kept = area.kept;
    in_force = area.in_force;
    normal = area.normal;
    name = area.name;
    sizes = record { limits = area.sizes.limits; blocks = area.sizes.blocks; there = λ i lt. volumes (i + 1) ∙ area.sizes.there i lt };
    there = area.there;
    in_order = area.in_order;
    rows = record {
      start = area.rows.start;
      log = area.rows.log;
      in_map = area.rows.in_map;
      in_log = area.rows.in_log;
      tables = area.rows.tables;
      number = area.rows.number;
      same_number = area.rows.same_number;
      same_end = area.rows.same_end;
    };
    snapshots = area.snapshots;
    apart = area.apart;
    base = record { in_force = area.base.in_force; since = area.base.since };
    room = record {
      maps = area.room.maps;
      restart = λ needs.
          let old : RestartHasRoom l area.rec area.kept w = area.room.restart needs in
          record { map = old.map; history = old.history; log = old.log };
      blocks = area.room.blocks;
    };
    numbers = record {
      base = area.numbers.base;
      stamps = area.numbers.stamps;
      media = subst (All (λ backup. same_name (name_of backup) w.name ≡ true → newest_number backup ≤ area.rec.savepoint)) (sym backups) area.numbers.media;
    };
  }

  pub resized_stands : LookStands l2 w2
  resized_stands = record {
    offline = s.offline;
    info = s.info;
    in_force = s.in_force;
    birth = s.birth;
    generation = s.generation;
    log_size = record { there = log ∙ s.log_size.there; least = s.log_size.least; most = s.log_size.most; ring = s.log_size.ring };
    log = record { saved = s.log.saved; commits = s.log.commits; fits = s.log.fits };
    area = subst (λ a. AreaStands a l2 s.info w2) (sym live) live_area;
    media = stand;
    room = s.room;
    stage = record {
      backups = λ asked.
          let old = s.stage.backups asked in
          record { blank = backups ∙ old.blank; saved = old.saved; base = old.base; record_pending = old.record_pending; log_pending = old.log_pending };
      generation = s.stage.generation;
      snapshots = s.stage.snapshots;
      images = λ asked. record { maps = (s.stage.images asked).maps; media = subst (All (λ backup. images_of_backup backup ≡ [])) (sym backups) (s.stage.images asked).media };
      changed_pages = λ asked. subst (All (λ backup. is_changed_pages backup ≡ false)) (sym backups) (s.stage.changed_pages asked);
    };
  }

-- Backups

abbrev holding : List (ℕ × Medium) → List Backup
holding es = filter_map (λ m. m.holds) (map (λ e. e.1) es)

-- a blank medium in place of none, or of one that is blank
put_blank : (es : List (ℕ × Medium)) (number : ℕ) (x : Medium) → x.holds ≡ None → IfSome (find nat_cmp number es) (λ m. m.holds ≡ None) → holding (put nat_cmp number x es) ≡ holding es
put_blank [] number x blank none = ap (λ h. cons_option h []) blank
put_blank (e ∷ es) number x blank none =
    elim (nat_cmp number e.0) as (λ o. IfSome (cond (is_eq o) (Some e.1) (find nat_cmp number es)) (λ m. m.holds ≡ None) → holding (by_order o ((number, x) ∷ e ∷ es) ((e.0, x) ∷ es) (e ∷ put nat_cmp number x es)) ≡ holding (e ∷ es)) [
      | Less ↦ λ n. ap (λ h. cons_option h (holding (e ∷ es))) blank
      | Equal ↦ λ n. ap (λ h. cons_option h (holding es)) (blank ∙ sym n)
      | Greater ↦ λ n. ap (cons_option e.1.holds) (put_blank es number x blank n)
    ] none

is_equal : (o : Ordering) → is_eq o ≡ true → o ≡ Equal
is_equal Less e = absurd cc
is_equal Equal e = refl
is_equal Greater e = absurd cc

same_number : (a b : ℕ) → eq_by_cmp nat_cmp a b ≡ true → a ≡ b
same_number a b e = exact_unsigned a b (is_equal (nat_cmp a b) e)

differs : (a b : ℕ) → eq_by_cmp nat_cmp a b ≡ false → a ≡ b → ⊥
differs a b e same =
    let t : true ≡ false = sym (ap is_eq (tied_itself nat_cmp_total b)) ∙ ap (λ n. eq_by_cmp nat_cmp n b) (sym same) ∙ e in
    absurd cc

module _ (media : FinMap nat_cmp Medium) (number : ℕ) (x : Medium) (blank : x.holds ≡ None) where
  backups_with : IfSome (get media number) (λ m. m.holds ≡ None) → holding (entries (insert media number x)) ≡ holding (entries media)
  backups_with none =
      ap holding (entries-insert nat_cmp_total media number x)
      ∙ put_blank (entries media) number x blank (subst (λ o. IfSome o (λ m. m.holds ≡ None)) (get-entries media number) none)

  -- a medium that goes may be put back
  put_back : get media number ≡ Some x → insert (remove media number) number x ≡ media
  put_back there = same_map nat_cmp_total nat_cmp-IsAntisymmetric (insert (remove media number) number x) media (λ q. get-insert nat_cmp_total (remove media number) number x q ∙ by_number q) where
    by_number : (q : ℕ) → cond (eq_by_cmp nat_cmp q number) (Some x) (get (remove media number) q) ≡ get media q
    by_number q =
        elim (eq_by_cmp nat_cmp q number) as (λ b. eq_by_cmp nat_cmp q number ≡ b → cond b (Some x) (get (remove media number) q) ≡ get media q) [
          | true ↦ λ e. sym there ∙ ap (get media) (sym (same_number q number e))
          | false ↦ λ e. get-remove nat_cmp_total media number q ∙ ap (λ b. cond b None (get media q)) e
        ] refl

gone_is : (media : FinMap nat_cmp Medium) (number : ℕ) → get (remove media number) number ≡ None
gone_is media number = get-remove nat_cmp_total media number number ∙ ap (λ b. cond b None (get media number)) (ap is_eq (tied_itself nat_cmp_total number))

backups_without : (media : FinMap nat_cmp Medium) (number : ℕ) (x : Medium) → x.holds ≡ None → get media number ≡ Some x → holding (entries (remove media number)) ≡ holding (entries media)
backups_without media number x blank there =
    sym (backups_with (remove media number) number x blank (subst (λ o. IfSome o (λ m. m.holds ≡ None)) (sym (gone_is media number)) tt))
    ∙ ap (λ (m : FinMap nat_cmp Medium). holding (entries m)) (put_back media number x blank there)

-- A gate of zero is closed, and so is one that is not there

no_bytes : (b : Bool) → ◌≡◌ {A = Option (List ℕ)} (cond b None None) None
no_bytes true = refl
no_bytes false = refl

shut_without : (image : Image) (number : ℕ) → image (OnMedium number) ≡ None → open_medium image number ≡ None
shut_without image number none = ap (λ o. cond (is_medium number && byte_at o slot_len == open_gate) o None) none ∙ no_bytes (is_medium number && false)

never_both : (b : Bool) (o : Option (List ℕ)) → cond (b && false) o None ≡ None
never_both true o = refl
never_both false o = refl

shut_with_zeros : (image : Image) (number n : ℕ) → slot_len < n → image (OnMedium number) ≡ Some (replicate n 0) → open_medium image number ≡ None
shut_with_zeros image number n long zeros =
    let zero_gate : byte_at (image (OnMedium number)) slot_len ≡ 0 = ap (λ o. byte_at o slot_len) zeros ∙ get_or-replicate n slot_len 0 0 long in
    ap (λ k. cond (is_medium number && k == open_gate) (image (OnMedium number)) None) zero_gate ∙ never_both (is_medium number) (image (OnMedium number))

pub comes_blank : (old new : Image) (number pages : ℕ) → 2 ≤ pages → MediumComes number pages old new → BlankChanges number old new
comes_blank old new number pages least comes = record {
  others = comes.others;
  was = shut_without old number comes.absent;
  is = shut_with_zeros new number (8192 * pages) (omega (arith, least)) comes.here;
}

pub goes_blank : (old new : Image) (number : ℕ) → MediumGoes number old new → BlankChanges number old new
goes_blank old new number goes = record { others = goes.others; was = goes.blank; is = shut_without new number goes.gone }

-- The media of the world

match_both : {A : Type 0} (N M : Type 0) (P Q : A → Type 0) → (N → M) → ((x : A) → P x → Q x) → (o : Option A) → MatchOption o N P → MatchOption o M Q
match_both N M P Q none step None p = none p
match_both N M P Q none step (Some x) p = step x p

-- a medium that another one's change leaves as it is
module _ (old new : Image) (m : ℕ) (same : new (OnMedium m) ≡ old (OnMedium m)) where
  abbrev look_now : Look
  look_now = resized (look old) (λ device. size_of (new device))

  stays : (o : Option Medium) → MatchOption o ((look old).sizes (OnMedium m) ≡ None) (MediumStands (look old) m) → MatchOption o (look_now.sizes (OnMedium m) ≡ None) (MediumStands look_now m)
  stays o = match_both _ _ (MediumStands (look old) m) (MediumStands look_now m) (λ none. ap size_of same ∙ none)
      (λ medium stands. record { there = ap size_of same ∙ stands.there; least = stands.least; most = stands.most; blank = stands.blank; holds = stands.holds }) o

module _ (old new : Image) (w : World) (number pages : ℕ) (comes : MediumComes number pages old new) (s : StandsWhole old w) (live : w.area ≡ Live) (from : 1 ≤ number) (to : number ≤ 99) (least : 2 ≤ pages) (most : pages ≤ most_pages) where
  abbrev l3 : Look
  l3 = resized (look old) (λ device. size_of (new device))

  abbrev w3 : World
  w3 = with_medium w number pages

  -- it was not there
  not_there : (o : Option Medium) → MatchOption o ((look old).sizes (OnMedium number) ≡ None) (MediumStands (look old) number) → IfSome o (λ m. m.holds ≡ None)
  not_there None p = tt
  not_there (Some m) p = let never : ◌≡◌ {A = Option ℕ} None (Some (m.pages * page_len)) = sym (ap size_of comes.absent) ∙ p.there in absurd cc

  medium_now : (m : ℕ) → m ≡ number → MediumStands l3 m (blank_medium pages)
  medium_now m is = record {
    there = ap (λ k. size_of (new (OnMedium k))) is ∙ ap size_of comes.here ∙ ap Some (length-replicate (8192 * pages) 0 ∙ omega arith);
    least = least;
    most = most;
    blank = λ e. ap (open_medium old) is ∙ shut_without old number comes.absent;
    holds = λ backup e. absurd cc;
  }

  media_stand : MediaStand l3 w3
  media_stand = record {
    numbers = λ m there.
        elim (eq_by_cmp nat_cmp m number) as (λ b. eq_by_cmp nat_cmp m number ≡ b → IsSome (cond b (Some (blank_medium pages)) (get w.media m)) → (1 ≤ m) × (m ≤ 99)) [
          | true ↦ λ e some. (let is = same_number m number e in (omega (arith, is, from), omega (arith, is, to)))
          | false ↦ λ e some. s.media.numbers m some
        ] refl (subst IsSome (get-insert nat_cmp_total w.media number (blank_medium pages) m) there);
    each = λ m low high.
        subst (λ o. MatchOption o (l3.sizes (OnMedium m) ≡ None) (MediumStands l3 m)) (sym (get-insert nat_cmp_total w.media number (blank_medium pages) m))
        (elim (eq_by_cmp nat_cmp m number) as (λ b. eq_by_cmp nat_cmp m number ≡ b → MatchOption (cond b (Some (blank_medium pages)) (get w.media m)) (l3.sizes (OnMedium m) ≡ None) (MediumStands l3 m)) [
          | true ↦ λ e. medium_now m (same_number m number e)
          | false ↦ λ e. stays old new m (comes.others (OnMedium m) (λ same. differs m number e (ap number_on same))) (get w.media m) (s.media.each m low high)
        ] refl);
  }

  pub comes_stands : StandsWhole new w3
  comes_stands = subst (λ l. LookStands l w3) (sym (look_resized number old new (comes_blank old new number pages least comes)))
      (resized_stands (look old) (λ device. size_of (new device)) w w3.media s live (λ volume. ap size_of (comes.others (Data volume) (λ e. absurd cc))) (ap size_of (comes.others Log (λ e. absurd cc)))
      (backups_with w.media number (blank_medium pages) refl (not_there (get w.media number) (s.media.each number from to))) media_stand)

module _ (old new : Image) (w : World) (number : ℕ) (x : Medium) (there : get w.media number ≡ Some x) (goes : MediumGoes number old new) (s : StandsWhole old w) (live : w.area ≡ Live) where
  abbrev l4 : Look
  l4 = resized (look old) (λ device. size_of (new device))

  abbrev w4 : World
  w4 = without_medium w number

  range : (1 ≤ number) × (number ≤ 99)
  range = s.media.numbers number (subst IsSome (sym there) refl)

  was : MediumStands (look old) number x
  was = subst (λ o. MatchOption o ((look old).sizes (OnMedium number) ≡ None) (MediumStands (look old) number)) there (s.media.each number range.0 range.1)

  -- it held nothing
  held_nothing : (o : Option Backup) → x.holds ≡ o → o ≡ None
  held_nothing None is = refl
  held_nothing (Some backup) is =
      let held = was.holds backup is in
      let never : ◌≡◌ {A = Option (List ℕ)} None (Some held.0) = sym goes.blank ∙ held.1 in
      absurd cc

  media_less : MediaStand l4 w4
  media_less = record {
    numbers = λ m some.
        elim (eq_by_cmp nat_cmp m number) as (λ b. IsSome (cond b None (get w.media m)) → (1 ≤ m) × (m ≤ 99)) [
          | true ↦ λ some. absurd cc
          | false ↦ λ some. s.media.numbers m some
        ] (subst IsSome (get-remove nat_cmp_total w.media number m) some);
    each = λ m low high.
        subst (λ o. MatchOption o (l4.sizes (OnMedium m) ≡ None) (MediumStands l4 m)) (sym (get-remove nat_cmp_total w.media number m))
        (elim (eq_by_cmp nat_cmp m number) as (λ b. eq_by_cmp nat_cmp m number ≡ b → MatchOption (cond b None (get w.media m)) (l4.sizes (OnMedium m) ≡ None) (MediumStands l4 m)) [
          | true ↦ λ e. ap (λ k. size_of (new (OnMedium k))) (same_number m number e) ∙ ap size_of goes.gone
          | false ↦ λ e. stays old new m (goes.others (OnMedium m) (λ same. differs m number e (ap number_on same))) (get w.media m) (s.media.each m low high)
        ] refl);
  }

  pub goes_stands : StandsWhole new w4
  goes_stands = subst (λ l. LookStands l w4) (sym (look_resized number old new (goes_blank old new number goes)))
      (resized_stands (look old) (λ device. size_of (new device)) w w4.media s live (λ volume. ap size_of (goes.others (Data volume) (λ e. absurd cc))) (ap size_of (goes.others Log (λ e. absurd cc)))
      (backups_without w.media number x (held_nothing x.holds refl) there) media_less)

-- the same of a medium that is there, whichever it is
pub goes_from : (old new : Image) (w : World) (number : ℕ) → MediumGoes number old new → IsSome (get w.media number) → StandsWhole old w → w.area ≡ Live → StandsWhole new (without_medium w number)
goes_from old new w number goes some s live = by_medium (get w.media number) refl some where
  by_medium : (o : Option Medium) → get w.media number ≡ o → IsSome o → StandsWhole new (without_medium w number)
  by_medium None is some = absurd cc
  by_medium (Some x) is some = goes_stands old new w number x is goes s live
