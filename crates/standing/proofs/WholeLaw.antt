-- What the creation of a database leaves stands for a world.
--     new_stands      the law
--     same_look      images that show the same stand for the same worlds
use Rattle.std.proofs.Common.{◌≡◌, ◌≢◌, inl, inr, refl, sym, ap, subst, ◌∙◌, ℕ, zero, suc, ◌+◌, ◌-◌, ◌*◌, ◌<◌, ◌≤◌, ◌==◌, true, false, cond, ◌&&◌, ◌||◌, List, [], ◌∷◌, ◌++◌, length, map, sum, Some, None, arith}
use Rattle.std.specs.Prelude.{MatchOption, not, option_and_then, is_some, filter_map}
use Rattle.std.specs.List.{list_any, range_with_len, AllZip, AllByRecursion}
use Rattle.std.specs.Ordering.{nat_cmp}
use Rattle.std.specs.FinMap.{get, get-empty, empty, len, len-empty}
use Rattle.std.specs.FinSet.{members}
use Rattle.std.proofs.lemmas.Bool.{ne_eqb, le-leb}
use Rattle.std.proofs.lemmas.List.Sums.{sum_by-cons}
use Rattle.mdb_model.specs.declared.change.Commit.{Commit}
use Rattle.mdb_model.specs.declared.fault.Device.TheVariants.{Medium}
use Rattle.mdb_model.specs.Backups.{Medium as WorldMedium}
use Rattle.mdb_model.specs.Images.{Image, size_of}
use Rattle.mdb_model.specs.Sessions.{group_bytes}
use Rattle.mdb_model.specs.Steps.{backups_of}
use Rattle.mdb_model.specs.History.{tables_of, cut}
use Rattle.mdb_model.specs.Space.{map_has_room, both_have_room, is_enough, tree_pages, every_table, converter_pages}
use Rattle.mdb_model.specs.Tables.{place_cmp}
use Rattle.mdb_model.specs.Worlds.{World, Snapshot}
use Rattle.mdb_model.proofs.Computing.{entries-empty, tree_pages-lists, list_pages}
use Rattle.mdb_bytes.specs.declared.log_info.LogInfo.{LogInfo}
use Rattle.mdb_bytes.specs.declared.restart_record.RestartRecord.{RestartRecord}
use Rattle.mdb_bytes.specs.Fields.{all_differ}
use Rattle.mdb_bytes.specs.Firsts.{leaf_count, first_root_block, first_restart, first_log_info, first_name}
use Rattle.mdb_bytes.specs.LogReading.{IsLog, log_from, log_bytes}
use Rattle.mdb_bytes.specs.Rings.{ring_byte}
use Rattle.mdb_bytes.specs.Forms.{reading}
use Rattle.mdb_bytes.proofs.FirstPages.{first_pages, well_formed, standing_is, committed_is, undo_count_is, all_images_are}
use Rattle.mdb_bytes.proofs.GroupLaw.{group_is_long}
use Rattle.mdb_bytes.proofs.LogLaw.{is_log-log_from}
use Rattle.volume_disk.specs.Blocks.{block_at}
use Rattle.standing.specs.Standing.{Site, HasRecords, IsNew, at_rest, creation_at, ring_of}
use Rattle.standing.specs.Looks.{Look, look, record_in, log_info_in, record_of, log_info_of, open_medium, map_of_record, map_under, snapshot_maps, saved_after, redo_after}
use Rattle.standing.specs.WholeStanding.{LookStands, StandsWhole, MapIsInOrder, ShareNoBlock, AreaIsLive, IsSnapshot, MediumStands, RoomStands, HaveRoom, blocks_in_use}
use Rattle.standing.proofs.FirstMaps.{first_map, map_is}

pub same_look : (a b : Image) (w : World) → look a ≡ look b → StandsWhole a w → StandsWhole b w
same_look a b w same = subst (λ l. LookStands l w) same

false-true : false ≡ true → ⊥
false-true e = cc

-- Blocks

-- the blocks from one on are of the area
all_within : (top a n : ℕ) → 2 ≤ a → a + n ≤ top → AllByRecursion (λ b. (2 ≤ b) × (b < top)) (range_with_len a n)
all_within top a zero low high = tt
all_within top a (suc n) low high = ((low, omega (arith, high)), all_within top (a + 1) n (omega (arith, low)) (omega (arith, high)))

-- a block below is none of them
none_of : (x a n : ℕ) → x < a → AllByRecursion (λ b. x ≢ b) (range_with_len a n)
none_of x a zero below = tt
none_of x a (suc n) below = ((λ e. omega (arith, e, below)), none_of x (a + 1) n (omega (arith, below)))

-- the blocks of the two pages
abbrev two_blocks : List ℕ
two_blocks = 2 ∷ 3 ∷ []

-- a number that is none of these
absent : (x a n : ℕ) → 4 ≤ x → ((k : ℕ) → a ≤ k → k < a + n → x ≢ k) → list_any (λ y. x == y) (range_with_len a n ++ two_blocks) ≡ false
absent x a zero high away = λ i. ne_eqb x 2 (λ e. omega (arith, e, high)) i || (ne_eqb x 3 (λ e. omega (arith, e, high)) i || false)
absent x a (suc n) high away =
    λ i. ne_eqb x a (away a (omega arith) (omega arith)) i
    || absent x (a + 1) n high (λ k low up. away k (omega (arith, low)) (omega (arith, up))) i

differ : (a n : ℕ) → 4 ≤ a → all_differ (λ a b. a == b) (range_with_len a n ++ two_blocks) ≡ true
differ a zero high = refl
differ a (suc n) high =
    λ i. not (absent a (a + 1) n high (λ k low up e. omega (arith, low, e)) i) && differ (a + 1) n (omega (arith, high)) i

-- the map of a new database is in order
in_order : (blocks : ℕ) → 512 ≤ blocks → MapIsInOrder (first_map blocks) blocks
in_order blocks least = record {
  blocks_apart = record {
    numbers = (omega (arith, least), (omega (arith, least), tt));
    converter = ((omega arith, omega (arith, least)), all_within blocks 4 (leaf_count blocks) (omega arith) (omega (arith, least)));
    placed = ((omega arith, omega (arith, least)), ((omega arith, omega (arith, least)), tt));
    once = λ i. not (absent (first_root_block blocks) 4 (leaf_count blocks) (omega arith) (λ k low up e. omega (arith, up, e)) i) && differ 4 (leaf_count blocks) (omega arith) i;
  };
  form = well_formed;
}

-- it shares no block with itself but the same page's
own_blocks : (blocks : ℕ) → ShareNoBlock (first_map blocks) (first_map blocks)
own_blocks blocks = record {
  pages = ((λ e. refl, (λ e. absurd (omega (arith, e)), tt)), ((λ e. absurd (omega (arith, e)), (λ e. refl, tt)), tt));
  converter = (
    (λ e. omega (arith, e), none_of 2 4 (leaf_count blocks) (omega arith)),
    ((λ e. omega (arith, e), none_of 3 4 (leaf_count blocks) (omega arith)), tt),
  );
}

-- each commit has a byte or more
few : (commits : List Commit) → length commits ≤ log_bytes commits
few [] = omega arith
few (commit ∷ commits) =
    let whole : log_bytes (commit ∷ commits) ≡ group_bytes commit.changes + log_bytes commits = sum_by-cons (λ (c : Commit). group_bytes c.changes) commit commits in
    omega (arith, whole, group_is_long commit.changes, few commits)

-- The image of a database with these commits in its log.
module _ (image : Image) (site : Site) (commits : List Commit) (records : HasRecords site image)
    (log : IsLog (ring_byte (ring_of site) image) (first_name site.birth) 0 0 commits) (room : log_bytes commits < ring_of site) where
  abbrev blocks : ℕ
  blocks = sum site.volumes

  abbrev world : World
  world = at_rest (creation_at site) commits

  abbrev rec : RestartRecord
  rec = first_restart site.birth site.volumes

  abbrev info : LogInfo
  info = first_log_info site.birth site.log_pages

  restart_is : record_in image ≡ Some rec
  restart_is = ap (option_and_then record_of) records.restart

  info_is : log_info_in image ≡ Some info
  info_is = ap (option_and_then log_info_of) records.log_info

  kept_is : map_of_record image rec ≡ Some (first_map blocks)
  kept_is =
      ap (λ b. cond b None (map_under image rec (first_root_block blocks))) (ne_eqb (first_root_block blocks) 0 (λ e. omega (arith, e)))
      ∙ map_is (block_at site.volumes image) blocks records.limits.volumes.most (omega (arith, records.limits.volumes.least)) records.pages

  log_is : log_from (ring_byte (ring_of site) image) (first_name site.birth) (ring_of site) 0 0 ≡ Some commits
  log_is = is_log-log_from (ring_byte (ring_of site) image) (first_name site.birth) (ring_of site) 0 0 commits log (omega (arith, few commits, room))

  abbrev shown : Look
  shown = record {
    sizes = λ device. size_of (image device);
    restart = Some rec;
    log_info = Some info;
    media = open_medium image;
    kept = Some (first_map blocks);
    snapshots = [];
    saved_log = Some commits;
    redo_log = Some commits;
  }

  shows : look image ≡ shown
  shows =
      let kept : option_and_then (map_of_record image) (record_in image) ≡ Some (first_map blocks) = ap (option_and_then (map_of_record image)) restart_is ∙ kept_is in
      let saved : saved_after image (log_info_in image) (record_in image) ≡ Some commits = (λ i. saved_after image (info_is i) (restart_is i)) ∙ log_is in
      let redo : redo_after image (log_info_in image) (record_in image) ≡ Some commits = (λ i. redo_after image (info_is i) (restart_is i)) ∙ log_is in
      λ i. record {
        sizes = λ device. size_of (image device);
        restart = restart_is i;
        log_info = info_is i;
        media = open_medium image;
        kept = kept i;
        snapshots = snapshot_maps image (restart_is i);
        saved_log = saved i;
        redo_log = redo i;
      }

  no_media : backups_of world ≡ []
  no_media = ap (λ es. filter_map (λ m. m.holds) (map (λ e. e.1) es)) (entries-empty {X = WorldMedium} nat_cmp)

  no_medium : (number : ℕ) → get world.media number ≡ None
  no_medium number = get-empty nat_cmp number

  live : RoomStands shown rec (first_map blocks) world → AreaIsLive shown world
  live room = record {
    rec = rec;
    kept = first_map blocks;
    in_force = refl;
    normal = refl;
    name = refl;
    sizes = record { limits = records.limits.volumes; blocks = refl; there = records.volumes };
    there = refl;
    in_order = in_order blocks records.limits.volumes.least;
    rows = record { start = empty; log = commits; in_map = committed_is; in_log = refl; tables = refl; number = refl; same_number = refl; same_end = refl };
    snapshots = subst (λ es. AllZip (IsSnapshot blocks) es []) (sym (entries-empty nat_cmp)) tt;
    apart = ((own_blocks blocks, tt), tt);
    base = record { in_force = refl; since = tt };
    room = room;
    numbers = record { base = tt; stamps = ((omega arith, (omega arith, tt)), tt); media = λ k d lt. absurd (omega (arith, lt, ap length no_media)) };
  }

  -- where the map and the commits have room
  shown_stands : RoomStands shown rec (first_map blocks) world → HaveRoom (tables_of (cut world.history 0)) commits 0 blocks → LookStands shown world
  shown_stands of_map of_commits = record {
    offline = refl;
    info = info;
    in_force = refl;
    birth = refl;
    generation = omega arith;
    log_size = record { there = records.log; least = records.limits.least; most = records.limits.most; ring = refl };
    log = record { saved = refl; commits = refl; fits = omega (arith, room) };
    area = live of_map;
    media = record {
      numbers = λ number there. (let never : false ≡ true = sym (ap is_some (no_medium number)) ∙ there in absurd (false-true never));
      each = λ number low high. subst (λ o. MatchOption o (shown.sizes (Medium number) ≡ None) (MediumStands shown number)) (sym (no_medium number)) (ap size_of (records.media number low high));
    };
    room = of_commits;
    stage = record {
      backups = λ asked. record { blank = no_media; saved = refl; base = refl; record_pending = refl; log_pending = refl };
      generation = λ asked. (refl, refl, refl);
      snapshots = λ asked. refl;
      images = λ asked. record { maps = (all_images_are, tt); media = λ k d lt. absurd (omega (arith, lt, ap length no_media)) };
      changed_pages = λ asked k d lt. absurd (omega (arith, lt, ap length no_media));
    };
  }

  pub created_stands : RoomStands shown rec (first_map blocks) world → HaveRoom (tables_of (cut world.history 0)) commits 0 blocks → StandsWhole image world
  created_stands of_map of_commits = subst (λ l. LookStands l world) (sym shows) (shown_stands of_map of_commits)

-- Room of a new database

no_pages : list_pages [] [] ≡ 0
unfolding every_table
no_pages = refl

no_tables : tree_pages empty empty ≡ 0
no_tables = tree_pages-lists empty empty [] [] (entries-empty place_cmp) (entries-empty place_cmp) ∙ no_pages

room_is : (blocks : ℕ) → 512 ≤ blocks → map_has_room reading first_pages 0 blocks ≡ true
room_is blocks least =
    let enough : is_enough empty empty 0 0 blocks ≡ true = le-leb (4 + tree_pages empty empty + 0 + 2 * converter_pages blocks + 0 + 160) blocks (omega (arith, no_tables, least)) in
    (λ i. both_have_room (standing_is i) (committed_is i) (undo_count_is i) 0 blocks) ∙ (λ i. enough i || is_enough empty empty 0 0 (blocks - 1))

enough_blocks : (n used blocks : ℕ) → n ≡ 0 → used ≡ 2 → 512 ≤ blocks → 2 + used + (n + 2) * converter_pages blocks ≤ blocks
enough_blocks n used blocks none two least = subst (λ (k : ℕ). 2 + used + (k + 2) * converter_pages blocks ≤ blocks) (sym none) (omega (arith, two, least))

-- what the creation leaves stands for the new world
pub new_stands : (image : Image) (site : Site) → IsNew site image → StandsWhole image (at_rest (creation_at site) [])
new_stands image site new =
    let records = new.records in
    let closed = new.log in
    let ring : 0 < ring_of site = omega (arith, records.limits.least) in
    let least = records.limits.volumes.least in
    let in_use : blocks_in_use (shown image site [] records closed ring) ≡ 2 = simp members refl in
    let no_snapshots : len (empty {K = ℕ} {X = Snapshot} {R = nat_cmp}) ≡ 0 = len-empty nat_cmp Snapshot in
    created_stands image site [] records closed ring
    (record {
      maps = (room_is (sum site.volumes) least, tt);
      restart = λ needs. absurd (elim needs [ inl a ↦ omega (arith, a, ap length all_images_are) | inr b ↦ omega (arith, b) ]);
      blocks = enough_blocks (len (empty {K = ℕ} {X = Snapshot} {R = nat_cmp})) (blocks_in_use (shown image site [] records closed ring)) (sum site.volumes) no_snapshots in_use least;
    })
    tt
