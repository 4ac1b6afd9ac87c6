-- A savepoint leaves the world.
--     told_keeps, unmoved_keeps, one_tells      where the saved point stays
--     savepoint_stands      the look with the next record in force stands for the world that the look stands for
use Rattle.std.proofs.Common.{◌≡◌, refl, sym, ap, ◌∙◌, subst, ℕ, ◌+◌, ◌≤◌, min, cond, List, [], ◌∷◌, ◌++◌, Option, Some, None, arith}
use Rattle.std.specs.Prelude.{IsTrue, IfSome, MatchOption, nat_lt, filter_map, option_map, option_to_list, unwrap_or}
use Rattle.std.specs.List.{AllByRecursion}
use Rattle.std.specs.FinMap.{get}
use Rattle.std.proofs.lemmas.Bool.{le-ltb}
use Rattle.std.proofs.lemmas.Option.{same_Some}
use Rattle.mdb_model.specs.declared.change.Commit.{Commit}
use Rattle.mdb_model.specs.declared.fault.Device.TheVariants.{Medium}
use Rattle.mdb_model.specs.History.{commits_above}
use Rattle.mdb_model.specs.Worlds.{World, Live}
use Rattle.mdb_bytes.specs.declared.log_info.LogInfo.{LogInfo}
use Rattle.mdb_bytes.specs.declared.restart_record.RestartRecord.{RestartRecord}
use Rattle.mdb_bytes.specs.LogReading.{log_bytes}
use Rattle.mdb_bytes.specs.KeptMaps.{KeptMap}
use Rattle.mdb_bytes.specs.PageReadings.{all_images}
use Rattle.mdb_bytes.specs.Stages.{no_backups, one_generation, no_undo}
use Rattle.mdb_bytes.proofs.KeptMapLaws.{all_of}
use Rattle.standing.specs.Looks.{Look, saved_point, saved_in_force, point_of_info, redo_point, base_in_force}
use Rattle.mdb_bytes.specs.declared.restart_record.AreaState.TheVariants.{Normal}
use Rattle.standing.specs.WholeStanding.{redo_from, LookStands, LogStands, AreaStands, AreaIsLive, AreaFits, RowsStand, ShareNoBlock, NumbersStand, MediumStands, StageAsks, needed_from}
use Rattle.standing.specs.Switching.{switched, IsNext, TellsSaved, KeepsSaved, IsNewMap}

-- Lists and options

pub both_of : {A : Type 0} (P Q R : A → Type 0) → ((x : A) → P x → Q x → R x) → (xs : List A) → AllByRecursion P xs → AllByRecursion Q xs → AllByRecursion R xs
both_of P Q R step [] one two = tt
both_of P Q R step (x ∷ xs) one two = (step x one.0 two.0, both_of P Q R step xs one.1 two.1)

pub if_some : {A : Type 0} (P Q : A → Type 0) → ((x : A) → P x → Q x) → (o : Option A) → IfSome o P → IfSome o Q
if_some P Q step None p = tt
if_some P Q step (Some x) p = step x p

pub match_option : {A : Type 0} (N : Type 0) (P Q : A → Type 0) → ((x : A) → P x → Q x) → (o : Option A) → MatchOption o N P → MatchOption o N Q
match_option N P Q step None p = p
match_option N P Q step (Some x) p = step x p

-- up to where the log is saved, by a log info that tells it
pub tells_saved : (r : RestartRecord) (info : LogInfo) (media : ℕ → Option (List ℕ)) → r.name.generation ≤ info.name.generation → saved_in_force (Some r) (Some info) media ≡ point_of_info info media
tells_saved r info media tells = ap (λ b. cond b (redo_point r) (point_of_info info media)) (le-ltb info.name.generation r.name.generation tells)

-- so the saved point stays where the log info tells it, and where the mark stays
pub told_keeps : (r next : RestartRecord) (info : Option LogInfo) (media : ℕ → Option (List ℕ)) → next.name ≡ r.name → TellsSaved info r → KeepsSaved media info r next
told_keeps r next None media name tells = refl
told_keeps r next (Some info) media name tells =
    let told : next.name.generation ≤ info.name.generation = omega (arith, tells, ap (λ x. x.generation) name) in
    tells_saved next info media told ∙ sym (tells_saved r info media tells)

-- while there is one generation, the log info tells it
pub one_tells : (l : Look) (w : World) (r : RestartRecord) → LookStands l w → IsTrue one_generation → l.restart ≡ Some r → TellsSaved l.log_info r
one_tells l w r s asked at =
    let g = s.stage.generation asked in
    let area : AreaIsLive l w = subst (λ a. AreaStands a l s.info w) g.0 s.area in
    let same : area.rec ≡ r = same_Some area.rec r (sym area.in_force ∙ at) in
    let own : r.name.generation ≡ 1 = ap (λ x. x.name.generation) (sym same) ∙ ap (λ n. n.generation) area.name ∙ g.1 in
    if_some (λ info. info.name.generation ≡ 1) (λ info. r.name.generation ≤ info.name.generation) (λ info e. omega (arith, e, own)) l.log_info g.2

pub unmoved_keeps : (r next : RestartRecord) (info : Option LogInfo) (media : ℕ → Option (List ℕ)) → next.name ≡ r.name → next.commit ≡ r.commit → next.position ≡ r.position → KeepsSaved media info r next
unmoved_keeps r next None media name commit position = refl
unmoved_keeps r next (Some info) media name commit position =
    λ i. cond (nat_lt info.name.generation (name i).generation) (record { commit = commit i; position = position i }) (point_of_info info media)

-- where the area is in service the log is needed from the record's mark on
pub needed_in_service : (restart : Option RestartRecord) (r : RestartRecord) (saved : ℕ) → restart ≡ Some r → r.state ≡ Normal
    → unwrap_or (option_map (λ r. min (redo_from r.state r.position saved) saved) restart) saved ≡ min r.position saved
needed_in_service restart r saved is normal =
    ap (λ o. unwrap_or (option_map (λ r. min (redo_from r.state r.position saved) saved) o) saved) is
    ∙ ap (λ state. min (redo_from state r.position saved) saved) normal

module _ (l : Look) (w : World) (r next : RestartRecord) (new : KeptMap) (log : List Commit)
    (s : LookStands l w) (live : w.area ≡ Live) (at : l.restart ≡ Some r) (n : IsNext l.media r next) (keeps : KeepsSaved l.media l.log_info r next) (m : IsNewMap l next new log w) where
  abbrev l2 : Look
  l2 = switched l next new log

  abbrev maps : List KeptMap
  maps = filter_map (λ e. e.1) l.snapshots

  area : AreaIsLive l w
  area = subst (λ a. AreaStands a l s.info w) live s.area

  same_record : area.rec ≡ r
  same_record = same_Some area.rec r (sym area.in_force ∙ at)

  same_saved : saved_point l2 ≡ saved_point l
  same_saved = keeps ∙ sym (ap (λ o. saved_in_force o l.log_info l.media) at)

  same_position : (saved_point l2).position ≡ (saved_point l).position
  same_position = ap (λ p. p.position) same_saved

  needed_was : needed_from l ≡ min r.position (saved_point l).position
  needed_was = needed_in_service l.restart r (saved_point l).position at (ap (λ x. x.state) (sym same_record) ∙ area.normal)

  needed_now : needed_from l2 ≡ min next.position (saved_point l2).position
  needed_now = needed_in_service l2.restart next (saved_point l2).position refl (n.state ∙ ap (λ x. x.state) (sym same_record) ∙ area.normal)

  log_stands : LogStands l2 w
  log_stands = record {
    saved = ap (λ p. p.commit) same_saved ∙ s.log.saved;
    commits = s.log.commits;
    fits = omega (arith, s.log.fits, needed_was, needed_now, same_position, n.position);
  }

  rows : RowsStand l2 next new w
  rows = record {
    start = m.start;
    log = log;
    in_map = m.in_map;
    in_log = refl;
    tables = m.tables;
    number = m.number;
    same_number = omega (arith, m.number, area.rows.number, area.rows.same_number, ap (λ p. p.commit) same_saved);
    same_end = m.same_end ∙ ap (λ p. p + log_bytes (commits_above w.history w.saved)) (sym same_position);
  }

  -- what is known of the maps that were kept
  old_apart : AllByRecursion (λ a. AllByRecursion (ShareNoBlock a) (area.kept ∷ maps)) (area.kept ∷ maps)
  old_apart = subst (λ o. AllByRecursion (λ a. AllByRecursion (ShareNoBlock a) (option_to_list o ++ maps)) (option_to_list o ++ maps)) area.there area.apart

  apart : AllByRecursion (λ a. AllByRecursion (ShareNoBlock a) (new ∷ maps)) (new ∷ maps)
  apart = (
    (m.own, all_of (λ o. ShareNoBlock new o × ShareNoBlock o new) (ShareNoBlock new) (λ o b. b.0) maps m.beside),
    both_of (λ o. ShareNoBlock new o × ShareNoBlock o new) (λ a. AllByRecursion (ShareNoBlock a) (area.kept ∷ maps)) (λ a. AllByRecursion (ShareNoBlock a) (new ∷ maps)) (λ a b all. (b.1, all.1)) maps m.beside old_apart.1,
  )

  old_stamps : AllByRecursion (λ kept. AllByRecursion (λ e. e.1.stamp ≤ area.rec.savepoint) kept.places) (area.kept ∷ maps)
  old_stamps = subst (λ o. AllByRecursion (λ kept. AllByRecursion (λ e. e.1.stamp ≤ area.rec.savepoint) kept.places) (option_to_list o ++ maps)) area.there area.numbers.stamps

  later : area.rec.savepoint ≤ next.savepoint
  later = omega (arith, n.savepoint, ap (λ x. x.savepoint) same_record)

  same_base : base_in_force next l.media ≡ base_in_force area.rec l.media
  same_base = n.base ∙ ap (λ x. base_in_force x l.media) (sym same_record)

  numbers : NumbersStand l2 next w
  numbers = record {
    base = subst (λ o. IfSome o (λ savepoint. savepoint ≤ next.savepoint)) (sym same_base)
        (if_some (λ savepoint. savepoint ≤ area.rec.savepoint) (λ savepoint. savepoint ≤ next.savepoint) (λ savepoint le. omega (arith, le, later)) (base_in_force area.rec l.media) area.numbers.base);
    stamps = (
      m.stamps,
      all_of (λ kept. AllByRecursion (λ e. e.1.stamp ≤ area.rec.savepoint) kept.places) (λ kept. AllByRecursion (λ e. e.1.stamp ≤ next.savepoint) kept.places)
          (λ kept all. all_of (λ e. e.1.stamp ≤ area.rec.savepoint) (λ e. e.1.stamp ≤ next.savepoint) (λ e le. omega (arith, le, later)) kept.places all) maps old_stamps.1,
    );
    media = λ k d lt ours. omega (arith, area.numbers.media k d lt ours, later);
  }

  sizes : AreaFits l2 next.volumes.items w
  sizes =
      let at_volumes : AreaFits l next.volumes.items w = subst (λ (v : List ℕ). AreaFits l v w) (sym (ap (λ v. v.items) n.volumes ∙ ap (λ x. x.volumes.items) (sym same_record))) area.sizes in
      record { limits = at_volumes.limits; blocks = at_volumes.blocks; there = at_volumes.there }

  live_area : AreaIsLive l2 w
  live_area = record {
    rec = next;
    kept = new;
    in_force = refl;
    normal = n.state ∙ ap (λ x. x.state) (sym same_record) ∙ area.normal;
    name = n.name ∙ ap (λ x. x.name) (sym same_record) ∙ area.name;
    sizes = sizes;
    there = refl;
    in_order = m.in_order;
    rows = rows;
    snapshots = area.snapshots;
    apart = apart;
    base = record { in_force = same_base ∙ area.base.in_force; since = m.since };
    room = m.room;
    numbers = numbers;
  }

  old_images : IsTrue no_undo → AllByRecursion (λ kept. all_images kept.pages ≡ []) (area.kept ∷ maps)
  old_images asked = subst (λ o. AllByRecursion (λ kept. all_images kept.pages ≡ []) (option_to_list o ++ maps)) area.there (s.stage.images asked).maps

  no_pending : IsTrue no_backups → next.pending_medium ≡ 0
  no_pending asked = n.pending (subst (λ o. IfSome o (λ x. x.pending_medium ≡ 0)) at (s.stage.backups asked).record_pending)

  stage : StageAsks l2 w
  stage = record {
    backups = λ asked.
        let old = s.stage.backups asked in
        record { blank = old.blank; saved = old.saved; base = old.base; record_pending = no_pending asked; log_pending = old.log_pending };
    generation = s.stage.generation;
    snapshots = s.stage.snapshots;
    images = λ asked. record { maps = (m.images asked, (old_images asked).1); media = (s.stage.images asked).media };
    changed_pages = s.stage.changed_pages;
  }

  pub savepoint_stands : LookStands l2 w
  savepoint_stands = record {
    offline = s.offline;
    info = s.info;
    in_force = s.in_force;
    birth = s.birth;
    generation = s.generation;
    log_size = record { there = s.log_size.there; least = s.log_size.least; most = s.log_size.most; ring = s.log_size.ring };
    log = log_stands;
    area = subst (λ a. AreaStands a l2 s.info w) (sym live) live_area;
    media = record {
      numbers = s.media.numbers;
      each = λ number low high. match_option (l.sizes (Medium number) ≡ None) (MediumStands l number) (MediumStands l2 number)
          (λ medium stands. record { there = stands.there; least = stands.least; most = stands.most; blank = stands.blank; holds = stands.holds })
          (get w.media number) (s.media.each number low high);
    };
    room = s.room;
    stage = stage;
  }
