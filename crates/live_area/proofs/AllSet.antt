-- All commits of the log are set on the rows.
--     saved_at      up to where the log is saved follows from the world and from where the log ends
--     serves_set      the database serves the world then
use Rattle.std.proofs.Common.{◌≡◌, refl, sym, ap, subst, ◌∙◌, ◌+◌, List, [], ◌∷◌, ◌++◌, arith}
use Rattle.std.proofs.lemmas.Option.{same_Some}
use Rattle.mdb_model.specs.declared.change.Commit.{Commit}
use Rattle.mdb_model.specs.History.{tables_of, commits_above}
use Rattle.mdb_model.specs.Worlds.{World}
use Rattle.mdb_host.specs.Disk.{Disk}
use Rattle.mdb_bytes.specs.declared.log_info.LogInfo.{LogInfo}
use Rattle.mdb_bytes.specs.declared.restart_record.RestartRecord.{RestartRecord}
use Rattle.mdb_bytes.specs.LogReading.{log_bytes}
use Rattle.gate_slots.specs.declared.slots.Slots.{Slots}
use Rattle.page_store.specs.Store.{Store}
use Rattle.redo_ring.specs.declared.ring.Ring.{Ring}
use Rattle.redo_ring.specs.declared.reader.RingReader.{RingReader}
use Rattle.standing.specs.Looks.{LogPoint, look}
use Rattle.standing.specs.WholeStanding.{StandsWhole, AreaStands, AreaIsLive}
use Rattle.kept_worlds.specs.InService.{IsShown, IsInService, AllStand, EndsAt, IsPlain}
use Rattle.page_ground.specs.declared.set_point.SetPoint.{SetPoint}
use Rattle.page_ground.specs.Aims.{undone_in, StandsForWorld}
use Rattle.page_ground.specs.SetGroups.{HasTheseRows}
use Rattle.live_area.specs.Serving.{saved_by, ServesWorld, read_from}

pub no_more : (xs : List Commit) → xs ++ [] ≡ xs
no_more [] = refl
no_more (x ∷ xs) = ap (λ (l : List Commit). x ∷ l) (no_more xs)

pub saved_at : (w : World) (x : Disk) → x.may_leave x.now x.seen → AllStand w x → IsPlain w → (r : RestartRecord) (info : LogInfo) (saved : LogPoint) (log : List Commit) → IsShown r info saved log (look x.seen)
    → (saved.commit ≡ w.saved) × (r.position + log_bytes log ≡ saved.position + log_bytes (commits_above w.history w.saved))
saved_at w x left all plain r info saved log is =
    let st : StandsWhole x.seen w = all x.seen left in
    let area : AreaIsLive (look x.seen) w = subst (λ a. AreaStands a (look x.seen) st.info w) plain.live st.area in
    let same : area.rec ≡ r = same_Some area.rec r (sym area.in_force ∙ is.restart) in
    let same_log : area.rows.log ≡ log = same_Some area.rows.log log (sym area.rows.in_log ∙ is.redo) in (
      sym (ap (λ (p : LogPoint). p.commit) is.saved_upto) ∙ st.log.saved,
      (λ i. (sym same i).position + log_bytes (sym same_log i)) ∙ area.rows.same_end ∙ ap (λ (p : LogPoint). p.position + log_bytes (commits_above w.history w.saved)) is.saved_upto,
    )

-- Before, the log after the record ended where the ring does; now no commit is left to be set
module _ (w : World) (plain : IsPlain w) (ring : Ring) (r : RestartRecord) (info : LogInfo) (log : List Commit) (e : Disk) (seen_left : e.may_leave e.now e.seen) (all_before : AllStand w e)
    (shown : IsShown r info (saved_by ring) log (look e.seen)) (ended : EndsAt r log ring.end_position ring.last_commit)
    (tells : Type 0) (slots2 : Slots) (r2 : RestartRecord) (t : Store) (f : Disk) (seen_left2 : f.may_leave f.now f.seen) (all_now : AllStand w f)
    (reader : RingReader) (set : SetPoint) (stands : StandsForWorld tells slots2 r2 reader set t f) (none : undone_in reader set f.seen ≡ [])
    (end_is : set.position ≡ ring.end_position) (number_is : set.commit ≡ ring.last_commit) (name : reader.name ≡ ring.name) (size : reader.size ≡ ring.size)
    (rows : HasTheseRows tells t f.seen (tables_of w.history)) where
  abbrev done : List Commit
  done = stands.done

  service : IsInService tells slots2 r2 stands.info stands.saved done t f
  service = subst (λ xs. IsInService tells slots2 r2 stands.info stands.saved xs t f) (ap (λ xs. done ++ xs) none ∙ no_more done) stands.service

  ends : EndsAt r2 done ring.end_position ring.last_commit
  ends = record { position = sym end_is ∙ stands.ends.position; commit = sym number_is ∙ stands.ends.commit }

  same_saved : stands.saved ≡ saved_by ring
  same_saved =
      let one = saved_at w e seen_left all_before plain r info (saved_by ring) log shown in
      let two = saved_at w f seen_left2 all_now plain r2 stands.info stands.saved done (service.shown f.seen seen_left2) in
      let commit : stands.saved.commit ≡ ring.saved_commit = two.0 ∙ sym one.0 in
      let position : stands.saved.position ≡ ring.saved_position = omega (arith, one.1, two.1, ended.position, ends.position) in
      λ i. record { commit = commit i; position = position i }

  pub serves_set : ServesWorld tells slots2 r2 t (read_from ring r2) f w
  serves_set = record {
    stand = all_now;
    plain = plain;
    info = stands.info;
    log = done;
    service = subst (λ p. IsInService tells slots2 r2 stands.info p done t f) same_saved service;
    rows = rows.known;
    all_set = rows.are;
    ends = ends;
    name = sym name ∙ stands.name;
    size = sym size ∙ stands.size;
    redo = omega (arith, ends.position);
  }
