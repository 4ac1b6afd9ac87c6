-- An image after a group was appended to the ring stands for the world that it stood for, or for that with the commit.
--     appends_stand, appended_stands      the law at each moment, and after the call
--     off_committed      the world with a commit more is the one that the line COMMIT gives
use Rattle.std.proofs.Common.{◌≡◌, ◌⊎◌, inl, inr, refl, sym, ap, ◌∙◌, subst, ℕ, ◌+◌, ◌-◌, ◌≤◌, min, List, Some, arith, length-drop}
use Rattle.std.proofs.lemmas.Option.{same_Some}
use Rattle.mdb_model.specs.declared.change.Commit.{Commit}
use Rattle.mdb_model.specs.History.{last, commits_above}
use Rattle.mdb_model.specs.Images.{Image}
use Rattle.mdb_model.specs.Sessions.{group_bytes, net_changes}
use Rattle.mdb_model.specs.Steps.{committed_by}
use Rattle.mdb_model.specs.Worlds.{World, Live, off, transaction}
use Rattle.mdb_bytes.specs.declared.log_info.LogInfo.{LogInfo}
use Rattle.mdb_bytes.specs.declared.restart_record.RestartRecord.{RestartRecord}
use Rattle.mdb_bytes.specs.KeptMaps.{KeptMap}
use Rattle.mdb_bytes.specs.LogReading.{IsLog, log_bytes}
use Rattle.mdb_bytes.specs.Rings.{ring_size, ring_byte}
use Rattle.redo_ring.specs.Ring.{IsDue, Appends, Appended}
use Rattle.standing.specs.Looks.{LogPoint, look, record_in, log_info_in, open_medium, saved_in_force, saved_point, saved_after, redo_after, redo_point}
use Rattle.standing.specs.WholeStanding.{LookStands, StandsWhole, AreaStands, AreaIsLive, needed_from}
use Rattle.standing.proofs.LookLaws.{log_is}
use Rattle.standing.proofs.SavepointStands.{needed_in_service}
use Rattle.standing.specs.Appending.{appended, with_commit, HasRoomFor}
use Rattle.standing.proofs.LookAppended.{look_appended, look_has_it}
use Rattle.standing.proofs.AppendStands.{append_stands}

-- the world with a commit more is the one that the line COMMIT gives
pub off_committed : (w : World) (session : ℕ) → off (committed_by w session) ≡ with_commit (off w) (record { changes = net_changes (transaction w session).changes })
off_committed w session = refl

module _ (old new : Image) (w : World) (c : Commit) (info : LogInfo) (r : RestartRecord) (kept : KeptMap) (end number : ℕ)
    (s : StandsWhole old w) (live : w.area ≡ Live) (info_is : log_info_in old ≡ Some info) (record_is : record_in old ≡ Some r) (there : (look old).kept ≡ Some kept)
    (from : w.history.first ≤ w.saved) (upto : w.saved ≤ last w.history) (room : HasRoomFor (look old) kept c w)
    (end_is : end ≡ (saved_point (look old)).position + log_bytes (commits_above w.history w.saved)) (number_is : number ≡ last w.history) where
  abbrev size : ℕ
  size = ring_size info.pages

  abbrev above : List Commit
  above = commits_above w.history w.saved

  abbrev point : LogPoint
  point = saved_in_force (Some r) (Some info) (open_medium old)

  pub area : AreaIsLive (look old) w
  area = subst (λ a. AreaStands a (look old) s.info w) live s.area

  same_record : area.rec ≡ r
  same_record = same_Some area.rec r (sym area.in_force ∙ record_is)

  same_info : s.info ≡ info
  same_info = same_Some s.info info (sym s.in_force ∙ info_is)

  point_is : saved_point (look old) ≡ point
  point_is = λ i. saved_in_force (record_is i) (info_is i) (open_medium old)

  ring_is : w.ring ≡ size
  ring_is = s.log_size.ring ∙ ap (λ x. ring_size x.pages) same_info

  needed_is : needed_from (look old) ≡ min r.position (saved_point (look old)).position
  needed_is = needed_in_service (look old).restart r (saved_point (look old)).position record_is (ap (λ x. x.state) (sym same_record) ∙ area.normal)

  saved_log : IsLog (ring_byte size old) r.name point.position point.commit above
  saved_log = log_is old info r.name point above (sym (λ i. saved_after old (info_is i) (record_is i)) ∙ s.log.commits)

  redo_log : IsLog (ring_byte size old) r.name r.position r.commit area.rows.log
  redo_log = log_is old info r.name (redo_point r) area.rows.log (sym (λ i. redo_after old (info_is i) (record_is i)) ∙ area.rows.in_log)

  saved_due : IsDue size r.name end number (group_bytes c.changes) (ring_byte size old) point.position point.commit above
  saved_due = record {
    log = saved_log;
    ends = omega (arith, end_is, ap (λ p. p.position) point_is);
    count = omega (arith, number_is, ap (λ p. p.commit) point_is, s.log.saved, from, upto, length-drop (w.saved - w.history.first) w.history.commits);
    room = omega (arith, room.ring, end_is, ap (λ p. p.position) point_is, needed_is, ring_is);
  }

  redo_due : IsDue size r.name end number (group_bytes c.changes) (ring_byte size old) r.position r.commit area.rows.log
  redo_due = record {
    log = redo_log;
    ends = omega (arith, end_is, area.rows.same_end, ap (λ x. x.position) same_record);
    count = omega (arith, number_is, area.rows.number, ap (λ x. x.commit) same_record);
    room = omega (arith, room.ring, end_is, needed_is, ring_is);
  }

  more_stands : LookStands (appended (look old) above area.rows.log c) (with_commit w c)
  more_stands = append_stands (look old) w c r kept area.rows.log s live record_is there area.rows.in_log from upto room

  -- what an image shows at each moment, and after the call
  pub appends_look : Appends size r.name end number c.changes old new → (look new ≡ look old) ⊎ (look new ≡ appended (look old) above area.rows.log c)
  appends_look step = look_appended old new info r end number c above area.rows.log step info_is record_is saved_due redo_due

  pub appended_look : Appended size r.name end number c.changes old new → look new ≡ appended (look old) above area.rows.log c
  appended_look step = look_has_it old new info r end number c above area.rows.log step info_is record_is saved_due redo_due

  pub log_shown_is : (look old).redo_log ≡ Some area.rows.log
  log_shown_is = area.rows.in_log

  -- at each moment
  pub appends_stand : Appends size r.name end number c.changes old new → StandsWhole new w ⊎ StandsWhole new (with_commit w c)
  appends_stand step = elim (look_appended old new info r end number c above area.rows.log step info_is record_is saved_due redo_due) [
    | inl same ↦ inl (subst (λ l. LookStands l w) (sym same) s)
    | inr more ↦ inr (subst (λ l. LookStands l (with_commit w c)) (sym more) more_stands)
  ]

  -- after the call
  pub appended_stands : Appended size r.name end number c.changes old new → StandsWhole new (with_commit w c)
  appended_stands step = subst (λ l. LookStands l (with_commit w c)) (sym (look_has_it old new info r end number c above area.rows.log step info_is record_is saved_due redo_due)) more_stands
