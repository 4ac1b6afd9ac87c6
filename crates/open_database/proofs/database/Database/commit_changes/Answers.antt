use Rattle.std.proofs.Common.{◌≡◌, ◌∙◌, refl, sym, subst, ap, ℕ, ◌+◌, ◌-◌, ◌<◌, ◌^◌, Bool, List, [], ◌∷◌, length, Some, Ok}
use Rattle.mdb_model.specs.declared.change.Commit.{Commit}
use Rattle.mdb_model.specs.declared.name.Name.{Name}
use Rattle.mdb_model.specs.declared.script.Command.TheVariants.{CommitWork}
use Rattle.mdb_model.specs.declared.script.Refusal.TheVariants.{LogFull}
use Rattle.mdb_model.specs.declared.script.Reply.TheVariants.{Committed}
use Rattle.mdb_model.specs.Answers.{plain, refused}
use Rattle.mdb_model.specs.Sessions.{net_changes}
use Rattle.mdb_model.specs.Worlds.{World, transaction, off}
use Rattle.mdb_host.specs.Disk.{Disk}
use Rattle.page_ground.proofs.Passing.{err_passed}
use Rattle.space_rule.specs.KnownCosts.{KnownCosts}
use Rattle.space_rule.specs.Spaces.{known_costs}
use Rattle.store_rows.specs.StoredRows.{stored_rows}
use Rattle.live_area.specs.declared.area.LiveArea.{LiveArea}
use Rattle.live_area.specs.Serving.{ServesWorld}
use Rattle.open_database.specs.declared.database.Database.{Database}
use Rattle.open_database.specs.Groups.{GroupAnswer, GroupLeaves}
use Rattle.open_database.specs.Outside.{page_reading, StandsFor}
use Rattle.open_database.specs.Serving.{FitsOpen, LineDoes}
use Rattle.open_database.specs.Stretch.{Completes}
use Rattle.open_database.proofs.Answering.{served}
use Rattle.open_database.proofs.CommitLines.{has_some, can_commit, spells_commit, commit_full, commit_fails, commit_done}
use Rattle.open_database.proofs.Numbers.{greatest_grown}
use Rattle.open_database.proofs.RowLines.{sound_moved}
use Rattle.open_database.proofs.database.Database.commit_changes.Goals as goal

pub returns-in_err-commit_group-clause-does : goal.returns-in_err-commit_group-clause-does
returns-in_err-commit_group-clause-does g c told ws fit =
    let old = c.args.self.now in
    let session = c.args.session in
    let d = g.H.Host.disk c.args.host.now in
    let e = g.H.Host.disk c.commit_group.new.host in
    let w = fit.w in
    let s = fit.serves in
    let ring = old.area.ring in
    let group = c.net_changes.new.into in
    let area = c.commit_group.new.area in
    let new : Database = record old { area = area; group = group } in
    let law = c.what_is_served.ensures in
    let some = has_some g.H.Host.tells old d session c.requires.session w s c.requires.online c.requires.some in
    let spelled = c.net_changes.ensures.group in
    let can =
    can_commit g.H.Host.tells old d session c.requires.session w s c.requires.online c.requires.some ring.name (ring.last_commit + 1) group spelled (c.a_counted_commit_has_room.ensures (known_costs old.space) w session.0 s.counted some) in
    let commit : Commit = record { changes = net_changes (transaction w session.0).changes } in
    let serves : World → Type 0 = ServesWorld g.H.Host.tells area.in_force.slots area.in_force.record area.store area.ring e in
    let leaves =
    c.in_err-commit_group.ensures.leaves told (off w) commit (spells_commit g.H.Host.tells old d session c.requires.session w s c.requires.online c.requires.some ring.name (ring.last_commit + 1) group spelled) s.area can
    (law.room _ _ _ _ c.args.host.now (off w) s.area) in
    subst (λ (vs : List World). LineDoes g.H.Host.tells d e vs (CommitWork session) plain new c.from_residual.result) (sym fit.is)
    (err_passed (LineDoes g.H.Host.tells d e (w ∷ []) (CommitWork session) plain new) c.in_err-commit_group.field-0.0 c.from_residual.result c.from_residual.ensures.1
    (commit_fails g.H.Host.tells old d session c.requires.session w s c.requires.online c.requires.some (length group) c.net_changes.ensures.len
    (law.ring _ _ _ _ c.args.host.now (off w) s.area) (law.unsaved_bytes _ _ _ _ c.args.host.now (off w) s.area) new e serves c.in_err-commit_group.field-0.0 c.in_err-commit_group.ensures.answer leaves))

pub returns-then-not-branch-clause-sound : goal.returns-then-not-branch-clause-sound
returns-then-not-branch-clause-sound g c =
    let old = c.args.self.now in
    let new : Database = record old { area = c.commit_group.new.area; group = c.net_changes.new.into } in
    let same = c.commit_group.ensures.refused (subst (λ (b : Bool). c.commit_group.result ≡ Ok b) c.if-not-branch.true c.in_ok-commit_group.was) in
    sound_moved g.H.Host.tells old new (g.H.Host.disk c.args.host.now) (g.H.Host.disk c.commit_group.new.host) c.requires.sound c.in_ok-commit_group.ensures.sound refl c.commit_group.ensures.area.area (ap (λ (x : LiveArea). x.ring) same.0)

pub returns-then-not-branch-clause-does : goal.returns-then-not-branch-clause-does
returns-then-not-branch-clause-does g c told ws fit =
    let old = c.args.self.now in
    let session = c.args.session in
    let d = g.H.Host.disk c.args.host.now in
    let w = fit.w in
    let s = fit.serves in
    let ring = old.area.ring in
    let group = c.net_changes.new.into in
    let new : Database = record old { area = c.commit_group.new.area; group = group } in
    let law = c.what_is_served.ensures in
    let same = c.commit_group.ensures.refused (subst (λ (b : Bool). c.commit_group.result ≡ Ok b) c.if-not-branch.true c.in_ok-commit_group.was) in
    let full = subst (λ (b : Bool). GroupAnswer ring.size (ring.end_position - ring.saved_position) (length group) (Ok b)) c.if-not-branch.true c.in_ok-commit_group.ensures.answer in
    subst (λ (vs : List World). Completes page_reading StandsFor d (g.H.Host.disk c.commit_group.new.host) vs (Some (CommitWork session)) (refused c.log_full.result) (FitsOpen g.H.Host.tells new (g.H.Host.disk c.commit_group.new.host))) (sym fit.is)
    (subst (λ (x : Disk). Completes page_reading StandsFor d x (w ∷ []) (Some (CommitWork session)) (refused c.log_full.result) (FitsOpen g.H.Host.tells new x)) (sym (ap g.H.Host.disk same.1))
    (commit_full g.H.Host.tells old d session c.requires.session w s c.requires.online c.requires.some (length group) c.net_changes.ensures.len
    (law.ring _ _ _ _ c.args.host.now (off w) s.area) (law.unsaved_bytes _ _ _ _ c.args.host.now (off w) s.area) new c.log_full.result full
    (c.log_full.ensures ∙ ap (λ (x : LiveArea). LogFull (x.ring.end_position - x.ring.saved_position) x.ring.size) same.0) refl refl refl same.0))

pub returns-clause-sound : goal.returns-clause-sound
returns-clause-sound g c =
    let old = c.args.self.now in
    let taken = c.commit_group.ensures.taken (subst (λ (b : Bool). c.commit_group.result ≡ Ok b) c.if-not-branch.false c.in_ok-commit_group.was) in
    record {
      area = c.in_ok-commit_group.ensures.sound;
      blocks = ap (λ (known : KnownCosts). known.blocks) c.end_commit.ensures.settled ∙ c.requires.sound.blocks ∙ sym c.commit_group.ensures.area.area;
      birth = subst (λ (name : Name). name.birth < 2 ^ 61) (sym taken.name) c.requires.sound.birth;
      generation = subst (λ (name : Name). name.generation < 2 ^ 61) (sym taken.name) c.requires.sound.generation;
    }

pub returns-clause-numbers : goal.returns-clause-numbers
returns-clause-numbers g c =
    let old = c.args.self.now in
    let new : Database = record old { area = c.commit_group.new.area; group = c.net_changes.new.into; transactions = c.end_commit.new.transactions; space = c.end_commit.new.space } in
    greatest_grown old new (length c.net_changes.new.into) c.requires.low c.net_changes.ensures.fit c.requires.sound.area.can_save.next c.in_ok-commit_group.ensures.sound.can_save.next c.commit_group.ensures.numbers (c.commit_group.ensures.taken (subst (λ (b : Bool). c.commit_group.result ≡ Ok b) c.if-not-branch.false c.in_ok-commit_group.was))

pub returns-clause-does : goal.returns-clause-does
returns-clause-does g c told ws fit =
    let old = c.args.self.now in
    let session = c.args.session in
    let d = g.H.Host.disk c.args.host.now in
    let e = g.H.Host.disk c.commit_group.new.host in
    let w = fit.w in
    let s = fit.serves in
    let ring = old.area.ring in
    let group = c.net_changes.new.into in
    let area = c.commit_group.new.area in
    let new : Database = record old { area = area; group = group; transactions = c.end_commit.new.transactions; space = c.end_commit.new.space } in
    let law = c.what_is_served.ensures in
    let some = has_some g.H.Host.tells old d session c.requires.session w s c.requires.online c.requires.some in
    let spelled = c.net_changes.ensures.group in
    let can =
    can_commit g.H.Host.tells old d session c.requires.session w s c.requires.online c.requires.some ring.name (ring.last_commit + 1) group spelled (c.a_counted_commit_has_room.ensures (known_costs old.space) w session.0 s.counted some) in
    let commit : Commit = record { changes = net_changes (transaction w session.0).changes } in
    let serves : World → Type 0 = ServesWorld g.H.Host.tells area.in_force.slots area.in_force.record area.store area.ring e in
    let taken = c.commit_group.ensures.taken (subst (λ (b : Bool). c.commit_group.result ≡ Ok b) c.if-not-branch.false c.in_ok-commit_group.was) in
    let leaves = subst (λ (b : Bool). GroupLeaves d e (off w) commit serves (Ok b)) c.if-not-branch.false
    (c.in_ok-commit_group.ensures.leaves told (off w) commit (spells_commit g.H.Host.tells old d session c.requires.session w s c.requires.online c.requires.some ring.name (ring.last_commit + 1) group spelled) s.area can
    (law.room _ _ _ _ c.args.host.now (off w) s.area)) in
    let room = subst (λ (b : Bool). GroupAnswer ring.size (ring.end_position - ring.saved_position) (length group) (Ok b)) c.if-not-branch.false c.in_ok-commit_group.ensures.answer in
    subst (λ (vs : List World). Completes page_reading StandsFor d e vs (Some (CommitWork session)) (plain (Committed area.ring.last_commit)) (FitsOpen g.H.Host.tells new e)) (sym fit.is)
    (commit_done g.H.Host.tells old d session c.requires.session w s c.requires.online c.requires.some (length group) c.net_changes.ensures.len
    (law.ring _ _ _ _ c.args.host.now (off w) s.area) (law.unsaved_bytes _ _ _ _ c.args.host.now (off w) s.area) new e area.ring.last_commit room
    (taken.last ∙ ap (λ (k : ℕ). k + 1) (sym (law.last_commit _ _ _ _ c.args.host.now (off w) s.area))) refl leaves
    (c.end_commit.ensures.committed (stored_rows old.area.store d.seen) w (served g.H.Host.tells old d w s c.requires.online) s.counted))
