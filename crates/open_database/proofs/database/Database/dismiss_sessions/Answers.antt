use Rattle.std.proofs.Common.{◌≡◌, ◌∙◌, refl, sym, subst, ap, ℕ, ◌-◌, true, min, length, arith}
use Rattle.mdb_model.specs.History.{tables_of}
use Rattle.mdb_model.specs.Space.{has_room}
use Rattle.mdb_model.specs.Worlds.{stopped}
use Rattle.mdb_model.specs.declared.name.State.TheVariants as state
use Rattle.space_rule.specs.Spaces.{known_costs}
use Rattle.transactions.proofs.Machine.{stands-none}
use Rattle.open_database.proofs.Dismissed.{none_left, none_kept, same_costs}
use Rattle.open_database.proofs.Kept.{kept_none}
use Rattle.open_database.proofs.database.Database.dismiss_sessions.Goals as goal

pub returns-clause-serves : goal.returns-clause-serves
returns-clause-serves g c w ring serves =
    let s = c.args.self.now in
    let v = stopped state.Admin w in
    let old = known_costs s.space in
    let new = known_costs c.forget_changes.new.space in
    let forgotten = c.forget_changes.ensures in
    let bare = serves.area.plain.no_snapshots in
    let known = c.what_is_loaded_is_known.ensures new v (forgotten.blocks ∙ serves.counted.known_of.blocks) (none_kept s.transactions w serves.matches old new serves.counted forgotten bare serves.no_backup) bare refl refl
    (same_costs s.transactions w serves.matches old new serves.counted forgotten) (none_left s.transactions w serves.matches old new serves.counted forgotten) in
    let room = subst (λ (n : ℕ). has_room (tables_of w.history) (tables_of w.history) 0 n w.blocks ≡ true) (kept_none w bare serves.no_backup ∙ sym (kept_none v bare refl)) serves.counted.rows_fit in
    record {
      area = serves.area;
      state = refl;
      alone = λ admin. refl;
      no_savepoint = refl;
      no_backup = refl;
      keys = serves.keys;
      matches = stands-none c.new.result v c.new.ensures.locks c.new.ensures.changes refl;
      most = c.new.ensures.most ∙ c.most_bytes.ensures ∙ ap (λ (n : ℕ). min 1048576 (n - 1)) (sym ring);
      counted = c.a_world_without_sessions_is_counted.ensures new v known refl (omega (arith, ap length forgotten.committed, serves.counted.tables)) (omega (arith, forgotten.long, serves.counted.numbers)) room;
    }
