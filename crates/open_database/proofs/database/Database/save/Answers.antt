use Rattle.std.proofs.Common.{◌≡◌, ◌+◌, ◌≤◌, arith}
use Rattle.mdb_host.proofs.Moments.{on_ok}
use Rattle.mdb_model.specs.Worlds.{off}
use Rattle.live_area.specs.Serving.{IsSoundArea, ServesWorld}
use Rattle.open_database.specs.declared.database.Database.{Database}
use Rattle.open_database.specs.Serving.{Serves, greatest_number}
use Rattle.open_database.proofs.StateLines.{save_leaves}
use Rattle.open_database.proofs.Numbers.{left_enough, grown}
use Rattle.open_database.proofs.database.Database.save.Goals as goal

pub savepoint-requires-clause-numbers : goal.savepoint-requires-clause-numbers
savepoint-requires-clause-numbers g c =
    let d = c.args.self.now in
    omega (arith, left_enough d.area.in_force.record d.area.store 0 c.requires.sound.area.can_save.next (omega (arith, c.requires.low)) (omega (arith, c.requires.low)) (omega arith))

pub returns-clause-leaves : goal.returns-clause-leaves
returns-clause-leaves g c told w serves =
    let area = c.savepoint.new.self in
    let d1 = g.H.Host.disk c.savepoint.new.host in
    let new : Database = record c.args.self.now { area = c.savepoint.new.self } in
    save_leaves (g.H.Host.disk c.args.host.now) d1 w (ServesWorld g.H.Host.tells area.in_force.slots area.in_force.record area.store area.ring d1) (Serves g.H.Host.tells new d1) (area.ring.redo_position ≡ area.ring.end_position) c.savepoint.result
    (c.savepoint.ensures.leaves told (off w) serves.area (c.what_is_served.ensures.room _ _ _ _ c.args.host.now (off w) serves.area) (omega (arith, c.requires.low)) (omega (arith, c.requires.low)))
    c.savepoint.ensures.fresh
    (λ served. (
      record {
        area = served;
        state = serves.state;
        alone = serves.alone;
        no_savepoint = serves.no_savepoint;
        no_backup = serves.no_backup;
        keys = serves.keys;
        matches = serves.matches;
        most = serves.most;
        counted = serves.counted;
      },
      λ fresh image left. let has = c.a_fresh_record_has_the_rows.ensures _ _ _ _ c.savepoint.new.host (off w) served fresh image left in record { rows = has.0; no_images = has.1 },
    ))

pub returns-clause-numbers : goal.returns-clause-numbers
returns-clause-numbers g c =
    let old = c.args.self.now in
    let area = c.savepoint.new.self in
    let new : Database = record old { area = c.savepoint.new.self } in
    on_ok c.savepoint.result (IsSoundArea g.H.Host.tells area.in_force.slots area.in_force.record area.store area.ring (g.H.Host.disk c.savepoint.new.host)) (greatest_number new ≤ greatest_number old + 2)
    (λ sound.
    let more = grown old.area.in_force.record area.in_force.record old.area.store area.store 1 c.requires.sound.area.can_save.next sound.can_save.next (omega (arith, c.requires.low)) (omega (arith, c.requires.low)) (omega arith) c.savepoint.ensures.numbers in
    omega (arith, more.0, more.1, c.savepoint.ensures.log.0, c.savepoint.ensures.log.1))
    c.savepoint.ensures.sound
