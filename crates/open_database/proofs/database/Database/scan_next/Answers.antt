use Rattle.std.proofs.Common.{◌≡◌, refl, ap}
use Rattle.mdb_model.specs.Tables.{Tables}
use Rattle.mdb_model.specs.Worlds.{off}
use Rattle.session_rows.specs.Scan.{seen_rows}
use Rattle.store_rows.specs.StoredRows.{stored_rows, HasRows}
use Rattle.open_database.specs.declared.database.Database.{Database}
use Rattle.open_database.specs.Taking.{seen_by}
use Rattle.open_database.specs.Serving.{FitsOpen}
use Rattle.open_database.proofs.Answering.{serves_on}
use Rattle.open_database.proofs.RowLines.{on_ok, rows_kept, fault_cause, sound_moved}
use Rattle.open_database.proofs.database.Database.scan_next.Goals as goal

pub returns-clause-sound : goal.returns-clause-sound
returns-clause-sound g c =
    let old = c.args.self.now in
    let call = c.next_line in
    let new : Database = record old { area = record old.area { store = call.new.store } } in
    sound_moved g.H.Host.tells old new (g.H.Host.disk c.args.host.now) (g.H.Host.disk call.new.host) c.requires.sound
    (c.calls_keep_serving.ensures.sound old.area.in_force.slots old.area.in_force.record old.area.store call.new.store old.area.ring c.args.host.now call.new.host c.requires.sound.area call.ensures.keeps)
    refl call.ensures.keeps.maps.area refl

pub returns-clause-same : goal.returns-clause-same
returns-clause-same g c known =
    let old = c.args.self.now in
    let call = c.next_line in
    let new : Database = record old { area = record old.area { store = call.new.store } } in
    rows_kept g.H.Host.tells old new (g.H.Host.disk c.args.host.now) (g.H.Host.disk call.new.host) call.result (call.ensures.same known)

pub returns-clause-keeps : goal.returns-clause-keeps
returns-clause-keeps g c told = (c.next_line.ensures.keeps.goes told).keeps

pub returns-clause-kept : goal.returns-clause-kept
returns-clause-kept g c = record { access = refl; transactions = refl; ring = refl; in_force = refl; blocks = c.next_line.ensures.keeps.maps.area; space = refl }

pub returns-clause-cause : goal.returns-clause-cause
returns-clause-cause g c is = fault_cause (g.H.Host.faults c.args.host.now) (g.H.Host.faults c.next_line.new.host) c.next_line.result c.next_line.ensures.cause.failed is

pub returns-clause-reads : goal.returns-clause-reads
returns-clause-reads g c told ws fit =
    let old = c.args.self.now in
    let call = c.next_line in
    let d = g.H.Host.disk c.args.host.now in
    let e = g.H.Host.disk call.new.host in
    let new : Database = record old { area = record old.area { store = call.new.store } } in
    let law = c.calls_keep_serving.ensures in
    let known = fit.serves.area.rows in
    let moments = law.at_each_moment old.area.in_force.slots old.area.in_force.record old.area.store call.new.store old.area.ring c.args.host.now call.new.host (off fit.w) fit.serves.area call.ensures.keeps in
    let kept = call.ensures.same known in
    record {
      quiet = moments.quiet;
      stand = moments.each;
      is_next = call.ensures.found known;
      whole = call.ensures.cause.whole known;
      fit = on_ok call.result (HasRows g.H.Host.tells new.area.store e.seen × (stored_rows new.area.store e.seen ≡ stored_rows old.area.store d.seen)) (FitsOpen g.H.Host.tells new e ws)
          (λ kept. record {
            w = fit.w;
            is = fit.is;
            serves = serves_on g.H.Host.tells old new d e fit.w fit.serves refl refl refl
                (law.serves old.area.in_force.slots old.area.in_force.record old.area.store call.new.store old.area.ring c.args.host.now call.new.host (off fit.w) fit.serves.area call.ensures.keeps kept.0 kept.1);
          }) kept;
      same = on_ok call.result (HasRows g.H.Host.tells new.area.store e.seen × (stored_rows new.area.store e.seen ≡ stored_rows old.area.store d.seen))
          (seen_by new e c.args.session ≡ seen_by old d c.args.session)
          (λ kept. ap (λ (rows : Tables). seen_rows rows old.transactions c.args.session.0) kept.1) kept;
    }
