use Rattle.std.proofs.Common.{◌≡◌, refl}
use Rattle.mdb_model.specs.declared.script.Command.TheVariants.{DelRow}
use Rattle.mdb_model.specs.Answers.{plain}
use Rattle.mdb_model.specs.Tables.{Tables}
use Rattle.mdb_model.specs.Worlds.{off}
use Rattle.store_rows.specs.StoredRows.{stored_rows, HasRows}
use Rattle.open_database.specs.declared.database.Database.{Database}
use Rattle.open_database.proofs.Answering.{AreaServes, served, line_does}
use Rattle.open_database.proofs.RowLines.{on_ok, sound_moved, refusal_keeps, takes_line}
use Rattle.open_database.proofs.database.Database.del_row.Goals as goal

pub returns-clause-takes : goal.returns-clause-takes
returns-clause-takes g c =
    let old = c.args.self.now in
    let call = c.del_line in
    let d = g.H.Host.disk c.args.host.now in
    let e = g.H.Host.disk call.new.host in
    let new : Database = record old { transactions = call.new.transactions; space = call.new.space; area = record old.area { store = call.new.store } } in
    let area = c.calls_keep_serving.ensures.sound old.area.in_force.slots old.area.in_force.record old.area.store call.new.store old.area.ring c.args.host.now call.new.host c.requires.sound.area call.ensures.keeps in
    takes_line g.H.Host.tells d e (g.H.Host.faults c.args.host.now) (g.H.Host.faults call.new.host) old new call.result
    (sound_moved g.H.Host.tells old new d e c.requires.sound area call.ensures.blocks call.ensures.keeps.maps.area refl)
    refl call.ensures.same call.ensures.keeps
    (refusal_keeps old new call.result refl refl refl call.ensures.keeps.maps.area call.ensures.refused call.ensures.kept)
    call.ensures.inside call.ensures.cause

pub returns-clause-does : goal.returns-clause-does
returns-clause-does g c stage told ws fit =
    let old = c.args.self.now in
    let call = c.del_line in
    let d = g.H.Host.disk c.args.host.now in
    let e = g.H.Host.disk call.new.host in
    let new : Database = record old { transactions = call.new.transactions; space = call.new.space; area = record old.area { store = call.new.store } } in
    let law = c.calls_keep_serving.ensures in
    let known = fit.serves.area.rows in
    let rows : Tables = stored_rows new.area.store e.seen in
    line_does g.H.Host.tells old new d e ws fit c.requires.online refl (DelRow c.args.session c.args.table c.args.key.now) plain tt
    (law.at_each_moment old.area.in_force.slots old.area.in_force.record old.area.store call.new.store old.area.ring c.args.host.now call.new.host (off fit.w) fit.serves.area call.ensures.keeps)
    rows call.result
    (on_ok call.result (HasRows g.H.Host.tells new.area.store e.seen × (stored_rows new.area.store e.seen ≡ stored_rows old.area.store d.seen)) (AreaServes g.H.Host.tells new e fit.w)
    (λ kept. law.serves old.area.in_force.slots old.area.in_force.record old.area.store call.new.store old.area.ring c.args.host.now call.new.host (off fit.w) fit.serves.area call.ensures.keeps kept.0 kept.1)
    (call.ensures.same known))
    (call.ensures.cause.whole known)
    (call.ensures.answered stage.on_pages known fit.w (served g.H.Host.tells old d fit.w fit.serves c.requires.online) fit.serves.counted)
