use Rattle.std.proofs.Common.{◌≡◌, refl}
use Rattle.mdb_model.specs.declared.script.Command.TheVariants.{GetRow}
use Rattle.mdb_model.specs.Answers.{plain}
use Rattle.mdb_model.specs.Tables.{Tables}
use Rattle.mdb_model.specs.Worlds.{off}
use Rattle.session_rows.specs.Replies.{IsRefusal}
use Rattle.space_rule.specs.KnownCosts.{prepared_for}
use Rattle.space_rule.specs.Spaces.{known_costs}
use Rattle.store_rows.specs.StoredRows.{stored_rows, HasRows}
use Rattle.open_database.specs.declared.database.Database.{Database}
use Rattle.open_database.proofs.Answering.{AreaServes, served, line_does, counted_reads}
use Rattle.open_database.proofs.RowLines.{on_ok, ok_all, sound_moved, refusal_keeps, takes_line}
use Rattle.open_database.proofs.database.Database.get_row.Goals as goal

pub returns-clause-takes : goal.returns-clause-takes
returns-clause-takes g c =
    let old = c.args.self.now in
    let call = c.get_line in
    let d = g.H.Host.disk c.args.host.now in
    let e = g.H.Host.disk call.new.host in
    let new : Database = record old { transactions = call.new.transactions; area = record old.area { store = call.new.store } } in
    let area = c.calls_keep_serving.ensures.sound old.area.in_force.slots old.area.in_force.record old.area.store call.new.store old.area.ring c.args.host.now call.new.host c.requires.sound.area call.ensures.keeps in
    takes_line g.H.Host.tells d e (g.H.Host.faults c.args.host.now) (g.H.Host.faults call.new.host) old new call.result
    (sound_moved g.H.Host.tells old new d e c.requires.sound area refl call.ensures.keeps.maps.area refl)
    refl call.ensures.same call.ensures.keeps
    (refusal_keeps old new call.result refl refl refl call.ensures.keeps.maps.area call.ensures.refused (ok_all call.result (λ reply. IsRefusal reply → known_costs new.space ≡ prepared_for (known_costs old.space) (known_costs new.space).prepared) (λ reply is. refl)))
    call.ensures.inside call.ensures.cause

pub returns-clause-does : goal.returns-clause-does
returns-clause-does g c told ws fit =
    let old = c.args.self.now in
    let call = c.get_line in
    let d = g.H.Host.disk c.args.host.now in
    let e = g.H.Host.disk call.new.host in
    let new : Database = record old { transactions = call.new.transactions; area = record old.area { store = call.new.store } } in
    let law = c.calls_keep_serving.ensures in
    let known = fit.serves.area.rows in
    let rows : Tables = stored_rows new.area.store e.seen in
    line_does g.H.Host.tells old new d e ws fit c.requires.online refl (GetRow c.args.session c.args.table c.args.key.now) plain tt
    (law.at_each_moment old.area.in_force.slots old.area.in_force.record old.area.store call.new.store old.area.ring c.args.host.now call.new.host (off fit.w) fit.serves.area call.ensures.keeps)
    rows call.result
    (on_ok call.result (HasRows g.H.Host.tells new.area.store e.seen × (stored_rows new.area.store e.seen ≡ stored_rows old.area.store d.seen)) (AreaServes g.H.Host.tells new e fit.w)
    (λ kept. law.serves old.area.in_force.slots old.area.in_force.record old.area.store call.new.store old.area.ring c.args.host.now call.new.host (off fit.w) fit.serves.area call.ensures.keeps kept.0 kept.1)
    (call.ensures.same known))
    (call.ensures.cause.whole known)
    (counted_reads fit.w (GetRow c.args.session c.args.table c.args.key.now) plain rows new.transactions (known_costs new.space) call.result
    (λ reply after inside entry. c.a_read_leaves_it_counted.ensures.row (known_costs old.space) fit.w after c.args.session c.args.table c.args.key.now (plain reply) c.requires.session inside fit.serves.counted entry)
    call.ensures.inside (call.ensures.answered known fit.w (served g.H.Host.tells old d fit.w fit.serves c.requires.online)))
