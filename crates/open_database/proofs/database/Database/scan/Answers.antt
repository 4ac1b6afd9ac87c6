use Rattle.std.proofs.Common.{sym, ap, subst, ◌∙◌, arith}
use Rattle.std.specs.FinMap.{values, entries, len-entries}
use Rattle.std.proofs.lemmas.List.{length-map}
use Rattle.mdb_model.specs.History.{tables_of}
use Rattle.mdb_model.specs.Tables.{Tables, with_changes}
use Rattle.mdb_model.specs.Worlds.{off}
use Rattle.leaf_runs.proofs.Gets.{table_limits}
use Rattle.live_area.specs.declared.area.LiveArea.{LiveArea}
use Rattle.session_rows.proofs.Keys.{keys_after}
use Rattle.store_rows.specs.StoredRows.{stored_rows}
use Rattle.transactions.specs.Ongoing.{changes_of}
use Rattle.open_database.specs.Taking.{CanScan}
use Rattle.open_database.proofs.database.Database.scan.Goals as goal

pub returns-clause-can_scan : goal.returns-clause-can_scan
returns-clause-can_scan g c told ws fit =
    let old = c.args.self.now in
    let d = g.H.Host.disk c.args.host.now in
    let same = ap (λ (area : LiveArea). stored_rows area.store d.seen) c.begin_scan-reply.ensures.area ∙ fit.serves.area.all_set in
    let rows : Tables = tables_of fit.w.history in
    let changes = changes_of c.begin_scan-reply.new.self.transactions c.args.session.0 in
    let table = table_limits c.args.table.0 c.requires.table in
    let blocks = c.what_is_served.ensures.small old.area.in_force.slots old.area.in_force.record old.area.store old.area.ring c.args.host.now (off fit.w) fit.serves.area in
    let room = c.what_is_served.ensures.room old.area.in_force.slots old.area.in_force.record old.area.store old.area.ring c.args.host.now (off fit.w) fit.serves.area in
    subst (λ (r : Tables). CanScan (with_changes (values changes) r) c.args.table) (sym same)
    (record {
      keyed = keys_after (values changes) rows c.changed-changed.ensures.each_fits fit.serves.keys;
      few = omega (
        arith,
        c.rows_that_fit_are_few.ensures.rows rows 0 fit.w.blocks c.args.table.0 table.0 table.1 room blocks,
        c.rows_that_fit_are_few.ensures.changed rows (values changes) c.args.table.0,
        c.changed-changed.ensures.count,
        len-entries changes,
        length-map (entries changes) (λ e. e.1),
      );
    })
