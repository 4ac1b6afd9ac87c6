use Rattle.std.specs.Prelude.{map}
use Rattle.std.specs.List.{list_all}
use Rattle.mdb_bytes.specs.Fields.{fields_fit}
use Rattle.mdb_bytes.specs.Parts.{field_of}
use Rattle.mdb_bytes.proofs.TableLaws.{section_room, then_and}
use Rattle.mdb_bytes.proofs.record.section_has_room.Goals as goal

pub returns-then-parts_fit : goal.returns-then-parts_fit
returns-then-parts_fit g c room =
    section_room g.R.Record.format.fields g.R.Record.size (map field_of c.args.parts.now) c.args.rows.now c.rows_have_room.result
    (then_and c.parts_fit.result c.rows_have_room.result (fields_fit (map field_of c.args.parts.now)) (list_all (λ row. fields_fit (g.R.Record.format.fields row)) c.args.rows.now)
    c.if-parts_fit.true c.parts_fit.ensures c.rows_have_room.ensures) room
