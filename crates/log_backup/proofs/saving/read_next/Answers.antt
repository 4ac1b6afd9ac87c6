use Rattle.std.proofs.Common.{arith, ◌∷◌, ◌+◌, ◌*◌}
use Rattle.mdb_bytes.specs.Parts.{page_len}
use Rattle.mdb_bytes.specs.Rings.{ring_byte}
use Rattle.log_backup.specs.Packing.{packed_len}
use Rattle.log_backup.proofs.Groups.{not_closed, next_len, no_room}
use Rattle.log_backup.proofs.saving.read_next.Goals as goal

pub returns-else-has_room-clause-intact : goal.returns-else-has_room-clause-intact
returns-else-has_room-clause-intact g c told commit commits log room fits damage is =
    let reader = c.args.reader.now in
    let long = next_len reader.size reader.name (ring_byte reader.size (g.H.Host.disk c.args.host.now).seen) reader.position reader.number c.next.new.into commit commits c.in-Ok-true.field-0 c.in-Ok-true.field-0-test (c.in-Ok-true.ensures.next told (commit ∷ commits) log room) in
    omega (arith, no_room (page_len + packed_len c.args.packing.now + c.len.result) (page_len * c.args.packing.now.writer.pages) c.has_room.result c.has_room.ensures c.if-has_room.false, c.len.ensures.len, long, fits)

pub returns-in-Ok-false-clause-intact : goal.returns-in-Ok-false-clause-intact
returns-in-Ok-false-clause-intact g c told commit commits log room fits damage is =
    let reader = c.args.reader.now in
    not_closed reader.size reader.name (ring_byte reader.size (g.H.Host.disk c.args.host.now).seen) reader.position reader.number c.next.new.into commit commits c.in-Ok-false.field-0 c.in-Ok-false.field-0-test (c.in-Ok-false.ensures.next told (commit ∷ commits) log room)
