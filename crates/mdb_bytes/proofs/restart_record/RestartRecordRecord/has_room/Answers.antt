use Rattle.std.proofs.Common.{◌∙◌, ◌++◌}
use Rattle.mdb_bytes.specs.Fields.{fields_fit}
use Rattle.mdb_bytes.specs.Parts.{table_fields, word_format}
use Rattle.mdb_bytes.specs.SlotRecords.{restart_front, restart_middle, snapshot_fields}
use Rattle.mdb_bytes.proofs.TableLaws.{both_rooms, then_and, else_and}
use Rattle.mdb_bytes.proofs.restart_record.RestartRecordRecord.has_room.Goals as goal

pub returns-then-section_has_room : goal.returns-then-section_has_room
returns-then-section_has_room c =
    let v = c.args.self.now in
    let words = table_fields word_format.fields 4 32 v.volumes.items in
    let snaps = table_fields snapshot_fields 32 8063 v.snapshots.items in
    both_rooms (restart_front v ++ words) (restart_middle v ++ snaps) _
    (then_and c.section_has_room.result c.section_has_room-then-section_has_room.result (fields_fit (restart_front v ++ words)) (fields_fit (restart_middle v ++ snaps)) c.if-section_has_room.true
    (c.section_has_room.ensures 32 ∙ (λ i. fields_fit (c.front.ensures i ++ table_fields word_format.fields 4 32 (c.as_slice.ensures.value i))))
    (c.section_has_room-then-section_has_room.ensures 8063 ∙ (λ i. fields_fit (c.middle.ensures i ++ table_fields snapshot_fields 32 8063 (c.as_slice-then-section_has_room.ensures.value i)))))

pub returns-else-section_has_room : goal.returns-else-section_has_room
returns-else-section_has_room c =
    let v = c.args.self.now in
    let words = table_fields word_format.fields 4 32 v.volumes.items in
    let snaps = table_fields snapshot_fields 32 8063 v.snapshots.items in
    both_rooms (restart_front v ++ words) (restart_middle v ++ snaps) _
    (c.if-section_has_room.false ∙ else_and c.section_has_room.result (fields_fit (restart_front v ++ words)) (fields_fit (restart_middle v ++ snaps)) c.if-section_has_room.false
    (c.section_has_room.ensures 32 ∙ (λ i. fields_fit (c.front.ensures i ++ table_fields word_format.fields 4 32 (c.as_slice.ensures.value i)))))
