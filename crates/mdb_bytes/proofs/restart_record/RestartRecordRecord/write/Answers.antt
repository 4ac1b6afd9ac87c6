use Rattle.std.proofs.Common.{◌≡◌, ◌∙◌, ◌-◌, ◌++◌, length, arith}
use Rattle.mdb_bytes.specs.Fields.{spelled}
use Rattle.mdb_bytes.specs.Parts.{table_fields, word_format}
use Rattle.mdb_bytes.specs.SlotRecords.{restart_front, restart_middle, snapshot_fields}
use Rattle.mdb_bytes.proofs.TableLaws.{spelled_both}
use Rattle.mdb_bytes.proofs.restart_record.RestartRecordRecord.write.Goals as goal

pub returns : goal.returns
returns c =
    let v = c.args.self.now in
    let first : length c.split_at_mut-start.result.0.now - 72 ≡ 32 = omega arith in
    let second : length c.split_at_mut-start.result.1.now - 24 ≡ 8063 = omega arith in
    spelled_both (restart_front v ++ table_fields word_format.fields 4 32 v.volumes.items) (restart_middle v ++ table_fields snapshot_fields 32 8063 v.snapshots.items)
    c.write_section.new.into c.write_section-2.new.into
    (c.write_section.ensures ∙ (λ i. spelled (c.front.ensures i ++ table_fields word_format.fields 4 (first i) (c.as_slice.ensures.value i))))
    (c.write_section-2.ensures ∙ (λ i. spelled (c.middle.ensures i ++ table_fields snapshot_fields 32 (second i) (c.as_slice-2.ensures.value i))))
