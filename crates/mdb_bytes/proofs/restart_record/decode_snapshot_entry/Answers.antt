use Rattle.mdb_bytes.proofs.SlotRecordLaws.{snapshot_entry_again, length-snapshot_entry}
use Rattle.mdb_bytes.proofs.restart_record.decode_snapshot_entry.Goals as goal

pub decode-requires-clause-again : goal.decode-requires-clause-again
decode-requires-clause-again c = snapshot_entry_again

pub decode-requires-clause-long : goal.decode-requires-clause-long
decode-requires-clause-long c = length-snapshot_entry
