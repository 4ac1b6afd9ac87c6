use Rattle.mdb_bytes.proofs.SlotRecordLaws.{restart_again, length-restart}
use Rattle.mdb_bytes.proofs.restart_record.decode_restart_record.Goals as goal

pub decode-requires-clause-again : goal.decode-requires-clause-again
decode-requires-clause-again c = restart_again

pub decode-requires-clause-long : goal.decode-requires-clause-long
decode-requires-clause-long c = length-restart
