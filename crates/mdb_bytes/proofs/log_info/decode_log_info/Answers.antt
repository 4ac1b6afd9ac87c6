use Rattle.mdb_bytes.proofs.SlotRecordLaws.{log_info_again, length-log_info}
use Rattle.mdb_bytes.proofs.log_info.decode_log_info.Goals as goal

pub decode-requires-clause-again : goal.decode-requires-clause-again
decode-requires-clause-again c = log_info_again

pub decode-requires-clause-long : goal.decode-requires-clause-long
decode-requires-clause-long c = length-log_info
