use Rattle.mdb_bytes.proofs.MediumLaws.{check_report_again, length-check_report}
use Rattle.mdb_bytes.proofs.check_report.decode_check_report.Goals as goal

pub decode-requires-clause-again : goal.decode-requires-clause-again
decode-requires-clause-again c = check_report_again

pub decode-requires-clause-long : goal.decode-requires-clause-long
decode-requires-clause-long c = length-check_report
