use Rattle.std.proofs.Common.{length}
use Rattle.mdb_bytes.proofs.restart_record.+ascend.Given as goal

abbrev pub decreases-ascend : goal.decreases-ascend
decreases-ascend l = length l.entries.now
