use Rattle.std.proofs.Common.{length}
use Rattle.mdb_bytes.proofs.record.+write_table.Given as goal

abbrev pub decreases-write_table : goal.decreases-write_table
decreases-write_table g l = length l.rows.now
