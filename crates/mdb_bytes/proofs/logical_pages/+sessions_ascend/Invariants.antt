use Rattle.std.proofs.Common.{length}
use Rattle.mdb_bytes.proofs.logical_pages.+sessions_ascend.Given as goal

abbrev pub decreases-sessions_ascend : goal.decreases-sessions_ascend
decreases-sessions_ascend l = length l.entries.now
