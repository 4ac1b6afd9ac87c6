-- What pages hold whose tables are lists of leaves.
--     holding_of      the rows on them, and nothing else
use Rattle.std.specs.Prelude.{[]}
use Rattle.std.specs.FinMap.{empty}
use Rattle.mdb_bytes.specs.Held.{Holding}
use Rattle.mdb_bytes.specs.Paged.{PageBytes}
use Rattle.leaf_runs.specs.Runs.{rows_in_pages}

-- the rows on the pages. There are no undo files, and no log is left
abbrev pub holding_of : PageBytes → Holding
holding_of pages =
    record {
      rows = rows_in_pages pages;
      undo = empty;
      log = record { name = record { birth = 0; generation = 1 }; after = 0; commits = [] };
    }
