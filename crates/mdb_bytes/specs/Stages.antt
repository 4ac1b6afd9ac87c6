-- How far the program is built, as far as it bears on what images mean. Until a part is built an
-- image stands for a world only where that part is not needed. Each stage changes this file alone.
--     no_backups, one_generation, no_snapshots, no_undo, no_changed_pages      what is not there yet
--     tables_are_trees      what is there
use Rattle.std.specs.Prelude.{Bool, true, false, not}
use Rattle.mdb_model.specs.Stages.{changes_in_memory, has_backups, has_tasks}

-- there are no backups: each medium is blank, nothing is saved, there is no base, nothing is
-- pending; false in the whole program, as are the next four
abbrev pub no_backups : Bool
no_backups = not has_backups

-- there is neither revert nor recover: the area is live, and the generation is the first
abbrev pub one_generation : Bool
one_generation = true

-- there are no snapshots
abbrev pub no_snapshots : Bool
no_snapshots = true

-- open changes stand in memory alone: there are no undo entries on pages
abbrev pub no_undo : Bool
no_undo = changes_in_memory

-- no backup holds changed pages alone
abbrev pub no_changed_pages : Bool
no_changed_pages = not has_tasks

-- tables are trees, as in the whole program; before that they are lists of leaves
abbrev pub tables_are_trees : Bool
tables_are_trees = false
