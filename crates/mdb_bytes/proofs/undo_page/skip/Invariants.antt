use Rattle.std.proofs.Common.{◌≡◌, ◌-◌, ◌≤◌, List, length, drop}
use Rattle.mdb_bytes.specs.Fields.{Field}
use Rattle.mdb_bytes.specs.UndoPages.{UndoEntry}
use Rattle.mdb_bytes.specs.PageEntries.{HasUndo}
use Rattle.mdb_bytes.proofs.undo_page.skip.Given as goal

abbrev pub invariant-loop : goal.invariant-loop
invariant-loop l =
    (length l.rest ≤ length l.bytes) × (drop (length l.bytes - length l.rest) l.bytes ≡ l.rest)
    × ((entries : List UndoEntry) (more : List Field) → l.count ≤ length entries → HasUndo l.bytes entries more → HasUndo l.rest (drop l.counter entries) more)
