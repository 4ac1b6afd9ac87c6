use Rattle.std.proofs.Common.{◌≡◌, ◌-◌, ◌≤◌, List, length, drop}
use Rattle.mdb_model.specs.declared.change.Change.{Change}
use Rattle.mdb_bytes.specs.LoggedChanges.{HasChanges}
use Rattle.mdb_bytes.proofs.entry.skip.Given as goal

abbrev pub invariant-loop : goal.invariant-loop
invariant-loop l =
    (length l.rest ≤ length l.bytes) × (drop (length l.bytes - length l.rest) l.bytes ≡ l.rest)
    × ((changes : List Change) → HasChanges l.bytes changes → HasChanges l.rest (drop l.counter changes))
