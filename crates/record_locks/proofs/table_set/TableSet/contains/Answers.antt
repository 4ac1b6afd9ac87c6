use Rattle.std.proofs.Common.{ap, ◌∙◌, ◌==◌, ℕ, List}
use Rattle.std.specs.List.{list_any}
use Rattle.record_locks.proofs.TablePlaces.{any-number}
use Rattle.record_locks.proofs.table_set.TableSet.contains.Goals as goal

pub returns : goal.returns
returns c =
    let n = c.args.table.0 in
    c.contains.ensures
    ∙ any-number c.args.table c.self.inside.tables.keys
    ∙ ap (λ (tables : List ℕ). list_any (λ other. n == other) tables) c.self.view_is
