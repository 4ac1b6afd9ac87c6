use Rattle.std.proofs.Common.{ap}
use Rattle.leaf_runs.proofs.TableAreas.{only_rows, on_both, removed_area}
use Rattle.leaf_runs.proofs.runs.RunsRows.del.Goals as goal

pub returns-clause-gone : goal.returns-clause-gone
returns-clause-gone g c = λ k.
    let area = k.1 in
    on_both _ _ _ c.del.result (λ known p.
    ((known, removed_area _ _ _ _ p area), ap only_rows p.rows)) (c.del.ensures.known k.0) (c.del.ensures.gone k.0 area.runs)
