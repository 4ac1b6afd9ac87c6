use Rattle.std.proofs.Common.{ap}
use Rattle.leaf_runs.proofs.TableAreas.{only_rows, on_both, put_area}
use Rattle.leaf_runs.proofs.runs.RunsRows.put.Goals as goal

pub returns-clause-set : goal.returns-clause-set
returns-clause-set g c = λ k.
    let area = k.1 in
    on_both _ _ _ c.put.result (λ known p.
    ((known, put_area _ _ _ _ _ p area), ap only_rows p.rows)) (c.put.ensures.known k.0) (c.put.ensures.set k.0 area.runs)
