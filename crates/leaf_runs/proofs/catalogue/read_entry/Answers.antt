use Rattle.leaf_runs.proofs.Places.{catalogue_here, catalogue_spelled}
use Rattle.leaf_runs.proofs.catalogue.read_entry.Goals as goal

pub returns-clause-entry : goal.returns-clause-entry
returns-clause-entry g c = λ known some.
    let h = catalogue_here (g.P.Pages.pages c.args.pages.now) c.in_ok-bytes.bytes.now (c.in_ok-bytes.ensures.bytes known) some in
    (h.0, h.1, c.catalogue_entry_at.ensures h.0 (catalogue_spelled c.in_ok-bytes.bytes.now h.0 h.2))
