use Rattle.leaf_runs.proofs.Places.{catalogue_spelled}
use Rattle.leaf_runs.proofs.catalogue.passes_as_catalogue.Goals as goal

pub returns-in-None : goal.returns-in-None
returns-in-None c = λ catalogue is. absurd (c.in-None.ensures catalogue (catalogue_spelled c.args.page.now catalogue is))
