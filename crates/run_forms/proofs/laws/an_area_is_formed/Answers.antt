use Rattle.run_forms.proofs.Formed.{area_formed}
use Rattle.run_forms.proofs.laws.an_area_is_formed.Goals as goal

pub returns : goal.returns
returns c = area_formed
