use Rattle.run_forms.proofs.Standing.{some_key}
use Rattle.run_forms.proofs.laws.no_key_is_empty.Goals as goal

pub returns : goal.returns
returns c = some_key
