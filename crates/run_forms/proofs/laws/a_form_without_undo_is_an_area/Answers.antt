use Rattle.run_forms.proofs.Areas.{area_from_form}
use Rattle.run_forms.proofs.laws.a_form_without_undo_is_an_area.Goals as goal

pub returns : goal.returns
returns c = area_from_form
