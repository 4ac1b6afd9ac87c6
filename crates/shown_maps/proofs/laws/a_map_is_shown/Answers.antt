use Rattle.shown_maps.proofs.Shown.{under_root, in_force_shown}
use Rattle.shown_maps.proofs.laws.a_map_is_shown.Goals as goal

pub returns-clause-under_a_root : goal.returns-clause-under_a_root
returns-clause-under_a_root c = under_root

pub returns-clause-in_force : goal.returns-clause-in_force
returns-clause-in_force c = in_force_shown
