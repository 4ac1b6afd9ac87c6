use Rattle.shown_maps.proofs.Saving.{world_stays}
use Rattle.shown_maps.proofs.laws.a_whole_savepoint_stands.Goals as goal

pub returns : goal.returns
returns c = world_stays
