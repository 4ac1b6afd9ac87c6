use Rattle.opened_worlds.proofs.Live.{whole}
use Rattle.opened_worlds.proofs.laws.a_standing_map_is_read.Goals as goal

pub returns : goal.returns
returns c seen w r damage stands live restart breaks = whole seen w r stands live restart damage breaks
