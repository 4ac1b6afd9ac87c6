use Rattle.standing.proofs.MediaComing.{comes_stands, goes_from}
use Rattle.standing.proofs.laws.a_blank_medium_comes_and_goes.Goals as goal

pub returns-clause-comes : goal.returns-clause-comes
returns-clause-comes c old new w number pages comes from to least most stands live = comes_stands old new w number pages comes stands live from to least most

pub returns-clause-goes : goal.returns-clause-goes
returns-clause-goes c = goes_from
