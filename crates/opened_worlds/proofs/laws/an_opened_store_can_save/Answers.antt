use Rattle.std.proofs.Common.{arith}
use Rattle.opened_worlds.proofs.Spare.{free_left, pages_spare}
use Rattle.opened_worlds.proofs.laws.an_opened_store_can_save.Goals as goal

pub returns-clause-fits : goal.returns-clause-fits
returns-clause-fits g c slots r info s d w opened = omega (arith, free_left g.H.Host.tells slots r info s (g.H.Host.disk d) w opened)

pub returns-clause-spare : goal.returns-clause-spare
returns-clause-spare g c slots r info s d w opened = pages_spare g.H.Host.tells slots r info s (g.H.Host.disk d) w opened
