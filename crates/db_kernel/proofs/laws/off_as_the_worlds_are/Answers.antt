use Rattle.db_kernel.proofs.Fitting.{fits_off, is_off}
use Rattle.db_kernel.proofs.laws.off_as_the_worlds_are.Goals as goal

pub returns-clause-fits : goal.returns-clause-fits
returns-clause-fits g c = fits_off (g.H.Host.disk c.args.host.now)

pub returns-clause-off : goal.returns-clause-off
returns-clause-off g c = is_off c.args.kernel.now.database (g.H.Host.disk c.args.host.now)
