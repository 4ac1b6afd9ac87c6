use Rattle.db_kernel.proofs.Fitting.{fits_still}
use Rattle.db_kernel.proofs.laws.saying_keeps_the_fit.Goals as goal

pub returns : goal.returns
returns g c = fits_still c.args.kernel.now.database (g.H.Host.disk c.args.before.now) (g.H.Host.disk c.args.after.now)
