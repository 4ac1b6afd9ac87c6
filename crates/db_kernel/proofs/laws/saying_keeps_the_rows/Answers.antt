use Rattle.db_kernel.proofs.Fitting.{rows_still}
use Rattle.db_kernel.proofs.laws.saying_keeps_the_rows.Goals as goal

pub returns : goal.returns
returns g c session still = rows_still (g.H.Host.disk c.args.before.now) (g.H.Host.disk c.args.after.now) still c.args.kernel.now.database session
