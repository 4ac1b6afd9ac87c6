use Rattle.db_kernel.proofs.Fitting.{sound_still}
use Rattle.db_kernel.proofs.laws.saying_keeps_it_sound.Goals as goal

pub returns : goal.returns
returns g c sound still = sound_still g.H.Host.tells c.args.kernel.now.database (g.H.Host.disk c.args.before.now) (g.H.Host.disk c.args.after.now) sound (λ told. still)
