use Rattle.db_kernel.proofs.Fitting.{sound_off}
use Rattle.db_kernel.proofs.laws.a_kernel_that_is_off_is_sound.Goals as goal

pub returns : goal.returns
returns g c = sound_off g.H.Host.tells (g.H.Host.disk c.args.host.now)
