use Rattle.std.proofs.Common.{sym, refl, subst}
use Rattle.mdb_host.specs.Memory.{AllWhole}
use Rattle.mdb_host.proofs.memory.MemHost.new.Goals as goal

pub holding-requires : goal.holding-requires
holding-requires c = subst AllWhole (sym c.in-Ok.ensures) (λ d. refl)
