use Rattle.std.proofs.Common.{refl}
use Rattle.creation.proofs.Fresh.{empty_all}
use Rattle.standing.proofs.WholeLaw.{new_stands}
use Rattle.creation.proofs.making.create.Goals as goal

pub make_database-requires-clause-empty : goal.make_database-requires-clause-empty
make_database-requires-clause-empty g c told =
    empty_all (g.H.Host.disk c.args.host.now) (λ image left. g.met.H.Host.sizes c.args.host.now image told left) (c.if-any_there.ensures.absent refl told)

pub returns-in-Ok-clause-stands : goal.returns-in-Ok-clause-stands
returns-in-Ok-clause-stands g c told image left = new_stands image _ (c.in-Ok.ensures.made told image left)
