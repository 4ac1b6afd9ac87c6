use Rattle.std.proofs.Common.{◌+◌, ◌∷◌, [], arith, length, ap, length-append}
use Rattle.redo_ring.proofs.Log.{group_has}
use Rattle.redo_ring.proofs.ring.Ring.append.Goals as goal

pub append_closed-requires-clause-low : goal.append_closed-requires-clause-low
append_closed-requires-clause-low g c = omega (arith, c.requires.low, group_has c.args.self.now.name (c.args.self.now.last_commit + 1) c.args.group.now c.requires.due)

pub append_closed-requires-clause-some : goal.append_closed-requires-clause-some
append_closed-requires-clause-some g c =
    omega (arith, ap length c.closed.ensures.bytes, length-append c.args.group.now (0 ∷ []), group_has c.args.self.now.name (c.args.self.now.last_commit + 1) c.args.group.now c.requires.due)
