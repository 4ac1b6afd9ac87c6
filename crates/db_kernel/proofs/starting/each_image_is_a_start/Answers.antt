use Rattle.db_kernel.proofs.Starts.{starts}
use Rattle.db_kernel.proofs.starting.each_image_is_a_start.Goals as goal

pub returns : goal.returns
returns g c told w rest stand =
    let disk = g.H.Host.disk c.args.host.now in
    let stands = stand disk.seen (g.met.H.Host.seen_left c.args.host.now told) in
    let law = c.a_world_that_stands.ensures in
    starts disk.said disk.may_leave disk.now w rest (law.media disk.seen w stands) (law.saved_low disk.seen w stands) (law.saved_high disk.seen w stands) stand
