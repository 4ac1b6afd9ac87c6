use Rattle.std.proofs.Common.{Ok, Err, true, arith}
use Rattle.mdb_host.proofs.Moments.{agree_on}
use Rattle.mdb_bytes.specs.Rings.{ring_byte}
use Rattle.redo_ring.proofs.Found.{none_of, next_of, gate_shut, finds_no_room, finds_other, finds_group, stood}
use Rattle.redo_ring.proofs.reader.RingReader.next.Goals as goal

pub returns-then-head-ne-OPEN_GATE-clause-next : goal.returns-then-head-ne-OPEN_GATE-clause-next
returns-then-head-ne-OPEN_GATE-clause-next g c told commits log fits =
    none_of c.args.self.now.size c.args.self.now.name (ring_byte c.args.self.now.size (g.H.Host.disk c.args.host.now).seen) c.args.self.now.start c.args.self.now.position c.args.self.now.number (gate_shut c.args.self.now.size c.args.self.now.name (ring_byte c.args.self.now.size (g.H.Host.disk c.args.host.now).seen) c.args.self.now.start c.args.self.now.position c.args.self.now.number c.read_ring.new.into (omega (arith, c.read_ring.auto.into)) (c.in-Ok.ensures.bytes told) c.if-head-ne-OPEN_GATE.true) commits log

pub returns-then-not-has_room-clause-finds : goal.returns-then-not-has_room-clause-finds
returns-then-not-has_room-clause-finds g c told = finds_no_room c.args.self.now.size c.args.self.now.name (ring_byte c.args.self.now.size (g.H.Host.disk c.args.host.now).seen) c.args.self.now.start c.args.self.now.position c.args.self.now.number c.read_ring.new.into (omega (arith, c.read_ring.auto.into)) (c.in-Ok.ensures.bytes told) c.if-head-ne-OPEN_GATE.false c.group_len-bytes.result c.group_len-bytes.ensures c.damage.result c.damage.ensures c.args.into.now c.if-not-has_room.ensures

pub returns-then-not-has_room-clause-next : goal.returns-then-not-has_room-clause-next
returns-then-not-has_room-clause-next g c told = next_of c.args.self.now.size c.args.self.now.name (ring_byte c.args.self.now.size (g.H.Host.disk c.args.host.now).seen) c.args.self.now.start c.args.self.now.position c.args.self.now.number c.args.into.now (Err c.damage.result) (finds_no_room c.args.self.now.size c.args.self.now.name (ring_byte c.args.self.now.size (g.H.Host.disk c.args.host.now).seen) c.args.self.now.start c.args.self.now.position c.args.self.now.number c.read_ring.new.into (omega (arith, c.read_ring.auto.into)) (c.in-Ok.ensures.bytes told) c.if-head-ne-OPEN_GATE.false c.group_len-bytes.result c.group_len-bytes.ensures c.damage.result c.damage.ensures c.args.into.now c.if-not-has_room.ensures)

pub returns-in_default-read_whole-clause-calm : goal.returns-in_default-read_whole-clause-calm
returns-in_default-read_whole-clause-calm g c told = agree_on (g.H.Host.disk c.args.host.now) (g.H.Host.disk c.read_ring.new.host) (g.H.Host.disk c.read_whole.new.host) (c.read_ring.ensures.reads.calm told) (c.read_whole.ensures.reads.calm told)

pub returns-then-not-is_due-clause-calm : goal.returns-then-not-is_due-clause-calm
returns-then-not-is_due-clause-calm g c told = agree_on (g.H.Host.disk c.args.host.now) (g.H.Host.disk c.read_ring.new.host) (g.H.Host.disk c.read_whole.new.host) (c.read_ring.ensures.reads.calm told) (c.read_whole.ensures.reads.calm told)

pub returns-then-not-is_due-clause-finds : goal.returns-then-not-is_due-clause-finds
returns-then-not-is_due-clause-finds g c told = finds_other c.args.self.now.size c.args.self.now.name (ring_byte c.args.self.now.size (g.H.Host.disk c.args.host.now).seen) c.args.self.now.start c.args.self.now.position c.args.self.now.number c.read_ring.new.into (omega (arith, c.read_ring.auto.into)) (c.in-Ok.ensures.bytes told) c.if-head-ne-OPEN_GATE.false c.group_len-bytes.result c.group_len-bytes.ensures c.damage-then-not-is_due.result c.damage-then-not-is_due.ensures c.read_whole.new.into c.bytes.result.now c.bytes.ensures.bytes c.in-Ok-read_whole.ensures.len (stood c.args.self.now.size c.args.self.now.position (g.H.Host.disk c.args.host.now).seen (g.H.Host.disk c.read_ring.new.host).seen c.read_whole.new.into (c.read_ring.ensures.reads.seen told) (c.in-Ok-read_whole.ensures.bytes told)) c.if-not-is_due.ensures

pub returns-then-not-is_due-clause-next : goal.returns-then-not-is_due-clause-next
returns-then-not-is_due-clause-next g c told = next_of c.args.self.now.size c.args.self.now.name (ring_byte c.args.self.now.size (g.H.Host.disk c.args.host.now).seen) c.args.self.now.start c.args.self.now.position c.args.self.now.number c.read_whole.new.into (Err c.damage-then-not-is_due.result) (finds_other c.args.self.now.size c.args.self.now.name (ring_byte c.args.self.now.size (g.H.Host.disk c.args.host.now).seen) c.args.self.now.start c.args.self.now.position c.args.self.now.number c.read_ring.new.into (omega (arith, c.read_ring.auto.into)) (c.in-Ok.ensures.bytes told) c.if-head-ne-OPEN_GATE.false c.group_len-bytes.result c.group_len-bytes.ensures c.damage-then-not-is_due.result c.damage-then-not-is_due.ensures c.read_whole.new.into c.bytes.result.now c.bytes.ensures.bytes c.in-Ok-read_whole.ensures.len (stood c.args.self.now.size c.args.self.now.position (g.H.Host.disk c.args.host.now).seen (g.H.Host.disk c.read_ring.new.host).seen c.read_whole.new.into (c.read_ring.ensures.reads.seen told) (c.in-Ok-read_whole.ensures.bytes told)) c.if-not-is_due.ensures)

pub returns-clause-calm : goal.returns-clause-calm
returns-clause-calm g c told = agree_on (g.H.Host.disk c.args.host.now) (g.H.Host.disk c.read_ring.new.host) (g.H.Host.disk c.read_whole.new.host) (c.read_ring.ensures.reads.calm told) (c.read_whole.ensures.reads.calm told)

pub returns-clause-finds : goal.returns-clause-finds
returns-clause-finds g c told = finds_group c.args.self.now.size c.args.self.now.name (ring_byte c.args.self.now.size (g.H.Host.disk c.args.host.now).seen) c.args.self.now.start c.args.self.now.position c.args.self.now.number c.read_whole.new.into c.bytes.result.now c.bytes.ensures.bytes (stood c.args.self.now.size c.args.self.now.position (g.H.Host.disk c.args.host.now).seen (g.H.Host.disk c.read_ring.new.host).seen c.read_whole.new.into (c.read_ring.ensures.reads.seen told) (c.in-Ok-read_whole.ensures.bytes told)) c.if-not-is_due.ensures

pub returns-clause-next : goal.returns-clause-next
returns-clause-next g c told = next_of c.args.self.now.size c.args.self.now.name (ring_byte c.args.self.now.size (g.H.Host.disk c.args.host.now).seen) c.args.self.now.start c.args.self.now.position c.args.self.now.number c.read_whole.new.into (Ok true) (finds_group c.args.self.now.size c.args.self.now.name (ring_byte c.args.self.now.size (g.H.Host.disk c.args.host.now).seen) c.args.self.now.start c.args.self.now.position c.args.self.now.number c.read_whole.new.into c.bytes.result.now c.bytes.ensures.bytes (stood c.args.self.now.size c.args.self.now.position (g.H.Host.disk c.args.host.now).seen (g.H.Host.disk c.read_ring.new.host).seen c.read_whole.new.into (c.read_ring.ensures.reads.seen told) (c.in-Ok-read_whole.ensures.bytes told)) c.if-not-is_due.ensures)
