use Rattle.std.proofs.Common.{◌≡◌, ◌*◌, ◌≤◌, arith, Some, None}
use Rattle.mdb_bytes.specs.Parts.{page_len}
use Rattle.medium_file.specs.Media.{header_damage}
use Rattle.medium_file.proofs.Headers.{open_read}
use Rattle.medium_file.proofs.reading.held.Goals as goal

pub returns-in-Some-clause-holds : goal.returns-in-Some-clause-holds
returns-in-Some-clause-holds g c told =
    let some : page_len ≤ c.args.pages * page_len = omega (arith, c.if-pages-eq0.false) in
    open_read (g.H.Host.disk c.args.host.now).seen c.args.m c.read.new.into c.split_at.result.0.now c.split_at.result.1.now (c.args.pages * page_len) (c.requires told) some (omega arith) (c.in-Ok.ensures.bytes told)
    c.if-gate-ne-OPEN_GATE.false c.split_at.ensures.by_index.2 c.split_at.ensures.front_len c.split_at.ensures.by_index.1 (Some c.in-Some.header) c.in-Some.ensures

pub returns-in-None-clause-breaks : goal.returns-in-None-clause-breaks
returns-in-None-clause-breaks g c damage is =
    let named : damage ≡ header_damage c.args.m = cc in (
      named,
      λ told.
          let some : page_len ≤ c.args.pages * page_len = omega (arith, c.if-pages-eq0.false) in
          let first =
          open_read (g.H.Host.disk c.args.host.now).seen c.args.m c.read.new.into c.split_at.result.0.now c.split_at.result.1.now (c.args.pages * page_len) (c.requires told) some (omega arith) (c.in-Ok.ensures.bytes told)
          c.if-gate-ne-OPEN_GATE.false c.split_at.ensures.by_index.2 c.split_at.ensures.front_len c.split_at.ensures.by_index.1 None c.in-None.ensures in
          record { gate = first.0; header = first.1 },
    )
