use Rattle.db_kernel.specs.Kept.{scanned_rows}
use Rattle.script_run.proofs.NextSaid.{row_said, row_cut, end_said, fault_said, next_err}
use Rattle.script_run.proofs.saying.say_next.Goals as goal

pub returns-in_err-say_row-in-Row-clause-says : goal.returns-in_err-say_row-in-Row-clause-says
returns-in_err-say_row-in-Row-clause-says g c told ws fit stand =
    let d0 = g.H.Host.disk c.args.host.now in
    let d1 = g.H.Host.disk c.scan_next.new.host in
    let d2 = g.H.Host.disk c.say_row.new.host in
    let before = c.args.kernel.now.database in
    let after = c.scan_next.new.self.database in
    next_err d0 d2 ws before after c.args.session (scanned_rows before d0 c.args.session) c.args.table c.args.after.now.items c.args.after.now.items c.from_residual.result c.from_residual.ensures.0
    (row_cut d0 d1 (c.in-Row.ensures.takes.keeps told) ws before after c.args.session c.args.table c.args.after.now.items c.scan_next.new.key.items c.scan_next.new.value.items d2
    (c.in-Row.ensures.reads told ws fit stand) (c.say_row.ensures.speaks told))

pub returns-in_ok-say_row-in-Row-clause-says : goal.returns-in_ok-say_row-in-Row-clause-says
returns-in_ok-say_row-in-Row-clause-says g c told ws fit stand =
    let d0 = g.H.Host.disk c.args.host.now in
    let d1 = g.H.Host.disk c.scan_next.new.host in
    let d2 = g.H.Host.disk c.say_row.new.host in
    let before = c.args.kernel.now.database in
    let after = c.scan_next.new.self.database in
    let reads = c.in-Row.ensures.reads told ws fit stand in (
      (c.scan_next.new.value.items, reads.is_next),
      row_said d0 d1 (c.in-Row.ensures.takes.keeps told) ws before after c.args.session c.args.table c.args.after.now.items c.scan_next.new.key.items c.scan_next.new.value.items d2
          reads (c.say_row.ensures.speaks told) (c.in_ok-say_row-in-Row.ensures.said told),
    )

pub returns-in-End-clause-says : goal.returns-in-End-clause-says
returns-in-End-clause-says g c told ws fit stand =
    let reads = c.in-End.ensures.reads told ws fit stand in (
      reads.is_next,
      end_said (g.H.Host.disk c.args.host.now) (g.H.Host.disk c.scan_next.new.host) (c.in-End.ensures.takes.keeps told) ws c.args.kernel.now.database c.scan_next.new.self.database c.args.session c.args.table c.args.after.now.items
          c.scan_next.new.key.items c.scan_next.new.value.items reads,
    )

pub returns-in-Fault-clause-says : goal.returns-in-Fault-clause-says
returns-in-Fault-clause-says g c told ws fit stand =
    let reads = c.in-Fault.ensures.reads told ws fit stand in (
      reads.is_next,
      fault_said (g.H.Host.disk c.args.host.now) (g.H.Host.disk c.scan_next.new.host) (c.in-Fault.ensures.takes.keeps told) ws c.args.kernel.now.database c.scan_next.new.self.database c.args.session c.args.table c.args.after.now.items
          c.scan_next.new.key.items c.scan_next.new.value.items c.in-Fault.reply reads,
    )
