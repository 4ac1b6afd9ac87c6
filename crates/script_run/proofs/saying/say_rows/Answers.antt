use Rattle.std.proofs.Common.{sym, subst, List, ℕ, Ok, Err, arith}
use Rattle.mdb_model.specs.declared.script.Next.{Next}
use Rattle.mdb_model.specs.declared.script.Next.TheVariants.{Row, End, Fault}
use Rattle.mdb_model.specs.declared.script.Reply.{Reply}
use Rattle.mdb_model.specs.Steps.{rows_of}
use Rattle.mdb_host.proofs.Moments.{keeps_all, keeps_on}
use Rattle.db_kernel.specs.Kept.{scanned_rows}
use Rattle.db_kernel.specs.Scanning.{FaultHasCause}
use Rattle.script_run.specs.Scans.{HasSaidRows, SaysNext}
use Rattle.script_run.proofs.ScanLines.{rose_since}
use Rattle.script_run.proofs.ScanTexts.{SaidTo, said_first, said_more, stand_now, next_says, ended_whole, ended_failed, cut_row, rows_cut}
use Rattle.script_run.proofs.saying.say_rows.Goals as goal

pub loop-rows-init : goal.loop-rows-init
loop-rows-init g c =
    let d = g.H.Host.disk c.args.host.now in
    let database = c.args.kernel.now.database in
    record {
      sound = c.requires.sound;
      numbers = omega arith;
      keeps = λ told. keeps_all d;
      said = λ told ws opened.
          subst (λ (after : List ℕ). SaidTo ws database c.args.session c.args.table d d database 0 after) (sym c.new-after.ensures) (said_first ws database c.args.session c.args.table d opened);
      faults = omega arith;
      say_faults = omega arith;
    }

pub returns-in_err-say_next-clause-says : goal.returns-in_err-say_next-clause-says
returns-in_err-say_next-clause-says g c told ws opened =
    let d0 = g.H.Host.disk c.args.host.now in
    let d1 = g.H.Host.disk c.loop-rows.host in
    let d2 = g.H.Host.disk c.say_next.new.host in
    let before = c.args.kernel.now.database in
    let database = c.loop-rows.kernel.database in
    let after = c.say_next.new.kernel.database in
    let session = c.args.session in
    let table = c.args.table in
    let from = c.loop-rows.after.items in
    let so = c.loop-rows.invariant.said told ws opened in
    let stand = stand_now ws before session table d0 d1 d2 database after c.loop-rows.rows from so in
    let says = next_says ws before session table d0 d1 d2 database after c.loop-rows.rows from so c.say_next.new.after.items (Err c.in_err-say_next.field-0.0) (c.in_err-say_next.ensures.says told ws so.fit stand) in
    rows_cut ws (rows_of (scanned_rows before d0 session) table.0) d0 d2 (g.H.Host.faults c.args.host.now) (g.H.Host.faults c.say_next.new.host) after c.from_residual.result c.from_residual.ensures.0
    (cut_row ws before session table d0 d1 d2 database after c.loop-rows.rows from so says)

pub loop-rows-preserved : goal.loop-rows-preserved
loop-rows-preserved g c =
    let d0 = g.H.Host.disk c.args.host.now in
    let d1 = g.H.Host.disk c.loop-rows.host in
    let d2 = g.H.Host.disk c.say_next.new.host in
    let inv = c.loop-rows.invariant in
    let before = c.args.kernel.now.database in
    let database = c.loop-rows.kernel.database in
    let after = c.say_next.new.kernel.database in
    let session = c.args.session in
    let table = c.args.table in
    let from = c.loop-rows.after.items in
    let key = c.say_next.new.after.items in
    record {
      sound = c.say_next.ensures.sound;
      numbers = omega (arith, inv.numbers, c.say_next.ensures.numbers);
      keeps = λ told. keeps_on d0 d1 d2 (inv.keeps told) (c.say_next.ensures.keeps told);
      said = λ told ws opened.
          let so = inv.said told ws opened in
          let stand = stand_now ws before session table d0 d1 d2 database after c.loop-rows.rows from so in
          let row = next_says ws before session table d0 d1 d2 database after c.loop-rows.rows from so key (Ok Row)
          (subst (λ (n : Next). SaysNext d1 d2 ws database after session (scanned_rows database d1 session) table from key (Ok n)) c.in-Row.is (c.in_ok-say_next.ensures.says told ws so.fit stand)) in
          said_more ws before session table d0 d1 d2 database after c.loop-rows.rows from so key row.0 row.1;
      faults = omega (arith, inv.faults, c.say_next.ensures.later);
      say_faults = omega (arith, inv.say_faults, c.say_next.ensures.say_cause.later);
    }

pub returns-in-End-clause-says : goal.returns-in-End-clause-says
returns-in-End-clause-says g c told ws opened =
    let d0 = g.H.Host.disk c.args.host.now in
    let d1 = g.H.Host.disk c.loop-rows.host in
    let d2 = g.H.Host.disk c.say_next.new.host in
    let before = c.args.kernel.now.database in
    let database = c.loop-rows.kernel.database in
    let after = c.say_next.new.kernel.database in
    let session = c.args.session in
    let table = c.args.table in
    let from = c.loop-rows.after.items in
    let key = c.say_next.new.after.items in
    let so = c.loop-rows.invariant.said told ws opened in
    let stand = stand_now ws before session table d0 d1 d2 database after c.loop-rows.rows from so in
    let none = next_says ws before session table d0 d1 d2 database after c.loop-rows.rows from so key (Ok End)
    (subst (λ (n : Next). SaysNext d1 d2 ws database after session (scanned_rows database d1 session) table from key (Ok n)) c.in-End.is (c.in_ok-say_next.ensures.says told ws so.fit stand)) in
    ended_whole ws before session table d0 d1 d2 database after c.loop-rows.rows from so (g.H.Host.faults c.args.host.now) (g.H.Host.faults c.say_next.new.host) none.0 none.1

pub returns-in-Fault-clause-says : goal.returns-in-Fault-clause-says
returns-in-Fault-clause-says g c told ws opened =
    let d0 = g.H.Host.disk c.args.host.now in
    let d1 = g.H.Host.disk c.loop-rows.host in
    let d2 = g.H.Host.disk c.say_next.new.host in
    let f0 = g.H.Host.faults c.args.host.now in
    let f1 = g.H.Host.faults c.loop-rows.host in
    let f2 = g.H.Host.faults c.say_next.new.host in
    let before = c.args.kernel.now.database in
    let database = c.loop-rows.kernel.database in
    let after = c.say_next.new.kernel.database in
    let session = c.args.session in
    let table = c.args.table in
    let from = c.loop-rows.after.items in
    let key = c.say_next.new.after.items in
    let so = c.loop-rows.invariant.said told ws opened in
    let stand = stand_now ws before session table d0 d1 d2 database after c.loop-rows.rows from so in
    let fault = next_says ws before session table d0 d1 d2 database after c.loop-rows.rows from so key (Ok (Fault c.in-Fault.reply))
    (subst (λ (n : Next). SaysNext d1 d2 ws database after session (scanned_rows database d1 session) table from key (Ok n)) c.in-Fault.is (c.in_ok-say_next.ensures.says told ws so.fit stand)) in
    let cause = subst (λ (reply : Reply). FaultHasCause f1 f2 after (Fault reply)) fault.0 (subst (λ (n : Next). FaultHasCause f1 f2 after n) c.in-Fault.is c.in_ok-say_next.ensures.cause) in
    subst (λ (reply : Reply). HasSaidRows d0 d2 f0 f2 ws (rows_of (scanned_rows before d0 session) table.0) after c.loop-rows.rows reply) (sym fault.0)
    (ended_failed ws before session table d0 d1 d2 database after c.loop-rows.rows from so f0 f2 (rose_since f0 f1 f2 c.loop-rows.invariant.faults cause.0) cause.1 fault.1)
