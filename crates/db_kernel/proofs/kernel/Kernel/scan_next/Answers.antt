use Rattle.std.proofs.Common.{◌≡◌, sym, ap, subst, ◌∙◌, Bool, Option, Some, None, Ok, Err}
use Rattle.mdb_model.specs.declared.script.Next.TheVariants.{Row, End, Fault}
use Rattle.mdb_model.specs.declared.script.Refusal.{Refusal}
use Rattle.mdb_model.specs.declared.script.Reply.TheVariants.{Refused}
use Rattle.open_database.specs.declared.database.Database.{Database}
use Rattle.open_database.specs.Scanning.{ReadsRow as DatabaseReads}
use Rattle.db_kernel.specs.Kept.{FitsWorlds, IsSoundKernel, page_refusal}
use Rattle.db_kernel.specs.Scanning.{ReadsRow, TakesRow}
use Rattle.db_kernel.proofs.Fitting.{sound_of}
use Rattle.db_kernel.proofs.NextRows.{fit_told, row_read, end_read, read_failed, none_read, row_takes, fault_takes}
use Rattle.db_kernel.proofs.kernel.Kernel.scan_next.Goals as goal

pub returns-in_default-clause-reads : goal.returns-in_default-clause-reads
returns-in_default-clause-reads g c told ws fit stand =
    let d = g.H.Host.disk c.args.host.now in
    subst (λ (o : Option Database). ReadsRow d d ws o o c.args.session c.args.table c.args.after.now.items c.args.key.now.items c.args.value.now.items End) (sym c.in_default.is)
    (none_read d ws c.args.session c.args.table c.args.after.now.items c.args.key.now.items c.args.value.now.items (subst (λ (o : Option Database). FitsWorlds o d ws) c.in_default.is fit) stand)

pub scan_next-requires-clause-sound : goal.scan_next-requires-clause-sound
scan_next-requires-clause-sound g c =
    let d = g.H.Host.disk c.args.host.now in
    sound_of g.H.Host.tells c.in-Some.database d (subst (λ (o : Option Database). IsSoundKernel g.H.Host.tells o d) c.in-Some.is c.requires.sound)

pub returns-in-Ok-true-clause-takes : goal.returns-in-Ok-true-clause-takes
returns-in-Ok-true-clause-takes g c =
    let d0 = g.H.Host.disk c.args.host.now in
    let d1 = g.H.Host.disk c.scan_next.new.host in
    let f0 = g.H.Host.faults c.args.host.now in
    let f1 = g.H.Host.faults c.scan_next.new.host in
    subst (λ (o : Option Database). TakesRow g.H.Host.tells d0 d1 f0 f1 o (Some c.scan_next.new.self) Row) (sym c.in-Some.is)
    (row_takes g.H.Host.tells d0 d1 f0 f1 c.in-Some.database c.scan_next.new.self Row tt c.scan_next.ensures.sound c.scan_next.ensures.numbers c.scan_next.ensures.keeps c.scan_next.ensures.later)

pub returns-in-Ok-true-clause-reads : goal.returns-in-Ok-true-clause-reads
returns-in-Ok-true-clause-reads g c told ws fit stand =
    let d0 = g.H.Host.disk c.args.host.now in
    let d1 = g.H.Host.disk c.scan_next.new.host in
    let here = fit_told g.H.Host.tells told c.in-Some.database d0 ws (subst (λ (o : Option Database). FitsWorlds o d0 ws) c.in-Some.is fit) in
    subst (λ (o : Option Database). ReadsRow d0 d1 ws o (Some c.scan_next.new.self) c.args.session c.args.table c.args.after.now.items c.scan_next.new.key.items c.scan_next.new.value.items Row) (sym c.in-Some.is)
    (row_read g.H.Host.tells told d0 d1 ws c.in-Some.database c.scan_next.new.self c.args.session c.args.table c.args.after.now.items c.scan_next.new.key.items c.scan_next.new.value.items here (subst (λ (b : Bool). DatabaseReads g.H.Host.tells d0 d1 here.w ws c.in-Some.database c.scan_next.new.self c.args.session c.args.table c.args.after.now.items c.scan_next.new.key.items c.scan_next.new.value.items (Ok b)) c.in-Ok-true.field-0-test (c.in-Ok-true.ensures.reads told ws here)))

pub returns-in-Ok-false-clause-takes : goal.returns-in-Ok-false-clause-takes
returns-in-Ok-false-clause-takes g c =
    let d0 = g.H.Host.disk c.args.host.now in
    let d1 = g.H.Host.disk c.scan_next.new.host in
    let f0 = g.H.Host.faults c.args.host.now in
    let f1 = g.H.Host.faults c.scan_next.new.host in
    subst (λ (o : Option Database). TakesRow g.H.Host.tells d0 d1 f0 f1 o (Some c.scan_next.new.self) End) (sym c.in-Some.is)
    (row_takes g.H.Host.tells d0 d1 f0 f1 c.in-Some.database c.scan_next.new.self End tt c.scan_next.ensures.sound c.scan_next.ensures.numbers c.scan_next.ensures.keeps c.scan_next.ensures.later)

pub returns-in-Ok-false-clause-reads : goal.returns-in-Ok-false-clause-reads
returns-in-Ok-false-clause-reads g c told ws fit stand =
    let d0 = g.H.Host.disk c.args.host.now in
    let d1 = g.H.Host.disk c.scan_next.new.host in
    let here = fit_told g.H.Host.tells told c.in-Some.database d0 ws (subst (λ (o : Option Database). FitsWorlds o d0 ws) c.in-Some.is fit) in
    subst (λ (o : Option Database). ReadsRow d0 d1 ws o (Some c.scan_next.new.self) c.args.session c.args.table c.args.after.now.items c.scan_next.new.key.items c.scan_next.new.value.items End) (sym c.in-Some.is)
    (end_read g.H.Host.tells told d0 d1 ws c.in-Some.database c.scan_next.new.self c.args.session c.args.table c.args.after.now.items c.scan_next.new.key.items c.scan_next.new.value.items here (subst (λ (b : Bool). DatabaseReads g.H.Host.tells d0 d1 here.w ws c.in-Some.database c.scan_next.new.self c.args.session c.args.table c.args.after.now.items c.scan_next.new.key.items c.scan_next.new.value.items (Ok b)) c.in-Ok-false.field-0-test (c.in-Ok-false.ensures.reads told ws here)))

pub returns-in-Err-clause-takes : goal.returns-in-Err-clause-takes
returns-in-Err-clause-takes g c =
    let d0 = g.H.Host.disk c.args.host.now in
    let d1 = g.H.Host.disk c.scan_next.new.host in
    let f0 = g.H.Host.faults c.args.host.now in
    let f1 = g.H.Host.faults c.scan_next.new.host in
    subst (λ (n : Option Database). TakesRow g.H.Host.tells d0 d1 f0 f1 c.args.self.now.database n (Fault (Refused c.refusal_of.result))) (sym c.turn_off.ensures)
    (subst (λ (r : Refusal). TakesRow g.H.Host.tells d0 d1 f0 f1 c.args.self.now.database None (Fault (Refused r))) (sym c.refusal_of.ensures)
    (fault_takes g.H.Host.tells d0 d1 f0 f1 c.args.self.now.database c.in-Err.fault c.scan_next.ensures.keeps c.scan_next.ensures.later (λ is. c.scan_next.ensures.cause (c.in-Err.is ∙ ap Err is))))

pub returns-in-Err-clause-reads : goal.returns-in-Err-clause-reads
returns-in-Err-clause-reads g c told ws fit stand =
    let d0 = g.H.Host.disk c.args.host.now in
    let d1 = g.H.Host.disk c.scan_next.new.host in
    let here = fit_told g.H.Host.tells told c.in-Some.database d0 ws (subst (λ (o : Option Database). FitsWorlds o d0 ws) c.in-Some.is fit) in
    subst (λ (n : Option Database). ReadsRow d0 d1 ws c.args.self.now.database n c.args.session c.args.table c.args.after.now.items c.scan_next.new.key.items c.scan_next.new.value.items (Fault (Refused c.refusal_of.result))) (sym c.turn_off.ensures)
    (subst (λ (r : Refusal). ReadsRow d0 d1 ws c.args.self.now.database None c.args.session c.args.table c.args.after.now.items c.scan_next.new.key.items c.scan_next.new.value.items (Fault (Refused r))) (sym c.refusal_of.ensures)
    (subst (λ (o : Option Database). ReadsRow d0 d1 ws o None c.args.session c.args.table c.args.after.now.items c.scan_next.new.key.items c.scan_next.new.value.items (Fault (Refused (page_refusal c.in-Err.fault)))) (sym c.in-Some.is)
    (read_failed g.H.Host.tells told d0 d1 ws c.in-Some.database c.scan_next.new.self c.args.session c.args.table c.args.after.now.items c.scan_next.new.key.items c.scan_next.new.value.items here c.in-Err.fault (c.in-Err.ensures.reads told ws here))))
