use Rattle.std.proofs.Common.{arith, List, ℕ, ◌∙◌, ◌++◌, subst}
use Rattle.std.proofs.lemmas.Result.{err_from_is_err_and}
use Rattle.mdb_model.specs.declared.fault.Device.TheVariants.{Log}
use Rattle.log_backup.specs.Packing.{Packs}
use Rattle.log_backup.proofs.Pages.{writes_reads, writes_on}
use Rattle.log_backup.proofs.Groups.{left_on, left_intact, packs_kept, log_same}
use Rattle.log_backup.proofs.saving.pack_next.Goals as goal

pub returns-in_err-read_next-clause-intact : goal.returns-in_err-read_next-clause-intact
returns-in_err-read_next-clause-intact g c told header all more left damage is =
    let p = err_from_is_err_and c.from_residual.result c.from_residual.ensures.1 in
    left_intact c.args.reader.now c.args.packing.now c.args.page.now (g.H.Host.disk c.args.host.now) header all (omega (arith, c.requires.packing.used)) more
    (λ commit commits log room fits. c.in_err-read_next.ensures.intact told commit commits log room fits damage cc) left

pub returns-in_err-read_next-clause-writes : goal.returns-in_err-read_next-clause-writes
returns-in_err-read_next-clause-writes g c = writes_reads g.H.Host c.args.packing.now.writer.medium c.args.packing.now.writer.pages c.args.host.now c.read_next.new.host c.read_next.ensures.reads

pub returns-in-Ok-clause-left : goal.returns-in-Ok-clause-left
returns-in-Ok-clause-left g c told header all more left =
    left_on c.args.reader.now c.read_next.new.reader c.args.packing.now c.put.new.self c.args.page.now c.put.new.page (g.H.Host.disk c.args.host.now) (g.H.Host.disk c.put.new.host) header all c.read_next.new.group c.in_ok-read_next.ensures.moves c.put.ensures.same
    (log_same c.args.packing.now.writer.medium c.args.packing.now.writer.pages (g.H.Host.disk c.read_next.new.host).seen (g.H.Host.disk c.put.new.host).seen (c.put.ensures.writes.seen told) ∙ c.read_next.ensures.reads.seen told Log)
    (λ commits log room. c.in_ok-read_next.ensures.next told commits log room)
    (λ before packs. subst (λ (l : List ℕ). Packs c.put.new.self c.put.new.page (before ++ l) (g.H.Host.disk c.put.new.host)) c.bytes.ensures.bytes
    (c.in-Ok.ensures.packs told before (packs_kept c.args.packing.now c.args.page.now before (g.H.Host.disk c.args.host.now) (g.H.Host.disk c.read_next.new.host) (c.read_next.ensures.reads.calm told) (c.read_next.ensures.reads.seen told) packs))) more left

pub returns-in-Ok-clause-writes : goal.returns-in-Ok-clause-writes
returns-in-Ok-clause-writes g c =
    writes_on g.H.Host c.args.packing.now.writer.medium c.args.packing.now.writer.pages c.args.host.now c.read_next.new.host c.put.new.host
    (writes_reads g.H.Host c.args.packing.now.writer.medium c.args.packing.now.writer.pages c.args.host.now c.read_next.new.host c.read_next.ensures.reads) c.put.ensures.writes

pub returns-in-Err-clause-writes : goal.returns-in-Err-clause-writes
returns-in-Err-clause-writes g c =
    writes_on g.H.Host c.args.packing.now.writer.medium c.args.packing.now.writer.pages c.args.host.now c.read_next.new.host c.put.new.host
    (writes_reads g.H.Host c.args.packing.now.writer.medium c.args.packing.now.writer.pages c.args.host.now c.read_next.new.host c.read_next.ensures.reads) c.put.ensures.writes
