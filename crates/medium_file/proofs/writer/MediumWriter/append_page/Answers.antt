use Rattle.std.proofs.Common.{refl, arith}
use Rattle.medium_file.proofs.Writers.{writing_beside, writing_appended}
use Rattle.medium_file.proofs.writer.MediumWriter.append_page.Goals as goal

pub returns-in_err-write-clause-kept : goal.returns-in_err-write-clause-kept
returns-in_err-write-clause-kept g c told content writing =
    let calls = c.write.ensures.calls told in
    writing_beside c.args.self.now content _ _ (g.H.Host.disk c.args.host.now) (g.H.Host.disk c.write.new.self) writing (omega arith) calls.goes calls.seen

pub returns-clause-kept : goal.returns-clause-kept
returns-clause-kept g c told content writing =
    let calls = c.write.ensures.calls told in
    writing_beside c.args.self.now content _ _ (g.H.Host.disk c.args.host.now) (g.H.Host.disk c.write.new.self) writing (omega arith) calls.goes calls.seen

pub returns-clause-writing : goal.returns-clause-writing
returns-clause-writing g c told content writing =
    let calls = c.write.ensures.calls told in
    writing_appended c.args.self.now content _ _ (g.H.Host.disk c.args.host.now) (g.H.Host.disk c.write.new.self) writing (omega arith) calls.goes calls.seen _ c.args.page.now refl (omega arith) (c.in_ok-write.ensures.written told)
