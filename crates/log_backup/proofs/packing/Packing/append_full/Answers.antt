use Rattle.std.proofs.Common.{◌*◌, ◌+◌, arith}
use Rattle.mdb_bytes.specs.Parts.{page_len}
use Rattle.log_backup.proofs.Pages.{writes_page, packs_full}
use Rattle.log_backup.proofs.packing.Packing.append_full.Goals as goal

pub returns-in_err-append_page-clause-writes : goal.returns-in_err-append_page-clause-writes
returns-in_err-append_page-clause-writes g c =
    writes_page g.H.Host c.args.self.now.writer.medium c.args.self.now.writer.pages (page_len * (1 + c.args.self.now.writer.appended)) page_len c.args.host.now c.append_page.new.host
    (omega arith) (omega (arith, c.requires.room, c.if-self-lt-PAGE_BYTES.false)) c.append_page.ensures.calls c.append_page.ensures.cause.later c.append_page.ensures.say_faults

pub returns-clause-packs : goal.returns-clause-packs
returns-clause-packs g c told bytes packs =
    packs_full c.args.self.now c.append_page.new.self c.args.page.now bytes _ _ (omega arith) (λ content writing. c.in_ok-append_page.ensures.writing told content writing) packs

pub returns-clause-writes : goal.returns-clause-writes
returns-clause-writes g c =
    writes_page g.H.Host c.args.self.now.writer.medium c.args.self.now.writer.pages (page_len * (1 + c.args.self.now.writer.appended)) page_len c.args.host.now c.append_page.new.host
    (omega arith) (omega (arith, c.requires.room, c.if-self-lt-PAGE_BYTES.false)) c.append_page.ensures.calls c.append_page.ensures.cause.later c.append_page.ensures.say_faults
