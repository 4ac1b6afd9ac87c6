use Rattle.std.proofs.Common.{arith}
use Rattle.mdb_host.proofs.Moments.{on_ok}
use Rattle.medium_file.proofs.Headers.{page_read}
use Rattle.medium_file.proofs.reading.page.Goals as goal

pub returns-clause-bytes : goal.returns-clause-bytes
returns-clause-bytes g c = on_ok c.read.result _ _ (λ has told.
    page_read (g.H.Host.disk c.args.host.now).seen c.args.m c.args.i _ c.read.new.into (c.requires.within told) (omega arith) (omega arith) (has told)) c.read.ensures.bytes
