use Rattle.std.proofs.Common.{length, ap, arith, length-append}
use Rattle.mdb_host.proofs.Reading.{reads_on}
use Rattle.redo_ring.proofs.Found.{stands_more}
use Rattle.redo_ring.proofs.reader.read_group.Goals as goal

pub returns-in_err-read_more-clause-reads : goal.returns-in_err-read_more-clause-reads
returns-in_err-read_more-clause-reads g c = reads_on _ _ _ _ c.loop-done.invariant.reads c.read_more.ensures.reads

pub loop-done-preserved : goal.loop-done-preserved
loop-done-preserved g c =
    let added = c.in_ok-read_more.ensures.added in
    let inv = c.loop-done.invariant in
    record {
      within = omega (arith, c.min-count.ensures, inv.within);
      len = omega (arith, ap length added.2, length-append c.loop-done.into added.0, added.1, inv.len);
      reads = reads_on _ _ _ _ inv.reads c.read_more.ensures.reads;
      stands = λ told. stands_more c.args.size c.args.position c.loop-done.done (g.H.Host.disk c.args.host.now).seen (g.H.Host.disk c.loop-done.host).seen c.loop-done.into added.0 c.read_more.new.into inv.len added.2 (inv.reads.seen told) (inv.stands told) (added.3 told);
    }
