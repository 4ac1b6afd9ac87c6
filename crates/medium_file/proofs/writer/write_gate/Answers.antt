use Rattle.mdb_host.proofs.Moments.{on_ok}
use Rattle.medium_file.proofs.Sealing.{gate_written}
use Rattle.medium_file.proofs.writer.write_gate.Goals as goal

pub returns-clause-kept : goal.returns-clause-kept
returns-clause-kept g c = on_ok c.write_kept.result _ _ (λ kept told image left. gate_written image c.args.m (kept told image left)) c.write_kept.ensures.kept
