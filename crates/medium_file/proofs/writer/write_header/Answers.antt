use Rattle.std.proofs.Common.{subst, List, ℕ}
use Rattle.mdb_model.specs.declared.fault.Device.TheVariants.{Medium}
use Rattle.mdb_host.specs.Disk.{Has}
use Rattle.mdb_host.proofs.Moments.{on_ok}
use Rattle.medium_file.proofs.writer.write_header.Goals as goal

pub returns-clause-kept : goal.returns-clause-kept
returns-clause-kept g c = on_ok c.write_kept.result _ _ (λ kept told image left.
    subst (λ (l : List ℕ). Has image (Medium c.args.m) 0 l) c.encode_medium_header.ensures.1 (kept told image left)) c.write_kept.ensures.kept
