use Rattle.std.proofs.Common.{arith}
use Rattle.log_backup.proofs.Pages.{packs_filled, on_ok_both}
use Rattle.log_backup.proofs.packing.Packing.fill.Goals as goal

pub returns-clause-packs : goal.returns-clause-packs
returns-clause-packs g c = on_ok_both c.append_full.result _ _ _ (λ grows none told bytes packs.
    packs_filled c.args.self.now c.append_full.new.self c.args.page.now c.clear_from.new.page bytes _ _ (omega (arith, c.if-self-eq0.false)) (omega (arith, c.requires.packing.used)) (omega arith) c.clear_from.ensures (none (omega arith)) packs (grows told _)) c.append_full.ensures.packs c.append_full.ensures.used
