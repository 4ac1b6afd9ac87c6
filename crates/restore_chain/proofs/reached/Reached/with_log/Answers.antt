use Rattle.std.proofs.Common.{◌≡◌, ◌∙◌, ◌+◌, true, ◌&&◌, rules, arith}
use Rattle.std.specs.Prelude.{nat_le}
use Rattle.mdb_model.specs.Backups.{same_name}
use Rattle.std.proofs.lemmas.Bool.Decides.{nat_tests}
use Rattle.restore_chain.proofs.Steps.{after_log, log_follows}
use Rattle.restore_chain.proofs.reached.Reached.with_log.Goals as goal

pub returns : goal.returns
returns c links blocks r =
    let same : same_name c.args.self.name c.args.name ≡ true = search rules in
    let early : nat_le c.args.first (c.args.self.reach + 1) ≡ true = grind (arith, nat_tests) in
    let both : (same_name c.args.self.name c.args.name && nat_le c.args.first (c.args.self.reach + 1)) ≡ true = rw same early in
    after_log links c.args.self c.args.name c.args.first c.args.last _ blocks c.max.result r
    (log_follows links c.args.self c.args.name c.args.first c.args.last _ blocks r ∙ both) c.max.ensures
