use Rattle.std.proofs.Common.{◌≡◌, ◌∙◌, refl, true, false, ◌==◌, ◌&&◌, Some, rules, option_map}
use Rattle.std.specs.Prelude.{unwrap_or}
use Rattle.mdb_model.specs.Backups.{same_name}
use Rattle.restore_chain.proofs.Steps.{after_pages, is_base, changes_follow}
use Rattle.restore_chain.specs.Links.{changes_of}
use Rattle.restore_chain.proofs.reached.Reached.with_changes.Goals as goal

pub returns : goal.returns
returns c links r =
    let same : same_name c.args.self.name c.args.header.now.name ≡ true = search rules in
    let base : c.args.self.savepoint ≡ Some c.args.header.now.base = search rules in
    let both : (same_name c.args.self.name c.args.header.now.name && unwrap_or (option_map (λ s. s == c.args.header.now.base) c.args.self.savepoint) false) ≡ true =
    rw same (is_base c.args.self.savepoint c.args.header.now.base base) in
    after_pages links c.args.self (changes_of c.args.header.now) c.args.header.now.savepoint r refl
    (changes_follow links c.args.self c.args.header.now.name c.args.header.now.savepoint c.args.header.now.base c.args.header.now.last _ _ _ r ∙ both)
    (r.only_pages c.args.header.now.base base) refl
