use Rattle.std.proofs.Common.{sym, ap, ◌∙◌, List}
use Rattle.mdb_model.specs.Backups.{Backup}
use Rattle.mdb_model.specs.Chains.{chain}
use Rattle.restore_chain.proofs.Bare.{chain-bare}
use Rattle.restore_chain.proofs.laws.chains_depend_on_numbers.Goals as goal

pub returns-clause-alike : goal.returns-clause-alike
returns-clause-alike c a b until alike =
    sym (chain-bare a until) ∙ ap (λ (links : List Backup). chain links until) alike ∙ chain-bare b until
