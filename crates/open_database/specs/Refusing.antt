-- What a refusal leaves of an open database.
--     KeepsDatabase      it is as it was
use Rattle.std.specs.Prelude.{◌≡◌}
use Rattle.page_store.specs.Store.{block_count}
use Rattle.space_rule.specs.KnownCosts.{prepared_for}
use Rattle.space_rule.specs.Spaces.{known_costs}
use Rattle.open_database.specs.declared.database.Database.{Database}

-- the same sessions may work with the same changes, locks, log and record, and the space rule knows
-- the same, but for the place that memory was taken for
pub record KeepsDatabase (old new : Database) : Type 0 where
  pub access : new.access ≡ old.access
  pub blocks : block_count new.area.store ≡ block_count old.area.store
  pub transactions : new.transactions ≡ old.transactions
  pub ring : new.area.ring ≡ old.area.ring
  pub in_force : new.area.in_force ≡ old.area.in_force
  pub space : known_costs new.space
      ≡ prepared_for (known_costs old.space) (known_costs new.space).prepared
