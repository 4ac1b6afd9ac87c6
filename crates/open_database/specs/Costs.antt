-- What the space rule knows while a database is opened, and as its sessions are dismissed.
--     IsLoaded      costs of tables were told, and nothing else
--     IsForgotten      the changes of the first sessions are given up
use Rattle.std.specs.Prelude.{◌≡◌, ℕ, ◌<◌, ◌≤◌, [], length}
use Rattle.space_rule.specs.KnownCosts.{KnownCosts, changes_at}

-- costs of tables were told, and all else is the same
pub record IsLoaded (old new : KnownCosts) : Type 0 where
  pub blocks : new.blocks ≡ old.blocks
  pub kept : new.kept ≡ old.kept
  pub sessions : new.sessions ≡ old.sessions
  pub long : length new.committed ≡ length old.committed

-- the sessions up to a number have no changes any more, and all else is the same
pub record IsForgotten (old new : KnownCosts) (last : ℕ) : Type 0 where
  pub blocks : new.blocks ≡ old.blocks
  pub kept : new.kept ≡ old.kept
  pub committed : new.committed ≡ old.committed
  pub long : length new.sessions ≡ length old.sessions
  pub gone : (session : ℕ) → 1 ≤ session → session ≤ last → changes_at new.sessions session ≡ []
  pub others : (session : ℕ) → last < session → changes_at new.sessions session
      ≡ changes_at old.sessions session
  pub first : changes_at new.sessions 0 ≡ changes_at old.sessions 0
