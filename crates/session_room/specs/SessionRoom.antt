-- The room that the changes of sessions need.
--     Changes      a session's changes are about a place
--     AreChangesLocked      each session has the places of its changes locked
--     ChangesAreApart      no two sessions have changed the same place
use Rattle.std.specs.Prelude.{◌≡◌, ◌≢◌, ◌⊎◌, ℕ, List, [], ◌∷◌, Contains}
use Rattle.mdb_model.specs.declared.change.Change.{Change}
use Rattle.mdb_model.specs.Tables.{Place, place_of}
use Rattle.mdb_model.specs.Worlds.{World, ExclusiveKey, transaction}

-- the changes are about the place, among others
abbrev pub Changes : List Change → Place → Type 0
Changes [] place = ⊥
Changes (change ∷ changes) place = (place ≡ place_of change) ⊎ Changes changes place

-- each session has locked the places of its changes, to change them
abbrev pub AreChangesLocked : World → Type 0
AreChangesLocked w =
    (session : ℕ) (change : Change) → Contains (transaction w session).changes change
    → Contains (transaction w session).locks (ExclusiveKey (place_of change))

-- no two sessions have changed the same place, as their locks have it
abbrev pub ChangesAreApart : World → Type 0
ChangesAreApart w =
    (one two : ℕ) (place : Place) → one ≢ two → Changes (transaction w one).changes place
    → Changes (transaction w two).changes place → ⊥
