-- What a call starts from.
--     own_age      the history of a world, under its own name alone
use Rattle.std.specs.FinMap.{insert, empty}
use Rattle.mdb_model.specs.Agreement.{Ages}
use Rattle.mdb_model.specs.Worlds.{World}

-- the history of a world, under its own name alone
abbrev pub own_age : World → Ages
own_age w = insert empty w.name w.history
