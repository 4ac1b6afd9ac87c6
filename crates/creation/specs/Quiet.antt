-- A stretch of calls of which is known only that nothing is said.
--     AnyHow      the devices change somehow
use Rattle.mdb_model.specs.Images.{Image}

-- the devices change somehow
abbrev pub AnyHow : Image → Image → Type 0
AnyHow old new = Unit {0}
