-- The blocks that a world needs, from what is known.
--     need_is      so many
use Rattle.std.proofs.Common.{◌≡◌, ap, arith}
use Rattle.mdb_model.specs.Space.{need, converter_pages}
use Rattle.mdb_model.specs.Worlds.{World}
use Rattle.session_room.specs.SessionRoom.{ChangesAreApart}
use Rattle.space_rule.specs.KnownCosts.{KnownCosts, need_of}
use Rattle.known_needs.specs.KnownNeeds.{IsKnownOf}
use Rattle.known_needs.proofs.PagesKnown.{pages_are}
use Rattle.known_needs.proofs.UndoKnown.{undo_is}

-- what is known needs as much as the world
pub need_is : (known : KnownCosts) (w : World) → IsKnownOf known w → ChangesAreApart w → need_of known ≡ need w
need_is known w is apart = omega (arith, pages_are known w is apart, undo_is known w is, ap converter_pages is.blocks, is.kept)
