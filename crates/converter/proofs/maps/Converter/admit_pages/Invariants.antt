use Rattle.std.proofs.Common.{◌+◌, ◌*◌}
use Rattle.converter.specs.Maps.{entry_at}
use Rattle.converter.specs.Loads.{Admitted}
use Rattle.converter.proofs.maps.Converter.admit_pages.Given as goal

abbrev pub invariant-loop-k : goal.invariant-loop-k
invariant-loop-k l = Admitted l.fn.self l.self (l.fn.self.conv + 600 * l.leaf) (entry_at l.entries) l.k
