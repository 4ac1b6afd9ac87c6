use Rattle.std.proofs.Common.{ℕ, ◌<◌, get_or}
use Rattle.converter.specs.Loads.{Admitted, row_of}
use Rattle.converter.proofs.maps.Converter.admit_leaves.Given as goal

abbrev pub invariant-loop-k : goal.invariant-loop-k
invariant-loop-k l = record { taken : Admitted l.fn.self l.self 1 (row_of l.root) l.k; placed : (j : ℕ) → j < l.k → 1 < get_or l.root.leaves.items j 0 }
