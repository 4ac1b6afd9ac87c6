use Rattle.std.proofs.Common.{refl, ◌+◌}
use Rattle.mdb_bytes.specs.Firsts.{leaf_count}
use Rattle.converter.proofs.Named.{named}
use Rattle.converter.proofs.laws.tree_names_its_map.Goals as goal

pub returns : goal.returns
returns c row m blocks long tree = named row m (1 + leaf_count blocks) blocks refl long tree
