use Rattle.std.proofs.Common.{◌+◌, ◌*◌, arith}
use Rattle.converter.proofs.Spelled.{leaf_keeps}
use Rattle.converter.proofs.maps.Converter.spell_leaf.Goals as goal

pub encode_converter_leaf-requires-clause-keeps : goal.encode_converter_leaf-requires-clause-keeps
encode_converter_leaf-requires-clause-keeps c =
    let s = c.frozen_run.ensures.sound in
    leaf_keeps _ _ c.args.leaf c.savepoint.result _ c.frozen_run.result s.frozen_small (c.args.self.now.conv + 600 * c.args.leaf) (omega arith) s.bound (omega (arith, s.leaves, s.bound, c.requires)) c.savepoint.ensures.small
    c.frozen_run.ensures.long c.frozen_run.ensures.entries
