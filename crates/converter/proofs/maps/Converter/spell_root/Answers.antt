use Rattle.std.proofs.Common.{refl, arith}
use Rattle.converter.proofs.Spelled.{root_keeps}
use Rattle.converter.proofs.maps.Converter.spell_root.Goals as goal

pub encode_converter_root-requires-clause-keeps : goal.encode_converter_root-requires-clause-keeps
encode_converter_root-requires-clause-keeps c =
    let s = c.leaves-leaves.ensures.sound in
    root_keeps _ _ c.savepoint.result _ _ s.frozen_small s.bound (omega (arith, s.leaves, s.bound)) c.savepoint.ensures.small refl c.leaf_blocks.ensures.long c.leaf_blocks.ensures.blocks

pub returns : goal.returns
returns c = record {
  root = record { savepoint = c.savepoint.result; leaves = c.leaf_blocks.result };
  is = record { spells = c.encode_converter_root.ensures; count = c.leaf_blocks.ensures.long };
  leaves = c.leaf_blocks.ensures.blocks;
}
