use Rattle.mdb_bytes.proofs.ConverterLaws.{converter_leaf_again, length-converter_leaf}
use Rattle.mdb_bytes.proofs.converter_pages.decode_converter_leaf.Goals as goal

pub decode-requires-clause-again : goal.decode-requires-clause-again
decode-requires-clause-again c = converter_leaf_again

pub decode-requires-clause-long : goal.decode-requires-clause-long
decode-requires-clause-long c = length-converter_leaf
