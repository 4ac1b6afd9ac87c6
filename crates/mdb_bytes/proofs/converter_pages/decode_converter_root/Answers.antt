use Rattle.mdb_bytes.proofs.ConverterLaws.{converter_root_again, length-converter_root}
use Rattle.mdb_bytes.proofs.converter_pages.decode_converter_root.Goals as goal

pub decode-requires-clause-again : goal.decode-requires-clause-again
decode-requires-clause-again c = converter_root_again

pub decode-requires-clause-long : goal.decode-requires-clause-long
decode-requires-clause-long c = length-converter_root
