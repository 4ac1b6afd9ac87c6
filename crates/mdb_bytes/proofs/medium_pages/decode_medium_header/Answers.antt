use Rattle.mdb_bytes.proofs.MediumLaws.{medium_header_again, length-medium_header}
use Rattle.mdb_bytes.proofs.medium_pages.decode_medium_header.Goals as goal

pub decode-requires-clause-again : goal.decode-requires-clause-again
decode-requires-clause-again c = medium_header_again

pub decode-requires-clause-long : goal.decode-requires-clause-long
decode-requires-clause-long c = length-medium_header
