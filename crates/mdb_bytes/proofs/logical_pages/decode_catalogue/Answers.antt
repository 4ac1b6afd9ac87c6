use Rattle.mdb_bytes.proofs.LogicalPageLaws.{catalogue_again, length-catalogue}
use Rattle.mdb_bytes.proofs.logical_pages.decode_catalogue.Goals as goal

pub decode-requires-clause-again : goal.decode-requires-clause-again
decode-requires-clause-again c = catalogue_again

pub decode-requires-clause-long : goal.decode-requires-clause-long
decode-requires-clause-long c = length-catalogue
