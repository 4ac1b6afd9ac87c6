use Rattle.mdb_bytes.proofs.LogicalPageLaws.{open_list_again, length-open_list}
use Rattle.mdb_bytes.proofs.logical_pages.decode_open_list.Goals as goal

pub decode-requires-clause-again : goal.decode-requires-clause-again
decode-requires-clause-again c = open_list_again

pub decode-requires-clause-long : goal.decode-requires-clause-long
decode-requires-clause-long c = length-open_list
