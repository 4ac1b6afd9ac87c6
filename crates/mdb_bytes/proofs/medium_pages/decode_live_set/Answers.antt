use Rattle.mdb_bytes.proofs.MediumLaws.{live_set_again, length-live_set}
use Rattle.mdb_bytes.proofs.medium_pages.decode_live_set.Goals as goal

pub decode-requires-clause-again : goal.decode-requires-clause-again
decode-requires-clause-again c = live_set_again

pub decode-requires-clause-long : goal.decode-requires-clause-long
decode-requires-clause-long c = length-live_set
