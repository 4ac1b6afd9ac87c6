use Rattle.byteorder.specs.Numbers.{big_number-reads_back}
use Rattle.mdb_bytes.proofs.NumberBytes.{number-spells}
use Rattle.mdb_bytes.proofs.laws.numbers_follow_from_bytes.Goals as goal

pub returns-clause-numbers : goal.returns-clause-numbers
returns-clause-numbers c = big_number-reads_back

pub returns-clause-bytes : goal.returns-clause-bytes
returns-clause-bytes c = number-spells
