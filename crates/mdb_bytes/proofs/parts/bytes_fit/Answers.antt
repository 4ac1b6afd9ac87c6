use Rattle.std.proofs.Common.{sym}
use Rattle.mdb_bytes.proofs.NumberBytes.{as_bytes, bytes_pass}
use Rattle.mdb_bytes.proofs.parts.bytes_fit.Goals as goal

pub returns : goal.returns
returns c = sym (bytes_pass c.args._bytes.now (as_bytes c.args._bytes.now c.type_inv._bytes))
