use Rattle.std.proofs.Common.{◌≡◌, ◌++◌, ◌+◌, ◌*◌, take, length}
use Rattle.mdb_model.specs.Text.{hex_digits}
use Rattle.dbm_script.proofs.writing.put_digits.Given as goal

abbrev pub invariant-loop-byte : goal.invariant-loop-byte
invariant-loop-byte l = record {
  text : l.into.items ≡ l.initial.into.items ++ hex_digits (take l.byte-index l.bytes);
  len : length l.into.items ≡ length l.initial.into.items + 2 * l.byte-index;
}
