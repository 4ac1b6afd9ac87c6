use Rattle.std.proofs.Common.{◌≡◌, ◌*◌, drop, length}
use Rattle.mdb_model.specs.Script.{hex_bytes}
use Rattle.dbm_script.proofs.Spelled.{joined}
use Rattle.dbm_script.proofs.byte_strings.decode.Given as goal

abbrev pub invariant-loop-i : goal.invariant-loop-i
invariant-loop-i l = record {
  count : length l.into.items ≡ l.i;
  joined : hex_bytes l.digits ≡ joined l.into.items (hex_bytes (drop (2 * l.i) l.digits));
}
