use Rattle.std.proofs.Common.{◌≡◌, ◌++◌, take}
use Rattle.dbm_script.proofs.writing.put.Given as goal

abbrev pub invariant-loop-byte : goal.invariant-loop-byte
invariant-loop-byte l = l.into.items ≡ l.initial.into.items ++ take l.byte-index l.text
