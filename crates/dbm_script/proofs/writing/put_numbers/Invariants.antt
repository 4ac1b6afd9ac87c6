use Rattle.std.proofs.Common.{◌≡◌, ◌++◌, ◌+◌, ◌*◌, ◌≤◌, [], take, length}
use Rattle.dbm_script.specs.Printing.{numbers_then}
use Rattle.dbm_script.proofs.writing.put_numbers.Given as goal

abbrev pub invariant-loop-number : goal.invariant-loop-number
invariant-loop-number l = record {
  text : l.into.items ≡ l.initial.into.items ++ numbers_then (take l.number-index l.numbers) [];
  len : length l.into.items ≤ length l.initial.into.items + 21 * l.number-index;
}
