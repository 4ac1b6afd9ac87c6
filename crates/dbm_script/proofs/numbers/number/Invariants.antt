use Rattle.std.proofs.Common.{◌≡◌, ◌+◌, ◌-◌, ◌*◌, IsTrue, take, fold}
use Rattle.std.specs.List.{list_all}
use Rattle.mdb_model.specs.Script.{is_digit}
use Rattle.dbm_script.proofs.numbers.number.Given as goal

abbrev pub invariant-loop-digit : goal.invariant-loop-digit
invariant-loop-digit l = record {
  digits : IsTrue (list_all is_digit (take l.digit-index l.text));
  value : l.number ≡ fold (λ n b. 10 * n + (b - 48)) 0 (take l.digit-index l.text);
}
