use Rattle.std.proofs.Common.{◌≡◌, ◌++◌, false, take, drop}
use Rattle.dbm_script.specs.Cutting.{token, after_token}
use Rattle.dbm_script.proofs.cutting.token_len.Given as goal

abbrev pub invariant-loop-i : goal.invariant-loop-i
invariant-loop-i l = record {
  token : take l.i l.rest ++ token l.quoted (drop l.i l.rest) ≡ token false l.rest;
  after : after_token l.quoted (drop l.i l.rest) ≡ after_token false l.rest;
}
