use Rattle.std.proofs.Common.{◌≡◌, drop}
use Rattle.mdb_model.specs.Script.{past_blanks}
use Rattle.dbm_script.proofs.cutting.skip_blanks.Given as goal

abbrev pub invariant-loop-i : goal.invariant-loop-i
invariant-loop-i l = past_blanks (drop l.i l.rest) ≡ past_blanks l.rest
