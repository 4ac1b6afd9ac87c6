use Rattle.std.proofs.Common.{◌≡◌, IsTrue, length}
use Rattle.std.specs.List.{list_all}
use Rattle.mdb_model.specs.Script.{is_medium}
use Rattle.dbm_script.specs.Cutting.{AreNumbers}
use Rattle.dbm_script.proofs.recovering.media.Given as goal

abbrev pub invariant-loop-i : goal.invariant-loop-i
invariant-loop-i l = record {
  count : length l.media.items ≡ l.i;
  media : IsTrue (list_all is_medium l.media.items);
  read : AreNumbers l.media.items l.rest l.left;
}
