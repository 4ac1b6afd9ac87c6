-- Where the log info is of an earlier generation than the record, the saved point is the record's mark: a savepoint would move it.
use Rattle.std.proofs.Common.{◌≡◌, sym, ap, ◌∙◌, ◌<◌, cond, List, Some}
use Rattle.std.proofs.lemmas.Bool.{lt-ltb}
use Rattle.mdb_model.specs.declared.change.Commit.{Commit}
use Rattle.mdb_model.specs.Worlds.{World}
use Rattle.mdb_bytes.specs.declared.log_info.LogInfo.{LogInfo}
use Rattle.mdb_bytes.specs.declared.restart_record.RestartRecord.{RestartRecord}
use Rattle.mdb_bytes.specs.KeptMaps.{KeptMap}
use Rattle.standing.specs.Looks.{Look, redo_point, point_of_info, saved_in_force}
use Rattle.standing.specs.WholeStanding.{LookStands}
use Rattle.standing.specs.Switching.{switched}

pub untold_moves : (l : Look) (w : World) (info : LogInfo) (next : RestartRecord) (new : KeptMap) (log : List Commit) → l.log_info ≡ Some info → info.name.generation < next.name.generation
    → LookStands (switched l next new log) w → next.commit ≡ w.saved
untold_moves l w info next new log is lt stands =
    let moved : saved_in_force (Some next) (Some info) l.media ≡ redo_point next = ap (λ b. cond b (redo_point next) (point_of_info info l.media)) (lt-ltb info.name.generation next.name.generation lt) in
    sym (ap (λ p. p.commit) (ap (λ o. saved_in_force (Some next) o l.media) is ∙ moved)) ∙ stands.log.saved
