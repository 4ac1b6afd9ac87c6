use Rattle.standing.proofs.LookAppended.{look_appended, look_has_it}
use Rattle.standing.proofs.append.an_append_shows.Goals as goal

pub returns-clause-at_each_moment : goal.returns-clause-at_each_moment
returns-clause-at_each_moment c old new info r end number change saved redo due appends =
    look_appended old new info r end number change saved redo appends due.log_info due.restart due.saved_log due.redo_log

pub returns-clause-after : goal.returns-clause-after
returns-clause-after c old new info r end number change saved redo due appended =
    look_has_it old new info r end number change saved redo appended due.log_info due.restart due.saved_log due.redo_log
