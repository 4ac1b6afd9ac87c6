use Rattle.standing.proofs.AppendsStand.{appends_stand, appended_stands}
use Rattle.standing.proofs.append.an_append_stands.Goals as goal

pub returns-clause-at_each_moment : goal.returns-clause-at_each_moment
returns-clause-at_each_moment c old new w change info r map end number s takes =
    appends_stand old new w change info r map end number s takes.live takes.log_info takes.restart takes.map takes.first takes.saved takes.room takes.at_end takes.at_last

pub returns-clause-after : goal.returns-clause-after
returns-clause-after c old new w change info r map end number s takes =
    appended_stands old new w change info r map end number s takes.live takes.log_info takes.restart takes.map takes.first takes.saved takes.room takes.at_end takes.at_last
