use Rattle.standing.proofs.SavepointStands.{savepoint_stands}
use Rattle.standing.proofs.SwitchStands.{switch_shows, switch_stands}
use Rattle.standing.proofs.savepoint.a_savepoint_stands.Goals as goal

pub returns-clause-of_look : goal.returns-clause-of_look
returns-clause-of_look c = savepoint_stands

pub returns-clause-shows : goal.returns-clause-shows
returns-clause-shows c slots r next old new w map done rest s live to =
    switch_shows slots r next old new w map done rest s live to.place to.ready to.switches to.next_one to.saved to.log to.mark to.stands_there to.new_map

pub returns-clause-of_image : goal.returns-clause-of_image
returns-clause-of_image c slots r next old new w map done rest s live to =
    switch_stands slots r next old new w map done rest s live to.place to.ready to.switches to.next_one to.saved to.log to.mark to.stands_there to.new_map
