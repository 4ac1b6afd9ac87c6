use Rattle.live_area.proofs.StillServing.{sound_of_saying, serves_of_saying}
use Rattle.live_area.proofs.laws.saying_keeps_serving.Goals as goal

pub returns-clause-sound : goal.returns-clause-sound
returns-clause-sound g c slots r s ring d e sound keeps agree from =
    sound_of_saying g.H.Host.tells slots r s ring (g.H.Host.disk d) (g.H.Host.disk e) agree from sound

pub returns-clause-serves : goal.returns-clause-serves
returns-clause-serves g c slots r s ring d e w serves keeps agree from =
    serves_of_saying g.H.Host.tells slots r s ring (g.H.Host.disk d) (g.H.Host.disk e) agree from w serves
