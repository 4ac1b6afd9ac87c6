use Rattle.live_area.proofs.BesideMedia.{sound_beside, each_more, serves_more, each_less, serves_less}
use Rattle.live_area.proofs.laws.media_come_and_go_beside.Goals as goal

pub returns-clause-sound : goal.returns-clause-sound
returns-clause-sound g c slots r s ring d e number change = sound_beside g.H.Host.tells slots r s ring (g.H.Host.disk d) (g.H.Host.disk e) number change

pub returns-clause-each_more : goal.returns-clause-each_more
returns-clause-each_more g c slots r s ring d e w number pages serves from to least most =
    each_more g.H.Host.tells slots r s ring (g.H.Host.disk d) (g.H.Host.disk e) w serves number pages from to least most

pub returns-clause-serves_more : goal.returns-clause-serves_more
returns-clause-serves_more g c slots r s ring d e w number pages serves from to least most =
    serves_more g.H.Host.tells slots r s ring (g.H.Host.disk d) (g.H.Host.disk e) w serves number pages from to least most

pub returns-clause-each_less : goal.returns-clause-each_less
returns-clause-each_less g c slots r s ring d e w number serves some = each_less g.H.Host.tells slots r s ring (g.H.Host.disk d) (g.H.Host.disk e) w serves number some

pub returns-clause-serves_less : goal.returns-clause-serves_less
returns-clause-serves_less g c slots r s ring d e w number serves some = serves_less g.H.Host.tells slots r s ring (g.H.Host.disk d) (g.H.Host.disk e) w serves number some
