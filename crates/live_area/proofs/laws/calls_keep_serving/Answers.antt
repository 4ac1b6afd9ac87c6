use Rattle.page_store.specs.SavingStays.{numbers_same}
use Rattle.live_area.proofs.StillServing.{sound_of_calls, each_of_calls, serves_of_calls}
use Rattle.live_area.proofs.laws.calls_keep_serving.Goals as goal

pub returns-clause-sound : goal.returns-clause-sound
returns-clause-sound g c slots r s t ring d e sound keeps =
    sound_of_calls g.H.Host.tells slots r s t ring (g.H.Host.disk d) (g.H.Host.disk e) sound keeps

pub returns-clause-serves : goal.returns-clause-serves
returns-clause-serves g c slots r s t ring d e w serves keeps rows same =
    serves_of_calls g.H.Host.tells slots r s t ring (g.H.Host.disk d) (g.H.Host.disk e) w serves keeps rows same

pub returns-clause-at_each_moment : goal.returns-clause-at_each_moment
returns-clause-at_each_moment g c slots r s t ring d e w serves keeps =
    each_of_calls g.H.Host.tells slots r s t ring (g.H.Host.disk d) (g.H.Host.disk e) w serves keeps

pub returns-clause-area : goal.returns-clause-area
returns-clause-area g c r s t d e keeps = (
  keeps.maps.area,
  numbers_same g.H.Host.tells r s t (g.H.Host.disk d) (g.H.Host.disk e) keeps,
)
