use Rattle.page_store.specs.SavingStays.{stays}
use Rattle.page_store.proofs.laws.can_save_stays.Goals as goal

pub returns : goal.returns
returns g c slots restart a b d e keeps can = stays g.H.Host.tells slots restart a b (g.H.Host.disk d) (g.H.Host.disk e) keeps can
