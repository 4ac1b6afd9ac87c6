use Rattle.std.proofs.Common.{List, subst}
use Rattle.savepoint.specs.Stands.{HasSavepoint}
use Rattle.page_store.specs.WholeSavepoint.{saved_page}
use Rattle.shown_maps.proofs.Shown.{in_force_shown}
use Rattle.shown_maps.proofs.laws.a_store_is_shown.Goals as goal

pub returns : goal.returns
returns g c slots restart s h can told sizes conv area image left =
    in_force_shown restart s.maps.saved s.maps.conv (saved_page s (g.H.Host.disk h).seen) image conv area
    (subst (λ (z : List _). HasSavepoint z restart s.maps.saved s.maps.conv (saved_page s (g.H.Host.disk h).seen) image) sizes ((can.standing told).stands image left))
