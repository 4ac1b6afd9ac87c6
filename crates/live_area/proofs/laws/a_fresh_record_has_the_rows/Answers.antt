use Rattle.live_area.proofs.Served.{fresh_rows}
use Rattle.live_area.proofs.laws.a_fresh_record_has_the_rows.Goals as goal

pub returns : goal.returns
returns g c slots r s ring d w serves fresh image left =
    fresh_rows g.H.Host.tells slots r s ring (g.H.Host.disk d) w serves image left fresh
