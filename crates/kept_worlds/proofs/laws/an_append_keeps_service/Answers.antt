use Rattle.std.proofs.Common.{refl}
use Rattle.mdb_bytes.specs.Rings.{ring_size}
use Rattle.kept_worlds.proofs.Appending.{each_stands, all_stand, service_appended}
use Rattle.kept_worlds.proofs.laws.an_append_keeps_service.Goals as goal

pub returns-clause-at_each_moment : goal.returns-clause-at_each_moment
returns-clause-at_each_moment g c slots r info saved log s d e w end number change service stand plain ends room goes =
    each_stands g.H.Host.tells slots r info saved log s (g.H.Host.disk d) (g.H.Host.disk e) service w stand plain (ring_size info.pages) r.name end number change refl refl ends room goes

pub returns-clause-after : goal.returns-clause-after
returns-clause-after g c slots r info saved log s d e w end number change service stand plain ends room arrives seen = (
  service_appended g.H.Host.tells slots r info saved log s (g.H.Host.disk d) (g.H.Host.disk e) service w stand plain (ring_size info.pages) r.name end number change refl refl ends room arrives seen,
  all_stand g.H.Host.tells slots r info saved log s (g.H.Host.disk d) (g.H.Host.disk e) service w stand plain (ring_size info.pages) r.name end number change refl refl ends room arrives,
)
