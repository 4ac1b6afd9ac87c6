use Rattle.kept_worlds.proofs.Calls.{looks_stay, service_stays}
use Rattle.kept_worlds.proofs.laws.calls_keep_service.Goals as goal

pub returns-clause-looks : goal.returns-clause-looks
returns-clause-looks g c slots r info saved log s t d e service keeps =
    looks_stay g.H.Host.tells slots r info saved log s t (g.H.Host.disk d) (g.H.Host.disk e) service keeps

pub returns-clause-service : goal.returns-clause-service
returns-clause-service g c slots r info saved log s t d e service keeps =
    service_stays g.H.Host.tells slots r info saved log s t (g.H.Host.disk d) (g.H.Host.disk e) service keeps
