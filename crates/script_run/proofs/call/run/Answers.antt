use Rattle.std.proofs.Common.{subst, ℕ, List, map}
use Rattle.std.specs.String.{string_bytes}
use Rattle.call_words.specs.Asked.{IsRequest, asked_by}
use Rattle.script_run.specs.Calls.{NewPromise}
use Rattle.script_run.proofs.Calls.{created_with, memory_keeps}
use Rattle.script_run.proofs.call.run.Goals as goal

pub returns-in-Create-clause-creates : goal.returns-in-Create-clause-creates
returns-in-Create-clause-creates g c birth log_pages data_pages asked told =
    let m = c.in-Create.measures in
    created_with (λ (b l : ℕ) (v : List ℕ). NewPromise (g.H.Host.disk c.args.host.now) (g.H.Host.disk c.create_database.new.host) c.create_database.result b l v)
    (asked_by (map string_bytes c.args.words.now)) m.birth m.log_pages m.volumes.items birth log_pages data_pages
    (subst (IsRequest (asked_by (map string_bytes c.args.words.now))) c.in-Create.is c.in-Ok.ensures) asked (c.create_database.ensures.promise told)

pub returns-in-Memory-clause-runs : goal.returns-in-Memory-clause-runs
returns-in-Memory-clause-runs g c asked told = memory_keeps (g.H.Host.disk c.args.host.now) (g.H.Host.faults c.args.host.now) (g.S.Source.left c.args.script.now)
