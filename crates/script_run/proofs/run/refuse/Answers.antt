use Rattle.std.proofs.Common.{◌≡◌, ◌++◌}
use Rattle.mdb_host.proofs.Moments.{on_ok}
use Rattle.mdb_model.specs.Answers.{refused}
use Rattle.mdb_model.specs.Text.{text_of}
use Rattle.script_run.proofs.Outcomes.{refused_causes, does_line}
use Rattle.script_run.proofs.run.refuse.Goals as goal

pub returns-clause-does : goal.returns-clause-does
returns-clause-does g c told ws line done =
    let d0 = g.H.Host.disk c.args.host.now in
    let d1 = g.H.Host.disk c.say_reply.new.host in
    does_line d0 d0 d1 (g.H.Host.faults c.args.host.now) (g.H.Host.faults c.args.host.now) (g.H.Host.faults c.say_reply.new.host) ws line (refused c.args.refusal) c.args.kernel.now.database done
    (refused_causes d0 (g.H.Host.faults c.args.host.now) ws line c.args.refusal c.requires.cause c.requires.end) c.say_reply.ensures.faults (c.say_reply.ensures.speaks told) c.say_reply.result
    (on_ok c.say_reply.result (g.H.Host.tells → d1.said d1.now ≡ d0.said d0.now ++ text_of (refused c.args.refusal)) (d1.said d1.now ≡ d0.said d0.now ++ text_of (refused c.args.refusal)) (λ said. said told) c.say_reply.ensures.said)
