use Rattle.std.proofs.Common.{subst, ◌∙◌, List, ℕ}
use Rattle.script_run.specs.Speaking.{Speaks}
use Rattle.db_kernel.proofs.Fitting.{sound_still}
use Rattle.script_run.proofs.Speaking.{speaks_one, still_of}
use Rattle.script_run.proofs.saying.say_end.Goals as goal

pub returns-clause-speaks : goal.returns-clause-speaks
returns-clause-speaks g c told =
    subst (λ (l : List ℕ). Speaks (g.H.Host.disk c.args.host.now) (g.H.Host.disk c.say.new.self) l) (c.as_slice.ensures.value ∙ c.reply_text.ensures)
    (speaks_one (g.H.Host.disk c.args.host.now) (g.H.Host.disk c.say.new.self) c.as_slice.result.now (c.say.ensures.says told))

pub returns-clause-sound : goal.returns-clause-sound
returns-clause-sound g c database sound =
    let d0 = g.H.Host.disk c.args.host.now in
    let d1 = g.H.Host.disk c.say.new.self in
    sound_still g.H.Host.tells database d0 d1 sound (λ told. still_of d0 d1 c.as_slice.result.now (speaks_one d0 d1 c.as_slice.result.now (c.say.ensures.says told)))
