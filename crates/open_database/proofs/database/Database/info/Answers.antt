use Rattle.std.proofs.Common.{◌∙◌, refl, sym, subst, ℕ, ◌∷◌, []}
use Rattle.mdb_model.specs.Answers.{plain}
use Rattle.mdb_model.specs.declared.name.Name.{Name}
use Rattle.mdb_model.specs.declared.script.Command.TheVariants.{Info}
use Rattle.mdb_model.specs.declared.script.Reply.TheVariants.{InfoIs}
use Rattle.mdb_model.specs.Worlds.{off}
use Rattle.std.proofs.Common.{Some}
use Rattle.open_database.specs.Outside.{page_reading, StandsFor}
use Rattle.open_database.specs.Serving.{FitsOpen}
use Rattle.open_database.specs.Stretch.{Completes}
use Rattle.open_database.proofs.StateLines.{on_one, told_line}
use Rattle.open_database.proofs.database.Database.info.Goals as goal

pub returns-clause-does : goal.returns-clause-does
returns-clause-does g c stage told ws fit =
    let d = g.H.Host.disk c.args.host.now in
    let self = c.args.self.now in
    let w = fit.w in
    let area = fit.serves.area in
    let law = c.what_is_served.ensures in
    on_one (λ vs. Completes page_reading StandsFor d d vs (Some Info) (plain (InfoIs self.area.ring.name self.area.ring.last_commit self.area.ring.saved_commit c.blocks-2.result c.info_need.result)) (FitsOpen g.H.Host.tells self d)) ws w fit.is
    (subst (λ (p : Name × ℕ × ℕ × ℕ × ℕ). Completes page_reading StandsFor d d (w ∷ []) (Some Info) (plain (InfoIs p.0 p.1 p.2 p.3 p.4)) (FitsOpen g.H.Host.tells self d))
    (λ i. (law.name _ _ _ _ c.args.host.now (off w) area i, law.last_commit _ _ _ _ c.args.host.now (off w) area i, law.saved_commit _ _ _ _ c.args.host.now (off w) area i, (law.blocks _ _ _ _ c.args.host.now (off w) area ∙ sym c.blocks-2.ensures.count) i, sym (c.info_need.ensures.world w fit.serves.counted) i))
    (told_line self.access w fit.serves.state fit.serves.no_savepoint stage.info d (FitsOpen g.H.Host.tells self d) area.stand (record { w = w; is = refl; serves = fit.serves })))
