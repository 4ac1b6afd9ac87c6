use Rattle.std.proofs.Common.{◌≡◌, ◌∙◌, refl, subst, ap, ℕ, Some, ◌∷◌, []}
use Rattle.mdb_model.specs.Answers.{plain, refused}
use Rattle.mdb_model.specs.Worlds.{off}
use Rattle.mdb_model.specs.declared.name.State.TheVariants as state
use Rattle.mdb_model.specs.declared.script.Command.TheVariants.{DbOnline}
use Rattle.mdb_model.specs.declared.script.Refusal.TheVariants.{WrongState}
use Rattle.mdb_model.specs.declared.script.Reply.TheVariants.{OnlineAt}
use Rattle.open_database.specs.declared.database.Access.TheVariants.{Admin, Online}
use Rattle.open_database.specs.declared.database.Database.{Database}
use Rattle.space_rule.specs.Spaces.{known_costs}
use Rattle.open_database.specs.Outside.{page_reading, StandsFor}
use Rattle.open_database.specs.Serving.{FitsOpen, open_state}
use Rattle.open_database.specs.Stretch.{Completes}
use Rattle.open_database.proofs.StateLines.{on_one, online_line, online_unties, wrong_state, counted_in, matches_in}
use Rattle.open_database.proofs.database.Database.go_online.Goals as goal

pub returns-in-Online-clause-does : goal.returns-in-Online-clause-does
returns-in-Online-clause-does g c told ws fit =
    let d = g.H.Host.disk c.args.host.now in
    let w = fit.w in
    on_one (λ vs. Completes page_reading StandsFor d d vs (Some DbOnline) (refused (WrongState state.Online)) (FitsOpen g.H.Host.tells c.args.self.now d)) ws w fit.is
    (wrong_state d w DbOnline state.Online (FitsOpen g.H.Host.tells c.args.self.now d) refl refl (fit.serves.state ∙ ap open_state c.in-Online.is) (online_unties (WrongState state.Online)) fit.serves.area.stand (record { w = w; is = refl; serves = fit.serves }))

pub returns-in-Admin-clause-does : goal.returns-in-Admin-clause-does
returns-in-Admin-clause-does g c told ws fit =
    let d = g.H.Host.disk c.args.host.now in
    let w = fit.w in
    let s = fit.serves in
    let new : Database = record c.args.self.now { access = Online } in
    let number = c.what_is_served.ensures.last_commit _ _ _ _ c.args.host.now (off w) s.area in
    on_one (λ vs. Completes page_reading StandsFor d d vs (Some DbOnline) (plain (OnlineAt c.args.self.now.area.ring.last_commit)) (FitsOpen g.H.Host.tells new d)) ws w fit.is
    (subst (λ (n : ℕ). Completes page_reading StandsFor d d (w ∷ []) (Some DbOnline) (plain (OnlineAt n)) (FitsOpen g.H.Host.tells new d)) number
    (online_line w (s.state ∙ ap open_state c.in-Admin.is) d (FitsOpen g.H.Host.tells new d) s.area.stand
    (record {
      w = record w { state = state.Online };
      is = refl;
      serves = record {
        area = s.area;
        state = refl;
        alone = λ admin. absurd (let wrong : Online ≡ Admin = admin in cc);
        no_savepoint = s.no_savepoint;
        no_backup = s.no_backup;
        keys = s.keys;
        matches = matches_in c.args.self.now.transactions w state.Online s.matches;
        most = s.most;
        counted = counted_in (known_costs c.args.self.now.space) w state.Online s.counted;
      };
    })))
