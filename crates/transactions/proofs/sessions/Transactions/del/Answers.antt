use Rattle.std.proofs.Common.{refl, sym, ap, ◌∙◌, Bool, is_some}
use Rattle.std.specs.FinMap.{get}
use Rattle.std.proofs.lemmas.Result.{err_from_is_err_and}
use Rattle.mdb_model.specs.declared.change.Change.TheVariants.{Del}
use Rattle.mdb_model.specs.Worlds.{Lock, ExclusiveKey}
use Rattle.record_locks.specs.Holders.{holder_in}
use Rattle.transactions.specs.Net.{seen_row}
use Rattle.transactions.specs.Ongoing.{Ongoing, changes_of}
use Rattle.transactions.proofs.Numbered.{del_locked}
use Rattle.transactions.proofs.sessions.Transactions.del.Goals as goal

pub returns-in-Some-clause-does : goal.returns-in-Some-clause-does
returns-in-Some-clause-does g c =
    let lock : Lock = ExclusiveKey (c.args.table.0, c.args.key.now) in
    let visible : Bool = is_some (seen_row (get (changes_of c.args.self.now c.args.session.0) (c.args.table.0, c.args.key.now)) (get (g.R.Held.held c.args.rows.now).rows (c.args.table.0, c.args.key.now))) in (
      visible,
      del_locked c.args.self.now c.args.session.0 (Del c.args.table c.args.key.now) c.args.fits visible c.in-Some.holder (ap (λ (x : Ongoing). holder_in x.locks c.args.session.0 lock) (sym c.self.view_is) ∙ sym c.in-Some.ensures),
      λ known. refl,
    )

pub returns-in_err-visible-clause-does : goal.returns-in_err-visible-clause-does
returns-in_err-visible-clause-does g c =
    let lock : Lock = ExclusiveKey (c.args.table.0, c.args.key.now) in
    let visible : Bool = is_some (seen_row (get (changes_of c.args.self.now c.args.session.0) (c.args.table.0, c.args.key.now)) (get (g.R.Held.held c.args.rows.now).rows (c.args.table.0, c.args.key.now))) in
    let passed = err_from_is_err_and c.from_residual.result c.from_residual.ensures.1 in rw (passed.1, passed.2)
    (visible, (ap (λ (x : Ongoing). holder_in x.locks c.args.session.0 lock) (sym c.self.view_is) ∙ sym c.in_default.ensures, refl), λ known. refl)
