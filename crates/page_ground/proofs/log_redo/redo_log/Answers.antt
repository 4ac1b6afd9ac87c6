use Rattle.std.proofs.Common.{rules, inl, inr, refl, ap, sym, subst, ◌∙◌}
use Rattle.std.specs.Prelude.{OnOk}
use Rattle.mdb_host.proofs.Moments.{on_ok}
use Rattle.mdb_model.specs.Tables.{with_commits}
use Rattle.store_rows.specs.StoredRows.{stored_rows}
use Rattle.page_ground.specs.LogKnown.{held_in, left_in}
use Rattle.page_ground.specs.Aims.{KeepsWorlds}
use Rattle.page_store.specs.Store.{block_count}
use Rattle.kept_worlds.specs.InService.{HasRoomToSet}
use Rattle.page_ground.specs.SetGroups.{HasTheseRows, RedoesAll}
use Rattle.page_ground.proofs.Sets.{err_to}
use Rattle.page_ground.proofs.Redoes.{undone_is_left, never_short_of_log}
use Rattle.page_ground.proofs.log_redo.redo_log.Goals as goal

pub returns-clause-rows : goal.returns-clause-rows
returns-clause-rows g c rows known =
    let made : OnOk c.redo.result (HasTheseRows g.H.Host.tells c.redo.new.ground.store.now (g.H.Host.disk c.redo.new.ground.host.now).seen (with_commits (left_in c.args.reader (g.H.Host.disk c.args.host.now).seen) (stored_rows c.args.store.now (g.H.Host.disk c.args.host.now).seen))) =
    on_ok c.redo.result _ _ (λ m. record { known = m.0.0; are = m.1 }) (c.redo.ensures.rows (rows, known)) in
    search rules

pub returns-clause-kept : goal.returns-clause-kept
returns-clause-kept g c rows known stand aimed fits =
    let undone = undone_is_left c.args.reader (g.H.Host.disk c.args.host.now).seen in
    let kept = c.redo.ensures.kept (rows, known) stand
    (record { at = refl; left = undone; aimed = ap (λ xs. with_commits xs (stored_rows c.args.store.now (g.H.Host.disk c.args.host.now).seen)) undone ∙ aimed })
    (subst (λ xs. HasRoomToSet (block_count c.args.store.now) xs (stored_rows c.args.store.now (g.H.Host.disk c.args.host.now).seen)) (sym undone) fits) in
    let all : OnOk c.redo.result (RedoesAll g.H.Host.tells c.redo.new.ground.in_force.now.slots c.redo.new.ground.in_force.now.record c.args.reader c.redo.new.ground.store.now (g.H.Host.disk c.args.host.now) (g.H.Host.disk c.redo.new.ground.host.now)) =
    on_ok c.redo.result _ _ (λ is. record {
      reader = c.redo.new.ground.reader;
      set = c.redo.new.ground.set;
      stands = is.0;
      reads = c.redo.ensures.comes.5;
      none = is.2;
    }) kept.1 in
    let keeps : KeepsWorlds (g.H.Host.disk c.args.host.now) (g.H.Host.disk c.redo.new.ground.host.now) = kept.0 in
    search rules

pub returns-clause-whole : goal.returns-clause-whole
returns-clause-whole g c rows known room conv =
    err_to _ _ c.redo.result (λ fault either. elim either [
      | inl failed ↦ failed
      | inr short ↦
          absurd (never_short_of_log g.H.Host.tells c.args.store.now short.1.0.store.now (g.H.Host.disk c.args.host.now).seen (g.H.Host.disk short.1.0.host.now).seen (held_in c.args.store.now c.args.reader (g.H.Host.disk c.args.host.now).seen) refl room conv short.1.1.4 short.1.2.0 short.1.3 short.1.4)
    ]) (c.redo.ensures.cause.whole (rows, known))
