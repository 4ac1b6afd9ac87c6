use Rattle.std.proofs.Common.{rules, inl, inr, refl}
use Rattle.std.specs.Prelude.{OnOk}
use Rattle.mdb_host.proofs.Moments.{on_ok}
use Rattle.mdb_model.specs.Tables.{with_changes}
use Rattle.store_rows.specs.StoredRows.{stored_rows}
use Rattle.page_ground.specs.Aims.{KeepsWorlds}
use Rattle.page_ground.specs.SetGroups.{HasTheseRows, SetsAll}
use Rattle.page_ground.proofs.Sets.{ok_both, err_to, made_rows, never_short}
use Rattle.page_ground.proofs.setting.set_group.Goals as goal

pub returns-clause-rows : goal.returns-clause-rows
returns-clause-rows g c rows known name number changes spelled =
    let made : OnOk c.set_commit.result (HasTheseRows g.H.Host.tells c.set_commit.new.ground.store.now (g.H.Host.disk c.set_commit.new.ground.host.now).seen (with_changes changes (stored_rows c.args.store.now (g.H.Host.disk c.args.host.now).seen))) =
    on_ok c.set_commit.result _ _ (λ m. record { known = m.0.0; are = made_rows _ _ c.args.group.now m.1 name number changes spelled }) (c.set_commit.ensures.made (rows, known)) in
    search rules

pub returns-clause-kept : goal.returns-clause-kept
returns-clause-kept g c rows known stand next rest number fits =
    let kept = c.set_commit.ensures.kept (rows, known) stand next rest refl number fits in
    let all : OnOk c.set_commit.result (SetsAll g.H.Host.tells c.set_commit.new.ground.in_force.now.slots c.set_commit.new.ground.in_force.now.record c.args.reader c.args.reader.number
    c.set_commit.new.ground.store.now (g.H.Host.disk c.args.host.now) (g.H.Host.disk c.set_commit.new.ground.host.now)) =
    ok_both _ _ _ c.set_commit.result (λ told is. record {
      reader = c.set_commit.new.ground.reader;
      set = c.set_commit.new.ground.set;
      stands = is.0;
      reads = c.set_commit.ensures.comes.5;
      at_number = told;
      rest = is.2;
    }) c.set_commit.ensures.told kept.1 in
    let keeps : KeepsWorlds (g.H.Host.disk c.args.host.now) (g.H.Host.disk c.set_commit.new.ground.host.now) = kept.0 in
    search rules

pub returns-clause-whole : goal.returns-clause-whole
returns-clause-whole g c rows known name number changes commits spelled room conv =
    err_to _ _ c.set_commit.result (λ fault either. elim either [
      | inl failed ↦ failed
      | inr short ↦
          absurd (never_short g.H.Host.tells c.args.store.now short.1.0.store.now (g.H.Host.disk c.args.host.now).seen (g.H.Host.disk short.1.0.host.now).seen c.args.group.now name number changes commits spelled room conv short.1.1.4 short.1.2.0 short.1.3 short.1.4)
    ]) (c.set_commit.ensures.cause.whole (rows, known))
