use Rattle.std.proofs.Common.{refl, ◌&&◌}
use Rattle.std.proofs.lemmas.Bool.{and_from}
use Rattle.mdb_model.specs.declared.script.Command.TheVariants.{PutRow}
use Rattle.mdb_model.specs.Script.{is_session, is_table, is_key, is_value}
use Rattle.dbm_script.proofs.Fronts.{in_place}
use Rattle.dbm_script.proofs.forms.put_row.Goals as goal

pub returns-in_default : goal.returns-in_default
returns-in_default c = (
  PutRow c.args.session c.in_ok-table.table c.in_ok-table.key c.in_ok-table.value,
  and_from (is_session c.args.session.0 && is_table c.in_ok-table.table.0 && is_key c.in_ok-table.key) (is_value c.in_ok-table.value)
      (in_place (is_session c.args.session.0) (is_table c.in_ok-table.table.0) (is_key c.in_ok-table.key) c.requires c.in_ok-table.ensures.0 c.in_ok-table.ensures.1) c.in_ok-table.ensures.2,
  refl,
  (refl, (refl, (refl, c.in_ok-table.ensures.3))),
)

pub returns-in_default-kept_value : goal.returns-in_default-kept_value
returns-in_default-kept_value c = (
  PutRow c.args.session c.in_ok-table.table c.in_ok-table.key c.in_ok-table.value,
  and_from (is_session c.args.session.0 && is_table c.in_ok-table.table.0 && is_key c.in_ok-table.key) (is_value c.in_ok-table.value)
      (in_place (is_session c.args.session.0) (is_table c.in_ok-table.table.0) (is_key c.in_ok-table.key) c.requires c.in_ok-table.ensures.0 c.in_ok-table.ensures.1) c.in_ok-table.ensures.2,
  refl,
  (refl, (refl, (refl, c.in_ok-table.ensures.3))),
)
