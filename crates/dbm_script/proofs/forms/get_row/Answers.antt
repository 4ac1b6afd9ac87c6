use Rattle.std.proofs.Common.{refl}
use Rattle.mdb_model.specs.declared.script.Command.TheVariants.{GetRow}
use Rattle.mdb_model.specs.Script.{is_session, is_table, is_key}
use Rattle.dbm_script.proofs.Fronts.{in_place}
use Rattle.dbm_script.proofs.forms.get_row.Goals as goal

pub returns-in_default : goal.returns-in_default
returns-in_default c = (
  GetRow c.args.session c.in_ok-table.table c.in_ok-table.key,
  in_place (is_session c.args.session.0) (is_table c.in_ok-table.table.0) (is_key c.in_ok-table.key) c.requires c.in_ok-table.ensures.0 c.in_ok-table.ensures.1,
  refl,
  (refl, (refl, (refl, c.in_ok-table.ensures.2))),
)
