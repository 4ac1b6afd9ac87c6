use Rattle.std.proofs.Common.{◌≡◌, ◌-◌, ℕ, ◌∙◌, ap, length, arith}
use Rattle.std.specs.Prelude.{map}
use Rattle.mdb_bytes.specs.Fields.{spelled}
use Rattle.mdb_bytes.specs.Parts.{field_of, table_fields}
use Rattle.mdb_bytes.proofs.TableLaws.{spelled_both}
use Rattle.mdb_bytes.proofs.record.write_section.Goals as goal

pub returns : goal.returns
returns g c =
    let room : length c.split_at_mut-front.result.1.now ≡ length c.args.into.now - c.args.at = omega arith in
    spelled_both (map field_of c.args.parts.now) (table_fields g.R.Record.format.fields g.R.Record.size (length c.args.into.now - c.args.at) c.args.rows.now)
    c.write_parts.new.into c.write_table.new.into c.write_parts.ensures
    (c.write_table.ensures ∙ ap (λ (n : ℕ). spelled (table_fields g.R.Record.format.fields g.R.Record.size n c.args.rows.now)) room)
