use Rattle.std.proofs.Common.{refl, ◌-◌, length, take, drop, arith}
use Rattle.mdb_bytes.proofs.TableLaws.{table_ends, table_begins}
use Rattle.mdb_bytes.proofs.record.+write_table.Goals as goal

pub returns-in-empty : goal.returns-in-empty
returns-in-empty g t c =
    table_ends g.R.Record.format.fields g.R.Record.size (length c.args.into.now) c.args.rows.now c.write_zeros.new.into (omega (arith, c.in-empty.len_below)) c.write_zeros.ensures

pub returns-in-len1-up : goal.returns-in-len1-up
returns-in-len1-up g t c =
    table_begins g.R.Record.format.fields g.R.Record.size (length c.args.into.now) (length c.split_at_mut-front.result.1.now) c.first-item.result c.args.rows.now (take (length c.args.rows.now - 1) (drop 1 c.args.rows.now))
    c.write.new.into c.write_table.new.into (omega (arith, c.in-len1-up.len_at_least)) c.first-item.is refl (omega arith) c.write.ensures c.write_table.ensures
