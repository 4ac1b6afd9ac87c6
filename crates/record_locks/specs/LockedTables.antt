-- What the locked tables are seen as.
--     table_number      a table by its number
--     table_cmp      the order of tables
use Rattle.std.specs.Prelude.{ℕ}
use Rattle.std.specs.declared.cmp.Ordering.{Ordering}
use Rattle.mdb_model.specs.declared.name.Table.{Table}
use Rattle.mdb_model.specs.contracts.name.TableOrd.TheImpl as table_ord

-- a table by its number
abbrev pub table_number : Table → ℕ
table_number table = table.0

-- the order of tables, which is that of their numbers
abbrev pub table_cmp : Table → Table → Ordering
table_cmp = (table_ord.ghosts).cmp
