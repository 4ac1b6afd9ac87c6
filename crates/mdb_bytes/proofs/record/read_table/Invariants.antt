use Rattle.std.proofs.Common.{◌≡◌, ◌≤◌, ◌*◌, ◌-◌, ◌++◌, length}
use Rattle.mdb_bytes.specs.Fields.{read_run}
use Rattle.mdb_bytes.proofs.record.read_table.Given as goal

abbrev pub invariant-loop : goal.invariant-loop
invariant-loop g l = record {
  count : length l.rows.items ≡ l.counter;
  long : g.R.Record.size * (l.count - l.counter) ≤ length l.rest;
  so_far : l.rows.items ++ read_run g.R.Record.format.reads (λ v. g.R.Record.size) (l.count - l.counter) l.rest
      ≡ read_run g.R.Record.format.reads (λ v. g.R.Record.size) l.count l.bytes;
}
