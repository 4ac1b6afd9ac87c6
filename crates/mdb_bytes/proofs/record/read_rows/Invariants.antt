use Rattle.std.proofs.Common.{◌≡◌, ◌≤◌, ◌*◌, ◌-◌, ◌++◌, length, take}
use Rattle.mdb_bytes.specs.Fields.{read_run}
use Rattle.mdb_bytes.proofs.record.read_rows.Given as goal

abbrev pub invariant-loop-i : goal.invariant-loop-i
invariant-loop-i g l = record {
  long : g.R.Record.size * (length l.initial.rows - l.i) ≤ length l.rest;
  so_far : take l.i l.rows ++ read_run g.R.Record.format.reads (λ v. g.R.Record.size) (length l.initial.rows - l.i) l.rest
      ≡ read_run g.R.Record.format.reads (λ v. g.R.Record.size) (length l.initial.rows) l.bytes;
}
