use Rattle.std.proofs.Common.{◌≡◌, ◌<◌, length, drop, arith}
use Rattle.mdb_bytes.specs.Fields.{read_run}
use Rattle.mdb_bytes.proofs.TableLaws.{rows_left, rows_kept, rows_filled}
use Rattle.mdb_bytes.proofs.record.read_rows.Goals as goal

pub read-row-requires : goal.read-row-requires
read-row-requires g c = omega (arith, rows_left g.R.Record.size (length c.args.rows.now) c.loop-i.i (omega arith), c.loop-i.invariant.long)

pub split_at-requires : goal.split_at-requires
split_at-requires g c = omega (arith, rows_left g.R.Record.size (length c.args.rows.now) c.loop-i.i (omega arith), c.loop-i.invariant.long)

pub loop-i-preserved : goal.loop-i-preserved
loop-i-preserved g c =
    let size = g.R.Record.size in
    let n = length c.args.rows.now in
    let lt : c.loop-i.i < n = omega arith in
    let in_rows : c.loop-i.i < length c.loop-i.rows = omega arith in
    let back_is : c.split_at.result.1.now ≡ drop size c.loop-i.rest.now = cc in
    record {
      long = omega (arith, rows_left size n c.loop-i.i lt, c.loop-i.invariant.long);
      so_far = rows_kept size g.R.Record.format.reads n c.loop-i.i c.loop-i.rows c.read-row.result c.loop-i.rest.now c.split_at.result.1.now
          (read_run g.R.Record.format.reads (λ v. size) n c.args.bytes.now) lt in_rows back_is c.read-row.ensures c.loop-i.invariant.so_far;
    }

pub returns : goal.returns
returns g c =
    rows_filled g.R.Record.size g.R.Record.format.reads (length c.args.rows.now) c.loop-i.i c.loop-i.rows c.loop-i.rest.now
    (read_run g.R.Record.format.reads (λ v. g.R.Record.size) (length c.args.rows.now) c.args.bytes.now) (omega arith) (omega arith) c.loop-i.invariant.so_far
