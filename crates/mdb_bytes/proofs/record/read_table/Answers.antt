use Rattle.std.proofs.Common.{◌≡◌, ◌-◌, ◌<◌, drop, arith}
use Rattle.mdb_bytes.specs.Fields.{read_run}
use Rattle.mdb_bytes.proofs.TableLaws.{rows_left, row_kept, rows_done}
use Rattle.mdb_bytes.proofs.record.read_table.Goals as goal

pub read-requires : goal.read-requires
read-requires g c = omega (arith, rows_left g.R.Record.size c.args.count c.loop.counter (omega arith), c.loop.invariant.long)

pub split_at-requires : goal.split_at-requires
split_at-requires g c = omega (arith, rows_left g.R.Record.size c.args.count c.loop.counter (omega arith), c.loop.invariant.long)

pub loop-preserved : goal.loop-preserved
loop-preserved g c =
    let size = g.R.Record.size in
    let lt : c.loop.counter < c.args.count = omega arith in
    let m = rows_left size c.args.count c.loop.counter lt in
    let back_is : c.split_at.result.1.now ≡ drop size c.loop.rest.now = cc in
    record {
      count = omega (arith, c.push.ensures.len, c.loop.invariant.count);
      long = omega (arith, m, c.loop.invariant.long);
      so_far = row_kept size g.R.Record.format.reads c.args.count c.loop.counter c.loop.rows.items c.push.new.self.items c.read.result c.loop.rest.now c.split_at.result.1.now
          (read_run g.R.Record.format.reads (λ v. size) c.args.count c.args.bytes.now) lt back_is c.read.ensures c.push.ensures.items c.loop.invariant.so_far;
    }

pub returns : goal.returns
returns g c =
    rows_done g.R.Record.size g.R.Record.format.reads (c.args.count - c.loop.counter) c.loop.rows.items c.loop.rest.now
    (read_run g.R.Record.format.reads (λ v. g.R.Record.size) c.args.count c.args.bytes.now) (omega arith) c.loop.invariant.so_far
