use Rattle.mdb_bytes.proofs.Written.{put_fits, del_fits, del_written}
use Rattle.mdb_bytes.proofs.encode.put_change.Goals as goal

pub returns-in-Put-clause-fit : goal.returns-in-Put-clause-fit
returns-in-Put-clause-fit c =
    put_fits c.args.change.now c.in-Put.key c.in-Put.value c.bytes.result.now c.bytes-in-Put.result.now c.in-Put.table c.in-Put.is c.bytes.ensures c.bytes-in-Put.ensures c.put_parts.ensures.fit

pub returns-in-Del-clause-bytes : goal.returns-in-Del-clause-bytes
returns-in-Del-clause-bytes c =
    del_written c.args.change.now c.put_parts-in-Del.new.into c.args.into.now c.in-Del.key c.bytes-in-Del.result.now c.in-Del.table c.in-Del.is c.bytes-in-Del.ensures c.put_parts-in-Del.ensures.bytes

pub returns-in-Del-clause-fit : goal.returns-in-Del-clause-fit
returns-in-Del-clause-fit c = del_fits c.args.change.now c.in-Del.key c.bytes-in-Del.result.now c.in-Del.table c.in-Del.is c.bytes-in-Del.ensures c.put_parts-in-Del.ensures.fit
