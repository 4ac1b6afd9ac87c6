use Rattle.std.proofs.Common.{length, take, drop, ap, ◌∙◌, arith}
use Rattle.mdb_bytes.proofs.NumberBytes.{as_bytes}
use Rattle.mdb_bytes.proofs.Booleans.{refused, passed}
use Rattle.mdb_bytes.proofs.ChangeFront.{too_short, bad_head, no_body, put_begins, del_begins}
use Rattle.mdb_bytes.proofs.changes.first_change.Goals as goal

pub returns-then-bytes-lt7-clause-first : goal.returns-then-bytes-lt7-clause-first
returns-then-bytes-lt7-clause-first c = too_short c.args.bytes.now (as_bytes c.args.bytes.now c.type_inv.bytes) c.if-bytes-lt7.true

pub returns-then-not-is_kept-clause-first : goal.returns-then-not-is_kept-clause-first
returns-then-not-is_kept-clause-first c =
    bad_head c.args.bytes.now c.head_at_front-head.result (as_bytes c.args.bytes.now c.type_inv.bytes) c.head_at_front-head.ensures (refused c.is_kept.ensures c.if-not-is_kept.true)

pub returns-then-body-key_len-clause-first : goal.returns-then-body-key_len-clause-first
returns-then-body-key_len-clause-first c =
    let body = ap length c.split_at.ensures.back in
    no_body c.args.bytes.now c.head_at_front-head.result (as_bytes c.args.bytes.now c.type_inv.bytes) c.head_at_front-head.ensures (omega (arith, body))

pub returns-then-head-eq1-clause-first : goal.returns-then-head-eq1-clause-first
returns-then-head-eq1-clause-first c =
    let body = c.split_at.ensures.back in
    let behind = c.split_at-2.ensures.back ∙ ap (drop c.head_at_front-head.result.key_len) body in
    put_begins c.args.bytes.now c.head_at_front-head.result c.split_at-2.result.0.now c.split_at-3.result.0.now c.split_at-3.result.1.now
    record {
      all = as_bytes c.args.bytes.now c.type_inv.bytes;
      long = c.if-bytes-lt7.false;
      head_is = c.head_at_front-head.ensures;
      kept = passed c.is_kept.ensures c.if-not-is_kept.false;
      key_is = c.split_at-2.ensures.front ∙ ap (take c.head_at_front-head.result.key_len) body;
      value_is = c.split_at-3.ensures.front ∙ ap (take c.head_at_front-head.result.value_len) behind;
      rest_is = c.split_at-3.ensures.back ∙ ap (drop c.head_at_front-head.result.value_len) behind;
      room = omega (arith, ap length body);
    } c.if-head-eq1.true

pub returns-clause-first : goal.returns-clause-first
returns-clause-first c =
    let body = c.split_at.ensures.back in
    let behind = c.split_at-2.ensures.back ∙ ap (drop c.head_at_front-head.result.key_len) body in
    del_begins c.args.bytes.now c.head_at_front-head.result c.split_at-2.result.0.now c.split_at-3.result.0.now c.split_at-3.result.1.now
    record {
      all = as_bytes c.args.bytes.now c.type_inv.bytes;
      long = c.if-bytes-lt7.false;
      head_is = c.head_at_front-head.ensures;
      kept = passed c.is_kept.ensures c.if-not-is_kept.false;
      key_is = c.split_at-2.ensures.front ∙ ap (take c.head_at_front-head.result.key_len) body;
      value_is = c.split_at-3.ensures.front ∙ ap (take c.head_at_front-head.result.value_len) behind;
      rest_is = c.split_at-3.ensures.back ∙ ap (drop c.head_at_front-head.result.value_len) behind;
      room = omega (arith, ap length body);
    } c.if-head-eq1.false
