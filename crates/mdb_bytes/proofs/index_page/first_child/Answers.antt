use Rattle.std.proofs.Common.{length, take, drop, ap, ◌∙◌, arith}
use Rattle.std.proofs.lemmas.List.{length-drop}
use Rattle.mdb_bytes.proofs.NumberBytes.{as_bytes}
use Rattle.mdb_bytes.proofs.ChildEntries.{child_short, child_bad, child_no_body, child_begins}
use Rattle.mdb_bytes.proofs.index_page.first_child.Goals as goal

pub returns-then-bytes-lt6 : goal.returns-then-bytes-lt6
returns-then-bytes-lt6 c = child_short c.args.bytes.now (as_bytes c.args.bytes.now c.type_inv.bytes) c.if-bytes-lt6.true

pub returns-then-head-gt256 : goal.returns-then-head-gt256
returns-then-head-gt256 c =
    child_bad c.args.bytes.now c.head_at_front-head.result (as_bytes c.args.bytes.now c.type_inv.bytes) c.head_at_front-head.ensures c.if-head-gt256.true

pub returns-then-body-key_len : goal.returns-then-body-key_len
returns-then-body-key_len c =
    let body = ap length c.split_at.ensures.back in
    child_no_body c.args.bytes.now c.head_at_front-head.result (as_bytes c.args.bytes.now c.type_inv.bytes) c.head_at_front-head.ensures (omega (arith, body, length-drop 6 c.args.bytes.now))

pub returns : goal.returns
returns c =
    let head = c.head_at_front-head.result in
    let body = c.split_at.ensures.back in (
      head.child,
      child_begins c.args.bytes.now head c.split_at-2.result.0.now c.split_at-2.result.1.now
          record {
            all = as_bytes c.args.bytes.now c.type_inv.bytes;
            long = c.if-bytes-lt6.false;
            head_is = c.head_at_front-head.ensures;
            kept = c.if-head-gt256.false;
            room = omega (arith, ap length body);
            key_is = c.split_at-2.ensures.front ∙ ap (take head.key_len) body;
            rest_is = c.split_at-2.ensures.back ∙ ap (drop head.key_len) body;
          },
    )
