use Rattle.std.proofs.Common.{refl, length, take, drop, ap, ◌∙◌, arith}
use Rattle.std.proofs.lemmas.List.{length-drop}
use Rattle.mdb_bytes.proofs.NumberBytes.{as_bytes}
use Rattle.mdb_bytes.proofs.Booleans.{refused, passed}
use Rattle.mdb_bytes.proofs.RowEntries.{row_short, row_bad, row_no_body, row_begins}
use Rattle.mdb_bytes.proofs.row_leaf.first_row.Goals as goal

pub returns-then-bytes-lt6 : goal.returns-then-bytes-lt6
returns-then-bytes-lt6 c = row_short c.args.bytes.now (as_bytes c.args.bytes.now c.type_inv.bytes) c.if-bytes-lt6.true

pub returns-then-not-is_kept : goal.returns-then-not-is_kept
returns-then-not-is_kept c =
    row_bad c.args.bytes.now c.head_at_front-head.result (as_bytes c.args.bytes.now c.type_inv.bytes) c.head_at_front-head.ensures (refused c.is_kept.ensures c.if-not-is_kept.true)

pub returns-then-body-key_len : goal.returns-then-body-key_len
returns-then-body-key_len c =
    let body = ap length c.split_at.ensures.back in
    row_no_body c.args.bytes.now c.head_at_front-head.result (as_bytes c.args.bytes.now c.type_inv.bytes) c.head_at_front-head.ensures (omega (arith, body, length-drop 6 c.args.bytes.now))

pub returns : goal.returns
returns c =
    let head = c.head_at_front-head.result in
    let body = c.split_at.ensures.back in
    let behind = c.split_at-2.ensures.back ∙ ap (drop head.key_len) body in (
      take head.value_len (drop head.key_len (drop 6 c.args.bytes.now)),
      row_begins c.args.bytes.now head c.split_at-2.result.0.now (take head.value_len (drop head.key_len (drop 6 c.args.bytes.now))) c.split_at-3.result.1.now
          record {
            all = as_bytes c.args.bytes.now c.type_inv.bytes;
            long = c.if-bytes-lt6.false;
            head_is = c.head_at_front-head.ensures;
            kept = passed c.is_kept.ensures c.if-not-is_kept.false;
            room = omega (arith, ap length body);
            key_is = c.split_at-2.ensures.front ∙ ap (take head.key_len) body;
            value_is = refl;
            rest_is = c.split_at-3.ensures.back ∙ ap (drop head.value_len) behind;
          },
    )
