use Rattle.std.proofs.Common.{ap, ◌∙◌, drop, take, inl, inr, arith}
use Rattle.mdb_bytes.proofs.NumberBytes.{as_bytes}
use Rattle.mdb_bytes.proofs.Booleans.{refused, passed}
use Rattle.mdb_bytes.proofs.PageParts.{parts_found, other_length, other_unnamed, other_used, other_gap}
use Rattle.mdb_bytes.proofs.page_sections.sections_of.Goals as goal

pub returns-then-bytes-ne-PAGE_BYTES : goal.returns-then-bytes-ne-PAGE_BYTES
returns-then-bytes-ne-PAGE_BYTES c = other_length c.args.slot_len c.args.bytes.now (as_bytes c.args.bytes.now c.type_inv.bytes) c.if-bytes-ne-PAGE_BYTES.true

pub returns-then-not-is_zero : goal.returns-then-not-is_zero
returns-then-not-is_zero c =
    other_unnamed c.args.slot_len c.args.bytes.now c.split_at-2.result.0.now (as_bytes c.args.bytes.now c.type_inv.bytes)
    (c.split_at-2.ensures.front ∙ ap (take 48) c.split_at.ensures.back) (refused c.is_zero.ensures c.if-not-is_zero.true)

pub returns-then-used-gt-PAGE_ROOM : goal.returns-then-used-gt-PAGE_ROOM
returns-then-used-gt-PAGE_ROOM c =
    other_used c.args.slot_len c.args.bytes.now c.head_at_front-head.result (as_bytes c.args.bytes.now c.type_inv.bytes) c.head_at_front-head.ensures
    (λ both. elim c.then-used-gt-PAGE_ROOM.either [ inl long ↦ (let le = both.0 in omega arith) | inr more ↦ (let le = both.1 in let gt = more.1 in omega arith) ])

pub returns-then-not-is_zero-2 : goal.returns-then-not-is_zero-2
returns-then-not-is_zero-2 c =
    other_gap c.args.slot_len c.args.bytes.now c.split_at-2.result.1.now c.split_at-3.result.1.now c.split_at-4.result.0.now c.head_at_front-head.result
    (as_bytes c.args.bytes.now c.type_inv.bytes) c.head_at_front-head.ensures (c.split_at-2.ensures.back ∙ ap (drop 48) c.split_at.ensures.back)
    c.split_at-3.ensures.back c.split_at-4.ensures.front (refused c.is_zero-2.ensures c.if-not-is_zero-2.true)

pub returns : goal.returns
returns c =
    parts_found c.args.slot_len c.args.bytes.now c.head_at_front-head.result c.split_at-2.result.0.now c.split_at-2.result.1.now c.split_at-3.result.0.now
    c.split_at-3.result.1.now c.split_at-4.result.0.now c.split_at-4.result.1.now
    record {
      all = as_bytes c.args.bytes.now c.type_inv.bytes;
      long = c.if-bytes-ne-PAGE_BYTES.false;
      head_is = c.head_at_front-head.ensures;
      unnamed_is = c.split_at-2.ensures.front ∙ ap (take 48) c.split_at.ensures.back;
      body_is = c.split_at-2.ensures.back ∙ ap (drop 48) c.split_at.ensures.back;
      zeros = passed c.is_zero.ensures c.if-not-is_zero.false;
      within = c.if-used-gt-PAGE_ROOM.false;
      enough = c.if-slots_len-used.false;
      entries_is = c.split_at-3.ensures.front;
      behind_is = c.split_at-3.ensures.back;
      gap_is = c.split_at-4.ensures.front;
      slots_is = c.split_at-4.ensures.back;
      gap_zeros = passed c.is_zero-2.ensures c.if-not-is_zero-2.false;
    }
