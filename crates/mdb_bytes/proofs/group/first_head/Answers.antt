use Rattle.std.proofs.Common.{sym, ◌∙◌}
use Rattle.mdb_bytes.proofs.NumberBytes.{as_bytes}
use Rattle.mdb_bytes.proofs.Booleans.{refused, passed}
use Rattle.mdb_bytes.proofs.GroupFront.{no_head_short, no_head_closed, no_head_large, head_found}
use Rattle.mdb_bytes.proofs.group.first_head.Goals as goal

pub returns-then-bytes-lt33 : goal.returns-then-bytes-lt33
returns-then-bytes-lt33 c = no_head_short c.args.bytes.now (as_bytes c.args.bytes.now c.type_inv.bytes) c.if-bytes-lt33.true

pub returns-then-byte_at-ne-OPEN_GATE : goal.returns-then-byte_at-ne-OPEN_GATE
returns-then-byte_at-ne-OPEN_GATE c =
    no_head_closed c.args.bytes.now (as_bytes c.args.bytes.now c.type_inv.bytes) (λ e. c.if-byte_at-ne-OPEN_GATE.true (c.byte_at.ensures ∙ e))

pub returns-then-not-numbers_fit : goal.returns-then-not-numbers_fit
returns-then-not-numbers_fit c =
    no_head_large c.args.bytes.now c.read_head-head.result (as_bytes c.args.bytes.now c.type_inv.bytes) c.read_head-head.ensures
    (refused c.numbers_fit.ensures c.if-not-numbers_fit.true)

pub returns : goal.returns
returns c =
    head_found c.args.bytes.now c.read_head-head.result (as_bytes c.args.bytes.now c.type_inv.bytes) c.if-bytes-lt33.false
    (sym c.byte_at.ensures ∙ c.if-byte_at-ne-OPEN_GATE.false) c.read_head-head.ensures (passed c.numbers_fit.ensures c.if-not-numbers_fit.false)
