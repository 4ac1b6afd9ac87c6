use Rattle.std.proofs.Common.{ap, ◌∙◌, ◌++◌, ◌∷◌, [], length, ◌<◌, arith}
use Rattle.byteorder.specs.Endian.{big_bytes}
use Rattle.mdb_bytes.proofs.Written.{parts_spelled, parts_fit}
use Rattle.mdb_bytes.proofs.NumberBytes.{as_bytes}
use Rattle.mdb_bytes.proofs.encode.put_parts.Goals as goal

pub returns-clause-bytes : goal.returns-clause-bytes
returns-clause-bytes c =
    let byte : c.args.kind < 256 = omega arith in
    let key = c.args.key.now in
    let value = c.args.value.now in
    c.append-3.ensures ∙ ap (λ t. t ++ value) (c.append-2.ensures ∙ ap (λ t. t ++ key) (c.put_two-3.ensures ∙ ap (λ t. t ++ big_bytes 2 (length value)) (c.put_two-2.ensures
    ∙ ap (λ t. t ++ big_bytes 2 (length key)) (c.append.ensures ∙ ap (λ t. t ++ (c.args.kind ∷ [])) c.put_two.ensures))))
    ∙ parts_spelled c.args.into.now key value c.args.table.0 c.args.kind byte

pub returns-clause-fit : goal.returns-clause-fit
returns-clause-fit c =
    parts_fit c.args.key.now c.args.value.now c.args.table.0 c.args.kind (omega arith) (omega arith) (omega arith) (omega arith)
    (as_bytes c.args.key.now c.type_inv.key) (as_bytes c.args.value.now c.type_inv.value)
