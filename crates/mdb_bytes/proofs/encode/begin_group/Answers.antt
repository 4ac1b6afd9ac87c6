use Rattle.std.proofs.Common.{ap, ◌∙◌, ◌++◌, ◌∷◌, []}
use Rattle.byteorder.specs.Endian.{big_bytes}
use Rattle.mdb_bytes.specs.Fields.{spelled}
use Rattle.mdb_bytes.proofs.encode.begin_group.Goals as goal

pub returns : goal.returns
unfolding spelled
returns c =
    c.put_four-2.ensures ∙ ap (λ t. t ++ big_bytes 4 c.args.changes) (c.put_eight-3.ensures ∙ ap (λ t. t ++ big_bytes 8 c.args.number) (c.put_eight-2.ensures
    ∙ ap (λ t. t ++ big_bytes 8 c.args.name.generation) (c.put_eight.ensures ∙ ap (λ t. t ++ big_bytes 8 c.args.name.birth) (c.put_four.ensures
    ∙ ap (λ t. t ++ big_bytes 4 c.args.length) (c.append.ensures ∙ ap (λ t. t ++ (79 ∷ [])) c.clear.ensures)))))
