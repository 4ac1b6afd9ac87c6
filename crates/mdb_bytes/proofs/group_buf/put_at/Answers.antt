use Rattle.std.proofs.Common.{◌++◌, take, length, ◌+◌, ◌≤◌, ◌≡◌, sym, ap, ◌∙◌, arith}
use Rattle.std.proofs.lemmas.List.{take-set}
use Rattle.std.proofs.lemmas.Slice.{take-put_mid}
use Rattle.mdb_bytes.proofs.group_buf.put_at.Goals as goal

pub returns-clause-front : goal.returns-clause-front
returns-clause-front c =
    let after = c.copy_from_slice.ensures.after in
    let same : length c.copy_from_slice.new.self ≡ length c.args.bytes.now = ap length after in
    let there : c.args.place ≤ length c.args.room.now = omega arith in
    take-set _ _ _ ∙ take-put_mid _ _ _ _ (c.args.place + length c.args.bytes.now) (ap (λ n. c.args.place + n) (sym same)) there ∙ ap (λ ys. take c.args.place c.args.room.now ++ ys) after
