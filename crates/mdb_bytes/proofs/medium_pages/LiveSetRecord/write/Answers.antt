use Rattle.std.proofs.Common.{◌≡◌, ◌∙◌, ◌++◌, ap, [], ◌∷◌, length, arith, ℕ}
use Rattle.std.specs.Prelude.{replicate}
use Rattle.mdb_bytes.specs.Fields.{Text, Zeros, spelled}
use Rattle.mdb_bytes.specs.MediumPages.{live_set_front}
use Rattle.mdb_bytes.proofs.TableLaws.{spelled_both, text_zeros}
use Rattle.mdb_bytes.proofs.medium_pages.LiveSetRecord.write.Goals as goal

pub returns : goal.returns
returns c =
    let v = c.args.self.now in
    let left : length c.split_at_mut-bits.result.1.now ≡ 3 = omega arith in
    spelled_both (live_set_front v) (Text v.bits ∷ Zeros 3 ∷ []) c.write_parts.new.into (c.copy_from_slice.new.self ++ c.write_zeros.new.into)
    (c.write_parts.ensures ∙ ap spelled c.live_front.ensures)
    (text_zeros v.bits c.copy_from_slice.new.self c.write_zeros.new.into 3 c.copy_from_slice.ensures.after (c.write_zeros.ensures ∙ ap (λ (n : ℕ). replicate n 0) left))
