use Rattle.std.proofs.Common.{◌∙◌, sym, ap, [], ◌∷◌}
use Rattle.std.specs.Prelude.{nat_lt}
use Rattle.std.specs.List.{list_all}
use Rattle.mdb_bytes.specs.Fields.{Text, Zeros, fields_fit}
use Rattle.mdb_bytes.specs.MediumPages.{live_set_front}
use Rattle.mdb_bytes.proofs.TableLaws.{both_rooms, then_and, and_true}
use Rattle.mdb_bytes.proofs.medium_pages.LiveSetRecord.has_room.Goals as goal

pub returns-then-parts_fit : goal.returns-then-parts_fit
returns-then-parts_fit c =
    let v = c.args.self.now in
    both_rooms (live_set_front v) (Text v.bits ∷ Zeros 3 ∷ []) _
    (then_and c.parts_fit.result c.bytes_fit.result (fields_fit (live_set_front v)) (fields_fit (Text v.bits ∷ Zeros 3 ∷ [])) c.if-parts_fit.true
    (c.parts_fit.ensures ∙ ap fields_fit c.live_front.ensures) (c.bytes_fit.ensures ∙ sym (and_true (list_all (λ b. nat_lt b 256) v.bits))))
