use Rattle.std.proofs.Common.{◌≡◌, ◌<◌, ◌↔◌, ◌||◌, List, length, ap, arith, subst, sym}
use Rattle.std.specs.Prelude.{IsTrue}
use Rattle.std.proofs.lemmas.List.{get_or_read}
use Rattle.mdb_bytes.specs.declared.converter_pages.ConverterEntry.{ConverterEntry}
use Rattle.converter.specs.Maps.{Maps, IsKept, IsUsed, block_of}
use Rattle.converter.proofs.Sound.{used_iff}
use Rattle.converter.proofs.maps.Converter.uses.Goals as goal

pub returns : goal.returns
returns c =
    let q = c.index.result.now in
    let b = c.args.block in
    let lt : b < length c.self.inside.owner.items = omega (arith, ap (λ (m : Maps). length m.owner) c.self.view_is, c.requires.below) in
    subst (λ (m : Maps). IsTrue (c.is_at-present.result || c.kept-kept.result) ↔ IsUsed m b) c.self.view_is
    (used_iff _ b q c.self.invariant.sound c.requires.some (get_or_read c.self.inside.owner.items b q lt c.index.ensures 0) c.is_at-present.result c.kept-kept.result
    (subst (λ (l : List ConverterEntry). IsTrue c.is_at-present.result ↔ (block_of l q ≡ b)) c.deref.ensures.value c.is_at-present.ensures)
    (subst (λ (m : Maps). IsTrue c.kept-kept.result ↔ IsKept m b) (sym c.self.view_is) c.kept-kept.ensures))
