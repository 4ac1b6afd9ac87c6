use Rattle.std.proofs.Common.{◌∙◌, ℕ, length, replicate, ap, refl, rules, arith}
use Rattle.std.proofs.lemmas.List.{take_at}
use Rattle.mdb_bytes.specs.Firsts.{no_entry}
use Rattle.converter.proofs.Followed.{empty_on}
use Rattle.converter.proofs.maps.Converter.empty.Goals as goal

pub invariant_of-self : goal.invariant_of-self
invariant_of-self c =
    let s = c.self.invariant.sound in
    let n = length c.self.inside.present.items in
    empty_on _ _ _ _ n s.some s.bound s.leaves s.present_long
    (take_at c.blank.new.map _ c.self.inside.present.len (search rules) ∙ c.blank.ensures ∙ ap (λ (k : ℕ). replicate k no_entry) (c.deref_mut.ensures.len ∙ (search rules)))
    (c.make_empty.ensures.entries ∙ ap (λ (k : ℕ). replicate k no_entry) (omega (arith, s.saved_long, s.present_long)))
    (c.make_empty-2.ensures.entries ∙ ap (λ (k : ℕ). replicate k no_entry) (omega (arith, c.self.invariant.room_long, s.present_long)))
    refl refl c.make_empty.ensures.behind c.make_empty-2.ensures.behind
