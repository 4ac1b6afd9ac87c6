use Rattle.std.proofs.Common.{◌≡◌, ℕ, List, subst, refl, arith, false}
use Rattle.free_blocks.specs.Free.{has_bit, IsFirstBit}
use Rattle.free_blocks.proofs.Packed.{none_left, some_free, least_is, taken, taken_flags}
use Rattle.free_blocks.proofs.free.FreeBlocks.take.Goals as goal

pub returns-in_default : goal.returns-in_default
returns-in_default c = (
  none_left c.self.inside.words.items c.self.inside.blocks c.args.self.now c.self.view_is (subst (λ (l : List ℕ). (k : ℕ) → has_bit l k ≡ false) c.deref.ensures.value c.in_default.ensures),
  refl,
)

pub overflow_sub-self : goal.overflow_sub-self
overflow_sub-self c =
    let some = some_free c.self.inside.words.items c.self.inside.blocks c.self.inside.low c.self.inside.count c.in-Some.b c.self.invariant (subst (λ (l : List ℕ). IsFirstBit l c.in-Some.b) c.deref.ensures.value c.in-Some.ensures) in
    omega (arith, some)

pub invariant_of-self : goal.invariant_of-self
invariant_of-self c = taken c.self.inside.words.items c.self.inside.blocks c.self.inside.low c.self.inside.count c.in-Some.b c.index_mut.result.now
    c.self.invariant (subst (λ (l : List ℕ). IsFirstBit l c.in-Some.b) c.deref.ensures.value c.in-Some.ensures) c.index_mut.ensures.value

pub returns : goal.returns
returns c =
    let first = subst (λ (l : List ℕ). IsFirstBit l c.in-Some.b) c.deref.ensures.value c.in-Some.ensures in (
      least_is c.self.inside.words.items c.self.inside.blocks c.self.inside.low c.self.inside.count c.in-Some.b c.args.self.now c.self.invariant c.self.view_is first,
      taken_flags c.self.inside.words.items c.self.inside.blocks c.self.inside.low c.self.inside.count c.in-Some.b c.index_mut.result.now c.args.self.now
          c.self.invariant c.self.view_is first c.index_mut.ensures.value,
    )
