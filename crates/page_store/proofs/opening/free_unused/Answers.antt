use Rattle.std.proofs.Common.{◌≡◌, ◌∙◌, ◌+◌, ◌<◌, ℕ, List, get_or, set, length, Bool, true, false, refl, ap, sym, subst, inl, inr, arith, length-set}
use Rattle.free_blocks.specs.Free.{IsFree}
use Rattle.converter.specs.Maps.{Maps, IsUsed}
use Rattle.std.proofs.lemmas.Bool.{cases_eq, false≢true}
use Rattle.std.proofs.lemmas.List.{get_or-set_same, get_or-set_other}
use Rattle.page_store.proofs.Moves.{set_true}
use Rattle.page_store.proofs.opening.free_unused.Goals as goal
use Rattle.page_store.proofs.opening.free_unused.Goals.{then-not-uses, else-not-uses}

record Freed (m : Maps) (n b : ℕ) (flags : List Bool) : Type 0 where
  long : length flags ≡ n
  unused : (k : ℕ) → IsFree flags k → (1 < k) × (k < b) × (IsUsed m k → ⊥)
  freed : (k : ℕ) → 1 < k → k < b → (IsUsed m k → ⊥) → IsFree flags k

given_more : (m : Maps) (n b : ℕ) (flags : List Bool) → 1 < b → b < n → Freed m n b flags → (IsUsed m b → ⊥) → Freed m n (b + 1) (set flags b true)
given_more m n b flags high lt before isnt = record {
  long = length-set flags b true ∙ before.long;
  unused = λ k free. elim (set_true flags b k free) [
    | inl same ↦ (omega (arith, same, high), omega (arith, same), λ used. isnt (subst (λ (x : ℕ). IsUsed m x) same used))
    | inr was ↦ let u = before.unused k was in (u.0, omega (arith, u.1), u.2)
  ];
  freed = λ k some less unused. elim (cases_eq k b) [
    | inl same ↦ ap (λ (x : ℕ). get_or (set flags b true) x false) same ∙ get_or-set_same flags b true false (omega (arith, before.long, lt))
    | inr other ↦ get_or-set_other flags b k true false other ∙ before.freed k some (omega (arith, less, other)) unused
  ];
}

passed_more : (m : Maps) (n b : ℕ) (flags : List Bool) → Freed m n b flags → IsUsed m b → Freed m n (b + 1) flags
passed_more m n b flags before used = record {
  long = before.long;
  unused = λ k free. let u = before.unused k free in (u.0, omega (arith, u.1), u.2);
  freed = λ k some less unused. elim (cases_eq k b) [
    | inl same ↦ absurd (unused (subst (λ (x : ℕ). IsUsed m x) (sym same) used))
    | inr other ↦ before.freed k some (omega (arith, less, other)) unused
  ];
}

pub loop-block-preserved : goal.loop-block-preserved
loop-block-preserved c =
    let m = c.args.converter.now in
    let b = c.loop-block.block in
    let was : Freed m c.args.blocks b c.loop-block.free = record { long = c.loop-block.invariant.long; unused = c.loop-block.invariant.unused; freed = c.loop-block.invariant.freed } in
    let more : Freed m c.args.blocks (b + 1) c.if-not-uses.free = elim c.if-not-uses.branch [
      | then-not-uses w ↦
          subst (λ (l : List Bool). Freed m c.args.blocks (b + 1) l) (sym (w.free-is ∙ w.give.ensures))
          (given_more m c.args.blocks b c.loop-block.free (omega (arith, c.loop-block.auto.block)) (omega (arith, c.loop-block-test.true)) was (λ used. false≢true (w.if-not-uses.ensures.1 used)))
      | else-not-uses w ↦
          subst (λ (l : List Bool). Freed m c.args.blocks (b + 1) l) (sym w.free-is) (passed_more m c.args.blocks b c.loop-block.free was (w.if-not-uses.ensures.0 refl))
    ] in
    record { long = more.long; unused = more.unused; freed = more.freed }
