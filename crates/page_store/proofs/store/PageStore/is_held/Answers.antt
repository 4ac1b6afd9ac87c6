use Rattle.std.proofs.Common.{Bool, true, false, refl, subst, inl, inr, ◌⊎◌}
use Rattle.std.specs.Prelude.{IsTrue, ◌||◌}
use Rattle.std.proofs.lemmas.Bool.{or_left, or_right}
use Rattle.page_store.specs.Store.{Store, IsHeld}
use Rattle.page_store.proofs.store.PageStore.is_held.Goals as goal

or_back : (a b : Bool) (P Q : Type 0) → (IsTrue a → P) → (IsTrue b → Q) → IsTrue (a || b) → P ⊎ Q
or_back true b P Q p q is = inl (p refl)
or_back false b P Q p q is = inr (q is)

pub returns : goal.returns
returns c =
    let b = c.args.block in
    let v = c.self.view_is in
    let kept = c.kept-kept.ensures in
    let marked = c.marked-marked.ensures in
    subst (λ (s : Store). (IsTrue (c.kept-kept.result || c.marked-marked.result) → IsHeld s b) × (IsHeld s b → IsTrue (c.kept-kept.result || c.marked-marked.result))) v
    (or_back c.kept-kept.result c.marked-marked.result _ _ kept.0 marked.0, λ held. elim held [ inl k ↦ or_left c.kept-kept.result c.marked-marked.result (kept.1 k) | inr m ↦ or_right c.kept-kept.result c.marked-marked.result (marked.1 m) ])
