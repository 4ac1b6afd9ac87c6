use Rattle.std.proofs.Common.{◌≡◌, ℕ, Some, subst}
use Rattle.page_store.specs.Store.{IsHeld, frame_of}
use Rattle.page_store.specs.Steps.{moves}
use Rattle.page_store.proofs.store.PageStore.pay.Goals as goal

pub returns-then-is_held : goal.returns-then-is_held
returns-then-is_held c =
    let s = c.args.self.now in
    let at = c.block_of-block.ensures.block in
    moves (subst (λ (x : ℕ). IsHeld s x) at (c.is_held.ensures.0 c.if-is_held.true)) c.put_on_free.ensures.free c.frame.result.now
    (subst (λ (x : ℕ). frame_of s x ≡ Some c.frame.result.now) at c.frame.ensures) c.put_on_free.ensures.put
