use Rattle.std.proofs.Common.{◌∙◌, ℕ, List, Bool, ap, sym, subst, arith}
use Rattle.free_blocks.specs.Free.{free_count}
use Rattle.page_store.specs.Store.{IsHeld, frame_of, page_block}
use Rattle.page_store.proofs.PageSteps.{held_back}
use Rattle.page_store.proofs.Readying.{ready_is}
use Rattle.page_store.proofs.store.PageStore.ready.Goals as goal

pub pay-block-requires-clause-lives : goal.pay-block-requires-clause-lives
pay-block-requires-clause-lives g c =
    let shows = c.in_ok-filled.ensures.shows in
    omega (arith, shows.was, shows.block, c.requires.lives)

pub pay-block-requires-clause-framed : goal.pay-block-requires-clause-framed
pay-block-requires-clause-framed g c =
    let shows = c.in_ok-filled.ensures.shows in
    (shows.framed.0, ap (frame_of c.filled.new.self) shows.block ∙ shows.framed.1)

pub pay-block-requires-clause-spare : goal.pay-block-requires-clause-spare
pay-block-requires-clause-spare g c held =
    let shows = c.in_ok-filled.ensures.shows in
    let s = c.args.self.now in
    let m = c.filled.new.self in
    let some = c.requires.spare (subst (λ (x : ℕ). IsHeld s x) (shows.block ∙ sym shows.was) (held_back s m (page_block m c.args.page) shows.step.keeps held)) in
    omega (arith, some, ap (λ (l : List Bool). free_count l) shows.free)

pub returns-clause-ready : goal.returns-clause-ready
returns-clause-ready g c =
    let shows = c.in_ok-filled.ensures.shows in
    ready_is g.H.Host.tells c.args.self.now c.filled.new.self c.pay-block.new.self c.args.page c.in_ok-filled.field-0 c.pay-block.result (g.H.Host.disk c.args.host.now).seen
    (omega (arith, shows.was, c.requires.lives)) shows c.in_ok-filled.ensures.store (omega (arith, c.filled.ensures.page, shows.step.keeps.area)) c.blocks-blocks.ensures.sound c.pay-block.ensures
