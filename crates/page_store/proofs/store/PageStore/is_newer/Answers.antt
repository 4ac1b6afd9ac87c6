use Rattle.std.proofs.Common.{◌≡◌, ◌∙◌, ◌<◌, get_or, length, false, ap, sym, inl, inr, arith}
use Rattle.std.proofs.lemmas.List.{get_or_read}
use Rattle.page_store.specs.declared.store.FrameState.TheVariants.{Absent}
use Rattle.page_store.specs.Store.{Store, block_count, has_changed, is_changed_frame}
use Rattle.page_store.proofs.Shown.{changed_at}
use Rattle.page_store.proofs.store.PageStore.is_newer.Goals as goal

pub returns-in-Changed : goal.returns-in-Changed
returns-in-Changed c =
    let i = c.self.inside in
    let lt : c.args.block < length i.states.items = omega (arith, ap block_count c.self.view_is, c.requires, c.self.invariant.states_long) in
    let at : c.index.result.now ≡ get_or i.states.items c.args.block Absent = get_or_read i.states.items c.args.block c.index.result.now lt c.index.ensures Absent in
    sym (ap (λ (s : Store). has_changed s c.args.block) (sym c.self.view_is) ∙ changed_at i.states.items c.args.block ∙ ap is_changed_frame (sym at ∙ c.in-Changed.is))

pub returns-in-Same : goal.returns-in-Same
returns-in-Same c =
    let i = c.self.inside in
    let lt : c.args.block < length i.states.items = omega (arith, ap block_count c.self.view_is, c.requires, c.self.invariant.states_long) in
    let at : c.index.result.now ≡ get_or i.states.items c.args.block Absent = get_or_read i.states.items c.args.block c.index.result.now lt c.index.ensures Absent in
    let quiet : is_changed_frame c.index.result.now ≡ false = elim c.in-Same.is [ inl same ↦ ap is_changed_frame same | inr absent ↦ ap is_changed_frame absent ] in
    sym (ap (λ (s : Store). has_changed s c.args.block) (sym c.self.view_is) ∙ changed_at i.states.items c.args.block ∙ ap is_changed_frame (sym at) ∙ quiet)
