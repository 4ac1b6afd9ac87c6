use Rattle.std.proofs.Common.{◌≡◌, [], length, refl, ap, ◌∙◌, arith, sym}
use Rattle.row_page.specs.Page.{page_body}
use Rattle.row_page.specs.Entries.{entries_of, page_head_of, is_leaf}
use Rattle.row_page.proofs.Entries.{used_cells}
use Rattle.row_page.proofs.Edits.{shown, page_parts}
use Rattle.row_page.proofs.Halves.{empty_body, no_entries}
use Rattle.row_page.proofs.ReadBack.{becomes}
use Rattle.row_page.proofs.page.clear.Goals as goal

pub returns : goal.returns
returns c =
    let p = c.args.page.now in
    let h = page_head_of p in
    let es = entries_of p in
    let len : length c.split_at_mut-head.result.1.now ≡ 8128 = omega (arith, c.split_at_mut-head.ensures.back_len) in
    becomes p _ [] (shown c.split_at_mut-head.result.0.now c.write_two.new.part c.write_two-2.new.part c.fill.new.self h es [] 0 0
    c.requires.head (no_entries (is_leaf h)) (c.split_at_mut-head.ensures.front ∙ (page_parts p h es c.requires).0) c.write_two.ensures c.write_two-2.ensures
    refl (sym (used_cells (is_leaf h) [])) (c.fill.ensures.after (λ y e. e) ∙ sym (empty_body _ [] refl) ∙ ap (λ k. page_body k []) len))
