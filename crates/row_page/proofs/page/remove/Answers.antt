use Rattle.std.proofs.Common.{◌≡◌, ◌+◌, ◌-◌, ℕ, length, get_or, ap, sym, refl, ◌∙◌, arith}
use Rattle.std.specs.List.{remove}
use Rattle.std.proofs.lemmas.Bool.{false≢true}
use Rattle.std.proofs.lemmas.List.Edits.{length-remove}
use Rattle.row_page.specs.Page.{page_body}
use Rattle.row_page.specs.Entries.{cells, cell_of, cell_len, entries_of, page_head_of, is_leaf, empty_entry}
use Rattle.row_page.proofs.Pages.{starts_within, past_head}
use Rattle.row_page.proofs.Edits.{has_cell, shown, entries-remove, page_parts, map-remove, cell_size_is}
use Rattle.row_page.proofs.ReadBack.{becomes}
use Rattle.row_page.proofs.page.remove.Goals as goal

pub returns-then-not-may_have-clause-removed : goal.returns-then-not-may_have-clause-removed
returns-then-not-may_have-clause-removed c = λ page lt.
    let h = page_head_of c.args.page.now in
    let es = entries_of c.args.page.now in
    let count = c.count_of-count.ensures.count page in
    let total = c.cells_used-total.ensures.used page in
    let start = c.start_of-start.ensures.start page (omega (arith, lt)) in
    let end = c.start_of-end.ensures.start page (omega (arith, lt)) in
    let size = cell_size_is h es c.args.at lt in
    let a = starts_within h es c.args.at _ start in
    let b = starts_within h es (c.args.at + 1) _ end in
    let f = page.entries.fits in
    absurd (false≢true (c.if-not-may_have.ensures.1 (a.0, omega arith, omega arith, omega arith)))

pub returns-clause-removed : goal.returns-clause-removed
returns-clause-removed c = λ page lt.
    let p = c.args.page.now in
    let h = page_head_of p in
    let es = entries_of p in
    let body = c.split_at_mut-head.result.1.now in
    let len : length body ≡ 8128 = omega (arith, c.split_at_mut-head.ensures.back_len) in
    let count = c.count_of-count.ensures.count page in
    let total = c.cells_used-total.ensures.used page in
    let start = c.start_of-start.ensures.start page (omega (arith, lt)) in
    let end = c.start_of-end.ensures.start page (omega (arith, lt)) in
    let n : c.start_of-end.result - c.start_of-start.result ≡ cell_len (is_leaf h) (get_or es c.args.at empty_entry) = omega (arith, start, end, cell_size_is h es c.args.at lt) in
    let cell = has_cell p body h es c.count_of-count.result c.args.at (c.start_of-start.result - 64) (c.start_of-end.result - c.start_of-start.result)
    page c.split_at_mut-head.ensures.back len count lt (past_head _ _ start) n in
    let new = entries-remove h es c.args.at page.entries lt in
    let less = length-remove es c.args.at lt in
    let made : c.remove_cell.new.body ≡ page_body 8128 (cells (is_leaf h) (remove es c.args.at)) =
    c.remove_cell.ensures (cells (is_leaf h) es) cell ∙ ap (λ (k : ℕ). page_body k (remove (cells (is_leaf h) es) c.args.at)) len
    ∙ ap (page_body 8128) (sym (map-remove (cell_of (is_leaf h)) es c.args.at)) in (
      refl,
      becomes p _ (remove es c.args.at) (shown c.split_at_mut-head.result.0.now c.write_two.new.part c.write_two-2.new.part c.remove_cell.new.body h es (remove es c.args.at) (c.count_of-count.result - 1) (c.cells_used-total.result - (c.start_of-end.result - c.start_of-start.result) - 2)
          page.head new.0 (c.split_at_mut-head.ensures.front ∙ (page_parts p h es page).0) c.write_two.ensures c.write_two-2.ensures
          (omega (arith, less, count)) (omega (arith, new.1, n, total)) made),
    )
