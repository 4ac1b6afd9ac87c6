use Rattle.std.proofs.Common.{◌≡◌, ◌+◌, ◌-◌, ℕ, Bool, length, ap, sym, refl, ◌∙◌, arith}
use Rattle.std.specs.List.{insert}
use Rattle.row_page.specs.Page.{page_body}
use Rattle.row_page.specs.Entries.{PageEntry, cells, cell_of, cell_len, entries_of, page_head_of, is_leaf}
use Rattle.row_page.proofs.Entries.{used_cells}
use Rattle.row_page.proofs.Pages.{starts_within, past_head}
use Rattle.row_page.proofs.Edits.{has_room, shown, entries-insert, page_parts, map-insert}
use Rattle.std.proofs.lemmas.Bool.{false≢true}
use Rattle.std.proofs.lemmas.List.Edits.{length-insert}
use Rattle.row_page.proofs.ReadBack.{becomes}
use Rattle.row_page.proofs.page.insert.Goals as goal
use Rattle.row_page.proofs.page.insert.Goals.{then-at-count-via-then-at-count, then-at-count-via-else-at-count+then-not-may_have, then-at-count-via-else-at-count+else-not-may_have+then-total-n-gt-PAGE_ROOM}

pub returns-then-at-count-clause-inserted : goal.returns-then-at-count-clause-inserted
returns-then-at-count-clause-inserted c = λ page place kept fits.
    let h = page_head_of c.args.page.now in
    let es = entries_of c.args.page.now in
    let e : PageEntry = record { key = c.args.key.now; rest = c.args.rest.now } in
    let count = c.count_of-count.ensures.count page in
    let total = c.cells_used-total.ensures.used page in
    let start = starts_within h es c.args.at _ (c.start_of-start.ensures.start page place.within) in
    let n : c.size_of-n.result ≡ cell_len (is_leaf h) e = c.size_of-n.ensures ∙ ap (λ (b : Bool). cell_len b e) c.is_row_leaf-leaf.ensures in
    let u = used_cells (is_leaf h) es in
    absurd (elim c.then-at-count.branch [
      | then-at-count-via-then-at-count w ↦ omega (arith, place.within)
      | then-at-count-via-else-at-count+then-not-may_have w ↦ false≢true (w.if-not-may_have.ensures.1 (start.0, omega arith, omega (arith, start.1), omega (arith, page.entries.fits)))
      | then-at-count-via-else-at-count+else-not-may_have+then-total-n-gt-PAGE_ROOM w ↦ omega arith
    ])

pub returns-clause-inserted : goal.returns-clause-inserted
returns-clause-inserted c = λ page place kept fits.
    let p = c.args.page.now in
    let h = page_head_of p in
    let es = entries_of p in
    let e : PageEntry = record { key = c.args.key.now; rest = c.args.rest.now } in
    let body = c.split_at_mut-head.result.1.now in
    let len : length body ≡ 8128 = omega (arith, c.split_at_mut-head.ensures.back_len) in
    let n : c.size_of-n.result ≡ cell_len (is_leaf h) e = c.size_of-n.ensures ∙ ap (λ (b : Bool). cell_len b e) c.is_row_leaf-leaf.ensures in
    let count = c.count_of-count.ensures.count page in
    let total = c.cells_used-total.ensures.used page in
    let at = past_head _ _ (c.start_of-start.ensures.start page place.within) in
    let room = has_room p body h es c.count_of-count.result c.args.at (c.start_of-start.result - 64) c.size_of-n.result
    page c.split_at_mut-head.ensures.back len count place.within at (omega (arith, n, fits, used_cells (is_leaf h) es)) in
    let new = entries-insert h es c.args.at e page.entries place.within kept (omega (arith, fits, used_cells (is_leaf h) es)) (place.before, place.after) in
    let more = length-insert es c.args.at e place.within in
    let made : c.insert_cell.new.body ≡ page_body 8128 (cells (is_leaf h) (insert es c.args.at e)) =
    c.insert_cell.ensures (cells (is_leaf h) es) room ∙ ap (λ (k : ℕ). page_body k (insert (cells (is_leaf h) es) c.args.at (cell_of c.is_row_leaf-leaf.result e))) len
    ∙ ap (λ (b : Bool). page_body 8128 (insert (cells (is_leaf h) es) c.args.at (cell_of b e))) c.is_row_leaf-leaf.ensures
    ∙ ap (page_body 8128) (sym (map-insert (cell_of (is_leaf h)) es c.args.at e)) in (
      refl,
      becomes p _ (insert es c.args.at e) (shown c.split_at_mut-head.result.0.now c.write_two.new.part c.write_two-2.new.part c.insert_cell.new.body h es (insert es c.args.at e) (c.count_of-count.result + 1) (c.cells_used-total.result + c.size_of-n.result + 2)
          page.head new.0 (c.split_at_mut-head.ensures.front ∙ (page_parts p h es page).0) c.write_two.ensures c.write_two-2.ensures
          (omega (arith, more, count)) (omega (arith, new.1, n, total)) made),
    )
