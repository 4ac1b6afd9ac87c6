use Rattle.std.proofs.Common.{◌≡◌, ◌+◌, ◌-◌, ◌*◌, ℕ, Bool, ◌++◌, length, ap, sym, subst, ◌∙◌, arith, length-append}
use Rattle.std.proofs.lemmas.List.{map-append}
use Rattle.row_page.specs.Page.{used, page_body}
use Rattle.row_page.specs.Entries.{AreEntries, cells, cells_of, cell_of, entries_of, page_head_of, is_leaf}
use Rattle.row_page.proofs.Halves.{has_cells, entries-append, used_two}
use Rattle.row_page.proofs.Entries.{used_cells}
use Rattle.row_page.proofs.Edits.{shown, page_parts}
use Rattle.row_page.proofs.ReadBack.{becomes}
use Rattle.row_page.proofs.page.merge.Goals as goal

pub append_cells-requires-clause-cells : goal.append_cells-requires-clause-cells
append_cells-requires-clause-cells c =
    let p = c.args.into.now in
    let q = c.args.from.now in
    let l : length c.split_at_mut-head.result.1.now ≡ 8128 = omega (arith, c.split_at_mut-head.ensures.back_len) in
    let m : length c.split_at.result.1.now ≡ 8128 = omega (arith, c.split_at.ensures.back_len) in (
      cells_of p,
      cells_of q,
      has_cells p c.split_at_mut-head.result.1.now (page_head_of p) (entries_of p) c.count_of-count.result _ c.requires.into c.split_at_mut-head.ensures.back l (c.count_of-count.ensures.count c.requires.into)
          (ap (λ (n : ℕ). n - 2 * c.count_of-count.result) (c.cells_used-total.ensures.used c.requires.into)),
      has_cells q c.split_at.result.1.now (page_head_of q) (entries_of q) c.count_of-other_count.result _ c.requires.from c.split_at.ensures.back m (c.count_of-other_count.ensures.count c.requires.from)
          (ap (λ (n : ℕ). n - 2 * c.count_of-other_count.result) (c.cells_used-other_total.ensures.used c.requires.from)),
      omega (arith, c.requires.room, l, used_cells (is_leaf (page_head_of p)) (entries_of p), used_cells (is_leaf (page_head_of q)) (entries_of q)),
    )

pub returns-clause-first : goal.returns-clause-first
returns-clause-first c =
    let p = c.args.into.now in
    let q = c.args.from.now in
    let h = page_head_of p in
    let xs = entries_of p in
    let ys = entries_of q in
    let l : length c.split_at_mut-head.result.1.now ≡ 8128 = omega (arith, c.split_at_mut-head.ensures.back_len) in
    let m : length c.split_at.result.1.now ≡ 8128 = omega (arith, c.split_at.ensures.back_len) in
    let a = has_cells p c.split_at_mut-head.result.1.now h xs c.count_of-count.result _ c.requires.into c.split_at_mut-head.ensures.back l (c.count_of-count.ensures.count c.requires.into)
    (ap (λ (n : ℕ). n - 2 * c.count_of-count.result) (c.cells_used-total.ensures.used c.requires.into)) in
    let b = has_cells q c.split_at.result.1.now (page_head_of q) ys c.count_of-other_count.result _ c.requires.from c.split_at.ensures.back m (c.count_of-other_count.ensures.count c.requires.from)
    (ap (λ (n : ℕ). n - 2 * c.count_of-other_count.result) (c.cells_used-other_total.ensures.used c.requires.from)) in
    let same : is_leaf (page_head_of q) ≡ is_leaf h = c.requires.kinds in
    let cs : cells (is_leaf h) xs ++ cells (is_leaf (page_head_of q)) ys ≡ cells (is_leaf h) (xs ++ ys) =
    ap (λ (k : Bool). cells (is_leaf h) xs ++ cells k ys) same ∙ sym (map-append (cell_of (is_leaf h)) xs ys) in
    let made = c.append_cells.ensures (cells_of p) (cells_of q) a b (omega (arith, c.requires.room, l, used_cells (is_leaf h) xs, used_cells (is_leaf (page_head_of q)) ys))
    ∙ ap (λ (k : ℕ). page_body k (cells_of p ++ cells_of q)) l ∙ ap (page_body 8128) cs in
    let u : used (cells (is_leaf h) (xs ++ ys)) ≡ used (cells_of p) + used (cells_of q) = ap used (sym cs) ∙ used_two (cells_of p) (cells_of q) in
    let other = subst (λ (k : Bool). AreEntries k ys) same c.requires.from.entries in
    let fits = ap (λ (k : Bool). used (cells (is_leaf h) xs) + used (cells k ys)) same in
    let all = entries-append (is_leaf h) xs ys c.requires.into.entries other (omega (arith, fits, c.requires.room, used_cells (is_leaf h) xs, used_cells (is_leaf (page_head_of q)) ys)) c.requires.below in
    becomes p _ (xs ++ ys) (shown c.split_at_mut-head.result.0.now c.write_two.new.part c.write_two-2.new.part c.append_cells.new.body h xs (xs ++ ys)
    (c.count_of-count.result + c.count_of-other_count.result) (c.cells_used-total.result + c.cells_used-other_total.result)
    c.requires.into.head all (c.split_at_mut-head.ensures.front ∙ (page_parts p h xs c.requires.into).0) c.write_two.ensures c.write_two-2.ensures
    (omega (arith, length-append xs ys, (c.count_of-count.ensures.count c.requires.into), (c.count_of-other_count.ensures.count c.requires.from))) (omega (arith, u, (c.cells_used-total.ensures.used c.requires.into), (c.cells_used-other_total.ensures.used c.requires.from))) made)
