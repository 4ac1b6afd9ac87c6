use Rattle.std.proofs.Common.{◌≡◌, ◌+◌, ◌-◌, ◌*◌, ℕ, Bool, length, take, drop, ap, sym, subst, ◌∙◌, arith}
use Rattle.std.proofs.lemmas.List.{length-take, length-drop, take-map, drop-map}
use Rattle.row_page.specs.Page.{used, page_body}
use Rattle.row_page.specs.Entries.{AreEntries, cells, cells_of, cell_of, entries_of, page_head_of, is_leaf}
use Rattle.row_page.proofs.Moves.{cut_fits}
use Rattle.row_page.proofs.Pages.{past_head}
use Rattle.row_page.proofs.Halves.{has_cut, no_cells, entries-take, entries-drop, used-take, used-drop}
use Rattle.row_page.proofs.Edits.{shown, page_parts}
use Rattle.row_page.proofs.ReadBack.{becomes}
use Rattle.row_page.proofs.page.split.Goals as goal

pub split_cells-requires-clause-cut : goal.split_cells-requires-clause-cut
split_cells-requires-clause-cut c =
    let p = c.args.from.now in (
      cells_of p,
      has_cut p c.split_at_mut-from_head.result.1.now (page_head_of p) (entries_of p) c.count_of-count.result c.args.at (c.start_of-place.result - 64) _
          c.requires.from c.split_at_mut-from_head.ensures.back (omega (arith, c.split_at_mut-from_head.ensures.back_len)) (c.count_of-count.ensures.count c.requires.from) c.requires.within (past_head _ _ (c.start_of-place.ensures.start c.requires.from c.requires.within))
          (omega (arith, (c.cells_used.ensures.used c.requires.from))),
    )

pub split_cells-requires-clause-other : goal.split_cells-requires-clause-other
split_cells-requires-clause-other c =
    let q = c.args.to.now in
    let l : length c.split_at_mut-to_head.result.1.now ≡ 8128 = omega (arith, c.split_at_mut-to_head.ensures.back_len) in
    let m : length c.split_at_mut-from_head.result.1.now ≡ 8128 = omega (arith, c.split_at_mut-from_head.ensures.back_len) in
    no_cells q c.split_at_mut-to_head.result.1.now (page_head_of q) (entries_of q) (length c.split_at_mut-from_head.result.1.now) c.requires.to c.requires.empty c.split_at_mut-to_head.ensures.back l m

pub overflow_add-place : goal.overflow_add-place
overflow_add-place c =
    let p = c.args.from.now in
    let a = entries-take (is_leaf (page_head_of p)) (entries_of p) c.args.at c.requires.within c.requires.from.entries in
    let u = used-take (is_leaf (page_head_of p)) (entries_of p) c.args.at (c.start_of-place.result - 64) c.requires.within (past_head _ _ (c.start_of-place.ensures.start c.requires.from c.requires.within)) in
    omega (arith, a.fits, u)

pub overflow_cast-place : goal.overflow_cast-place
overflow_cast-place c =
    let p = c.args.from.now in
    let a = entries-take (is_leaf (page_head_of p)) (entries_of p) c.args.at c.requires.within c.requires.from.entries in
    let u = used-take (is_leaf (page_head_of p)) (entries_of p) c.args.at (c.start_of-place.result - 64) c.requires.within (past_head _ _ (c.start_of-place.ensures.start c.requires.from c.requires.within)) in
    omega (arith, a.fits, u)

pub overflow_sub-size-2 : goal.overflow_sub-size-2
overflow_sub-size-2 c =
    let p = c.args.from.now in
    let cut = has_cut p c.split_at_mut-from_head.result.1.now (page_head_of p) (entries_of p) c.count_of-count.result c.args.at (c.start_of-place.result - 64) _
    c.requires.from c.split_at_mut-from_head.ensures.back (omega (arith, c.split_at_mut-from_head.ensures.back_len)) (c.count_of-count.ensures.count c.requires.from) c.requires.within (past_head _ _ (c.start_of-place.ensures.start c.requires.from c.requires.within))
    (ap (λ (n : ℕ). n - 2 * c.count_of-count.result) (c.cells_used.ensures.used c.requires.from)) in
    let f = cut_fits _ _ _ _ _ _ cut in
    f.0

pub returns-clause-first : goal.returns-clause-first
returns-clause-first c =
    let p = c.args.from.now in
    let h = page_head_of p in
    let es = entries_of p in
    let body = c.split_at_mut-from_head.result.1.now in
    let len : length body ≡ 8128 = omega (arith, c.split_at_mut-from_head.ensures.back_len) in
    let cut = has_cut p body h es c.count_of-count.result c.args.at (c.start_of-place.result - 64) _
    c.requires.from c.split_at_mut-from_head.ensures.back len (c.count_of-count.ensures.count c.requires.from) c.requires.within (past_head _ _ (c.start_of-place.ensures.start c.requires.from c.requires.within))
    (ap (λ (n : ℕ). n - 2 * c.count_of-count.result) (c.cells_used.ensures.used c.requires.from)) in
    let made = (c.split_cells.ensures (cells (is_leaf h) es) cut).0 ∙ ap (λ (k : ℕ). page_body k (take c.args.at (cells (is_leaf h) es))) len
    ∙ ap (page_body 8128) (take-map (cell_of (is_leaf h)) c.args.at es) in
    let u = used-take (is_leaf h) es c.args.at (c.start_of-place.result - 64) c.requires.within (past_head _ _ (c.start_of-place.ensures.start c.requires.from c.requires.within)) in
    becomes p _ (take c.args.at es) (shown c.split_at_mut-from_head.result.0.now c.write_two.new.part c.write_two-2.new.part c.split_cells.new.body h es (take c.args.at es) c.args.at ((c.start_of-place.result - 64) + 2 * c.args.at)
    c.requires.from.head (entries-take (is_leaf h) es c.args.at c.requires.within c.requires.from.entries)
    (c.split_at_mut-from_head.ensures.front ∙ (page_parts p h es c.requires.from).0) c.write_two.ensures c.write_two-2.ensures
    (omega (arith, length-take c.args.at es, c.requires.within)) (sym u) made)

pub returns-clause-second : goal.returns-clause-second
returns-clause-second c =
    let p = c.args.from.now in
    let q = c.args.to.now in
    let h = page_head_of p in
    let es = entries_of p in
    let body = c.split_at_mut-from_head.result.1.now in
    let len : length body ≡ 8128 = omega (arith, c.split_at_mut-from_head.ensures.back_len) in
    let cut = has_cut p body h es c.count_of-count.result c.args.at (c.start_of-place.result - 64) _
    c.requires.from c.split_at_mut-from_head.ensures.back len (c.count_of-count.ensures.count c.requires.from) c.requires.within (past_head _ _ (c.start_of-place.ensures.start c.requires.from c.requires.within))
    (ap (λ (n : ℕ). n - 2 * c.count_of-count.result) (c.cells_used.ensures.used c.requires.from)) in
    let same : is_leaf h ≡ is_leaf (page_head_of q) = sym c.requires.kinds in
    let made = (c.split_cells.ensures (cells (is_leaf h) es) cut).1 ∙ ap (λ (k : ℕ). page_body k (drop c.args.at (cells (is_leaf h) es))) len
    ∙ ap (page_body 8128) (drop-map (cell_of (is_leaf h)) c.args.at es) ∙ ap (λ (b : Bool). page_body 8128 (cells b (drop c.args.at es))) same in
    let u = used-drop (is_leaf h) es c.args.at (c.start_of-place.result - 64) (c.cells_used.result - 2 * c.count_of-count.result) c.count_of-count.result c.requires.within (past_head _ _ (c.start_of-place.ensures.start c.requires.from c.requires.within)) (c.count_of-count.ensures.count c.requires.from)
    (ap (λ (n : ℕ). n - 2 * c.count_of-count.result) (c.cells_used.ensures.used c.requires.from)) in
    let all = subst (λ (b : Bool). AreEntries b (drop c.args.at es)) same (entries-drop (is_leaf h) es c.args.at c.requires.within c.requires.from.entries) in
    becomes q _ (drop c.args.at es) (shown c.split_at_mut-to_head.result.0.now c.write_two-3.new.part c.write_two-4.new.part c.split_cells.new.other (page_head_of q) (entries_of q) (drop c.args.at es)
    (c.count_of-count.result - c.args.at) (c.cells_used.result - 2 * c.count_of-count.result - (c.start_of-place.result - 64) + 2 * (c.count_of-count.result - c.args.at))
    c.requires.to.head all
    (c.split_at_mut-to_head.ensures.front ∙ (page_parts q (page_head_of q) (entries_of q) c.requires.to).0) c.write_two-3.ensures c.write_two-4.ensures
    (omega (arith, length-drop c.args.at es, (c.count_of-count.ensures.count c.requires.from))) (sym u ∙ ap (λ (b : Bool). used (cells b (drop c.args.at es))) same) made)
