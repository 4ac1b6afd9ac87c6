-- Laws of entries.
--     length-cell      the bytes of a cell
--     used_cells      what entries take is the sum of what each takes
use Rattle.std.proofs.Common.{◌≡◌, refl, suc, ◌+◌, Bool, true, false, List, [], ◌∷◌, length, arith, length-append}
use Rattle.std.proofs.lemmas.List.Sums.{sum_by-cons}
use Rattle.row_page.specs.Page.{joined_cells, used}
use Rattle.row_page.specs.Entries.{PageEntry, cell_of, cell_len, cells, entry_cost, entries_cost}

-- the bytes of a cell
pub length-cell : (leaf : Bool) (e : PageEntry) → length (cell_of leaf e) ≡ cell_len leaf e
unfolding cell_of
length-cell true e = omega (arith, length-append e.key e.rest)
length-cell false e = omega (arith, length-append e.rest e.key)

-- what entries take is the sum of what each takes
pub used_cells : (leaf : Bool) (es : List PageEntry) → used (cells leaf es) ≡ entries_cost leaf es
unfolding joined_cells
used_cells leaf [] = refl
used_cells leaf (e ∷ es) =
    let rest = used_cells leaf es in
    let one = length-cell leaf e in
    let both : length (joined_cells (cells leaf (e ∷ es))) ≡ length (cell_of leaf e) + length (joined_cells (cells leaf es)) = length-append (cell_of leaf e) (joined_cells (cells leaf es)) in
    let count : length (cells leaf (e ∷ es)) ≡ suc (length (cells leaf es)) = refl in
    let cost : entries_cost leaf (e ∷ es) ≡ cell_len leaf e + 2 + entries_cost leaf es = sum_by-cons (entry_cost leaf) e es in
    omega arith
