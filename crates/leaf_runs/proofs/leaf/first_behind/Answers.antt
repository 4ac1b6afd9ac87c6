use Rattle.std.proofs.Common.{◌≡◌, ◌+◌, sym, subst, arith}
use Rattle.leaf_runs.specs.Behind.{IsCut}
use Rattle.leaf_runs.proofs.LeafLaw.{leaf_page_of, few_rows}
use Rattle.leaf_runs.proofs.Scans.{cut_at, cut_gap}
use Rattle.leaf_runs.proofs.leaf.first_behind.Goals as goal

pub returns-in-Ok : goal.returns-in-Ok
returns-in-Ok c = λ leaf there.
    let p = leaf_page_of c.args.page.now leaf there in
    let is = c.in-Ok.ensures leaf there in
    let inside = is.in_range in
    let few = few_rows leaf.rows in
    let fits = p.keeps.fits in
    let next : c.saturating_add.result ≡ c.in-Ok.at + 1 = omega (arith, c.saturating_add.ensures) in
    subst (IsCut leaf.rows c.args.after.now) (sym next) (cut_at leaf.rows c.args.after.now _ is p.keeps.up)

pub returns-in-Err : goal.returns-in-Err
returns-in-Err c = λ leaf there. cut_gap leaf.rows c.args.after.now _ (c.in-Err.ensures leaf there) (leaf_page_of _ _ there).keeps.up
