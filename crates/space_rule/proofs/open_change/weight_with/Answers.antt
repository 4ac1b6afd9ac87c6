use Rattle.std.proofs.Common.{refl, arith}
use Rattle.space_rule.specs.declared.open_change.OpenChange.{OpenChange}
use Rattle.space_rule.specs.KnownCosts.{growth_on, undo_cost}
use Rattle.space_rule.proofs.Opens.{grown-found, bytes-at, sum-gap, growth-here}
use Rattle.space_rule.proofs.open_change.weight_with.Goals as goal

pub overflow_sub-grown : goal.overflow_sub-grown
overflow_sub-grown c =
    let x : OpenChange = record { table = c.args.table; key = c.args.key.now; before = c.args.before; now = c.args.now } in
    let g = grown-found x c.args.changes.now c.in-Ok.at c.index-changes-at.result c.in-Ok.ensures.found c.index-changes-at.is in
    omega (arith, g.1, c.growth.ensures, c.requires.grown)

pub returns-in-Ok-clause-grown : goal.returns-in-Ok-clause-grown
returns-in-Ok-clause-grown c =
    let x : OpenChange = record { table = c.args.table; key = c.args.key.now; before = c.args.before; now = c.args.now } in
    let g = grown-found x c.args.changes.now c.in-Ok.at c.index-changes-at.result c.in-Ok.ensures.found c.index-changes-at.is in
    omega (arith, g.0, g.1, c.growth.ensures, c.growth-in-Ok.ensures, c.requires.grown)

pub returns-in-Ok-clause-bytes : goal.returns-in-Ok-clause-bytes
returns-in-Ok-clause-bytes c =
    let x : OpenChange = record { table = c.args.table; key = c.args.key.now; before = c.args.before; now = c.args.now } in
    let g = bytes-at x c.args.changes.now c.in-Ok.at x c.in-Ok.ensures.found in
    omega arith

pub returns-in-Err-clause-grown : goal.returns-in-Err-clause-grown
returns-in-Err-clause-grown c =
    let x : OpenChange = record { table = c.args.table; key = c.args.key.now; before = c.args.before; now = c.args.now } in
    let g = sum-gap (growth_on c.args.table.0) x c.args.changes.now c.in-Err.field-0 c.in-Err.ensures.absent in
    let h = growth-here c.args.table.0 x refl in
    omega (arith, c.growth-in-Err.ensures)

pub returns-in-Err-clause-bytes : goal.returns-in-Err-clause-bytes
returns-in-Err-clause-bytes c =
    let x : OpenChange = record { table = c.args.table; key = c.args.key.now; before = c.args.before; now = c.args.now } in
    let g = sum-gap undo_cost x c.args.changes.now c.in-Err.field-0 c.in-Err.ensures.absent in
    omega (arith, c.image_cost.ensures)
