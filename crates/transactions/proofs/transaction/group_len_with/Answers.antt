use Rattle.std.proofs.Common.{◌≡◌, sym, ap, Option, unwrap_or, option_map, arith}
use Rattle.std.specs.FinMap.{find}
use Rattle.mdb_bytes.specs.Groups.{change_fits}
use Rattle.mdb_model.specs.declared.change.Change.{Change}
use Rattle.mdb_model.specs.Tables.{place_cmp}
use Rattle.mdb_model.specs.Sessions.{change_bytes}
use Rattle.transactions.proofs.NetLists.{found_fits, found_within, group-with}
use Rattle.transactions.proofs.transaction.group_len_with.Goals as goal

pub change_len-requires : goal.change_len-requires
change_len-requires c =
    found_fits (c.args.table.0, c.args.key.now) c.in-Some.change.now change_fits c.args.changes.now.entries
    (sym c.in-Some.ensures) c.requires.kept.net.each_fits

pub overflow_sub-result : goal.overflow_sub-result
overflow_sub-result c =
    omega (
      arith,
      c.change_len.ensures,
      c.requires.counted,
      found_within
          (c.args.table.0, c.args.key.now) c.in-Some.change.now c.args.changes.now.entries
          (sym c.in-Some.ensures),
    )

pub returns-in-Some : goal.returns-in-Some
returns-in-Some c = λ change place size.
    let within = found_within
    (c.args.table.0, c.args.key.now) c.in-Some.change.now c.args.changes.now.entries
    (sym c.in-Some.ensures) in
    let sum = group-with c.args.changes.now.entries c.requires.kept
    (c.args.table.0, c.args.key.now) change in
    let weight : unwrap_or (option_map change_bytes (find place_cmp
    (c.args.table.0, c.args.key.now) c.args.changes.now.entries)) 0
    ≡ change_bytes c.in-Some.change.now =
    ap (λ (o : Option Change). unwrap_or (option_map change_bytes o) 0) (sym c.in-Some.ensures) in
    omega (arith, c.change_len.ensures, c.requires.counted, within, sum, weight, size)

pub returns-in-None : goal.returns-in-None
returns-in-None c = λ change place size.
    let sum = group-with c.args.changes.now.entries c.requires.kept
    (c.args.table.0, c.args.key.now) change in
    let weight : unwrap_or (option_map change_bytes (find place_cmp
    (c.args.table.0, c.args.key.now) c.args.changes.now.entries)) 0 ≡ 0 =
    ap (λ (o : Option Change). unwrap_or (option_map change_bytes o) 0) (sym c.in-None.ensures) in
    omega (arith, c.requires.counted, sum, weight, size)
