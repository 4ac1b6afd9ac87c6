use Rattle.std.proofs.Common.{◌≡◌, refl, ap, ◌∙◌, length, arith}
use Rattle.std.specs.FinMap.{put}
use Rattle.mdb_model.specs.declared.change.Change.{Change}
use Rattle.mdb_model.specs.declared.change.Change.TheVariants.{Del}
use Rattle.mdb_model.specs.Tables.{place_cmp, place_of}
use Rattle.mdb_model.specs.Sessions.{change_bytes, group_bytes}
use Rattle.transactions.proofs.NetLists.{put-values}
use Rattle.transactions.proofs.transaction.OpenTransaction.bytes_with_del.Goals as goal

pub returns : goal.returns
returns c =
    let change : Change = Del c.args.table c.args.key.now in
    let es = c.self.inside.changes.entries in
    let long = ap length c.bytes.ensures in
    let size : change_bytes change ≡ c.entry_len-added.result = omega (arith, long, c.entry_len-added.ensures) in
    c.group_len_with.ensures change refl size
    ∙ ap group_bytes (put-values es (put place_cmp
    (place_of change) change es) c.self.invariant.kept change refl c.args.self.now c.self.view_is)
