use Rattle.std.proofs.Common.{sym}
use Rattle.mdb_model.specs.Tables.{place_cmp}
use Rattle.sorted_places.proofs.Places.{place_exact}
use Rattle.sorted_places.proofs.Tests.{any-there}
use Rattle.record_locks.proofs.place_set.PlaceSet.insert.Goals as goal

pub returns-then-contains-clause-ok : goal.returns-then-contains-clause-ok
returns-then-contains-clause-ok c = λ test.
    any-there place_cmp place_exact test (c.args.table.0, c.args.key.now) c.args.self.now (sym c.if-contains.ensures)
