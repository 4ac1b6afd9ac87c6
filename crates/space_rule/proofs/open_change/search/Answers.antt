use Rattle.std.proofs.Common.{rules}
use Rattle.std.proofs.lemmas.Fn.{always_returns_same}
use Rattle.mdb_model.specs.Tables.{place_cmp}
use Rattle.sorted_places.proofs.Sorted.{searched, sorted_from_rises}
use Rattle.sorted_places.proofs.Places.{place_total}
use Rattle.space_rule.specs.KnownCosts.{open_place}
use Rattle.space_rule.proofs.open_change.search.Goals as goal

-- the closure gives how a change's place stands to the one that is sought
pub returns : goal.returns
returns c =
    let sorted = sorted_from_rises place_cmp open_place (λ change. change) c.args.changes.now c.requires in
    let by_place = c.binary_search_by.ensures.position (λ change. place_cmp (open_place change) (c.args.table.0, c.args.key.now)) (always_returns_same _ _ _ (λ a r f called. search rules)) in
    let place = searched place_cmp open_place (λ change. change) place_total c.args.changes.now sorted (c.args.table.0, c.args.key.now) c.binary_search_by.result c.binary_search_by.ensures.bound by_place in
    record { found = place.0; absent = place.1 }
