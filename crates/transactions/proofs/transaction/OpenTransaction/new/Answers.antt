use Rattle.std.proofs.Common.{ap, ◌∙◌, List, map}
use Rattle.std.specs.FinMap.{from_sorted}
use Rattle.std.specs.Map.{values_of}
use Rattle.mdb_model.specs.declared.change.Change.{Change}
use Rattle.mdb_model.specs.Tables.{Place, place_cmp}
use Rattle.transactions.specs.Net.{keyed_change}
use Rattle.sorted_places.proofs.SortedMaps.{from_none}
use Rattle.transactions.proofs.transaction.OpenTransaction.new.Goals as goal

pub returns : goal.returns
returns c = ap (λ (es : List (Place × Change)). from_sorted {R = place_cmp} (map keyed_change
    (values_of es))) c.new.ensures.empty ∙ from_none
