use Rattle.std.proofs.Common.{◌≡◌, ◌≤◌, List, Some}
use Rattle.mdb_bytes.specs.declared.converter_pages.ConverterEntry.{ConverterEntry}
use Rattle.page_store.specs.Pins.{newer_below}
use Rattle.page_store.proofs.store.PageStore.pin_count.Given as goal

abbrev pub invariant-loop-page : goal.invariant-loop-page
invariant-loop-page l = record {
  counted : (m : List ConverterEntry) → l.self.pinned ≡ Some m → l.count ≡ newer_below m l.self.maps.conv l.base l.page;
  few : l.count ≤ l.page;
}
