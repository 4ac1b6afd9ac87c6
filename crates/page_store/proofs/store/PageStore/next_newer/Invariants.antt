use Rattle.std.proofs.Common.{◌≡◌, ◌≤◌, ◌<◌, ℕ, List, Some, false}
use Rattle.mdb_bytes.specs.declared.converter_pages.ConverterEntry.{ConverterEntry}
use Rattle.page_store.specs.Pins.{is_newer_page}
use Rattle.page_store.proofs.store.PageStore.next_newer.Given as goal

abbrev pub invariant-loop-page : goal.invariant-loop-page
invariant-loop-page l = (m : List ConverterEntry) → l.self.pinned ≡ Some m → (page : ℕ) → l.fn.from ≤ page → page < l.page → is_newer_page m l.self.maps.conv l.base page ≡ false
