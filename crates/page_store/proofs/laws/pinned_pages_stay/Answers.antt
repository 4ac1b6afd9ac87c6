use Rattle.std.proofs.Common.{List, Option, subst, arith}
use Rattle.mdb_bytes.specs.declared.converter_pages.ConverterEntry.{ConverterEntry}
use Rattle.page_store.specs.Store.{IsPinned, PinMarks, block_count}
use Rattle.page_store.proofs.laws.pinned_pages_stay.Goals as goal

pub returns : goal.returns
returns c s pinned before after store is writes place some =
    let pin : IsPinned s.maps.conv (block_count s) s.marks pinned = subst (λ (o : Option (List ConverterEntry)). PinMarks s.maps.conv (block_count s) s.marks o) is store.pins in
    writes.outside _ (omega (arith, pin.below place, store.blocks)) (λ may. may.unmarked (0, pin.marked place some))
