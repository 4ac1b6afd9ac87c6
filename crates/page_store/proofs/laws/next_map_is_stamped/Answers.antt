use Rattle.std.proofs.Common.{◌≡◌, ◌+◌, ap, arith}
use Rattle.mdb_bytes.specs.declared.converter_pages.ConverterEntry.{ConverterEntry}
use Rattle.converter.specs.Maps.{entry_at}
use Rattle.page_store.specs.Stamps.{page_entry}
use Rattle.page_store.proofs.laws.next_map_is_stamped.Goals as goal

pub returns : goal.returns
returns c s seen image was commit position map is next page =
    let same : (entry_at map (s.maps.conv + page)).stamp ≡ (page_entry s page).stamp = ap (λ (e : ConverterEntry). e.stamp) (next.entries (s.maps.conv + page) (omega arith)) in
    omega (arith, same, is.present page)
