-- A map of a page store as images show it.
--     shown_map      what images show of a map on its blocks
use Rattle.std.specs.Prelude.{ℕ, List, map, take, drop}
use Rattle.std.specs.FinMap.{from_sorted}
use Rattle.mdb_bytes.specs.declared.converter_pages.ConverterEntry.{ConverterEntry}
use Rattle.mdb_bytes.specs.KeptMaps.{KeptMap, placed}

-- A map of which the first entries are the converter's own pages, and the others the pages with
-- these bytes.
abbrev pub shown_map : (conv : ℕ) → List ConverterEntry → (pages : ℕ → List ℕ) → KeptMap
shown_map conv m pages = record {
  converter = map (λ e. e.block) (take conv m);
  places = placed (drop conv m);
  pages = from_sorted (map (λ e. (e.0, record { stamp = e.1.stamp; bytes = pages e.0 }))
      (placed (drop conv m)));
}
