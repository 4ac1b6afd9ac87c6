-- Logical pages: the header that all of them have, and the two of fixed fields.
--     header_fields      the first 64 bytes
--     own_number, count_on, used_on      what they say, whatever the kind
--     catalogue_format, open_list_format      the catalogue and the open list
use Rattle.std.specs.Prelude.{ℕ, ◌*◌, List, [], ◌∷◌, ◌++◌, Bool, true, ◌&&◌, ◌==◌, nat_le, length, min, map, drop}
use Rattle.std.specs.List.{list_all}
use Rattle.mdb_bytes.specs.declared.logical_pages.CatalogueEntry.{CatalogueEntry}
use Rattle.mdb_bytes.specs.declared.logical_pages.Catalogue.{Catalogue}
use Rattle.mdb_bytes.specs.declared.logical_pages.OpenEntry.{OpenEntry}
use Rattle.mdb_bytes.specs.declared.logical_pages.OpenList.{OpenList}
use Rattle.mdb_bytes.specs.Fields.{Field, Byte, Two, Four, Eight, Zeros, Format, number_at, read_run}
use Rattle.mdb_bytes.specs.Parts.{page_room, table_fields, ascend_from}

-- The kinds of logical pages. A row leaf is 1, an index page 2, an undo page 3, the catalogue 4,
-- the open list 5.
abbrev pub header_fields : (kind level table number count used next : ℕ) → List Field
header_fields kind level table number count used next =
    Byte kind ∷ Byte level ∷ Two table ∷ Four number ∷ Two count ∷ Two used ∷ Four next ∷ Zeros 48
    ∷ []

-- the number of the page
abbrev pub own_number : List ℕ → ℕ
own_number bytes = number_at 4 4 bytes

-- the number of its entries
abbrev pub count_on : List ℕ → ℕ
count_on bytes = number_at 2 8 bytes

-- the used bytes
abbrev pub used_on : List ℕ → ℕ
used_on bytes = number_at 2 10 bytes

-- The catalogue, which is page 0

-- the fields of the entry of a table, in order
abbrev pub catalogue_entry_fields : CatalogueEntry → List Field
catalogue_entry_fields v = Four v.root ∷ Four v.pages ∷ Eight v.cost ∷ []

-- every entry is allowed
abbrev pub catalogue_entry_fits : CatalogueEntry → Bool
catalogue_entry_fits v = true

-- what stands at the places of the entry of a table
abbrev pub catalogue_entry_reads : List ℕ → CatalogueEntry
catalogue_entry_reads bytes =
    record { root = number_at 4 0 bytes; pages = number_at 4 4 bytes; cost = number_at 8 8 bytes }

-- the format of the entry of a table
abbrev pub catalogue_entry_format : Format CatalogueEntry
catalogue_entry_format =
    record {
      fits = catalogue_entry_fits;
      fields = catalogue_entry_fields;
      reads =
          catalogue_entry_reads;
    }

-- the fields of the catalogue, in order
abbrev pub catalogue_fields : Catalogue → List Field
catalogue_fields v =
    header_fields 4 0 0 0 500 8000 0 ++ table_fields catalogue_entry_fields 16 page_room v.entries

-- the limits of the catalogue beside the room of its fields
abbrev pub catalogue_fits : Catalogue → Bool
catalogue_fits v = length v.entries == 500

-- what stands at the places of the catalogue
abbrev pub catalogue_reads : List ℕ → Catalogue
catalogue_reads bytes =
    record { entries = read_run catalogue_entry_reads (λ e. 16) 500 (drop 64 bytes) }

-- the format of the catalogue
abbrev pub catalogue_format : Format Catalogue
catalogue_format =
    record { fits = catalogue_fits; fields = catalogue_fields; reads = catalogue_reads }

-- The open list, which is page 1

-- the fields of the entry of a session, in order
abbrev pub open_entry_fields : OpenEntry → List Field
open_entry_fields v = Byte v.session ∷ Zeros 3 ∷ Four v.last_page ∷ Four v.count ∷ []

-- only transactions with changes stand in the list
abbrev pub open_entry_fits : OpenEntry → Bool
open_entry_fits v = nat_le 1 v.session && nat_le v.session 64 && nat_le 1 v.count

-- what stands at the places of the entry of a session
abbrev pub open_entry_reads : List ℕ → OpenEntry
open_entry_reads bytes =
    record {
      session = number_at 1 0 bytes;
      last_page = number_at 4 4 bytes;
      count = number_at 4 8
          bytes;
    }

-- the format of the entry of a session
abbrev pub open_entry_format : Format OpenEntry
open_entry_format =
    record { fits = open_entry_fits; fields = open_entry_fields; reads = open_entry_reads }

-- the fields of the open list in front of its rows
abbrev pub open_list_front : OpenList → List Field
open_list_front v = header_fields 5 0 0 1 (length v.entries.items) (12 * length v.entries.items) 0

-- the fields of the open list, in order
abbrev pub open_list_fields : OpenList → List Field
open_list_fields v =
    open_list_front v ++ table_fields open_entry_fields 12 page_room v.entries.items

-- up to 64 sessions, by ascending number
abbrev pub open_list_fits : OpenList → Bool
open_list_fits v =
    nat_le (length v.entries.items) 64 && list_all open_entry_fits v.entries.items
    && ascend_from 0 (map (λ e. e.session) v.entries.items)

-- what stands at the places of the open list
abbrev pub open_list_reads : List ℕ → OpenList
open_list_reads bytes =
    record {
      entries = record {
        items = read_run open_entry_reads (λ e. 12)
            (min (number_at 2 8 bytes) 64) (drop 64 bytes);
      };
    }

-- the format of the open list
abbrev pub open_list_format : Format OpenList
open_list_format =
    record { fits = open_list_fits; fields = open_list_fields; reads = open_list_reads }
