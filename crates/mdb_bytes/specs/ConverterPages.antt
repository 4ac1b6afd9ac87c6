-- The converter: a root with the blocks of the leaves, and leaves of 600 entries.
--     converter_root_format, converter_leaf_format      their formats
use Rattle.std.specs.Prelude.{ℕ, List, [], ◌∷◌, ◌++◌, Bool, ◌&&◌, ◌||◌, ◌==◌, nat_le, nat_lt, length, min, drop, codes}
use Rattle.std.specs.List.{list_all}
use Rattle.mdb_bytes.specs.declared.converter_pages.ConverterEntry.{ConverterEntry}
use Rattle.mdb_bytes.specs.declared.converter_pages.ConverterLeaf.{ConverterLeaf}
use Rattle.mdb_bytes.specs.declared.converter_pages.ConverterRoot.{ConverterRoot}
use Rattle.mdb_bytes.specs.Fields.{Field, Four, Eight, Zeros, Text, Format, number_at, read_run}
use Rattle.mdb_bytes.specs.Parts.{page_room, table_fields, word_format}

-- The root

-- the fields of a converter root in front of its rows
abbrev pub converter_root_front : ConverterRoot → List Field
converter_root_front v =
    Text (codes "MDBKCONR") ∷ Eight v.savepoint ∷ Four (length v.leaves.items) ∷ Zeros 44 ∷ []

-- the fields of a converter root, in order
abbrev pub converter_root_fields : ConverterRoot → List Field
converter_root_fields v =
    converter_root_front v ++ table_fields word_format.fields 4 page_room v.leaves.items

-- the limits of a converter root beside the room of its fields
abbrev pub converter_root_fits : ConverterRoot → Bool
converter_root_fits v = nat_le (length v.leaves.items) 110

-- what stands at the places of a converter root
abbrev pub converter_root_reads : List ℕ → ConverterRoot
converter_root_reads bytes = record {
  savepoint = number_at 8 8 bytes;
  leaves =
      record {
        items = read_run word_format.reads (λ n. 4) (min (number_at 4 16 bytes) 110)
            (drop 64 bytes);
      };
}

-- the format of a converter root
abbrev pub converter_root_format : Format ConverterRoot
converter_root_format =
    record {
      fits = converter_root_fits;
      fields = converter_root_fields;
      reads =
          converter_root_reads;
    }

-- Leaves

-- the fields of a converter entry, in order
abbrev pub converter_entry_fields : ConverterEntry → List Field
converter_entry_fields v = Four v.block ∷ Eight v.stamp ∷ []

-- an entry without a block has no stamp, and one with a block has a stamp
abbrev pub converter_entry_fits : ConverterEntry → Bool
converter_entry_fits v = (v.block == 0 && v.stamp == 0) || (nat_lt 0 v.block && nat_lt 0 v.stamp)

-- what stands at the places of a converter entry
abbrev pub converter_entry_reads : List ℕ → ConverterEntry
converter_entry_reads bytes = record { block = number_at 4 0 bytes; stamp = number_at 8 4 bytes }

-- the format of a converter entry
abbrev pub converter_entry_format : Format ConverterEntry
converter_entry_format =
    record {
      fits = converter_entry_fits;
      fields = converter_entry_fields;
      reads =
          converter_entry_reads;
    }

-- the fields of a converter leaf in front of its rows
abbrev pub converter_leaf_front : ConverterLeaf → List Field
converter_leaf_front v =
    Text (codes "MDBKCONL") ∷ Four v.leaf ∷ Four 600 ∷ Eight v.savepoint ∷ Zeros 40 ∷ []

-- the fields of a converter leaf, in order
abbrev pub converter_leaf_fields : ConverterLeaf → List Field
converter_leaf_fields v =
    converter_leaf_front v ++ table_fields converter_entry_fields 12 page_room v.entries

-- there are at most 110 leaves, and each has 600 entries
abbrev pub converter_leaf_fits : ConverterLeaf → Bool
converter_leaf_fits v =
    nat_lt v.leaf 110 && length v.entries == 600 && list_all converter_entry_fits v.entries

-- what stands at the places of a converter leaf
abbrev pub converter_leaf_reads : List ℕ → ConverterLeaf
converter_leaf_reads bytes = record {
  leaf = number_at 4 8 bytes;
  savepoint = number_at 8 16 bytes;
  entries = read_run converter_entry_reads (λ e. 12) 600 (drop 64 bytes);
}

-- the format of a converter leaf
abbrev pub converter_leaf_format : Format ConverterLeaf
converter_leaf_format =
    record {
      fits = converter_leaf_fits;
      fields = converter_leaf_fields;
      reads =
          converter_leaf_reads;
    }
