-- What the creation of a database writes: the catalogue on block 2, the open list on block 3, the
-- converter's leaves from block 4 on, its root after them, the log info, and the restart record.
--     leaf_count, first_root_block      how many leaves an area has, and where the root stands
--     first_restart, first_log_info      the records
--     first_catalogue, first_open_list, first_leaf, first_root      the pages
--     first_block      the bytes of each block
use Rattle.std.specs.Prelude.{ℕ, zero, suc, ◌+◌, ◌-◌, ◌/◌, ◌==◌, nat_lt, if◌then◌else◌, List, [], ◌∷◌, replicate, sum}
use Rattle.std.specs.List.{range_with_len}
use Rattle.mdb_model.specs.declared.name.Name.{Name}
use Rattle.mdb_bytes.specs.declared.restart_record.AreaState.TheVariants.{Normal}
use Rattle.mdb_bytes.specs.declared.restart_record.RestartRecord.{RestartRecord}
use Rattle.mdb_bytes.specs.declared.log_info.LogInfo.{LogInfo}
use Rattle.mdb_bytes.specs.declared.converter_pages.ConverterEntry.{ConverterEntry}
use Rattle.mdb_bytes.specs.declared.converter_pages.ConverterLeaf.{ConverterLeaf}
use Rattle.mdb_bytes.specs.declared.converter_pages.ConverterRoot.{ConverterRoot}
use Rattle.mdb_bytes.specs.declared.logical_pages.Catalogue.{Catalogue}
use Rattle.mdb_bytes.specs.declared.logical_pages.OpenList.{OpenList}
use Rattle.mdb_bytes.specs.Fields.{spelled}
use Rattle.mdb_bytes.specs.ConverterPages.{converter_leaf_fields, converter_root_fields}
use Rattle.mdb_bytes.specs.LogicalPages.{catalogue_fields, open_list_fields}

-- a leaf has the entries of 600 page numbers, of which there are as many as blocks
abbrev pub leaf_count : (blocks : ℕ) → ℕ
leaf_count blocks = (blocks + 599) / 600

-- the root stands after the leaves
abbrev pub first_root_block : (blocks : ℕ) → ℕ
first_root_block blocks = 4 + leaf_count blocks

-- a database begins with its first generation
abbrev pub first_name : (birth : ℕ) → Name
first_name birth = record { birth = birth; generation = 1 }

-- The first savepoint has number 1, and so have the stamps of its two pages.
abbrev pub first_restart : (birth : ℕ) → (volumes : List ℕ) → RestartRecord
first_restart birth volumes = record {
  format = 1;
  state = Normal;
  slot = 1;
  name = first_name birth;
  savepoint = 1;
  commit = 0;
  position = 0;
  root = first_root_block (sum volumes);
  volumes = record { items = volumes };
  base = 0;
  pending_medium = 0;
  pending_savepoint = 0;
  snapshots = record { items = [] };
}

abbrev pub first_log_info : (birth pages : ℕ) → LogInfo
first_log_info birth pages = record {
  format = 1;
  slot = 1;
  name = first_name birth;
  saved_commit = 0;
  saved_position = 0;
  pending_medium = 0;
  pages = pages;
  pending_commit = 0;
  pending_position = 0;
}

-- no table has a row
abbrev pub first_catalogue : Catalogue
first_catalogue = record { entries = replicate 500 (record { root = 0; pages = 0; cost = 0 }) }

-- no session has a transaction
abbrev pub first_open_list : OpenList
first_open_list = record { entries = record { items = [] } }

abbrev pub no_entry : ConverterEntry
no_entry = record { block = 0; stamp = 0 }

-- the catalogue is page 0, the open list page 1, and there is no other page
abbrev pub first_leaf : (leaf : ℕ) → ConverterLeaf
first_leaf zero =
    record {
      leaf = 0;
      savepoint = 1;
      entries = record { block = 2; stamp = 1 }
          ∷ record { block = 3; stamp = 1 } ∷ replicate 598 no_entry;
    }
first_leaf (suc leaf) = record { leaf = suc leaf; savepoint = 1; entries = replicate 600 no_entry }

abbrev pub first_root : (blocks : ℕ) → ConverterRoot
first_root blocks =
    record { savepoint = 1; leaves = record { items = range_with_len 4 (leaf_count blocks) } }

-- the bytes of a block from 2 up to the root
unfoldable pub first_block : (blocks block : ℕ) → List ℕ
first_block blocks block =
    if block == 2 then spelled (catalogue_fields first_catalogue)
    else if block == 3 then spelled (open_list_fields first_open_list)
    else if nat_lt block (first_root_block blocks)
    then spelled (converter_leaf_fields (first_leaf (block - 4)))
    else spelled (converter_root_fields (first_root blocks))
