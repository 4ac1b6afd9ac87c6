-- Commit groups: what a commit is in the log.
use Rattle.std.specs.Prelude.{ℕ, ◌+◌, List, [], ◌∷◌, ◌++◌, Bool, ◌&&◌, ◌==◌, if◌then◌else◌, length, map, drop, take, nat_le}
use Rattle.std.specs.List.{flat_map, list_all}
use Rattle.mdb_model.specs.declared.change.Change.{Change}
use Rattle.mdb_model.specs.declared.change.Change.TheVariants.{Put, Del}
use Rattle.mdb_model.specs.declared.name.Name.{Name}
use Rattle.mdb_model.specs.declared.name.Table.{Table}
use Rattle.mdb_model.specs.Tables.{place_cmp, place_of}
use Rattle.mdb_model.specs.Sessions.{change_bytes, group_bytes}
use Rattle.mdb_bytes.specs.Fields.{Field, Byte, Two, Four, Eight, Text, Format, number_at, read_run, rises}
use Rattle.mdb_model.specs.Script.{is_table, is_key, is_value}

-- a gate with this byte is open, and with each other one closed
abbrev pub open_gate : ℕ
open_gate = 79

-- the changes of a commit, with the number that it got and the database
pub record Group : Type 0 where
  pub name : Name
  pub number : ℕ
  pub changes : List Change

abbrev pub change_fields : Change → List Field
change_fields (Put table key value) =
    Two table.0 ∷ Byte 1 ∷ Two (length key) ∷ Two (length value) ∷ Text key ∷ Text value ∷ []
change_fields (Del table key) = Two table.0 ∷ Byte 2 ∷ Two (length key) ∷ Two 0 ∷ Text key ∷ []

abbrev pub change_fits : Change → Bool
change_fits (Put table key value) = is_table table.0 && is_key key && is_value value
change_fits (Del table key) = is_table table.0 && is_key key

abbrev pub change_reads : List ℕ → Change
change_reads bytes =
    let table : Table = record { 0 = number_at 2 0 bytes } in
    let key_len = number_at 2 3 bytes in
    let key = take key_len (drop 7 bytes) in
    if number_at 1 2 bytes == 1 then Put table key
    (take (number_at 2 5 bytes) (drop (7 + key_len) bytes)) else Del table key

abbrev pub group_head : Group → List Field
group_head v =
    Byte open_gate ∷ Four (group_bytes v.changes) ∷ Eight v.name.birth ∷ Eight v.name.generation
    ∷ Eight v.number ∷ Four (length v.changes) ∷ []

abbrev pub group_fields : Group → List Field
group_fields v = group_head v ++ flat_map change_fields v.changes

-- the bytes that a group may have at most
abbrev pub longest_group : ℕ
longest_group = 1048576

-- the changes ascend by table and key, and the group is not too long
abbrev pub group_fits : Group → Bool
group_fits v =
    (list_all change_fits v.changes && rises place_cmp (map place_of v.changes))
    && nat_le (group_bytes v.changes) longest_group

abbrev pub group_reads : List ℕ → Group
group_reads bytes = record {
  name = record { birth = number_at 8 5 bytes; generation = number_at 8 13 bytes };
  number = number_at 8 21 bytes;
  changes = read_run change_reads change_bytes (number_at 4 29 bytes) (drop 33 bytes);
}

abbrev pub group_format : Format Group
group_format = record { fits = group_fits; fields = group_fields; reads = group_reads }
