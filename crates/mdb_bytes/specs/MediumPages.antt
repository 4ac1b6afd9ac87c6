-- The pages of media that have fixed fields, and what a check reports.
--     medium_header_format, live_set_format, check_report_format      their formats
use Rattle.std.specs.Prelude.{ℕ, List, [], ◌∷◌, ◌++◌, Bool, true, ◌&&◌, ◌==◌, nat_le, if◌then◌else◌, length, drop, take, codes}
use Rattle.mdb_model.specs.declared.fault.Device.{Device}
use Rattle.mdb_model.specs.declared.fault.Device.TheVariants.{Data, Log, Medium}
use Rattle.mdb_model.specs.declared.fault.Rule.{Rule}
use Rattle.mdb_model.specs.declared.fault.Rule.TheVariants.{Missing, Size, NoSlot, ConverterRoot, ConverterLeaf, Page as PageRule, Block, Tree, Undo, Group as GroupRule, Header, Content, Room}
use Rattle.mdb_model.specs.declared.fault.Damage.{Damage}
use Rattle.mdb_model.specs.declared.script.BackupKind.{BackupKind}
use Rattle.mdb_model.specs.declared.script.BackupKind.TheVariants.{OfPages, OfLog}
use Rattle.mdb_model.specs.declared.script.PageKind.TheVariants.{Complete, Incremental}
use Rattle.mdb_bytes.specs.declared.medium_pages.MediumHeader.{MediumHeader}
use Rattle.mdb_bytes.specs.declared.medium_pages.LiveSet.{LiveSet}
use Rattle.mdb_bytes.specs.Fields.{Field, Byte, Two, Four, Eight, Zeros, Text, Format, number_at}

-- The header

-- the number of a kind
abbrev pub kind_number : BackupKind → ℕ
kind_number (OfPages Complete) = 1
kind_number (OfPages Incremental) = 2
kind_number OfLog = 3

-- the kind of a number
abbrev pub backup_kind_of : ℕ → BackupKind
backup_kind_of number =
    if number == 1 then OfPages Complete else (if number == 2 then OfPages Incremental else OfLog)

-- the fields of the header of a medium, in order
abbrev pub medium_header_fields : MediumHeader → List Field
medium_header_fields v =
    Text (codes "MDBKMEDI") ∷ Four v.format ∷ Four (kind_number v.kind) ∷ Eight v.name.birth
    ∷ Eight v.name.generation ∷ Eight v.savepoint ∷ Eight v.base
    ∷ Eight v.first ∷ Eight v.last ∷ Four v.blocks ∷ Four v.pages ∷ Eight v.group_bytes
    ∷ Eight v.end_position ∷ Zeros 8103 ∷ []

-- the most pages of a backup
abbrev pub most_pages : ℕ
most_pages = 131072

-- the numbers that a kind does not have are 0, and a backup of pages has one commit number
abbrev pub header_kind_fits : BackupKind → MediumHeader → Bool
header_kind_fits (OfPages Complete) v =
    v.base == 0 && v.first == v.last && v.group_bytes == 0 && v.end_position == 0
header_kind_fits (OfPages Incremental) v =
    v.first == v.last && v.group_bytes == 0 && v.end_position == 0
header_kind_fits OfLog v = v.savepoint == 0 && v.base == 0

-- the limits of the header of a medium beside the room of its fields
abbrev pub medium_header_fits : MediumHeader → Bool
medium_header_fits v = v.format == 1 && nat_le v.pages most_pages && header_kind_fits v.kind v

-- what stands at the places of the header of a medium
abbrev pub medium_header_reads : List ℕ → MediumHeader
medium_header_reads bytes = record {
  format = number_at 4 8 bytes;
  kind = backup_kind_of (number_at 4 12 bytes);
  name = record { birth = number_at 8 16 bytes; generation = number_at 8 24 bytes };
  savepoint = number_at 8 32 bytes;
  base = number_at 8 40 bytes;
  first = number_at 8 48 bytes;
  last = number_at 8 56 bytes;
  blocks = number_at 4 64 bytes;
  pages = number_at 4 68 bytes;
  group_bytes = number_at 8 72 bytes;
  end_position = number_at 8 80 bytes;
}

-- the format of the header of a medium
abbrev pub medium_header_format : Format MediumHeader
medium_header_format =
    record { fits = medium_header_fits; fields = medium_header_fields; reads = medium_header_reads }

-- The live set: a bit for each page number, the highest bit of a byte first

-- the fields of a page of a live set in front of its rows
abbrev pub live_set_front : LiveSet → List Field
live_set_front v = Text (codes "MDBKLIVE") ∷ Four v.index ∷ Four v.blocks ∷ Zeros 48 ∷ []

-- the fields of a page of a live set, in order
abbrev pub live_set_fields : LiveSet → List Field
live_set_fields v = live_set_front v ++ (Text v.bits ∷ Zeros 3 ∷ [])

-- the limits of a page of a live set beside the room of its fields
abbrev pub live_set_fits : LiveSet → Bool
live_set_fits v = length v.bits == 8125

-- what stands at the places of a page of a live set
abbrev pub live_set_reads : List ℕ → LiveSet
live_set_reads bytes =
    record {
      index = number_at 4 8 bytes;
      blocks = number_at 4 12 bytes;
      bits = take 8125
          (drop 64 bytes);
    }

-- the format of a page of a live set
abbrev pub live_set_format : Format LiveSet
live_set_format = record { fits = live_set_fits; fields = live_set_fields; reads = live_set_reads }

-- What a check reports

-- the number of a kind of devices
abbrev pub device_kind : Device → ℕ
device_kind (Data volume) = 1
device_kind Log = 2
device_kind (Medium medium) = 3

-- the number of a device among those of its kind
abbrev pub device_number : Device → ℕ
device_number (Data volume) = volume
device_number Log = 0
device_number (Medium medium) = medium

-- the device of both numbers
abbrev pub device_of : (kind number : ℕ) → Device
device_of kind number =
    if kind == 1 then Data number else (if kind == 2 then Log else Medium number)

-- the numbers that devices have
abbrev pub device_fits : Device → Bool
device_fits (Data volume) = nat_le 1 volume && nat_le volume 8
device_fits Log = true
device_fits (Medium medium) = nat_le 1 medium && nat_le medium 99

-- the number of a rule
abbrev pub rule_number : Rule → ℕ
rule_number Missing = 1
rule_number Size = 2
rule_number NoSlot = 3
rule_number ConverterRoot = 4
rule_number ConverterLeaf = 5
rule_number PageRule = 6
rule_number Block = 7
rule_number Tree = 8
rule_number Undo = 9
rule_number GroupRule = 10
rule_number Header = 11
rule_number Content = 12
rule_number Room = 13

-- the rule of a number, which is 1 to 13
abbrev pub rule_of : ℕ → Rule
rule_of number =
    if number == 1 then Missing else (if number == 2 then Size
    else (if number == 3 then NoSlot else (if number == 4 then ConverterRoot else (
    if number == 5 then ConverterLeaf else (if number == 6 then PageRule
    else (if number == 7 then Block else (if number == 8 then Tree else (
    if number == 9 then Undo else (if number == 10 then GroupRule
    else (if number == 11 then Header else (if number == 12 then Content else Room)))))))))))

-- the fields of a report, in order
abbrev pub check_report_fields : Damage → List Field
check_report_fields v =
    Byte (device_kind v.device) ∷ Byte (device_number v.device) ∷ Two (rule_number v.rule)
    ∷ Four v.page ∷ Zeros 8 ∷ []

-- the limits of a report beside the room of its fields
abbrev pub check_report_fits : Damage → Bool
check_report_fits v = device_fits v.device

-- what stands at the places of a report
abbrev pub check_report_reads : List ℕ → Damage
check_report_reads bytes = record {
  device = device_of (number_at 1 0 bytes) (number_at 1 1 bytes);
  page = number_at 4 4 bytes;
  rule = rule_of (number_at 2 2 bytes);
}

-- the format of a report
abbrev pub check_report_format : Format Damage
check_report_format =
    record { fits = check_report_fits; fields = check_report_fields; reads = check_report_reads }
