-- The pages of media are read back, and have their length.
--     medium_header_again, length-medium_header      the header
--     live_set_again, length-live_set      the live set
--     check_report_again, length-check_report      a report
use Rattle.std.proofs.Common.{◌≡◌, refl, ap, ◌∙◌, ℕ, true, List, [], ◌∷◌, length, take, drop, arith}
use Rattle.std.specs.Prelude.{IsTrue}
use Rattle.std.specs.List.{list_all}
use Rattle.std.proofs.lemmas.Bool.{eqb-true}
use Rattle.std.proofs.lemmas.List.{take_at}
use Rattle.mdb_model.specs.declared.fault.Device.{Device}
use Rattle.mdb_model.specs.declared.fault.Device.TheVariants.{Data, Log, Medium}
use Rattle.mdb_model.specs.declared.fault.Rule.{Rule}
use Rattle.mdb_model.specs.declared.fault.Rule.TheVariants.{Missing, Size, NoSlot, ConverterRoot, ConverterLeaf, Page as PageRule, Block, Tree, Undo, Group as GroupRule, Header, Content, Room}
use Rattle.mdb_model.specs.declared.script.BackupKind.{BackupKind}
use Rattle.mdb_model.specs.declared.script.BackupKind.TheVariants.{OfPages, OfLog}
use Rattle.mdb_model.specs.declared.script.PageKind.TheVariants.{Complete, Incremental}
use Rattle.mdb_bytes.specs.declared.medium_pages.LiveSet.{LiveSet}
use Rattle.mdb_bytes.specs.Fields.{Field, Zeros, Text, ReadsBack, field_fits, spelled, number_at}
use Rattle.mdb_bytes.specs.Parts.{HasLength}
use Rattle.mdb_bytes.specs.MediumPages.{kind_number, backup_kind_of, medium_header_fields, medium_header_fits, medium_header_format, live_set_front, live_set_fields, live_set_fits, live_set_format, device_kind, device_number, device_of, rule_number, rule_of, check_report_fields, check_report_fits, check_report_format}
use Rattle.mdb_bytes.proofs.Decoding.{and_left, and_right}
use Rattle.mdb_bytes.proofs.ReadBack.{byte_in, two_in, four_in, eight_in}
use Rattle.mdb_bytes.proofs.PartBytes.{length-spelled}
use Rattle.mdb_bytes.proofs.TableLaws.{drop_fields}

-- a kind is read again
kind_again : (kind : BackupKind) → backup_kind_of (kind_number kind) ≡ kind
kind_again (OfPages Complete) = refl
kind_again (OfPages Incremental) = refl
kind_again OfLog = refl

-- how many bytes the header of a medium has
pub length-medium_header : HasLength medium_header_format 8191
length-medium_header v kept = length-spelled (medium_header_fields v)

-- the header of a medium is read again
pub medium_header_again : ReadsBack medium_header_format
medium_header_again v kept =
    let fs = medium_header_fields v in
    let fit : list_all field_fits fs ≡ true = and_right (medium_header_fits v) _ kept in
    let kind : backup_kind_of (number_at 4 12 (spelled fs)) ≡ v.kind = ap backup_kind_of (four_in fs 12 (kind_number v.kind) fit refl) ∙ kind_again v.kind in
    λ i. record {
      format = four_in fs 8 v.format fit refl i;
      kind = kind i;
      name = record { birth = eight_in fs 16 v.name.birth fit refl i; generation = eight_in fs 24 v.name.generation fit refl i };
      savepoint = eight_in fs 32 v.savepoint fit refl i;
      base = eight_in fs 40 v.base fit refl i;
      first = eight_in fs 48 v.first fit refl i;
      last = eight_in fs 56 v.last fit refl i;
      blocks = four_in fs 64 v.blocks fit refl i;
      pages = four_in fs 68 v.pages fit refl i;
      group_bytes = eight_in fs 72 v.group_bytes fit refl i;
      end_position = eight_in fs 80 v.end_position fit refl i;
    }

-- there are 8,125 bytes of bits
bits_all : (v : LiveSet) → IsTrue (live_set_fits v) → length v.bits ≡ 8125
bits_all v fits = eqb-true (length v.bits) 8125 fits

-- how many bytes a page of a live set has
pub length-live_set : HasLength live_set_format 8192
length-live_set v kept =
    let all = bits_all v (and_left (live_set_fits v) _ kept) in
    length-spelled (live_set_fields v) ∙ omega (arith, all)

-- a text that begins some fields, of any length
text_first : (n : ℕ) (bytes : List ℕ) (more : List Field) → length bytes ≡ n → take n (spelled (Text bytes ∷ more)) ≡ bytes
unfolding spelled
text_first n bytes more len = take_at bytes (spelled more) n len

-- a page of a live set is read again
pub live_set_again : ReadsBack live_set_format
live_set_again v kept =
    let all = bits_all v (and_left (live_set_fits v) _ kept) in
    let fs = live_set_fields v in
    let fit : list_all field_fits fs ≡ true = and_right (live_set_fits v) _ kept in
    let bits : take 8125 (drop 64 (spelled fs)) ≡ v.bits =
    ap (λ (l : List ℕ). take 8125 l) (drop_fields (live_set_front v) (Text v.bits ∷ Zeros 3 ∷ []) 64 refl) ∙ text_first 8125 v.bits (Zeros 3 ∷ []) all in
    λ i. record { index = four_in fs 8 v.index fit refl i; blocks = four_in fs 12 v.blocks fit refl i; bits = bits i }

-- a device is read again
device_again : (device : Device) → device_of (device_kind device) (device_number device) ≡ device
device_again (Data volume) = refl
device_again Log = refl
device_again (Medium medium) = refl

-- a rule is read again
rule_again : (rule : Rule) → rule_of (rule_number rule) ≡ rule
rule_again Missing = refl
rule_again Size = refl
rule_again NoSlot = refl
rule_again ConverterRoot = refl
rule_again ConverterLeaf = refl
rule_again PageRule = refl
rule_again Block = refl
rule_again Tree = refl
rule_again Undo = refl
rule_again GroupRule = refl
rule_again Header = refl
rule_again Content = refl
rule_again Room = refl

-- how many bytes a report has
pub length-check_report : HasLength check_report_format 16
length-check_report v kept = length-spelled (check_report_fields v)

-- a report is read again
pub check_report_again : ReadsBack check_report_format
check_report_again v kept =
    let fs = check_report_fields v in
    let fit : list_all field_fits fs ≡ true = and_right (check_report_fits v) _ kept in
    let device : device_of (number_at 1 0 (spelled fs)) (number_at 1 1 (spelled fs)) ≡ v.device =
    (λ i. device_of (byte_in fs 0 (device_kind v.device) fit refl i) (byte_in fs 1 (device_number v.device) fit refl i)) ∙ device_again v.device in
    let rule : rule_of (number_at 2 2 (spelled fs)) ≡ v.rule = ap rule_of (two_in fs 2 (rule_number v.rule) fit refl) ∙ rule_again v.rule in
    λ i. record { device = device i; page = four_in fs 4 v.page fit refl i; rule = rule i }
