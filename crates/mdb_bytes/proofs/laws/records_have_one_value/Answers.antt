use Rattle.mdb_bytes.specs.SlotRecords.{log_info_format, restart_format, snapshot_format}
use Rattle.mdb_bytes.specs.ConverterPages.{converter_root_format, converter_leaf_format}
use Rattle.mdb_bytes.specs.LogicalPages.{catalogue_format, open_list_format}
use Rattle.mdb_bytes.specs.MediumPages.{medium_header_format, live_set_format, check_report_format}
use Rattle.mdb_bytes.proofs.Decoding.{one_value}
use Rattle.mdb_bytes.proofs.SlotRecordLaws.{log_info_again, restart_again, snapshot_entry_again}
use Rattle.mdb_bytes.proofs.ConverterLaws.{converter_root_again, converter_leaf_again}
use Rattle.mdb_bytes.proofs.LogicalPageLaws.{catalogue_again, open_list_again}
use Rattle.mdb_bytes.proofs.MediumLaws.{medium_header_again, live_set_again, check_report_again}
use Rattle.mdb_bytes.proofs.laws.records_have_one_value.Goals as goal

pub returns-clause-log_info : goal.returns-clause-log_info
returns-clause-log_info c = one_value log_info_format log_info_again

pub returns-clause-restart : goal.returns-clause-restart
returns-clause-restart c = one_value restart_format restart_again

pub returns-clause-snapshot : goal.returns-clause-snapshot
returns-clause-snapshot c = one_value snapshot_format snapshot_entry_again

pub returns-clause-converter_root : goal.returns-clause-converter_root
returns-clause-converter_root c = one_value converter_root_format converter_root_again

pub returns-clause-converter_leaf : goal.returns-clause-converter_leaf
returns-clause-converter_leaf c = one_value converter_leaf_format converter_leaf_again

pub returns-clause-catalogue : goal.returns-clause-catalogue
returns-clause-catalogue c = one_value catalogue_format catalogue_again

pub returns-clause-open_list : goal.returns-clause-open_list
returns-clause-open_list c = one_value open_list_format open_list_again

pub returns-clause-medium_header : goal.returns-clause-medium_header
returns-clause-medium_header c = one_value medium_header_format medium_header_again

pub returns-clause-live_set : goal.returns-clause-live_set
returns-clause-live_set c = one_value live_set_format live_set_again

pub returns-clause-check_report : goal.returns-clause-check_report
returns-clause-check_report c = one_value check_report_format check_report_again
