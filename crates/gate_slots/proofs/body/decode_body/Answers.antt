use Rattle.std.proofs.Common.{◌∙◌, Some, None}
use Rattle.gate_slots.proofs.Bodies.{data_decoded, log_decoded}
use Rattle.gate_slots.proofs.body.decode_body.Goals as goal

pub returns-in_err-decode_restart_record-in-Data-clause-value : goal.returns-in_err-decode_restart_record-in-Data-clause-value
returns-in_err-decode_restart_record-in-Data-clause-value c =
    c.from_residual.ensures ∙ data_decoded c.args.device c.in-Data.field-0 c.args.bytes.now None c.in-Data.is c.in_err-decode_restart_record-in-Data.ensures

pub returns-in_err-decode_log_info-in-Log-clause-value : goal.returns-in_err-decode_log_info-in-Log-clause-value
returns-in_err-decode_log_info-in-Log-clause-value c =
    c.from_residual-in_err-decode_log_info-in-Log.ensures ∙ log_decoded c.args.device c.args.bytes.now None c.in-Log.is c.in_err-decode_log_info-in-Log.ensures

pub returns-in_ok-decode_restart_record-in-Data-clause-value : goal.returns-in_ok-decode_restart_record-in-Data-clause-value
returns-in_ok-decode_restart_record-in-Data-clause-value c =
    data_decoded c.args.device c.in-Data.field-0 c.args.bytes.now (Some c.in_ok-decode_restart_record-in-Data.field-0) c.in-Data.is c.in_ok-decode_restart_record-in-Data.ensures

pub returns-in_ok-decode_log_info-in-Log-clause-value : goal.returns-in_ok-decode_log_info-in-Log-clause-value
returns-in_ok-decode_log_info-in-Log-clause-value c =
    log_decoded c.args.device c.args.bytes.now (Some c.in_ok-decode_log_info-in-Log.field-0) c.in-Log.is c.in_ok-decode_log_info-in-Log.ensures
