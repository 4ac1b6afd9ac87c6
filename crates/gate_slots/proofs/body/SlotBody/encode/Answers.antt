use Rattle.gate_slots.proofs.Bodies.{restart_encoded, log_encoded}
use Rattle.gate_slots.proofs.body.SlotBody.encode.Goals as goal

pub returns-in-Restart : goal.returns-in-Restart
returns-in-Restart c = restart_encoded c.args.self.now c.in-Restart.record c.encode_restart_record.new.into c.in-Restart.is c.encode_restart_record.ensures

pub returns-in-Log : goal.returns-in-Log
returns-in-Log c = log_encoded c.args.self.now c.in-Log.info c.encode_log_info.new.into c.in-Log.is c.encode_log_info.ensures
