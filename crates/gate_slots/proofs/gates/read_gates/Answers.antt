use Rattle.mdb_host.proofs.Reading.{reads_on}
use Rattle.gate_slots.proofs.gates.read_gates.Goals as goal

pub returns-in_err-second-clause-reads : goal.returns-in_err-second-clause-reads
returns-in_err-second-clause-reads g c = reads_on _ _ _ _ c.read_gate.ensures.reads c.read_gate-2.ensures.reads

pub returns-clause-reads : goal.returns-clause-reads
returns-clause-reads g c = reads_on _ _ _ _ c.read_gate.ensures.reads c.read_gate-2.ensures.reads
