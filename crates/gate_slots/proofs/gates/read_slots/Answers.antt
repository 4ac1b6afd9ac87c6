use Rattle.mdb_host.proofs.Reading.{reads_on}
use Rattle.gate_slots.specs.declared.place.Slot.TheVariants.{Second}
use Rattle.gate_slots.proofs.Chosen.{page_same}
use Rattle.gate_slots.proofs.gates.read_slots.Goals as goal

pub returns-in_err-second-clause-reads : goal.returns-in_err-second-clause-reads
returns-in_err-second-clause-reads g c = reads_on _ _ _ _ c.read_slot.ensures.reads c.read_slot-2.ensures.reads

pub returns-clause-reads : goal.returns-clause-reads
returns-clause-reads g c = reads_on _ _ _ _ c.read_slot.ensures.reads c.read_slot-2.ensures.reads

pub returns-clause-second : goal.returns-clause-second
returns-clause-second g c told =
    page_same (g.H.Host.disk c.args.host.now).seen (g.H.Host.disk c.read_slot.new.host).seen c.args.place Second c.in_ok-second.second (c.read_slot.ensures.reads.seen told) (c.in_ok-second.ensures.page told)
