-- Faults of locks as those of a line.
--     fault_of      a lock that is not given, as the fault of a line
use Rattle.record_locks.specs.declared.fault.LockFault.{LockFault}
use Rattle.record_locks.specs.declared.fault.LockFault.TheVariants as lock
use Rattle.transactions.specs.declared.fault.TxFault.{TxFault}
use Rattle.transactions.specs.declared.fault.TxFault.TheVariants.{Locked, Memory}

-- a lock that is not given, as the fault of a line
abbrev pub fault_of : LockFault → TxFault
fault_of (lock.Held holder) = Locked holder
fault_of lock.Memory = Memory
