-- What holds after a call of the transactions but for a fault of pages, holds after its answer.
--     kept_answer      so it does
use Rattle.std.proofs.Common.{Result, Ok, Err}
use Rattle.std.specs.Prelude.{OnOk}
use Rattle.mdb_model.specs.declared.script.Reply.{Reply}
use Rattle.transactions.specs.declared.fault.TxFault.{TxFault}
use Rattle.transactions.specs.declared.fault.TxFault.TheVariants as tx
use Rattle.transactions.specs.Calls.{UnlessPage}
use Rattle.session_rows.specs.declared.room.Room.{Room}
use Rattle.session_rows.specs.Replies.{reply_of}

module _ {T : Type 0} (said : T → Reply) (room : Room) where
  pub kept_answer : (P : Type 0) (result : Result T TxFault) → UnlessPage result P → OnOk (reply_of said room result) P
  kept_answer P (Ok value) is = is
  kept_answer P (Err (tx.Page fault)) is = tt
  kept_answer P (Err (tx.Locked holder)) is = is
  kept_answer P (Err (tx.TooLarge bytes)) is = is
  kept_answer P (Err tx.Memory) is = is
  kept_answer P (Err tx.Full) is = is
