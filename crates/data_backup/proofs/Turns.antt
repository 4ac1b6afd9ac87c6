-- Pages that are copied one after another.
--     same_run      a run by its fields
--     turn_torn, turn_goes      one write more in the room of a turn
--     blank_throughout      a medium that is written behind its first page stays blank
use Rattle.std.proofs.Common.{◌≡◌, subst, inl, ℕ, ◌+◌, ◌≤◌, arith}
use Rattle.mdb_model.specs.declared.fault.Device.TheVariants.{Medium}
use Rattle.mdb_model.specs.Images.{Image}
use Rattle.mdb_host.specs.Disk.{Disk, Goes, Torn}
use Rattle.mdb_host.proofs.Moments.{onward, widen, torn_twice}
use Rattle.mdb_bytes.specs.Parts.{page_len}
use Rattle.mdb_bytes.specs.SlotRecords.{slot_len}
use Rattle.medium_file.specs.Media.{IsBlankMedium}
use Rattle.medium_file.specs.Writing.{LeavesBlank}
use Rattle.medium_file.proofs.Places.{torn_within}
use Rattle.medium_file.proofs.Writers.{blank_same}
use Rattle.data_backup.specs.declared.run.BackupRun.{BackupRun}

-- a run by its fields
pub same_run : (run : BackupRun) (medium pages appended base : ℕ) → run.writer.medium ≡ medium → run.writer.pages ≡ pages → run.writer.appended ≡ appended → run.base ≡ base
    → run ≡ record { writer = record { medium = medium; pages = pages; appended = appended }; base = base; last = run.last; left = run.left }
same_run run medium pages appended base m p a b = λ i. record { writer = record { medium = m i; pages = p i; appended = a i }; base = b i; last = run.last; left = run.left }

module _ (m also at n low len : ℕ) (same : also ≡ m) (from : low ≤ at) (to : at + n ≤ low + len) where
  -- a write in the room of a turn
  wider : (a b : Image) → Torn (Medium also) at n a b → Torn (Medium m) low len a b
  wider a b torn = torn_within (Medium m) at n low len a b from to (subst (λ (k : ℕ). Torn (Medium k) at n a b) same torn)

  -- one more in what a read gives
  pub turn_torn : (a b c : Image) → Torn (Medium m) low len a b → Torn (Medium also) at n b c → Torn (Medium m) low len a c
  turn_torn a b c one two = torn_twice (Medium m) low len a b c one (wider b c two)

  -- one more in each image
  pub turn_goes : (old mid new : Disk) → Goes old mid (Torn (Medium m) low len) → Goes mid new (Torn (Medium also) at n) → Goes old new (Torn (Medium m) low len)
  turn_goes old mid new one two =
      onward old mid new (Torn (Medium m) low len) (torn_twice (Medium m) low len) one (widen mid new (Torn (Medium also) at n) (Torn (Medium m) low len) two (λ a b left torn. wider a b torn))

-- a medium that is written behind its first page stays blank
pub blank_throughout : (m at n : ℕ) (old new : Disk) → page_len ≤ at → LeavesBlank old m → Goes old new (Torn (Medium m) at n) → Goes old new (λ a b. IsBlankMedium b m)
blank_throughout m at n old new behind blank goes =
    widen old new (Torn (Medium m) at n) (λ a b. IsBlankMedium b m) goes (λ a b left torn. blank_same a b m (torn.outside slot_len (inl (omega (arith, behind)))) (blank a left))
