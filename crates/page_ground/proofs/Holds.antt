-- What calls leave of all that a ground holds.
--     log_stays, reads_so      calls on pages leave the log and the reader in it
--     holding_so      a call on rows
--     cause_so      the cause of a fault, where more is known
--     holding_read      a call that reads the log
use Rattle.std.proofs.Common.{◌≡◌, sym, subst, ℕ, Result, Ok, Err}
use Rattle.std.specs.Prelude.{OnOk}
use Rattle.mdb_model.specs.declared.fault.Device.TheVariants.{Log}
use Rattle.mdb_model.specs.declared.fault.PageFault.{PageFault}
use Rattle.mdb_model.specs.Images.{Image}
use Rattle.mdb_model.specs.Tables.{Tables}
use Rattle.mdb_host.specs.Disk.{Disk, Agree}
use Rattle.mdb_host.proofs.Moments.{same_image}
use Rattle.mdb_bytes.specs.Held.{HasPageCause}
use Rattle.page_store.specs.Store.{Store}
use Rattle.page_store.specs.Steps.{MayWrite, KeepsStore}
use Rattle.store_rows.specs.StoredRows.{stored_rows, HasRows}
use Rattle.redo_ring.specs.declared.reader.RingReader.{RingReader}
use Rattle.page_ground.specs.LogKnown.{held_in, IsLogKnown, ReadsOn}
use Rattle.page_ground.proofs.Log.{log_volume, left_same, known_same, reads_stay}

-- calls on pages leave the log volume
pub log_stays : (tells : Type 0) (a b : Store) (before after : Disk) → KeepsStore tells a b before after → tells → after.seen Log ≡ before.seen Log
log_stays tells a b before after keeps told = log_volume a.sizes (MayWrite a) before.seen after.seen (keeps.seen told)

-- and the reader in its log
pub reads_so : (tells : Type 0) (a b : Store) (before after : Disk) (reader : RingReader) → KeepsStore tells a b before after → ReadsOn tells reader reader before.seen after.seen
reads_so tells a b before after reader keeps = reads_stay tells reader before.seen after.seen (log_stays tells a b before after keeps)

-- the rows are changed so, and all else is as it was
pub holding_so : {T : Type 0} (tells : Type 0) (a b : Store) (before after : Disk) (reader : RingReader) (rows : Tables) (result : Result T PageFault)
    → KeepsStore tells a b before after → OnOk result (HasRows tells b after.seen × (stored_rows b after.seen ≡ rows)) → IsLogKnown tells reader before.seen
    → OnOk result ((HasRows tells b after.seen × IsLogKnown tells reader after.seen) × (held_in b reader after.seen ≡ record (held_in a reader before.seen) { rows = rows }))
holding_so tells a b before after reader rows (Ok v) keeps is known =
    let same = log_stays tells a b before after keeps known.told in
    let left = left_same before.seen after.seen same reader in (
      (is.0, known_same before.seen after.seen same tells reader known),
      λ i. record (held_in a reader before.seen) {
        rows = is.1 i;
        log = record { name = reader.name; after = reader.number; commits = left i };
      },
    )
holding_so tells a b before after reader rows (Err e) keeps is known = tt

-- the cause of a fault, where more is known
pub cause_so : {T : Type 0} {known more : Type 0} {before now : ℕ} {result : Result T PageFault} → HasPageCause known before now result → HasPageCause (known × more) before now result
cause_so cause = record { later = cause.later; failed = cause.failed; whole = λ k. cause.whole k.0 }

-- a call that reads the log leaves the rows
pub holding_read : {T : Type 0} (tells : Type 0) (store : Store) (before after : Image) (reader new : RingReader) (result : Result T PageFault) → (tells → Agree before after)
    → ReadsOn tells reader new before after → HasRows tells store before → IsLogKnown tells reader before
    → OnOk result ((HasRows tells store after × IsLogKnown tells new after) × (held_in store new after ≡ record (held_in store reader before) { log = (held_in store new after).log }))
holding_read tells store before after reader new (Ok v) agree reads rows known =
    let same : before ≡ after = same_image before after (agree known.told) in
    ((subst (λ (seen : Image). HasRows tells store seen) same rows, reads.known known), λ i. record (held_in store new after) { rows = stored_rows store (sym same i) })
holding_read tells store before after reader new (Err e) agree reads rows known = tt
