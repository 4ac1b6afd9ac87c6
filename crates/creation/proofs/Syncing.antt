-- Devices that are synced one by one.
--     synced_stays      what is synced stays so over calls that only read
--     synced_more      one device more
use Rattle.std.proofs.Common.{◌≡◌, ◌⊎◌, inl, inr, sym, subst, ◌∙◌, ℕ, ◌+◌, ◌<◌, arith}
use Rattle.std.proofs.lemmas.Bool.{cases_lt}
use Rattle.mdb_model.specs.declared.fault.Device.{Device}
use Rattle.mdb_host.specs.Disk.{Disk, Goes, Agree, Synced}
use Rattle.mdb_host.specs.Places.{device_at}
use Rattle.creation.specs.Devices.{SyncedUpTo}

-- what is synced stays so over calls that only read
pub synced_stays : (old new : Disk) (device : Device) → Goes old new Agree → Agree old.seen new.seen → Synced old device → Synced new device
synced_stays old new device calm seen synced image left =
    let before = calm.since new.now image calm.keeps.later (omega arith) left in
    before.2 device ∙ synced before.0 before.1 ∙ sym (seen device)

pub all_stay : (old new : Disk) (n : ℕ) → Goes old new Agree → Agree old.seen new.seen → SyncedUpTo n old → SyncedUpTo n new
all_stay old new n calm seen synced k small = synced_stays old new (device_at k) calm seen (synced k small)

-- one device more
pub synced_more : (old new : Disk) (n : ℕ) → Goes old new Agree → Agree old.seen new.seen → SyncedUpTo n old → Synced new (device_at n) → SyncedUpTo (n + 1) new
synced_more old new n calm seen synced one k small = elim (last k n small) [
  | inl lt ↦ synced_stays old new (device_at k) calm seen (synced k lt)
  | inr is ↦ subst (λ (m : ℕ). Synced new (device_at m)) (sym is) one
]
  where
    last : (k n : ℕ) → k < n + 1 → (k < n) ⊎ (k ≡ n)
    last k n small = elim (cases_lt k n) [
      | inl lt ↦ inl lt
      | inr le ↦ inr (omega (arith, small, le))
    ]
