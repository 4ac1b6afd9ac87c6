-- No row of a world that is served has an empty key.
--     keys_served      the law
use Rattle.std.proofs.Common.{◌≡◌, refl, sym, ap, ◌∙◌, ℕ, [], Option, Some, None}
use Rattle.std.specs.FinMap.{get}
use Rattle.mdb_model.specs.History.{tables_of}
use Rattle.mdb_model.specs.Tables.{Tables}
use Rattle.mdb_model.specs.Worlds.{World}
use Rattle.mdb_host.specs.Disk.{Disk}
use Rattle.mdb_bytes.specs.declared.restart_record.RestartRecord.{RestartRecord}
use Rattle.gate_slots.specs.declared.slots.Slots.{Slots}
use Rattle.page_store.specs.LogicalPages.{store_pages}
use Rattle.page_store.specs.Store.{Store}
use Rattle.redo_ring.specs.declared.ring.Ring.{Ring}
use Rattle.run_forms.proofs.Standing.{some_key}
use Rattle.store_rows.specs.StoredRows.{stored_rows}
use Rattle.live_area.specs.Serving.{ServesWorld}

-- what is never some is none
none_there : {A : Type 0} (o : Option A) → ((x : A) → o ≡ Some x → ⊥) → o ≡ None
none_there None never = refl
none_there (Some x) never = absurd (never x refl)

pub keys_served : (tells : Type 0) (slots : Slots) (r : RestartRecord) (s : Store) (ring : Ring) (d : Disk) (w : World) → ServesWorld tells slots r s ring d w → (table : ℕ) → get (tables_of w.history) (table, []) ≡ None
keys_served tells slots r s ring d w serves table =
    ap (λ (rows : Tables). get rows (table, [])) (sym serves.all_set)
    ∙ none_there (get (stored_rows s d.seen) (table, [])) (λ value is. some_key (store_pages s d.seen) table value serves.rows.1 is)
