-- What a line of a session keeps, from what a call on the rows keeps.
--     keeps_itself      a database as it is
--     sound_moved      it is sound after a call on the rows
--     inside_of      a reply of a session tells nothing of the devices
--     on_ok, ok_map, ok_all      what holds of a result, by a step from what held
--     refusal_keeps      what a refusal keeps
--     takes_line      after a call on the rows
--     takes_nothing      a line that is not for the administrator
use Rattle.std.proofs.Common.{◌≡◌, ◌∙◌, refl, sym, subst, ℕ, ◌<◌, ◌^◌, Result, Ok, Err, IfOk, IfErr, arith}
use Rattle.std.specs.Prelude.{OnOk}
use Rattle.mdb_model.specs.Causes.{Rose}
use Rattle.mdb_model.specs.declared.fault.PageFault.{PageFault}
use Rattle.mdb_model.specs.declared.fault.PageFault.TheVariants.{Failed}
use Rattle.mdb_model.specs.declared.name.State.TheVariants as state
use Rattle.mdb_model.specs.declared.script.Refusal.TheVariants.{WrongState, DeviceFailed, RestoreOpen, NumberEnd, Damaged}
use Rattle.mdb_model.specs.declared.script.Reply.{Reply}
use Rattle.mdb_model.specs.declared.script.Reply.TheVariants.{Refused}
use Rattle.mdb_bytes.specs.Held.{HasPageCause}
use Rattle.mdb_host.specs.Disk.{Disk}
use Rattle.mdb_host.proofs.Moments.{keeps_all}
use Rattle.page_store.specs.Steps.{KeepsStore}
use Rattle.page_store.specs.Store.{block_count}
use Rattle.redo_ring.specs.declared.ring.Ring.{Ring}
use Rattle.space_rule.specs.KnownCosts.{prepared_for}
use Rattle.space_rule.specs.Spaces.{known_costs}
use Rattle.live_area.specs.Serving.{IsSoundArea}
use Rattle.session_rows.specs.Replies.{IsOfSession, IsRefusal}
use Rattle.store_rows.specs.StoredRows.{stored_rows, HasRows}
use Rattle.open_database.specs.declared.database.Database.{Database}
use Rattle.open_database.specs.Refusing.{KeepsDatabase}
use Rattle.open_database.specs.Replies.{IsInside}
use Rattle.open_database.specs.Serving.{IsSoundDatabase, greatest_number}
use Rattle.open_database.specs.RowLines.{KeepsRows, TakesOpenLine}

-- a database as it is
pub keeps_itself : (database : Database) → KeepsDatabase database database
keeps_itself database = record { access = refl; transactions = refl; ring = refl; in_force = refl; blocks = refl; space = refl }

-- it is sound after a call on the rows
pub sound_moved : (tells : Type 0) (old new : Database) (d e : Disk) → IsSoundDatabase tells old d
    → IsSoundArea tells new.area.in_force.slots new.area.in_force.record new.area.store new.area.ring e
    → (known_costs new.space).blocks ≡ (known_costs old.space).blocks → block_count new.area.store ≡ block_count old.area.store → new.area.ring ≡ old.area.ring
    → IsSoundDatabase tells new e
sound_moved tells old new d e s area known blocks ring = record {
  area = area;
  blocks = known ∙ s.blocks ∙ sym blocks;
  birth = subst (λ (x : Ring). x.name.birth < 2 ^ 61) (sym ring) s.birth;
  generation = subst (λ (x : Ring). x.name.generation < 2 ^ 61) (sym ring) s.generation;
}

-- what holds of a result, by a step from what held
pub on_ok : {T E : Type 0} (result : Result T E) (P Q : Type 0) → (P → Q) → OnOk result P → OnOk result Q
on_ok (Ok value) P Q step is = step is
on_ok (Err fault) P Q step is = tt

pub ok_map : {T E : Type 0} (result : Result T E) (P Q : T → Type 0) → ((value : T) → P value → Q value) → IfOk result P → IfOk result Q
ok_map (Ok value) P Q step is = step value is
ok_map (Err fault) P Q step is = tt

pub ok_all : {T E : Type 0} (result : Result T E) (Q : T → Type 0) → ((value : T) → Q value) → IfOk result Q
ok_all (Ok value) Q each = each value
ok_all (Err fault) Q each = tt

-- what a refusal keeps
pub refusal_keeps : (old new : Database) (result : Result Reply PageFault) → new.access ≡ old.access → new.area.ring ≡ old.area.ring → new.area.in_force ≡ old.area.in_force
    → block_count new.area.store ≡ block_count old.area.store
    → IfOk result (λ reply. IsRefusal reply → new.transactions ≡ old.transactions)
    → IfOk result (λ reply. IsRefusal reply → known_costs new.space ≡ prepared_for (known_costs old.space) (known_costs new.space).prepared)
    → IfOk result (λ reply. IsRefusal reply → KeepsDatabase old new)
refusal_keeps old new (Ok reply) access ring in_force blocks same kept =
    λ is. record { access = access; transactions = same is; ring = ring; in_force = in_force; blocks = blocks; space = kept is }
refusal_keeps old new (Err fault) access ring in_force blocks same kept = tt

pub rows_kept : {T : Type 0} (tells : Type 0) (old new : Database) (d e : Disk) (result : Result T PageFault)
    → OnOk result (HasRows tells new.area.store e.seen × (stored_rows new.area.store e.seen ≡ stored_rows old.area.store d.seen)) → OnOk result (KeepsRows tells old new d e)
rows_kept tells old new d e (Ok value) kept = record { known = kept.0; same = kept.1 }
rows_kept tells old new d e (Err fault) kept = tt

-- a reply of a session tells nothing of the devices
pub inside_of : (reply : Reply) → IsOfSession reply → IsInside reply
inside_of (Refused DeviceFailed) is = absurd is
inside_of (Refused RestoreOpen) is = absurd is
inside_of (Refused NumberEnd) is = absurd is
inside_of (Refused (Damaged damage)) is = absurd is
inside_of (Refused _) is = tt
inside_of _ is = tt

all_inside : (result : Result Reply PageFault) → IfOk result IsOfSession → IfOk result IsInside
all_inside (Ok reply) inside = inside_of reply inside
all_inside (Err fault) inside = tt

-- a device is called failed only where a call on one failed
pub fault_cause : {T : Type 0} (failed failed_after : ℕ) (result : Result T PageFault) → IfErr result (λ fault. fault ≡ Failed → Rose failed failed_after) → result ≡ Err Failed → Rose failed failed_after
fault_cause failed failed_after (Ok value) cause is = cc
fault_cause failed failed_after (Err fault) cause is = cause cc

pub takes_line : (tells : Type 0) (d e : Disk) (failed failed_after : ℕ) (old new : Database) (result : Result Reply PageFault)
    → IsSoundDatabase tells new e → greatest_number new ≡ greatest_number old
    → (HasRows tells old.area.store d.seen → OnOk result (HasRows tells new.area.store e.seen × (stored_rows new.area.store e.seen ≡ stored_rows old.area.store d.seen)))
    → KeepsStore tells old.area.store new.area.store d e
    → IfOk result (λ reply. IsRefusal reply → KeepsDatabase old new) → IfOk result IsOfSession
    → HasPageCause (HasRows tells old.area.store d.seen) failed failed_after result
    → TakesOpenLine tells d e failed failed_after old new result
takes_line tells d e failed failed_after old new result sound numbers same keeps refused inside cause = record {
  sound = sound;
  numbers = numbers;
  same = λ known. rows_kept tells old new d e result (same known);
  keeps = λ told. (keeps.goes told).keeps;
  refused = refused;
  inside = all_inside result inside;
  later = cause.later;
  cause = fault_cause failed failed_after result cause.failed;
}

-- a line for the sessions, where they are not let in
pub takes_nothing : (tells : Type 0) (d : Disk) (failed : ℕ) (database : Database) → IsSoundDatabase tells database d
    → TakesOpenLine tells d d failed failed database database (Ok (Refused (WrongState state.Admin)))
takes_nothing tells d failed database sound = record {
  sound = sound;
  numbers = refl;
  same = λ known. record { known = known; same = refl };
  keeps = λ told. keeps_all d;
  refused = λ is. keeps_itself database;
  inside = tt;
  later = omega arith;
  cause = λ is. not_ok is;
}
  where
    not_ok : {T E : Type 0} {P : Type 0} {value : T} {fault : E} → ◌≡◌ {A = Result T E} (Ok value) (Err fault) → P
    not_ok is = cc
