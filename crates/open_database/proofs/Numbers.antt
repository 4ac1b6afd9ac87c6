-- The numbers of a database that grow.
--     left_enough      while they are low there are numbers left for savepoints
--     grown, greatest_grown      they grow by little
use Rattle.std.proofs.Common.{◌≡◌, ℕ, ◌+◌, ◌-◌, ◌^◌, ◌<◌, ◌≤◌, max, arith}
use Rattle.mdb_bytes.specs.declared.restart_record.RestartRecord.{RestartRecord}
use Rattle.page_store.specs.SavingStays.{numbers_left}
use Rattle.page_store.specs.Store.{Store}
use Rattle.open_database.specs.declared.database.Database.{Database}
use Rattle.open_database.specs.Groups.{IsGroupTaken}
use Rattle.open_database.specs.Serving.{greatest_number}

-- there are numbers left for as many savepoints as a group has bytes, and more
pub left_enough : (r : RestartRecord) (s : Store) (k : ℕ) → s.next ≡ r.savepoint + 1 → r.savepoint ≤ 2 ^ 62 - 2 ^ 40 → r.slot ≤ 2 ^ 62 - 2 ^ 40 → k ≤ 2 ^ 30 → k < numbers_left r s
left_enough r s k next savepoint slot few = omega (arith, next, savepoint, slot, few)

-- so many savepoints were made
pub grown : (r r2 : RestartRecord) (s s2 : Store) (k : ℕ) → s.next ≡ r.savepoint + 1 → s2.next ≡ r2.savepoint + 1 → r.savepoint ≤ 2 ^ 62 - 2 ^ 40 → r.slot ≤ 2 ^ 62 - 2 ^ 40 → k ≤ 2 ^ 30
    → numbers_left r s ≤ numbers_left r2 s2 + k → (r2.savepoint ≤ max r.savepoint r.slot + k) × (r2.slot ≤ max r.savepoint r.slot + 1 + k)
grown r r2 s s2 k next next2 savepoint slot few left = (omega (arith, next, next2, savepoint, slot, few, left), omega (arith, next, next2, savepoint, slot, few, left))

-- a group of so many bytes was taken
pub greatest_grown : (old new : Database) (n : ℕ) → greatest_number old ≤ 2 ^ 62 - 2 ^ 40 → n ≤ 1048576
    → old.area.store.next ≡ old.area.in_force.record.savepoint + 1 → new.area.store.next ≡ new.area.in_force.record.savepoint + 1
    → numbers_left old.area.in_force.record old.area.store ≤ numbers_left new.area.in_force.record new.area.store + (n + 1)
    → IsGroupTaken old.area.ring new.area.ring n → greatest_number new ≤ greatest_number old + 2 ^ 35
greatest_grown old new n low few next next2 left taken =
    let g = grown old.area.in_force.record new.area.in_force.record old.area.store new.area.store (n + 1) next next2 (omega (arith, low)) (omega (arith, low)) (omega (arith, few)) left in
    omega (arith, g.0, g.1, taken.end, taken.last, few)
