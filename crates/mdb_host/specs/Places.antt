-- The devices that have a file, in a row.
use Rattle.std.specs.Prelude.{ℕ, ◌+◌, ◌-◌, ◌≤◌, cond, ◌==◌}
use Rattle.std.proofs.Common.{nat_lt}
use Rattle.mdb_model.specs.declared.fault.Device.{Device}
use Rattle.mdb_model.specs.declared.fault.Device.TheVariants.{Data, Log, Medium}

-- eight data volumes, the log volume, ninety-nine media
abbrev pub device_at : ℕ → Device
device_at place =
    cond (nat_lt place 8) (Data (place + 1)) (cond (place == 8) Log (Medium (place - 8)))

-- it has a number of a database's device
abbrev pub IsNamed : Device → Type 0
IsNamed Log = Unit {0}
IsNamed (Data n) = (1 ≤ n) × (n ≤ 8)
IsNamed (Medium n) = (1 ≤ n) × (n ≤ 99)
