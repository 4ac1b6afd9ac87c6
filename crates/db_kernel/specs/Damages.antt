-- Why an opening may be refused.
--     whole_damage      a device breaks a rule as a whole
--     log_start_of      where the log begins, by the records in force
--     IsDamagedInFront      the devices as a whole, or the records, break this rule
--     IsRestoring, IsPastEnd      the record says that a restore is open; a number is past the end
--         of all numbers
--     past_end_in, IsInReach      the same as a test of a line and an image; neither is so
--     RefusesInFront, Refuses      the image has what reading its records, and an opening, is
--         refused for
--     RefusalReports, RepliesDamage      a refusal, and a reply, that tells of the devices has it
use Rattle.std.specs.Prelude.{◌≡◌, ◌≢◌, ◌⊎◌, ℕ, ◌+◌, ◌^◌, ◌<◌, nat_lt, nat_le, if◌then◌else◌, List, [], ◌∷◌, length, get_or, sum, take, Bool, false, ◌||◌, IsTrue, Option, Some, None, Err}
use Rattle.std.specs.List.{list_any}
use Rattle.mdb_model.specs.declared.fault.Damage.{Damage}
use Rattle.mdb_model.specs.declared.fault.Device.{Device}
use Rattle.mdb_model.specs.declared.fault.Device.TheVariants.{Data, Log}
use Rattle.mdb_model.specs.declared.fault.OpenFault.TheVariants.{Damaged}
use Rattle.mdb_model.specs.declared.fault.Rule.{Rule}
use Rattle.mdb_model.specs.declared.fault.Rule.TheVariants.{Missing, Size, NoSlot}
use Rattle.mdb_model.specs.declared.script.Refusal.{Refusal}
use Rattle.mdb_model.specs.declared.script.Refusal.TheVariants.{Damaged as ToldDamaged, DeviceFailed, MemoryWanting, RestoreOpen as ToldRestoreOpen, NumberEnd}
use Rattle.mdb_model.specs.declared.script.Reply.{Reply}
use Rattle.mdb_model.specs.declared.script.Reply.TheVariants.{Refused}
use Rattle.mdb_model.specs.declared.script.Command.{Command}
use Rattle.mdb_model.specs.declared.script.Command.TheVariants.{DbAdmin, DbOnline}
use Rattle.mdb_model.specs.Images.{Image}
use Rattle.mdb_host.specs.Disk.{page_count}
use Rattle.mdb_bytes.specs.declared.log_info.LogInfo.{LogInfo}
use Rattle.mdb_bytes.specs.declared.restart_record.AreaState.TheVariants.{Normal, RestoreOpen}
use Rattle.mdb_bytes.specs.declared.restart_record.RestartRecord.{RestartRecord}
use Rattle.mdb_bytes.specs.declared.restart_record.SnapshotEntry.{SnapshotEntry}
use Rattle.mdb_bytes.specs.Rings.{ring_byte, ring_size}
use Rattle.gate_slots.specs.declared.body.SlotBody.{SlotBody}
use Rattle.gate_slots.specs.declared.body.SlotBody.TheVariants.{Restart, Log as LogBody}
use Rattle.gate_slots.specs.Slots.{in_force}
use Rattle.redo_ring.specs.declared.open.LogStart.{LogStart}
use Rattle.redo_ring.specs.Opening.{OpenFinds}
use Rattle.standing.specs.Standing.{data_slots, log_slots}

-- a device breaks a rule as a whole
abbrev pub whole_damage : Device → Rule → Damage
whole_damage device rule = record { device = device; page = 0; rule = rule }

-- these records are in force
abbrev pub HasRestart : Image → RestartRecord → Type 0
HasRestart image restart = in_force image data_slots ≡ Some (Restart restart)

abbrev pub HasLogInfo : Image → LogInfo → Type 0
HasLogInfo image info = in_force image log_slots ≡ Some (LogBody info)

-- a log info of an earlier generation than the record tells nothing: all up to the record is saved
-- then
abbrev pub is_earlier : RestartRecord → LogInfo → Bool
is_earlier restart info = nat_lt info.name.generation restart.name.generation

-- where the log begins
abbrev pub log_start_of : RestartRecord → LogInfo → LogStart
log_start_of restart info = record {
  name = restart.name;
  pages = info.pages;
  position = restart.position;
  commit = restart.commit;
  saved_position = if is_earlier restart info then restart.position else info.saved_position;
  saved_commit = if is_earlier restart info then restart.commit else info.saved_commit;
}

-- Damage

-- the log volume, the first data volume and those that the record names are needed
abbrev pub IsNeeded : Image → Device → Type 0
IsNeeded image device =
    (device ≡ Log) ⊎ ((device ≡ Data 1)
    ⊎ ((restart : RestartRecord) × HasRestart image restart
    × ((i : ℕ) × (i < length restart.volumes.items) × (device ≡ Data (i + 1)))))

-- a device that is needed is absent
abbrev pub IsMissing : Image → Damage → Type 0
IsMissing image damage =
    (device : Device) × IsNeeded image device × (image device ≡ None)
    × (damage ≡ whole_damage device Missing)

-- the log volume has too few or too many pages, or others than the log info says
abbrev pub IsLogOutOfSize : Image → Damage → Type 0
IsLogOutOfSize image damage =
    (pages : ℕ) × (page_count (image Log) ≡ Some pages) × (damage ≡ whole_damage Log Size)
    × ((pages < 4) ⊎ ((65536 < pages) ⊎ ((info : LogInfo) × HasLogInfo image info
    × (info.pages ≢ pages))))

-- the first data volume has too few or too many
abbrev pub IsFirstOutOfSize : Image → Damage → Type 0
IsFirstOutOfSize image damage =
    (pages : ℕ) × (page_count (image (Data 1)) ≡ Some pages) × (damage ≡ whole_damage (Data 1) Size)
    × ((pages < 64) ⊎ (65536 < pages))

-- a data volume has other pages than the record says, or those in the record break the limits of a
-- data area with it
pub record IsVolumeOutOfSize (image : Image) (damage : Damage) : Type 0 where
  pub restart : RestartRecord
  pub in_force : HasRestart image restart
  pub volume : ℕ
  pub inside : volume < length restart.volumes.items
  pub is : damage ≡ whole_damage (Data (volume + 1)) Size
  pub wrong : (page_count (image (Data (volume + 1)))
      ≢ Some (get_or restart.volumes.items volume 0))
      ⊎ ((get_or restart.volumes.items volume 0 < 64)
      ⊎ ((65536 < sum (take (volume + 1) restart.volumes.items))
      ⊎ ((volume + 1 ≡ length restart.volumes.items) × (sum restart.volumes.items < 512))))

-- neither slot counts
abbrev pub HasNoSlot : Image → Damage → Type 0
HasNoSlot image damage =
    ((in_force image data_slots ≡ None) × (damage ≡ whole_damage (Data 1) NoSlot))
    ⊎ ((in_force image log_slots ≡ None) × (damage ≡ whole_damage Log NoSlot))

-- damage that shows before pages and the log are read
abbrev pub IsDamagedInFront : Image → Damage → Type 0
IsDamagedInFront image damage =
    IsMissing image damage ⊎ (IsLogOutOfSize image damage
    ⊎ (IsFirstOutOfSize image damage
    ⊎ (IsVolumeOutOfSize image damage ⊎ HasNoSlot image damage)))

-- Other causes

-- the record says that a restore was begun and not ended
abbrev pub IsRestoring : Image → Type 0
IsRestoring image =
    (restart : RestartRecord) × HasRestart image restart × (restart.state ≡ RestoreOpen)

-- the numbers of the records that grow, beside those of snapshots
abbrev pub restart_numbers : RestartRecord → List ℕ
restart_numbers restart =
    restart.slot ∷ restart.name.birth ∷ restart.name.generation ∷ restart.savepoint ∷ restart.commit
    ∷ restart.position ∷ restart.base ∷ restart.pending_savepoint ∷ []

abbrev pub info_numbers : LogInfo → List ℕ
info_numbers info =
    info.slot ∷ info.name.birth ∷ info.name.generation ∷ info.saved_commit ∷ info.saved_position
    ∷ info.pending_commit ∷ info.pending_position ∷ []

abbrev pub is_past : List ℕ → Bool
is_past numbers = list_any (λ number. nat_le (2 ^ 61) number) numbers

abbrev pub has_past_snapshot : List SnapshotEntry → Bool
has_past_snapshot entries =
    list_any (λ entry. nat_le (2 ^ 61) entry.commit || nat_le (2 ^ 61) entry.savepoint) entries

abbrev pub is_past_end : RestartRecord → LogInfo → Bool
is_past_end restart info =
    is_past (restart_numbers restart) || (has_past_snapshot restart.snapshots.items
    || is_past (info_numbers info))

-- a number in the records is 2^61 or more
abbrev pub IsPastEnd : Image → Type 0
IsPastEnd image =
    (restart : RestartRecord) × HasRestart image restart
    × ((info : LogInfo) × HasLogInfo image info × IsTrue (is_past_end restart info))

-- the same as a test of the records in force
abbrev pub are_past_end : Option SlotBody → Option SlotBody → Bool
are_past_end (Some (Restart restart)) (Some (LogBody info)) = is_past_end restart info
are_past_end _ _ = false

-- whether a number that the line reads is past the end: the lines that open a database read its
-- records
abbrev pub past_end_in : Command → Image → Bool
past_end_in line image = are_past_end (in_force image data_slots) (in_force image log_slots)

-- the record in force is that of a database in order, and no number of the records is past the end
pub record IsInReach (image : Image) : Type 0 where
  pub restart : RestartRecord
  pub has_restart : HasRestart image restart
  pub info : LogInfo
  pub has_info : HasLogInfo image info
  pub normal : restart.state ≡ Normal
  pub low : is_past_end restart info ≡ false

-- the lines that open a database
abbrev pub IsOpener : Command → Type 0
IsOpener DbAdmin = Unit {0}
IsOpener DbOnline = Unit {0}
IsOpener _ = ⊥

-- the image has what reading its records is refused for; a failed device is not seen in it
abbrev pub RefusesInFront : Image → Refusal → Type 0
RefusesInFront image (ToldDamaged damage) = IsDamagedInFront image damage
RefusesInFront image ToldRestoreOpen = IsRestoring image
RefusesInFront image NumberEnd = IsPastEnd image
RefusesInFront image DeviceFailed = Unit {0}
RefusesInFront image _ = ⊥

-- The image has what an opening is refused for; a failed device and want of memory are not seen in
-- it. Other damage than that of the records, of pages and of the log, comes only where the records
-- are in order.
abbrev pub Refuses : Image → Refusal → Type 0
Refuses image (ToldDamaged damage) = IsDamagedInFront image damage ⊎ IsInReach image
Refuses image ToldRestoreOpen = IsRestoring image
Refuses image NumberEnd = IsPastEnd image
Refuses image DeviceFailed = Unit {0}
Refuses image MemoryWanting = Unit {0}
Refuses image _ = ⊥

-- a refusal that tells of the devices has it in the image
abbrev pub RefusalReports : Image → Refusal → Type 0
RefusalReports image (ToldDamaged damage) = IsDamagedInFront image damage ⊎ IsInReach image
RefusalReports image ToldRestoreOpen = IsRestoring image
RefusalReports image NumberEnd = IsPastEnd image
RefusalReports image _ = Unit {0}

-- a reply that tells of the devices has it in the image
abbrev pub RepliesDamage : Image → Reply → Type 0
RepliesDamage image (Refused refusal) = RefusalReports image refusal
RepliesDamage image _ = Unit {0}
