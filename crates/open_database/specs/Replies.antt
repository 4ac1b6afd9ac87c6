-- What a reply tells of the outside.
--     IsInside      a reply that tells nothing of the devices
use Rattle.mdb_model.specs.declared.script.Refusal.TheVariants.{Damaged, DeviceFailed, RestoreOpen, NumberEnd}
use Rattle.mdb_model.specs.declared.script.Reply.{Reply}
use Rattle.mdb_model.specs.declared.script.Reply.TheVariants.{Refused}

-- a reply that tells nothing of the devices
abbrev pub IsInside : Reply → Type 0
IsInside (Refused DeviceFailed) = ⊥
IsInside (Refused RestoreOpen) = ⊥
IsInside (Refused NumberEnd) = ⊥
IsInside (Refused (Damaged damage)) = ⊥
IsInside _ = Unit {0}
