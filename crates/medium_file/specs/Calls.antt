-- What the calls on media answer.
--     BeginAnswer      why a backup is not begun
--     HeaderAnswer      the header of a medium, or why there is none
--     IsNextMedium, NoMediumAbove      the least medium above a number
--     IsLine, ListAnswer      what a list of media shows
--     saves_pages, saves_log, EndedAnswer      whether a pending backup has ended
use Rattle.std.specs.Prelude.{◌≡◌, ℕ, ◌-◌, ◌*◌, ◌^◌, ◌<◌, ◌≤◌, min, Bool, true, false, not, ◌&&◌, ◌==◌, Option, Some, None, option_map, unwrap_or, Result, Ok, Err}
use Rattle.mdb_model.specs.declared.fault.Device.TheVariants.{Medium}
use Rattle.mdb_model.specs.declared.fault.PageFault.{PageFault}
use Rattle.mdb_model.specs.declared.fault.PageFault.TheVariants.{Failed as PageFailed, Damaged as PageDamaged}
use Rattle.mdb_model.specs.declared.name.Name.{Name}
use Rattle.mdb_model.specs.declared.script.BackupKind.{BackupKind}
use Rattle.mdb_model.specs.declared.script.BackupKind.TheVariants.{OfPages, OfLog}
use Rattle.mdb_model.specs.declared.script.MediumLine.{MediumLine}
use Rattle.mdb_model.specs.declared.script.MediumState.{MediumState}
use Rattle.mdb_model.specs.declared.script.MediumState.TheVariants.{Blank, Busy, Saved, SavedLog}
use Rattle.mdb_model.specs.Backups.{same_name}
use Rattle.mdb_model.specs.Images.{Image, size_of}
use Rattle.mdb_host.specs.Disk.{IsThere, IsWithin}
use Rattle.mdb_bytes.specs.declared.medium_pages.MediumHeader.{MediumHeader}
use Rattle.mdb_bytes.specs.Groups.{open_gate}
use Rattle.mdb_bytes.specs.Parts.{page_len}
use Rattle.medium_file.specs.declared.fault.HeaderFault.{HeaderFault}
use Rattle.medium_file.specs.declared.fault.HeaderFault.TheVariants.{Absent as HeaderAbsent, Empty, Failed as HeaderFailed, Damaged as HeaderDamaged}
use Rattle.medium_file.specs.declared.fault.MediumFault.{MediumFault}
use Rattle.medium_file.specs.declared.fault.MediumFault.TheVariants.{Full, Used, Absent, Failed}
use Rattle.medium_file.specs.declared.writer.MediumWriter.{MediumWriter}
use Rattle.medium_file.specs.Media.{gate_in, IsBlankMedium, BreaksHeader, header_damage, Holds}

-- Beginning

-- it has fewer pages than these
abbrev pub IsTooShort : Image → (medium pages : ℕ) → Type 0
IsTooShort image medium pages =
    (size : ℕ) × (size_of (image (Medium medium)) ≡ Some size) × (size < page_len * pages)

-- The medium is absent; else its gate is open; else it has too few pages; else the backup is begun.
abbrev pub BeginAnswer : Image → (medium pages : ℕ) → Result MediumWriter MediumFault → Type 0
BeginAnswer image medium pages (Err Absent) = image (Medium medium) ≡ None
BeginAnswer image medium pages (Err Used) = gate_in image medium ≡ open_gate
BeginAnswer image medium pages (Err (Full asked)) =
    IsBlankMedium image medium × IsTooShort image medium pages
BeginAnswer image medium pages (Err Failed) = Unit {0}
BeginAnswer image medium pages (Ok writer) =
    IsBlankMedium image medium × IsWithin image (Medium medium) 0 (page_len * pages)

-- Headers

-- the medium is absent, its gate is closed, or open before bytes that are no header, or it has this
-- header
abbrev pub HeaderAnswer : Image → (medium : ℕ) → Result MediumHeader HeaderFault → Type 0
HeaderAnswer image medium (Err HeaderAbsent) = image (Medium medium) ≡ None
HeaderAnswer image medium (Err Empty) =
    IsThere image (Medium medium) × Holds image medium None
HeaderAnswer image medium (Err (HeaderDamaged damage)) = BreaksHeader image medium
HeaderAnswer image medium (Err HeaderFailed) = Unit {0}
HeaderAnswer image medium (Ok header) = Holds image medium (Some header)

-- Lists

-- the least medium above a number
pub record IsNextMedium (image : Image) (after medium : ℕ) : Type 0 where
  pub above : after < medium
  pub most : medium ≤ 99
  pub there : IsThere image (Medium medium)
  pub least : (n : ℕ) → after < n → n < medium → image (Medium n) ≡ None

-- there is none
abbrev pub NoMediumAbove : Image → (after : ℕ) → Type 0
NoMediumAbove image after = (n : ℕ) → after < n → n ≤ 99 → image (Medium n) ≡ None

-- what is shown of a backup
abbrev pub shown_kind : BackupKind → MediumHeader → MediumState
shown_kind (OfPages kind) header = Saved kind header.name header.last
shown_kind OfLog header = SavedLog header.name header.first header.last

-- what is shown of a medium
abbrev pub shown : Option MediumHeader → MediumState
shown None = Blank
shown (Some header) = shown_kind header.kind header

-- whether a backup is being written to this medium
abbrev pub is_busy_with : Option ℕ → (medium : ℕ) → Bool
is_busy_with busy medium = unwrap_or (option_map (λ b. b == medium) busy) false

-- a medium that is being written shows this alone, and each other what it holds
abbrev pub Shows : Image → (medium : ℕ) → (is_busy : Bool) → MediumState → Type 0
Shows image medium true state = state ≡ Busy
Shows image medium false state =
    (found : Option MediumHeader) × Holds image medium found × (state ≡ shown found)

-- the line of the least medium above a number; its pages are as many as a line can name
pub record IsLine (image : Image) (after : ℕ) (busy : Option ℕ) (line : MediumLine)
    : Type 0 where
  pub next : IsNextMedium image after line.medium
  pub pages : (n : ℕ) × (size_of (image (Medium line.medium)) ≡ Some (n * page_len))
      × (line.pages ≡ min n (2 ^ 32 - 1))
  pub holds : Shows image line.medium (is_busy_with busy line.medium) line.holds

-- the least medium above a number has a broken header, and is not being written
pub record BreaksNext (image : Image) (after : ℕ) (busy : Option ℕ) (medium : ℕ) : Type 0 where
  pub next : IsNextMedium image after medium
  pub waits : is_busy_with busy medium ≡ false
  pub breaks : BreaksHeader image medium

-- the line of the least medium above a number, or none where there is none
abbrev pub ListAnswer : Image → (after : ℕ) → (busy : Option ℕ)
    → Result (Option MediumLine) PageFault → Type 0
ListAnswer image after busy (Ok None) = NoMediumAbove image after
ListAnswer image after busy (Ok (Some line)) = IsLine image after busy line
ListAnswer image after busy (Err (PageDamaged damage)) =
    (medium : ℕ) × (damage ≡ header_damage medium) × BreaksNext image after busy medium
ListAnswer image after busy (Err PageFailed) = Unit {0}

-- Pending backups

-- whether a backup holds groups of the log
abbrev pub is_of_log : BackupKind → Bool
is_of_log (OfPages kind) = false
is_of_log OfLog = true

-- the header is that of a backup of pages at this savepoint
abbrev pub saves_pages : Name → (savepoint : ℕ) → MediumHeader → Bool
saves_pages name savepoint header =
    not (is_of_log header.kind) && same_name header.name name && header.savepoint == savepoint

-- the header is that of a backup of the log up to this commit, which ends there
abbrev pub saves_log : Name → (commit position : ℕ) → MediumHeader → Bool
saves_log name commit position header =
    is_of_log header.kind && same_name header.name name && header.last == commit
    && header.end_position == position

-- whether the medium holds a backup whose header passes; one that is blank or absent does not
abbrev pub EndedAnswer : Image → (medium : ℕ) → (passes : MediumHeader → Bool)
    → Result Bool PageFault → Type 0
EndedAnswer image medium passes (Ok ended) =
    (found : Option MediumHeader) × Holds image medium found
    × (ended ≡ unwrap_or (option_map passes found) false)
EndedAnswer image medium passes (Err (PageDamaged damage)) = BreaksHeader image medium
EndedAnswer image medium passes (Err PageFailed) = Unit {0}
