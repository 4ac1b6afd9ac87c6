-- Lines that the kernel does not see: those that spell no command, and those for which memory ran out.
use Rattle.std.proofs.Common.{◌≡◌, refl, List, [], ◌∷◌, Some, None, IsTrue}
use Rattle.std.specs.List.{AllZip}
use Rattle.mdb_host.specs.Disk.{Disk}
use Rattle.mdb_model.specs.declared.script.Command.{Command}
use Rattle.mdb_model.specs.declared.script.Command.TheVariants.{GetRow, PutRow, DelRow, ScanTable, CommitWork, RollbackWork, DbAdmin, DbOnline, DbOffline, DbState, Kill, MakeSavepoint, TaskSavepoint, TaskBackup, TurnSavepoint, TurnBackup, MediumPut, MediumDelete, MediumList, BackupStart, Recover, SnapshotCreate, SnapshotDrop, SnapshotRevert, Info, CheckData}
use Rattle.mdb_model.specs.declared.script.Refusal.TheVariants.{Syntax, MemoryWanting}
use Rattle.mdb_model.specs.Answers.{refused}
use Rattle.mdb_model.specs.Runs.{Step, Stepped, Starved, may_want_memory}
use Rattle.mdb_model.specs.Worlds.{World}
use Rattle.dbm_script.specs.Reading.{takes_bytes}
use Rattle.open_database.specs.Stretch.{LeavesOnly, Completes}
use Rattle.db_kernel.proofs.Fitting.{stays_refused}
use Rattle.db_kernel.proofs.Untied.{syntax_untied, starved_untied}
use Rattle.open_database.specs.Outside.{page_reading, StandsFor}

all_syntax : (ws : List World) → AllZip (λ w w'. Step page_reading w None (refused Syntax) w') ws ws
all_syntax [] = tt
all_syntax (w ∷ ws) = ((refl, refl), all_syntax ws)

-- a line that spells no command changes nothing
pub syntax_answered : (disk : Disk) (ws : List World) (fits : List World → Type 0) → fits ws → LeavesOnly page_reading StandsFor disk ws → Completes page_reading StandsFor disk disk ws None (refused Syntax) fits
syntax_answered disk ws fits fit stand = stays_refused disk ws None (refused Syntax) fits (syntax_untied None) (Stepped (all_syntax ws)) fit stand

wants : (command : Command) → IsTrue (takes_bytes command) → (w : World) → IsTrue (may_want_memory w (Some command))
wants (GetRow session table key) takes w = refl
wants (PutRow session table key value) takes w = refl
wants (DelRow session table key) takes w = refl
wants (ScanTable session table) takes w = cc
wants (CommitWork session) takes w = cc
wants (RollbackWork session) takes w = cc
wants DbAdmin takes w = cc
wants DbOnline takes w = cc
wants DbOffline takes w = cc
wants DbState takes w = cc
wants Kill takes w = cc
wants MakeSavepoint takes w = cc
wants TaskSavepoint takes w = cc
wants (TaskBackup medium kind) takes w = cc
wants TurnSavepoint takes w = cc
wants TurnBackup takes w = cc
wants (MediumPut medium pages) takes w = cc
wants (MediumDelete medium) takes w = cc
wants MediumList takes w = cc
wants (BackupStart medium kind) takes w = cc
wants (Recover media log until) takes w = cc
wants SnapshotCreate takes w = cc
wants (SnapshotDrop number) takes w = cc
wants (SnapshotRevert number) takes w = cc
wants Info takes w = cc
wants CheckData takes w = cc

all_starve : (command : Command) → IsTrue (takes_bytes command) → (ws : List World) → AllZip (λ w w'. IsTrue (may_want_memory w (Some command)) × (w' ≡ w)) ws ws
all_starve command takes [] = tt
all_starve command takes (w ∷ ws) = ((wants command takes w, refl), all_starve command takes ws)

-- memory ran out for the bytes of a line
pub starved_answered : (disk : Disk) (ws : List World) (command : Command) → IsTrue (takes_bytes command) → (fits : List World → Type 0) → fits ws → LeavesOnly page_reading StandsFor disk ws
    → Completes page_reading StandsFor disk disk ws (Some command) (refused MemoryWanting) fits
starved_answered disk ws command takes fits fit stand =
    stays_refused disk ws (Some command) (refused MemoryWanting) fits (starved_untied (Some command)) (Starved (all_starve command takes ws)) fit stand
