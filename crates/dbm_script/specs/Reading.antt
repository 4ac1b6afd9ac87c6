-- What reading gives.
--     IsRest      of what is left of a line, past the parts that were read
--     IsParsed      of a whole line
use Rattle.std.specs.Prelude.{◌≡◌, ℕ, List, [], Bool, true, false, Option, Some, None, option_map, unwrap_or, Result, Ok, Err, IsTrue}
use Rattle.mdb_model.specs.declared.script.Command.{Command}
use Rattle.mdb_model.specs.declared.script.Command.TheVariants.{GetRow, PutRow, DelRow, DbAdmin, DbOnline, DbOffline, DbState, Kill, MakeSavepoint, MediumList, SnapshotCreate, Info, CheckData}
use Rattle.mdb_model.specs.Script.{Part, parts_of, is_in_range, is_number, is_skipped, past_blanks, IsLineOf, Reads}
use Rattle.dbm_script.specs.declared.fault.LineFault.{LineFault}
use Rattle.dbm_script.specs.declared.fault.LineFault.TheVariants.{Syntax, Memory}
use Rattle.dbm_script.specs.Cutting.{Follows}

-- the lines that have byte strings
abbrev pub takes_bytes : Command → Bool
takes_bytes (GetRow session table key) = true
takes_bytes (PutRow session table key value) = true
takes_bytes (DelRow session table key) = true
takes_bytes _ = false

-- The parts in front were read, and this is left of the line: the command whose other parts stand
-- there, or that there is none. Memory is taken for byte strings alone, once the line is known to
-- spell a command.
abbrev pub IsRest : List Part → List ℕ → Result Command LineFault → Type 0
IsRest front rest (Ok command) =
    IsTrue (is_in_range command) × Follows front (parts_of command) rest
IsRest front rest (Err Syntax) =
    (command : Command) → IsTrue (is_in_range command) → Follows front (parts_of command) rest → ⊥
IsRest front rest (Err Memory) =
    (command : Command) × IsTrue (is_in_range command) × IsTrue (takes_bytes command)
    × Follows front (parts_of command) rest

-- the number of a commit, where one is named
abbrev pub is_until : Option ℕ → Bool
is_until until = unwrap_or (option_map is_number until) true

-- lines of one word
abbrev pub is_single : Command → Bool
is_single DbAdmin = true
is_single DbOnline = true
is_single DbOffline = true
is_single DbState = true
is_single Kill = true
is_single MakeSavepoint = true
is_single MediumList = true
is_single SnapshotCreate = true
is_single Info = true
is_single CheckData = true
is_single _ = false

-- nothing may follow the parts of the command
abbrev pub IsLast : Command → Type 0
IsLast command =
    IsTrue (is_in_range command)
    × ((other : Command) (rest : List ℕ) → Follows (parts_of command) (parts_of other) rest
    → past_blanks rest ≡ [])

-- None where the line is skipped; memory is wanted for a line that spells a command
abbrev pub IsParsed : List ℕ → Result (Option Command) LineFault → Type 0
IsParsed line (Ok None) = is_skipped line ≡ true
IsParsed line (Ok (Some command)) = (is_skipped line ≡ false) × IsLineOf line command
IsParsed line (Err Syntax) = (is_skipped line ≡ false) × Reads line None
IsParsed line (Err Memory) =
    (is_skipped line ≡ false) × ((command : Command) × IsTrue (takes_bytes command)
    × IsLineOf line command)
