-- The generated script of a seed and a count.
--     load_lines      its lines: the database is opened, five lines for each step, and it is closed
--     load_summary      what is said once all of them are answered
--     LoadEnds      which status the replies allow
use Rattle.std.specs.Prelude.{◌≡◌, ◌≢◌, ◌⊎◌, ◌↔◌, ℕ, zero, suc, ◌+◌, ◌*◌, ◌/◌, ◌%◌, ◌^◌, Bool, true, false, List, [], ◌∷◌, ◌++◌, Option, Some, None, All, length, count_by, codes, decimal}
use Rattle.std.specs.List.{join_with_byte}
use Rattle.mdb_model.specs.declared.name.Session.{Session}
use Rattle.mdb_model.specs.declared.name.Table.{Table}
use Rattle.mdb_model.specs.declared.script.Command.TheVariants.{GetRow, PutRow, DelRow, CommitWork, RollbackWork, DbOnline, DbOffline}
use Rattle.mdb_model.specs.declared.script.Refusal.TheVariants.{DeviceFailed, MemoryWanting}
use Rattle.mdb_model.specs.declared.script.Reply.{Reply}
use Rattle.mdb_model.specs.declared.script.Reply.TheVariants.{Committed, NoRow, Refused}
use Rattle.mdb_model.specs.declared.status.Status.{Status}
use Rattle.mdb_model.specs.declared.status.Status.TheVariants.{Memory, DeviceFault}
use Rattle.mdb_model.specs.Runs.{Line}

-- the next number of the sequence that begins with the seed
abbrev pub next_random : ℕ → ℕ
next_random x = (1664525 * x + 1013904223) % 2 ^ 32

-- the table, the key of the row that is put and read, and the key of the row that is deleted
abbrev pub random_table : ℕ → Table
random_table x = record { 0 = 1 + (x / 65536) % 4 }

abbrev pub put_number : ℕ → ℕ
put_number x = (x / 256) % 4096

abbrev pub del_number : ℕ → ℕ
del_number x = (put_number x + 1) % 4096

abbrev pub first_session : Session
first_session = record { 0 = 1 }

-- the five lines of step i, from its number of the sequence
abbrev pub step_lines : (i x : ℕ) → List Line
step_lines i x =
    let key = codes "k" ++ decimal (put_number x) in
    Some (PutRow first_session (random_table x) key (codes "v" ++ decimal i))
    ∷ Some (GetRow first_session (random_table x) key)
    ∷ Some (DelRow first_session (random_table x) (codes "k" ++ decimal (del_number x)))
    ∷ Some (CommitWork first_session)
    ∷ Some (RollbackWork first_session)
    ∷ []

-- the lines of so many steps, from step i on, after the number x of the sequence
abbrev pub steps_from : (i x : ℕ) → (count : ℕ) → List Line
steps_from i x zero = []
steps_from i x (suc count) =
    step_lines i (next_random x) ++ steps_from (i + 1) (next_random x) count

abbrev pub load_lines : (seed count : ℕ) → List Line
load_lines seed count = Some DbOnline ∷ steps_from 1 seed count ++ Some DbOffline ∷ []

-- The summary

abbrev pub is_commit : Reply → Bool
is_commit (Committed number) = true
is_commit _ = false

abbrev pub is_none : Reply → Bool
is_none NoRow = true
is_none _ = false

abbrev pub is_refused : Reply → Bool
is_refused (Refused refusal) = true
is_refused _ = false

-- how many lines were answered, and how many of them with a commit, with no row and with a refusal
abbrev pub load_summary : List Reply → List ℕ
load_summary replies =
    join_with_byte 32 (
    codes "LOAD"
    ∷ codes "lines" ∷ decimal (length replies)
    ∷ codes "commits" ∷ decimal (count_by is_commit replies)
    ∷ codes "none" ∷ decimal (count_by is_none replies)
    ∷ codes "errors" ∷ decimal (count_by is_refused replies)
    ∷ []
    ) ++ 10 ∷ []

-- The status

-- the last of the replies
abbrev pub last_reply : List Reply → Option Reply
last_reply [] = None
last_reply (reply ∷ []) = Some reply
last_reply (reply ∷ next ∷ replies) = last_reply (next ∷ replies)

-- the replies but for the last one
abbrev pub earlier_replies : List Reply → List Reply
earlier_replies [] = []
earlier_replies (reply ∷ []) = []
earlier_replies (reply ∷ next ∷ replies) = reply ∷ earlier_replies (next ∷ replies)

-- A reply that names a failed device or that memory ran out ends the script: with the status of
-- that name exactly where it is the last one. Before the first line memory may run out too.
pub record LoadEnds (status : Status) (replies : List Reply) : Type 0 where
  pub device : status ≡ DeviceFault ↔ last_reply replies ≡ Some (Refused DeviceFailed)
  pub memory : last_reply replies ≡ Some (Refused MemoryWanting) → status ≡ Memory
  pub no_memory : status ≡ Memory → (replies ≡ [])
      ⊎ (last_reply replies ≡ Some (Refused MemoryWanting))
  pub before : All (λ reply. (reply ≢ Refused DeviceFailed)
      × (reply ≢ Refused MemoryWanting)) (earlier_replies replies)
