-- What the words after the program's name ask for.
--     asked_by      what they ask for, or none where they break the rules
--     AskNothing, AskToRun, AskToCreate      which of these it is
--     IsRequest      it was read
use Rattle.std.specs.Prelude.{◌≡◌, ℕ, List, Option, Some, None}
use Rattle.mdb_model.specs.Script.{Asked as Request, Create, RunScript, Load, words_of}
use Rattle.call_words.specs.declared.asked.Asked.{Asked}
use Rattle.call_words.specs.declared.asked.Asked.TheVariants as asked

-- the program has no `load`: its words break the rules
abbrev pub but_load : Option Request → Option Request
but_load None = None
but_load (Some (Create folder birth log_pages data_pages)) =
    Some (Create folder birth log_pages data_pages)
but_load (Some (RunScript folder)) = Some (RunScript folder)
but_load (Some (Load seed count folder)) = None

abbrev pub asked_by : List (List ℕ) → Option Request
asked_by words = but_load (words_of words)

abbrev pub AskNothing : List (List ℕ) → Type 0
AskNothing words = asked_by words ≡ None

abbrev pub AskToRun : List (List ℕ) → Type 0
AskToRun words = (folder : List ℕ) × (asked_by words ≡ Some (RunScript folder))

-- of this birth, with a log volume and data volumes of so many pages
abbrev pub AskToCreate : List (List ℕ) → (birth log_pages : ℕ) → (data_pages : List ℕ) → Type 0
AskToCreate words birth log_pages data_pages =
    (folder : List ℕ) × (asked_by words ≡ Some (Create folder birth log_pages data_pages))

-- this was read of them
abbrev pub IsRequest : Option Request → Asked → Type 0
IsRequest request asked.Run = (folder : List ℕ) × (request ≡ Some (RunScript folder))
IsRequest request (asked.Create m) =
    (folder : List ℕ) × (request ≡ Some (Create folder m.birth m.log_pages m.volumes.items))
