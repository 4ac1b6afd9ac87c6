-- The words of a call as `clap` reads them.
--     command_line      two subcommands, whose arguments are all required but the second to eighth
--         count of pages
--     request_in      what the matches of a subcommand ask for
--     clap_asks      what they ask for where `clap` finds no fault
--     Gains, Lacks      numbers that were read of some words; words that are not all numbers within
--         limits
use Rattle.std.specs.Prelude.{◌≡◌, ◌≢◌, ◌≤◌, ℕ, Bool, true, false, List, [], ◌∷◌, ◌++◌, Option, Some, None, option_and_then, option_map, unwrap_or, if◌then◌else◌, codes, sum}
use Rattle.std.specs.Str.{bytes_eq}
use Rattle.clap.specs.Words.{App, Kinds, Row, Rule, Text, first_of, new_app, new_rule, with_rule, with_subcommand}
use Rattle.mdb_model.specs.Script.{Asked as Request, RunScript, create_of, number_of, numbers_of}

-- Arguments

abbrev pub argument : (name : Text) → (is_required : Bool) → Rule
argument name is_required = record (new_rule name) { required = is_required }

-- `create` with what has to be there, with four more, and with all
abbrev pub create_front_words : App
create_front_words =
    with_rule (with_rule (with_rule (with_rule (new_app (codes "create"))
    (argument (codes "FOLDER") true)) (argument (codes "BIRTH") true))
    (argument (codes "LOGPAGES") true)) (argument (codes "DATAPAGES") true)

abbrev pub with_volume : App → Text → App
with_volume app name = with_rule app (argument name false)

abbrev pub create_middle_words : App
create_middle_words =
    with_volume (with_volume (with_volume (with_volume create_front_words (codes "DATAPAGES2"))
    (codes "DATAPAGES3")) (codes "DATAPAGES4")) (codes "DATAPAGES5")

abbrev pub create_words : App
create_words =
    with_volume (with_volume (with_volume create_middle_words (codes "DATAPAGES6"))
    (codes "DATAPAGES7")) (codes "DATAPAGES8")

abbrev pub run_words : App
run_words = with_rule (new_app (codes "run")) (argument (codes "FOLDER") true)

-- there is no name of the program before them, no `help`, and one of the subcommands has to be
-- there
abbrev pub program : App
program =
    record (new_app (codes "maxk")) {
      top = record ((new_app (codes "maxk")).top)
          { no_binary_name = true; disable_help_subcommand = true; subcommand_required = true };
    }

abbrev pub command_line : App
command_line = with_subcommand (with_subcommand program create_words.top) run_words.top

-- Matches

abbrev pub as_list : Option Text → List Text
as_list None = []
as_list (Some text) = text ∷ []

-- the word of an argument, if it is there
abbrev pub word_in : Text → List Row → List Text
word_in name rows = as_list (first_of name rows)

-- the first four counts of pages, the last four, and all
abbrev pub first_counts : List Row → List Text
first_counts rows =
    word_in (codes "DATAPAGES") rows ++ (word_in (codes "DATAPAGES2") rows
    ++ (word_in (codes "DATAPAGES3") rows ++ word_in (codes "DATAPAGES4") rows))

abbrev pub last_counts : List Row → List Text
last_counts rows =
    word_in (codes "DATAPAGES5") rows ++ (word_in (codes "DATAPAGES6") rows
    ++ (word_in (codes "DATAPAGES7") rows ++ word_in (codes "DATAPAGES8") rows))

abbrev pub counts_in : List Row → List Text
counts_in rows = first_counts rows ++ last_counts rows

abbrev pub number_in : Text → List Row → Option ℕ
number_in name rows = option_and_then number_of (first_of name rows)

abbrev pub with_front : Option ℕ → Option (List ℕ) → Option (List ℕ)
with_front number numbers = option_and_then (λ n. option_map (λ ns. n ∷ ns) numbers) number

-- the birth, the pages of the log volume, and those of the data volumes
abbrev pub numbers_in : List Row → Option (List ℕ)
numbers_in rows =
    with_front (number_in (codes "BIRTH") rows)
    (with_front (number_in (codes "LOGPAGES") rows) (numbers_of (counts_in rows)))

abbrev pub folder_in : List Row → Text
folder_in rows = unwrap_or (first_of (codes "FOLDER") rows) []

abbrev pub request_in : Option (Text × List Row) → Option Request
request_in None = None
request_in (Some (name, rows)) =
    if bytes_eq name (codes "run") then Some (RunScript (folder_in rows))
    else create_of (folder_in rows) (numbers_in rows)

abbrev pub clap_asks : Kinds → Option (Text × List Row) → Option Request
clap_asks [] met = request_in met
clap_asks (fault ∷ faults) met = None

-- Counts

-- the numbers of these words were added
abbrev pub Gains : List Text → (old new : List ℕ) → Type 0
Gains texts old new =
    (numbers : List ℕ) × (numbers_of texts ≡ Some numbers) × (new ≡ old ++ numbers)

-- they are not all numbers of 65,536 together at most
abbrev pub Lacks : List Text → Type 0
Lacks texts = (numbers : List ℕ) → sum numbers ≤ 65536 → numbers_of texts ≢ Some numbers
