-- What a keeper of rows, of undo files and of a log holds, and what its calls answer.
--     Holding      the rows, the undo files, and what is left of a log
--     Before, UndoFiles      what stood at a place before a change; one list of these for each
--         session
--     LogLeft      the commits of a log that are still to be read
--     IsFoundRow      whether a row is found, and its value
--     next_row, IsNextRow      the first row of a table after a key
--     setting_back, before_fits, before_of      a before image as the change that sets it back; the
--         one of an entry
--     with_before_image, without_file, IsLastTaken      what is done to the undo file of a session
--     IsNextGroup      the first group of a log
--     HasPageCause      when a call on pages may fail
--     no_room, HasRoomCause      when a call may fail that makes room
use Rattle.std.specs.Prelude.{◌≡◌, ◌⊎◌, ℕ, ◌+◌, ◌<◌, ◌≤◌, List, [], ◌∷◌, ◌++◌, Bool, true, false, ◌&&◌, ◌==◌, Option, Some, None, Result, IfErr, unwrap_or, option_map, find}
use Rattle.std.specs.declared.cmp.Ordering.{Ordering}
use Rattle.std.specs.declared.cmp.Ordering.TheVariants.{Less, Equal, Greater}
use Rattle.std.specs.Ordering.{nat_cmp}
use Rattle.std.specs.Cmp.Lexicographic.{slice_cmp}
use Rattle.std.specs.FinMap.{FinMap, get, insert, remove, entries}
use Rattle.mdb_model.specs.Causes.{Rose}
use Rattle.mdb_model.specs.declared.change.Change.{Change}
use Rattle.mdb_model.specs.declared.change.Change.TheVariants.{Put, Del}
use Rattle.mdb_model.specs.declared.change.Commit.{Commit}
use Rattle.mdb_model.specs.declared.fault.Damage.{Damage}
use Rattle.mdb_model.specs.declared.fault.Device.TheVariants.{Data}
use Rattle.mdb_model.specs.declared.fault.PageFault.{PageFault}
use Rattle.mdb_model.specs.declared.fault.PageFault.TheVariants.{Failed, Damaged}
use Rattle.mdb_model.specs.declared.fault.Rule.TheVariants.{Room}
use Rattle.mdb_model.specs.declared.name.Name.{Name}
use Rattle.mdb_model.specs.declared.name.Table.{Table}
use Rattle.mdb_model.specs.Tables.{Place, Tables}
use Rattle.mdb_bytes.specs.Fields.{Spells}
use Rattle.mdb_bytes.specs.Groups.{change_fits, group_format}
use Rattle.mdb_bytes.specs.declared.held.UndoEntry.{UndoEntry}

-- what stood at a place before a transaction changed it: the value of a row, or no row
pub record Before : Type 0 where
  pub place : Place
  pub value : Option (List ℕ)

-- the before images of each session, the earliest first
abbrev pub UndoFiles : Type 0
UndoFiles = FinMap nat_cmp (List Before)

-- commits that are still to be read, of this database, the first with the number after this one
pub record LogLeft : Type 0 where
  pub name : Name
  pub after : ℕ
  pub commits : List Commit

-- what a keeper does not have is empty
pub record Holding : Type 0 where
  pub rows : Tables
  pub undo : UndoFiles
  pub log : LogLeft

-- Rows

-- a row is found, with this value, or there is none
abbrev pub IsFoundRow : (found : Bool) → Option (List ℕ) → (value : List ℕ) → Type 0
IsFoundRow true row value = row ≡ Some value
IsFoundRow false row value = row ≡ None

-- the first key comes before the second
abbrev pub is_before : List ℕ → List ℕ → Bool
is_before a b = is_less (slice_cmp nat_cmp a b) where
  is_less : Ordering → Bool
  is_less Less = true
  is_less Equal = false
  is_less Greater = false

-- the first row of a table whose key comes after this one, with its key. The empty key comes before
-- all
abbrev pub next_row : Tables → (table : ℕ) → (after : List ℕ) → Option (List ℕ × List ℕ)
next_row tables table after =
    option_map (λ e. (e.0.1, e.1)) (find (λ e. (e.0.0 == table)
    && is_before after e.0.1) (entries tables))

-- it is found, with this key and value, or there is none
abbrev pub IsNextRow : (found : Bool) → Option (List ℕ × List ℕ) → (key value : List ℕ) → Type 0
IsNextRow true row key value = row ≡ Some (key, value)
IsNextRow false row key value = row ≡ None

-- Undo files

-- the change that makes the row what it was before
abbrev pub setting_back : Before → Change
setting_back before = at_place (record { 0 = before.place.0 }) before.place.1 before.value where
  at_place : Table → List ℕ → Option (List ℕ) → Change
  at_place table key (Some value) = Put table key value
  at_place table key None = Del table key

-- its table is one, its key is one, and its value is not too long
abbrev pub before_fits : Before → Bool
before_fits before = change_fits (setting_back before)

-- the before image that an entry has
abbrev pub before_of : UndoEntry → Before
before_of entry =
    record {
      place = (entry.table.0, entry.key.items);
      value = option_map (λ value. value.items)
          entry.before;
    }

abbrev pub file_of : UndoFiles → ℕ → List Before
file_of files session = unwrap_or (get files session) []

-- with one more before image of the session
abbrev pub with_before_image : UndoFiles → ℕ → Before → UndoFiles
with_before_image files session before = insert files session (file_of files session ++ before ∷ [])

-- with no before image of the session
abbrev pub without_file : UndoFiles → ℕ → UndoFiles
without_file files session = remove files session

-- the last before image of the session was taken, and the earlier ones are left; or there was none
abbrev pub IsLastTaken : (taken : Bool) → (old new : UndoFiles) → (session : ℕ) → Before → Type 0
IsLastTaken true old new session before =
    (file_of old session ≡ file_of new session ++ before ∷ [])
    × ((other : ℕ) → (other == session) ≡ false → get new other ≡ get old other)
IsLastTaken false old new session before = (file_of old session ≡ []) × (new ≡ old)

-- The log

-- the group of the first commit was read and the others are left, or there is none
abbrev pub IsNextGroup : (found : Bool) → (old new : LogLeft) → (group : List ℕ) → Type 0
IsNextGroup true old new group =
    (commit : Commit)
    × (old.commits ≡ commit ∷ new.commits)
    × (new.name ≡ old.name)
    × (new.after ≡ old.after + 1)
    × Spells group_format (record {
      name = old.name;
      number = old.after
          + 1;
      changes = commit.changes;
    }) group
IsNextGroup false old new group = (old.commits ≡ []) × (new ≡ old)

-- Faults

-- A device is called failed only where the count of faults rose. Where the bytes of the pages are
-- known and keep the rules, nothing is called damaged.
pub record HasPageCause {T : Type 0} (known : Type 0) (before now : ℕ) (result : Result T PageFault)
    : Type 0 where
  pub later : before ≤ now
  pub failed : IfErr result (λ fault. fault ≡ Failed → Rose before now)
  pub whole : known → IfErr result (λ fault. fault ≡ Failed)

-- the first data volume, of which no page is at fault, is called damaged: it has no room
abbrev pub no_room : Damage
no_room = record { device = Data 1; page = 0; rule = Room }

-- As with other calls on pages, but that there may be no room: only where a savepoint leaves fewer
-- than 64 spare pages.
pub record HasRoomCause {T : Type 0} (known : Type 0) (left : ℕ) (before now : ℕ)
    (result : Result T PageFault) : Type 0 where
  pub later : before ≤ now
  pub failed : IfErr result (λ fault. fault ≡ Failed → Rose before now)
  pub whole : known → IfErr result (λ fault. (fault ≡ Failed)
      ⊎ ((fault ≡ Damaged no_room) × (left < 64)))
