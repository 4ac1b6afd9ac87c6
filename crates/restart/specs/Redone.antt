-- A restart: the rows that the commits of the log leave.
--     IsFirstOf, IsOnTheWay      of the first commit that is not done the first changes are set
--     IsFirstUndone, IsSetWhole      a group is that of the first commit that is not done; that
-- commit is set
--     commits_upto, commits_behind, last_number      the commits of a log up to a number, those
-- behind it, and the number of the last one of the first
--     IsMade, IsPartMade, IsPartSet      a group is set on rows; its first changes are; of a log
-- the first commits, and of the next one the first changes
--     IsReadyToRedo      the rows with all commits of the log are what the devices stand for
--     HasRedoCause      when a restart may fail
use Rattle.std.specs.Prelude.{◌≡◌, ◌⊎◌, ℕ, ◌+◌, ◌-◌, ◌^◌, ◌<◌, ◌≤◌, List, [], ◌∷◌, ◌++◌, length, take, drop, Option, Some, None, Result, IfErr}
use Rattle.mdb_model.specs.Causes.{Rose}
use Rattle.mdb_model.specs.declared.change.Change.{Change}
use Rattle.mdb_model.specs.declared.change.Commit.{Commit}
use Rattle.mdb_model.specs.declared.fault.PageFault.{PageFault}
use Rattle.mdb_model.specs.declared.fault.PageFault.TheVariants.{Failed, Damaged}
use Rattle.mdb_model.specs.declared.name.Name.{Name}
use Rattle.mdb_model.specs.Tables.{Tables, with_changes, with_commits}
use Rattle.mdb_bytes.specs.Fields.{Spells}
use Rattle.mdb_bytes.specs.Groups.{group_format}
use Rattle.mdb_bytes.specs.Held.{Holding, LogLeft, no_room}

-- these are the first changes of the first commit, or none
abbrev pub IsFirstOf : List Change → List Commit → Type 0
IsFirstOf made [] = made ≡ []
IsFirstOf made (commit ∷ commits) = (rest : List Change) × (commit.changes ≡ made ++ rest)

-- The rows are some rows with the first changes of the first commit that is not done. Those rows
-- with all commits that are not done are the ones that are aimed at, and on them those commits have
-- room.
pub record IsOnTheWay (fits : List Commit → Tables → Type 0) (aim : Tables) (undone : List Commit)
    (rows : Tables) : Type 0 where
  pub before : Tables
  pub made : List Change
  pub first : IsFirstOf made undone
  pub aimed : with_commits undone before ≡ aim
  pub room : fits undone before
  pub rows_are : rows ≡ with_changes made before

-- the bytes are the group of the first commit that is not done, and none of it is set
pub record IsFirstUndone (aim : Tables) (undone : List Commit) (rows : Tables) (group : List ℕ) :
    Type 0 where
  pub name : Name
  pub number : ℕ
  pub commit : Commit
  pub rest : List Commit
  pub spells : Spells group_format (record
      { name = name; number = number; changes = commit.changes }) group
  pub first : undone ≡ commit ∷ rest
  pub aimed : with_commits undone rows ≡ aim

-- the first commit that is not done is set, it has this number, the one behind the last number, and
-- those behind it are
-- still to be read
pub record IsSetWhole (aim : Tables) (undone : List Commit) (last : ℕ) (held : Holding)
    (number : ℕ) : Type 0 where
  pub commit : Commit
  pub first : undone ≡ commit ∷ held.log.commits
  pub read : held.log.after ≡ number
  pub next : number ≡ last + 1
  pub aimed : with_commits held.log.commits held.rows ≡ aim

-- none of the commits that are not done is read, and the rows with them are the ones that are aimed
-- at
pub record IsReadyToRedo (aim : Tables) (undone : List Commit) (last : ℕ) (held : Holding) : Type 0
  where
    pub at : last ≡ held.log.after
    pub left : undone ≡ held.log.commits
    pub aimed : with_commits undone held.rows ≡ aim

-- the commits of a log up to a number, or all
abbrev pub commits_upto : Option ℕ → LogLeft → List Commit
commits_upto None log = log.commits
commits_upto (Some number) log = take (number - log.after) log.commits

-- the commits behind them
abbrev pub commits_behind : Option ℕ → LogLeft → List Commit
commits_behind None log = []
commits_behind (Some number) log = drop (number - log.after) log.commits

-- the number of the last of these commits, of which the first comes behind this number
abbrev pub last_number : (after : ℕ) → List Commit → Option ℕ
last_number after [] = None
last_number after (commit ∷ commits) = Some (after + length (commit ∷ commits))

-- the changes of the group are set, and all else is as it was
abbrev pub IsMade : (old new : Holding) → (group : List ℕ) → Type 0
IsMade old new group =
    (name : Name) (number : ℕ) (changes : List Change)
    → Spells group_format (record { name = name; number = number; changes = changes }) group
    → new ≡ record old { rows = with_changes changes old.rows }

-- the first changes of the group are set
abbrev pub IsPartMade : (old new : Tables) → (group : List ℕ) → Type 0
IsPartMade old new group =
    (name : Name) (number : ℕ) (changes : List Change)
    → Spells group_format (record { name = name; number = number; changes = changes }) group
    → (made : List Change) × (rest : List Change) × (changes ≡ made ++ rest)
    × (new ≡ with_changes made old)

-- the first commits of the log are set, and of the next one the first changes
pub record IsPartSet (start : Holding) (rows : Tables) : Type 0 where
  pub done : List Commit
  pub left : List Commit
  pub made : List Change
  pub log : start.log.commits ≡ done ++ left
  pub first : IsFirstOf made left
  pub rows_are : rows ≡ with_changes made (with_commits done start.rows)

-- A device is called failed only where the count of faults rose. Where the bytes are known and keep
-- the rules, nothing is
-- called damaged but want of room, and that only where a savepoint leaves too little.
pub record HasRedoCause {T : Type 0} (known little : Type 0) (before now : ℕ)
    (result : Result T PageFault) : Type 0 where
  pub later : before ≤ now
  pub failed : IfErr result (λ fault. fault ≡ Failed → Rose before now)
  pub whole : known → IfErr result (λ fault. (fault ≡ Failed)
      ⊎ ((fault ≡ Damaged no_room) × little))

-- no commit behind this number is asked for
abbrev pub Allows : Option ℕ → ℕ → Type 0
Allows None number = Unit {0}
Allows (Some until) number = number ≤ until

-- the first commit that is left was set, or none is left to be set
abbrev pub IsNextRedone : Option ℕ → (until : Option ℕ) → (old new : Holding) → Type 0
IsNextRedone (Some number) until old new =
    (commit : Commit)
    × (old.log.commits ≡ commit ∷ new.log.commits)
    × (number ≡ old.log.after + 1)
    × (number < 2 ^ 62)
    × Allows until number
    × (new.log.after ≡ number)
    × (new.rows ≡ with_changes commit.changes old.rows)
    × (new.undo ≡ old.undo)
IsNextRedone None until old new = (new.rows ≡ old.rows) × (new.undo ≡ old.undo)
    × (commits_upto until old.log ≡ [])

-- what is not done once a call has set the commit of this number, or none
abbrev pub IsNextDone : Option ℕ → (old new : List Commit) → (log : LogLeft) → Type 0
IsNextDone (Some number) old new log = new ≡ log.commits
IsNextDone None old new log = new ≡ old
