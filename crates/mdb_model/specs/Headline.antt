-- What the program promises of a whole call, over an outside of which these things are known: the
-- output at each moment, the images that a crash may leave at each moment, and which worlds an
-- image stands for.
--     RepliesAreSaid, ScriptIsRead      the output and the lines of the script, by the status
--     CrashesStand      each image at each moment
--     AreCaused      why a line was answered so, each line by itself
--     RecordsAreTied      the page map of each image where a line has made a savepoint
--     NamesAgree      the media of each world
--     KeepsRun      one run with the first three of these, and the causes
--     Promise      for every start with sound worlds there is one run with all of these
--     CreatePromise, KeepsLoadPromise      of making a database, and of a generated script
use Rattle.std.specs.Prelude.{◌≡◌, ℕ, ◌+◌, ◌-◌, ◌*◌, ◌<◌, ◌≤◌, ◌⊎◌, List, [], ◌∷◌, ◌++◌, Bool, true, false, not, ◌==◌, nat_le, ◌&&◌, Option, Some, None, if◌then◌else◌, IsSome, IsTrue, IfSome, MatchOption, All, Contains, length, sum, sum_by, take, drop, ◌↔◌, map, filter, reverse, slice_get}
use Rattle.std.specs.List.{AllZip, concat, list_any}
use Rattle.std.specs.Str.Lines.{lines}
use Rattle.std.specs.FinMap.{get, contains_key, values, FinMap}
use Rattle.mdb_model.specs.declared.name.State.TheVariants.{Offline}
use Rattle.mdb_model.specs.declared.script.BackupKind.TheVariants.{OfPages}
use Rattle.mdb_model.specs.declared.script.Command.{Command}
use Rattle.mdb_model.specs.declared.script.Command.TheVariants.{DbAdmin, DbOnline, TurnBackup, MakeSavepoint, TaskSavepoint, TurnSavepoint, DbOffline, TaskBackup, BackupStart, Recover}
use Rattle.mdb_model.specs.declared.script.Reply.{Reply}
use Rattle.mdb_model.specs.declared.script.Reply.TheVariants.{SavepointDone, TaskBegun, PagesSaved, AdminAt, OnlineAt, OfflineNow, Recovered, Refused}
use Rattle.mdb_model.specs.declared.script.Refusal.TheVariants.{MediumFull, NumberEnd, DeviceFailed}
use Rattle.mdb_model.specs.Refusals.{backup_pages}
use Rattle.mdb_model.specs.declared.status.Status.{Status}
use Rattle.mdb_model.specs.declared.status.Status.TheVariants.{Done, Usage, ScriptFault, SayFault, Memory, LinesEnd, DeviceFault, Exists}
use Rattle.mdb_model.specs.Tables.{Place, place_cmp}
use Rattle.mdb_model.specs.History.{last, tables_of}
use Rattle.mdb_model.specs.Pages.{PageMap, PageReading}
use Rattle.mdb_model.specs.Worlds.{World, off, created}
use Rattle.mdb_model.specs.Space.{present}
use Rattle.mdb_model.specs.Sessions.{last_changes}
use Rattle.mdb_model.specs.Runs.{Line, Run, TakenLine, Way, worlds_after, last_worlds, AreOutcomes}
use Rattle.mdb_model.specs.Script.{script_lines, is_skipped, Reads, line_weight, most_lines}
use Rattle.mdb_model.specs.Text.{text_of}
use Rattle.mdb_model.specs.Causes.{Rose}
use Rattle.mdb_model.specs.Stages.{is_built, changes_in_memory}
use Rattle.mdb_model.specs.Workload.{load_lines, load_summary, LoadEnds}
use Rattle.mdb_model.specs.Agreement.{IsSound, Ages, Agrees, grown}

abbrev pub IsPrefix : List ℕ → List ℕ → Type 0
IsPrefix part whole = (rest : List ℕ) × (part ++ rest ≡ whole)

abbrev pub texts_of : List TakenLine → List (List ℕ)
texts_of run = map (λ entry. text_of entry.answer) run

abbrev pub lines_of : List TakenLine → List Line
lines_of run = map (λ entry. entry.line) run

abbrev pub replies_of : List TakenLine → List Reply
replies_of run = map (λ entry. entry.answer.reply) run

-- Replies

-- what was said in the call are the texts of the run; where the output failed the last may be cut
abbrev pub RepliesAreSaid : Status → (said_before said : List ℕ) → List TakenLine → Type 0
RepliesAreSaid SayFault said_before said run =
    (part : List ℕ) × (said ≡ said_before ++ part) × IsPrefix part (concat (texts_of run))
    × IsPrefix (concat (take (length run - 1) (texts_of run))) part
RepliesAreSaid _ said_before said run = said ≡ said_before ++ concat (texts_of run)

-- Script

-- the bytes up to the last end of a line
abbrev pub from_newline : List ℕ → List ℕ
from_newline [] = []
from_newline (b ∷ bytes) = if b == 10 then b ∷ bytes else from_newline bytes

abbrev pub ended_part : List ℕ → List ℕ
ended_part bytes = reverse (from_newline (reverse bytes))

-- the lines, from the first on, that count as at most n
abbrev pub lines_within : ℕ → List (List ℕ) → List (List ℕ)
lines_within n [] = []
lines_within n (line ∷ lines) =
    if nat_le (line_weight line) n then line ∷ lines_within (n - line_weight line) lines else []

abbrev pub lines_before_limit : List ℕ → List (List ℕ)
lines_before_limit bytes = lines_within most_lines (lines bytes)

-- the run's lines are what these lines of the script are read as
abbrev pub AreRead : List (List ℕ) → List TakenLine → Type 0
AreRead texts run = AllZip Reads texts (lines_of run)

-- these lines, with those that are skipped, count as no more than a script may have
abbrev pub AreWithinLimit : List (List ℕ) → Type 0
AreWithinLimit texts = sum_by line_weight texts ≤ most_lines

-- the lines before the limit that are answered
abbrev pub answered_lines : List ℕ → List (List ℕ)
answered_lines bytes = filter (λ line. not (is_skipped line)) (lines_before_limit bytes)

-- of the bytes that the source had, it gave some and has others left
abbrev pub LinesAreRead : Status → (bytes given left : List ℕ) → List TakenLine → Type 0
LinesAreRead Done bytes given left run =
    AreRead (script_lines bytes) run × AreWithinLimit (lines bytes) × (left ≡ [])
LinesAreRead ScriptFault bytes given left run =
    AreRead (script_lines (ended_part given)) run × AreWithinLimit (lines (ended_part given))
LinesAreRead LinesEnd bytes given left run =
    AreRead (answered_lines bytes) run × (length (lines_before_limit bytes) < length (lines bytes))
LinesAreRead SayFault bytes given left run =
    AreRead (take (length run) (answered_lines bytes)) run × (0 < length run)
LinesAreRead Memory bytes given left run = run ≡ []
LinesAreRead Usage bytes given left run = ⊥
LinesAreRead DeviceFault bytes given left run = ⊥
LinesAreRead Exists bytes given left run = ⊥

-- where the source tells its bytes: it gave some of them in the call, and the run's lines are those
-- of the script
abbrev pub ScriptIsRead : Status → (before now : Option (List ℕ)) → List TakenLine → Type 0
ScriptIsRead status before now run = (bytes : List ℕ) → before ≡ Some bytes
    → (given : List ℕ) × ((left : List ℕ) × (given ++ left ≡ bytes) × (now ≡ Some left)
    × LinesAreRead status bytes given left run)

-- Crashes

-- the last of the worlds, or the first one
abbrev pub ends : World → List World → World
ends first [] = first
ends first (w ∷ way) = ends w way

-- whether an open transaction changed the row at a place
abbrev pub is_changed : World → Place → Bool
is_changed w place = list_any (λ x. contains_key (last_changes x.changes) place) (values w.sessions)

-- Causes

-- moments of a line: when it had read the records that it needs, when it was done with nothing of
-- its reply said yet, and how many calls on devices had failed by then
pub record Instant : Type 0 where
  pub read : ℕ
  pub clock : ℕ
  pub faults : ℕ

-- the lines that read the numbers of the records, from these worlds: those that open a database,
-- and a recover
abbrev pub ReadsNumbers : List World → Line → Type 0
ReadsNumbers ws (Some DbAdmin) = All (λ w. w.state ≡ Offline) ws
ReadsNumbers ws (Some DbOnline) = All (λ w. w.state ≡ Offline) ws
ReadsNumbers ws (Some (Recover media log until)) = IsTrue (is_built (Recover media log until))
ReadsNumbers ws _ = ⊥

-- the reply of such a line that was done
abbrev pub IsOpenReply : Reply → Type 0
IsOpenReply (AdminAt number) = Unit {0}
IsOpenReply (OnlineAt number) = Unit {0}
IsOpenReply (Recovered number) = Unit {0}
IsOpenReply _ = ⊥

-- whether a number that a line reads is past the end; a line that is not in the grammar reads none
abbrev pub numbers_end : {Image : Type 0}
    → (past_end : Command → Image → Bool) → Line → Image → Bool
numbers_end past_end None image = false
numbers_end past_end (Some line) image = past_end line image

module _ (reading : PageReading) {Image : Type 0} (said : ℕ → List ℕ)
    (may_leave : ℕ → Image → Type 0) (stands : Image → World → Type 0) where
  -- at a moment the replies to the first k lines are said, and of the next one no more than a part
  abbrev pub HasSaid : (start t : ℕ) → List TakenLine → ℕ → Type 0
  HasSaid start t run k =
      (part : List ℕ) × (said t ≡ said start ++ concat (take k (texts_of run)) ++ part)
      × MatchOption (slice_get (texts_of run) k) (part ≡ []) (λ text. IsPrefix part text
      × (length part < length text))

  -- the world of an image is one that is possible after k lines, or one that a stop inside the next
  -- line may leave
  abbrev pub IsPossible : List World → List TakenLine → ℕ → World → Type 0
  IsPossible old run k v = (w : World) × Contains (worlds_after reading old run k) w
      × ((v ≡ off w)
      ⊎ MatchOption (slice_get (lines_of run) k) ⊥ (λ line. (outcome : List World)
      × AreOutcomes reading w line outcome × Contains outcome v))

  -- at each moment some number of replies is said, and each image stands for a world that is
  -- possible then
  abbrev pub CrashesStand : (start end : ℕ) → List World → List TakenLine → Type 0
  CrashesStand start end old run = (t : ℕ) → start ≤ t → t ≤ end
      → (k : ℕ) × HasSaid start t run k × ((image : Image) → may_leave t image
      → (v : World) × stands image v × IsPossible old run k v)

  -- Starts

  -- What the call starts from: sound worlds that are off, each with ages it agrees with, one for
  -- each image.
  pub record CanStart (start : ℕ) (old : List (World × Ages)) : Type 0 where
    pub worlds : All (λ e. IsSound reading e.0 × (e.0.state ≡ Offline) × Agrees reading e.0 e.1) old
    pub images : (image : Image) → may_leave start image
        → (e : World × Ages) × Contains old e × stands image e.0

  -- Causes. Whether a number that a line reads is past the end is a reading of an image.
  module _ (past_end : Command → Image → Bool) where
    -- a line came to its answer since an instant, from these worlds and with this output before it:
    -- a failed device has a call that failed in the line, and a number past the end stands in each
    -- image of its moment, as one that is in reach does where the line opens the database
    pub record IsCaused (ws : List World) (before : List ℕ) (since : Instant) (entry : TakenLine)
        (at : Instant) : Type 0 where
      pub since_clock : since.clock ≤ at.read
      pub until_clock : at.read ≤ at.clock
      pub counted : since.faults ≤ at.faults
      pub quiet : (t : ℕ) → at.read ≤ t → t ≤ at.clock → said t ≡ before
      pub device : entry.answer.reply ≡ Refused DeviceFailed → Rose since.faults at.faults
      pub past : entry.answer.reply ≡ Refused NumberEnd
          → (image : Image) → may_leave at.read image → numbers_end past_end entry.line image ≡ true
      pub in_reach : ReadsNumbers ws entry.line → IsOpenReply entry.answer.reply
          → (image : Image) → may_leave at.read image
          → numbers_end past_end entry.line image ≡ false

    -- each line of a run has its causes, one instant after the other
    abbrev pub AreCaused : (end : Instant) → List World → (before : List ℕ) → Instant → List Instant
        → List TakenLine → Type 0
    AreCaused end ws before since [] [] = (since.clock ≤ end.clock) × (since.faults ≤ end.faults)
    AreCaused end ws before since (at ∷ instants) (entry ∷ run) =
        IsCaused ws before since entry at
        × AreCaused end entry.worlds (before ++ text_of entry.answer) at instants run
    AreCaused end ws before since [] (entry ∷ run) = ⊥
    AreCaused end ws before since (at ∷ instants) [] = ⊥

    -- The promise of a call: of a start with these worlds, each with its ages, there is one run.
    -- Its replies, its script, what a crash leaves at each moment, and the cause of each answer,
    -- which are promised from the first stage on. Of the source are given the bytes that it tells
    -- at the start and at the end, of the host how many calls had failed.
    pub record KeepsRun (status : Status) (start end : ℕ) (faults_before faults : ℕ)
        (before now : Option (List ℕ))
        (old : List (World × Ages)) : Type 0 where
      pub run : List TakenLine
      pub follows : Run reading (map (λ e. e.0) old) run
      pub replies : RepliesAreSaid status (said start) (said end) run
      pub script : ScriptIsRead status before now run
      pub crashes : CrashesStand start end (map (λ e. e.0) old) run
      pub instants : List Instant
      pub causes : AreCaused (record { read = end; clock = end; faults = faults })
          (map (λ e. e.0) old) (said start)
          (record { read = start; clock = start; faults = faults_before }) instants run

  -- Names

  abbrev pub grown_by : Ages → List World → Ages
  grown_by ages [] = ages
  grown_by ages (w ∷ ws) = grown_by (grown ages w) ws

  -- along each way the world at its end, and each that a crash after it leaves, agrees with the
  -- ages grown by its worlds
  pub record NamesAgree (run : List TakenLine) (first : World) (ages : Ages) : Type 0 where
    pub worlds : (way : List World) (w : World) → Way reading first run (way ++ w ∷ [])
        → Agrees reading w (grown_by ages (way ++ w ∷ []))
    pub stops : (way : List World) (v : World) → Way reading first run way
        → IsPossible (ends first way ∷ []) (drop (length way) run) 0 v
        → Agrees reading v (grown_by ages (way ++ v ∷ []))

  -- Records. What an image's restart record says: the pages, the savepoint number and the commit
  -- number.
  module _ (pages_in : Image → PageMap) (savepoint_in commit_in : Image → ℕ) where
    -- the rows with all open changes, and the row before, or none, of each key that an open
    -- transaction changed. Until changes are made in place the rows are the committed ones, and no
    -- row before is kept
    pub record IsFull (pages : PageMap) (w : World) : Type 0 where
      pub rows : reading.standing pages ≡ Some (if changes_in_memory then tables_of w.history
          else present w)
      pub images : FinMap place_cmp (Option (List ℕ))
      pub before : reading.before_images pages ≡ Some images
      pub changed : (place : Place) → IsSome (get images place) ↔ IsTrue (not changes_in_memory
          && is_changed w place)
      pub values : (place : Place) → IfSome (get images place) (λ value. value
          ≡ get (tables_of w.history) place)

    -- at a moment the first k replies are said, and whatever follows them
    abbrev pub HasReplied : (start t : ℕ) → List TakenLine → ℕ → Type 0
    HasReplied start t run k = IsPrefix (said start ++ concat (take k (texts_of run))) (said t)

    -- t is the first such moment
    abbrev pub IsReplied : (start t : ℕ) → List TakenLine → ℕ → Type 0
    IsReplied start t run k =
        HasReplied start t run k × ((t ≡ start) ⊎ ¬ (HasReplied start (t - 1) run k))

    -- at the moment of reply k, which is one of the call, each image has P
    abbrev pub AtReply : (start end : ℕ) → List TakenLine → ℕ → (Image → Type 0) → Type 0
    AtReply start end run k P =
        (t : ℕ) (image : Image) → start ≤ t → t ≤ end → IsReplied start t run k → may_leave t image
        → P image

    -- the lines after whose reply the record has the present rows, and the base or the backup task
    -- has its pages
    abbrev pub IsTied : Line → Reply → (before after : World) → Image → Type 0
    IsTied (Some MakeSavepoint) SavepointDone before w image = IsFull (pages_in image) w
    IsTied (Some DbAdmin) (AdminAt number) before w image = IsFull (pages_in image) w
    IsTied (Some DbOnline) (OnlineAt number) before w image =
        before.state ≡ Offline → IsFull (pages_in image) w
    IsTied (Some DbOffline) OfflineNow before w image = IsFull (pages_in image) w
    IsTied (Some (TaskBackup medium kind)) TaskBegun before w image =
        IsFull (pages_in image) w × IfSome w.backup_task (λ task. (task.pages ≡ pages_in image)
        × (task.savepoint ≡ savepoint_in image))
    IsTied (Some (BackupStart medium (OfPages kind))) (PagesSaved saved number) before w image =
        IsFull (pages_in image) w × IfSome w.base (λ base. (base.pages ≡ pages_in image)
        × (base.savepoint ≡ savepoint_in image))
    -- a medium that is full is so for the pages of this record
    IsTied (Some (TaskBackup medium kind)) (Refused (MediumFull count)) before w image =
        count ≡ backup_pages before (pages_in image) (OfPages kind)
    IsTied (Some (BackupStart medium (OfPages kind))) (Refused (MediumFull count)) before w image =
        count ≡ backup_pages before (pages_in image) (OfPages kind)
    IsTied _ _ before w image = Unit {0}

    -- line number k + 1 of a run from these worlds, with a world before it and one after it
    abbrev pub LineIs : List World → List TakenLine → ℕ → Line → Reply → (before after : World)
        → Type 0
    LineIs old run k line reply before after = Contains (worlds_after reading old run k) before
        × ((entry : TakenLine) × (slice_get run k ≡ Some entry) × (entry.line ≡ line)
        × (entry.answer.reply ≡ reply) × Contains entry.worlds after)

    -- a savepoint task that a line of a run begins, after which the world is v, and that a turn
    -- further on ends
    pub record IsTask (old : List World) (run : List TakenLine) (begun ended : ℕ) (v : World)
        : Type 0 where
      pub first : (before : World) × LineIs old run begun (Some TaskSavepoint) TaskBegun before v
      pub last : (before after : World) × LineIs old run ended (Some TurnSavepoint) SavepointDone
          before after
      pub in_order : begun < ended
      pub runs_on : (k : ℕ) (entry : TakenLine) → begun ≤ k → k < ended
          → slice_get run k ≡ Some entry → All (λ w. IsSome w.savepoint_task) entry.worlds

    abbrev pub is_turn : Line → Bool
    is_turn (Some TurnSavepoint) = true
    is_turn (Some TurnBackup) = true
    is_turn _ = false

    -- from the start of the call on, the records are tied at these replies. After a savepoint task
    -- the record is a later one with at least the commits of its begin, and has its rows where only
    -- turns came between
    pub record RecordsAreTied (start end : ℕ) (old : List World) (run : List TakenLine)
        : Type 0 where
      pub at_replies : (k : ℕ) (line : Line) (reply : Reply) (before after : World)
          → LineIs old run k line reply before after
          → AtReply start end run (k + 1) (IsTied line reply before after)
      pub tasks : (begun ended : ℕ) (v : World) → IsTask old run begun ended v
          → (t : ℕ) (image : Image) → start ≤ t → t ≤ end → IsReplied start t run (begun + 1)
          → may_leave t image
          → AtReply start end run (ended + 1)
          (λ later. (savepoint_in image < savepoint_in later) × (last v.history ≤ commit_in later))
      pub tasks_alone : (begun ended : ℕ) (v : World) → IsTask old run begun ended v
          → ((k : ℕ) (entry : TakenLine) → begun < k → k < ended → slice_get run k ≡ Some entry
          → IsTrue (is_turn entry.line))
          → AtReply start end run (ended + 1) (λ later. IsFull (pages_in later) v)

    module _ (past_end : Command → Image → Bool) where
      -- and with the same run the records and the names
      pub record KeepsPromise (status : Status) (start end : ℕ) (faults_before faults : ℕ)
          (before now : Option (List ℕ))
          (old : List (World × Ages)) : Type 0 where
        pub first : KeepsRun past_end status start end faults_before faults before now old
        pub records : RecordsAreTied start end (map (λ e. e.0) old) first.run
        pub names : All (λ e. NamesAgree first.run e.0 e.1) old

      abbrev pub Promise : Status → (start end : ℕ) → (faults_before faults : ℕ)
          → (before now : Option (List ℕ)) → Type 0
      Promise status start end faults_before faults before now =
          (old : List (World × Ages)) → CanStart start old
          → KeepsPromise status start end faults_before faults before now old

  -- Making a database, and a generated script

  -- with Done each image is that of the new database, after another answer than a fault none has
  -- changed, and nothing is said
  abbrev pub CreatePromise : Status → (start end birth log_pages : ℕ) → (data_pages : List ℕ)
      → Type 0
  CreatePromise Done start end birth log_pages data_pages =
      ((image : Image) → may_leave end image
      → stands image (created birth (sum data_pages) ((log_pages - 2) * 8192)))
      × (said end ≡ said start)
  CreatePromise DeviceFault start end birth log_pages data_pages = said end ≡ said start
  CreatePromise _ start end birth log_pages data_pages =
      ((image : Image) → may_leave end image → may_leave start image) × (said end ≡ said start)

  -- all lines of the generated script were taken, or the first ones
  abbrev pub LinesAreTaken : Status → List Line → List TakenLine → Type 0
  LinesAreTaken Done lines run = lines_of run ≡ lines
  LinesAreTaken SayFault lines run = lines_of run ≡ lines
  LinesAreTaken _ lines run = lines_of run ≡ take (length run) lines

  -- the summary is said, or a part of it, or nothing
  abbrev pub SummaryIsSaid : Status → (said_before said summary : List ℕ) → Type 0
  SummaryIsSaid Done said_before said summary = said ≡ said_before ++ summary
  SummaryIsSaid SayFault said_before said summary =
      (part : List ℕ) × (said ≡ said_before ++ part) × IsPrefix part summary
  SummaryIsSaid _ said_before said summary = said ≡ said_before

  -- the promise of a call that runs the generated script of a seed and a count, and then says a
  -- summary of the run
  pub record KeepsLoadPromise (status : Status) (start end seed count : ℕ)
      (old : List (World × Ages)) : Type 0 where
    pub run : List TakenLine
    pub follows : Run reading (map (λ e. e.0) old) run
    pub script : LinesAreTaken status (load_lines seed count) run
    pub status_is : LoadEnds status (replies_of run)
    pub replies : SummaryIsSaid status (said start) (said end) (load_summary (replies_of run))
    pub crashes : (t : ℕ) (image : Image) → start ≤ t → t ≤ end → may_leave t image
        → (k : ℕ) × (k ≤ length run) × ((v : World) × stands image v
        × IsPossible (map (λ e. e.0) old) run k v)
    pub exit : (image : Image) → may_leave end image
        → (w : World) × Contains (last_worlds reading (map (λ e. e.0) old) run) w
        × stands image (off w)
    pub names : All (λ e. NamesAgree run e.0 e.1) old
