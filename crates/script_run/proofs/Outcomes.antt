-- What a call returns, from what it does.
--     on_err, on_err-more, caused_on, caused_err      a failure and its cause
--     does_line      a line whose answer was said, or not to its end
--     turned_err      a failure in a line
--     command_causes, refused_causes      the causes of a line
--     other_scan, other_command      only an open scan is answered by rows
use Rattle.std.proofs.Common.{◌≡◌, ◌⊎◌, inl, inr, refl, sym, subst, ap, ◌∙◌, ℕ, ◌≤◌, Bool, true, false, List, ◌++◌, Option, Some, None, Result, Ok, Err, IsErr, OnOk, OnErr, arith}
use Rattle.mdb_model.specs.declared.fault.Failed.{Failed as Fault}
use Rattle.mdb_model.specs.declared.name.Session.{Session}
use Rattle.mdb_model.specs.declared.name.Table.{Table}
use Rattle.mdb_model.specs.declared.script.Command.{Command}
use Rattle.mdb_model.specs.declared.script.Command.TheVariants.{GetRow, PutRow, DelRow, ScanTable, CommitWork, RollbackWork, DbAdmin, DbOnline, DbOffline, DbState, Kill, MakeSavepoint, TaskSavepoint, TaskBackup, TurnSavepoint, TurnBackup, MediumPut, MediumDelete, MediumList, BackupStart, Recover, SnapshotCreate, SnapshotDrop, SnapshotRevert, Info, CheckData}
use Rattle.mdb_model.specs.declared.script.Refusal.{Refusal}
use Rattle.mdb_model.specs.declared.script.Refusal.TheVariants.{DeviceFailed, NumberEnd, Syntax}
use Rattle.mdb_model.specs.declared.script.Reply.{Reply}
use Rattle.mdb_model.specs.declared.script.Reply.TheVariants.{Found, NoRow, PutDone, DelDone, ScanOpen, Committed, NothingToCommit, RolledBack, AdminAt, OnlineAt, OfflineNow, StateIs, SavepointDone, TaskBegun, Running, PagesSaved, LogSaved, MediumMade, MediumDeleted, MediaOpen, Recovered, SnapshotMade, SnapshotDropped, Reverted, InfoIs, Checked, Refused}
use Rattle.mdb_model.specs.Answers.{Answer, plain}
use Rattle.mdb_model.specs.Causes.{Rose, HasCause}
use Rattle.mdb_model.specs.Headline.{ReadsNumbers, IsOpenReply}
use Rattle.mdb_model.specs.Images.{Image}
use Rattle.mdb_model.specs.Runs.{Line}
use Rattle.mdb_model.specs.Script.{Reads, is_skipped}
use Rattle.mdb_model.specs.Text.{text_of}
use Rattle.mdb_model.specs.Worlds.{World}
use Rattle.mdb_host.specs.Disk.{Disk}
use Rattle.open_database.specs.declared.database.Database.{Database}
use Rattle.db_kernel.specs.Taking.{WasInReach}
use Rattle.db_kernel.specs.Damages.{IsInReach, IsOpener, are_past_end, past_end_in}
use Rattle.open_database.specs.Stretch.{EachLeft}
use Rattle.db_kernel.specs.Kept.{FitsWorlds, answer_of}
use Rattle.open_database.specs.Stretch.{Completes}
use Rattle.script_run.specs.Along.{Taken}
use Rattle.script_run.specs.Progress.{DoesLine, ReadsAs, HandlesLine}
use Rattle.script_run.specs.Speaking.{Speaks, SaysWhile}
use Rattle.script_run.proofs.Caused.{LineCauses}
use Rattle.db_kernel.proofs.Fitting.{fits_still, is_off}
use Rattle.script_run.proofs.Speaking.{says_of, still_of}
use Rattle.script_run.proofs.Takings.{IsAfter, is_after, taken, taken_whole}
use Rattle.open_database.specs.Outside.{page_reading, StandsFor}

-- Failures

pub on_err : {T E : Type 0} (P : Type 0) (r : Result T E) → P → OnErr r P
on_err P (Ok value) p = tt
on_err P (Err fault) p = p

pub on_err-more : {T E : Type 0} (P Q : Type 0) (r : Result T E) → (P → Q) → OnErr r P → OnErr r Q
on_err-more P Q (Ok value) f p = tt
on_err-more P Q (Err fault) f p = f p

rose_on : (a b c : ℕ) → a ≤ b → Rose b c → Rose a c
rose_on a b c le rose = omega (arith, le, rose)

-- the count was lower before
pub caused_on : {T E : Type 0} (a b c : ℕ) (r : Result T E) → a ≤ b → HasCause b c r → HasCause a c r
caused_on a b c r le cause = record {
  later = omega (arith, le, cause.later);
  failed = on_err-more (Rose b c) (Rose a c) r (rose_on a b c le) cause.failed;
}

-- the count rose, so anything may have failed
pub caused_err : {T E : Type 0} (a b c : ℕ) (r : Result T E) → a ≤ b → b ≤ c → Rose b c → HasCause a c r
caused_err a b c r le later rose = record {
  later = omega (arith, le, later);
  failed = on_err (Rose a c) r (rose_on a b c le rose);
}

-- Lines

refusal_in : Reply → Refusal
refusal_in (Refused refusal) = refusal
refusal_in _ = Syntax

pub refused_same : (a b : Refusal) → Refused a ≡ Refused b → a ≡ b
unfolding refusal_in
refused_same a b is = ap refusal_in is

pub does_line : (d0 d1 d2 : Disk) (f0 f1 f2 : ℕ) (ws : List World) (line : Line) (answer : Answer) (after : Option Database)
    → Completes page_reading StandsFor d0 d1 ws line answer (FitsWorlds after d1)
    → LineCauses d0 d1 f0 f1 ws line answer.reply → f2 ≡ f1 → Speaks d1 d2 (text_of answer) → (r : Result (Unit {0}) Fault) → OnOk r (d2.said d2.now ≡ d1.said d1.now ++ text_of answer)
    → DoesLine d0 d2 f0 f2 ws line after r
does_line d0 d1 d2 f0 f1 f2 ws line answer after done causes same speaks r whole = by_result r whole where
  says : SaysWhile d1 d2 (text_of answer) (IsAfter page_reading StandsFor ws line answer.reply done.after)
  says = says_of (IsAfter page_reading StandsFor ws line answer.reply done.after) d1 d2 (text_of answer) speaks (is_after page_reading StandsFor d0 d1 ws line answer done.after done.does)

  by_result : (r : Result (Unit {0}) Fault) → OnOk r (d2.said d2.now ≡ d1.said d1.now ++ text_of answer) → DoesLine d0 d2 f0 f2 ws line after r
  by_result (Ok unit) whole =
      taken_whole page_reading StandsFor d0 d1 d2 ws line answer done.after done.does says f0 f1 f2 causes (omega (arith, same)) (FitsWorlds after d2)
      (fits_still after d1 d2 done.after done.fit (still_of d1 d2 (text_of answer) speaks)) whole
  by_result (Err fault) whole = taken page_reading StandsFor d0 d1 d2 ws line answer done.after done.does says f0 f1 f2 causes (omega (arith, same))

pub turned_err : (old new : Disk) (before now : ℕ) (ws : List World) (IsText : List ℕ → Type 0) (after : Option Database) (r : Result Bool Fault) → IsErr r
    → (line : Line) × ReadsAs IsText line × Taken page_reading StandsFor old new before now ws line → HandlesLine old new before now ws IsText after r
turned_err old new before now ws IsText after (Ok answered) is taken = cc
turned_err old new before now ws IsText after (Err fault) is taken = taken

-- a line has no more than the text that it has
pub reads_text : (text : List ℕ) (line : Line) → is_skipped text ≡ false → Reads text line → ReadsAs (λ other. other ≡ text) line
reads_text text line answered reads other is =
    subst (λ (t : List ℕ). (is_skipped t ≡ false) × Reads t line) (sym is) (answered, reads)

-- The causes of a line that the kernel took, as its contract tells them

-- the lines that read numbers and are built open a database
opener_of : (database : Option Database) (disk : Disk) (ws : List World) → FitsWorlds database disk ws → (command : Command) → ReadsNumbers ws (Some command) → (database ≡ None) × IsOpener command
opener_of database disk ws fit DbAdmin reads = (is_off database disk ws fit reads, tt)
opener_of database disk ws fit DbOnline reads = (is_off database disk ws fit reads, tt)
opener_of database disk ws fit (Recover media log until) reads = absurd cc
opener_of database disk ws fit (GetRow session table key) reads = absurd reads
opener_of database disk ws fit (PutRow session table key value) reads = absurd reads
opener_of database disk ws fit (DelRow session table key) reads = absurd reads
opener_of database disk ws fit (ScanTable session table) reads = absurd reads
opener_of database disk ws fit (CommitWork session) reads = absurd reads
opener_of database disk ws fit (RollbackWork session) reads = absurd reads
opener_of database disk ws fit DbOffline reads = absurd reads
opener_of database disk ws fit DbState reads = absurd reads
opener_of database disk ws fit Kill reads = absurd reads
opener_of database disk ws fit MakeSavepoint reads = absurd reads
opener_of database disk ws fit TaskSavepoint reads = absurd reads
opener_of database disk ws fit (TaskBackup medium kind) reads = absurd reads
opener_of database disk ws fit TurnSavepoint reads = absurd reads
opener_of database disk ws fit TurnBackup reads = absurd reads
opener_of database disk ws fit (MediumPut medium pages) reads = absurd reads
opener_of database disk ws fit (MediumDelete medium) reads = absurd reads
opener_of database disk ws fit MediumList reads = absurd reads
opener_of database disk ws fit (BackupStart medium kind) reads = absurd reads
opener_of database disk ws fit SnapshotCreate reads = absurd reads
opener_of database disk ws fit (SnapshotDrop number) reads = absurd reads
opener_of database disk ws fit (SnapshotRevert number) reads = absurd reads
opener_of database disk ws fit Info reads = absurd reads
opener_of database disk ws fit CheckData reads = absurd reads

-- no number is past the end in an image that is in reach
reach_ends : (line : Command) (image : Image) → IsInReach image → past_end_in line image ≡ false
reach_ends line image reach = (λ i. are_past_end (reach.has_restart i) (reach.has_info i)) ∙ reach.low

-- the lines that open a database, and the replies of those that were done
opener_or_not : (command : Command) → IsOpener command ⊎ (IsOpener command → ⊥)
opener_or_not DbAdmin = inl tt
opener_or_not DbOnline = inl tt
opener_or_not _ = inr (λ is. is)

open_or_not : (reply : Reply) → IsOpenReply reply ⊎ (IsOpenReply reply → ⊥)
open_or_not (AdminAt number) = inl tt
open_or_not (OnlineAt number) = inl tt
open_or_not (Recovered number) = inl tt
open_or_not _ = inr (λ is. is)

pub command_causes : (old disk : Disk) (f0 f1 : ℕ) (ws : List World) (database : Option Database) → FitsWorlds database old ws → (command : Command) (reply : Reply)
    → old.now ≤ disk.now → f0 ≤ f1 → (reply ≡ Refused DeviceFailed → Rose f0 f1)
    → (reply ≡ Refused NumberEnd → EachLeft disk (λ image. past_end_in command image ≡ true))
    → (database ≡ None → IsOpener command → IsOpenReply reply → WasInReach old disk)
    → LineCauses old disk f0 f1 ws (Some command) reply
command_causes old disk f0 f1 ws database fit command reply goes later device past in_reach = by_case (opener_or_not command) (open_or_not reply) database refl where
  -- at the end of the line, where it opens no database
  at_end : (ReadsNumbers ws (Some command) → IsOpenReply reply → ⊥) → LineCauses old disk f0 f1 ws (Some command) reply
  at_end never = record {
    read = disk.now;
    from = goes;
    upto = omega arith;
    counted = later;
    device = device;
    past = past;
    in_reach = λ reads opened. absurd (never reads opened);
  }

  by_case : IsOpener command ⊎ (IsOpener command → ⊥) → IsOpenReply reply ⊎ (IsOpenReply reply → ⊥) → (o : Option Database) → database ≡ o → LineCauses old disk f0 f1 ws (Some command) reply
  by_case (inr other) opened o is = at_end (λ reads open_reply. other (opener_of database old ws fit command reads).1)
  by_case (inl opener) (inr other) o is = at_end (λ reads open_reply. other open_reply)
  by_case (inl opener) (inl opened) (Some held) is =
      at_end (λ reads open_reply. let none = (opener_of database old ws fit command reads).0 in let wrong : ◌≡◌ {A = Option Database} None (Some held) = sym none ∙ is in cc)
  by_case (inl opener) (inl opened) None is =
      let r = in_reach is opener opened in
      record {
        read = r.at;
        from = r.from;
        upto = r.upto;
        counted = later;
        device = device;
        past = λ refused. absurd (subst IsOpenReply refused opened);
        in_reach = λ reads open_reply image left. reach_ends command image (r.each image left);
      }

-- a line that the kernel does not take has none
pub refused_causes : (disk : Disk) (f : ℕ) (ws : List World) (line : Line) (refusal : Refusal) → (refusal ≡ DeviceFailed → ⊥) → (refusal ≡ NumberEnd → ⊥)
    → LineCauses disk disk f f ws line (Refused refusal)
refused_causes disk f ws line refusal device end = record {
  read = disk.now;
  from = omega arith;
  upto = omega arith;
  counted = omega arith;
  device = λ is. absurd (device (refused_same refusal DeviceFailed is));
  past = λ is. absurd (end (refused_same refusal NumberEnd is));
  in_reach = λ reads opened. absurd opened;
}

-- only an open scan is answered by rows
pub other_scan : (session : Session) (table : Table) (database : Option Database) (disk : Disk) (reply : Reply) → (reply ≡ ScanOpen → ⊥) → answer_of (ScanTable session table) database disk reply ≡ plain reply
other_scan session table database disk ScanOpen other = absurd (other refl)
other_scan session table database disk (Found value) other = refl
other_scan session table database disk NoRow other = refl
other_scan session table database disk PutDone other = refl
other_scan session table database disk DelDone other = refl
other_scan session table database disk (Committed commit) other = refl
other_scan session table database disk NothingToCommit other = refl
other_scan session table database disk RolledBack other = refl
other_scan session table database disk (AdminAt commit) other = refl
other_scan session table database disk (OnlineAt commit) other = refl
other_scan session table database disk OfflineNow other = refl
other_scan session table database disk (StateIs state) other = refl
other_scan session table database disk SavepointDone other = refl
other_scan session table database disk TaskBegun other = refl
other_scan session table database disk (Running task) other = refl
other_scan session table database disk (PagesSaved kind pages) other = refl
other_scan session table database disk (LogSaved first last) other = refl
other_scan session table database disk MediumMade other = refl
other_scan session table database disk MediumDeleted other = refl
other_scan session table database disk MediaOpen other = refl
other_scan session table database disk (Recovered commit) other = refl
other_scan session table database disk (SnapshotMade number commit) other = refl
other_scan session table database disk SnapshotDropped other = refl
other_scan session table database disk (Reverted commit) other = refl
other_scan session table database disk (InfoIs name commit saved blocks need) other = refl
other_scan session table database disk Checked other = refl
other_scan session table database disk (Refused refusal) other = refl

pub other_command : (command : Command) (database : Option Database) (disk : Disk) (reply : Reply) → ((session : Session) (table : Table) → command ≡ ScanTable session table → ⊥) → answer_of command database disk reply ≡ plain reply
other_command (ScanTable session table) database disk reply other = absurd (other session table refl)
other_command (GetRow session table key) database disk reply other = refl
other_command (PutRow session table key value) database disk reply other = refl
other_command (DelRow session table key) database disk reply other = refl
other_command (CommitWork session) database disk reply other = refl
other_command (RollbackWork session) database disk reply other = refl
other_command DbAdmin database disk reply other = refl
other_command DbOnline database disk reply other = refl
other_command DbOffline database disk reply other = refl
other_command DbState database disk reply other = refl
other_command Kill database disk reply other = refl
other_command MakeSavepoint database disk reply other = refl
other_command TaskSavepoint database disk reply other = refl
other_command (TaskBackup medium kind) database disk reply other = refl
other_command TurnSavepoint database disk reply other = refl
other_command TurnBackup database disk reply other = refl
other_command (MediumPut medium pages) database disk reply other = refl
other_command (MediumDelete medium) database disk reply other = refl
other_command MediumList database disk reply other = refl
other_command (BackupStart medium kind) database disk reply other = refl
other_command (Recover media log until) database disk reply other = refl
other_command SnapshotCreate database disk reply other = refl
other_command (SnapshotDrop number) database disk reply other = refl
other_command (SnapshotRevert number) database disk reply other = refl
other_command Info database disk reply other = refl
other_command CheckData database disk reply other = refl
