-- Lines that tie the records to no world.
--     scans_untied, syntax_untied, starved_untied      a scan, a line that is not in the grammar, and one for which memory
--         ran out
--     state_untied      a line that a state does not admit
--     admin_untied, online_untied      a line that opens a database and is refused
--     told_untied, killed_untied      lines that only tell or stop
use Rattle.std.proofs.Common.{Some, None}
use Rattle.mdb_model.specs.declared.name.Session.{Session}
use Rattle.mdb_model.specs.declared.name.Table.{Table}
use Rattle.mdb_model.specs.declared.script.Command.{Command}
use Rattle.mdb_model.specs.declared.script.Command.TheVariants.{ScanTable, MakeSavepoint, DbAdmin, DbOnline, DbOffline, DbState, Kill, TaskBackup, BackupStart}
use Rattle.mdb_model.specs.declared.script.Refusal.{Refusal}
use Rattle.mdb_model.specs.declared.script.Refusal.TheVariants.{Syntax, WrongState, MemoryWanting}
use Rattle.mdb_model.specs.declared.script.Reply.{Reply}
use Rattle.mdb_model.specs.declared.script.Reply.TheVariants.{Refused}
use Rattle.mdb_model.specs.declared.script.BackupKind.TheVariants.{OfPages, OfLog}
use Rattle.mdb_model.specs.declared.name.State.{State}
use Rattle.mdb_model.specs.Runs.{Line}
use Rattle.open_database.specs.Outside.{Ties, TiesNothing}

pub scans_untied : (session : Session) (table : Table) (reply : Reply) → TiesNothing (Some (ScanTable session table)) reply
unfolding Ties
scans_untied session table reply before after image = tt

-- a refusal that is no full medium
command_untied_syntax : (line : Command) → TiesNothing (Some line) (Refused Syntax)
unfolding Ties
command_untied_syntax MakeSavepoint before after image = tt
command_untied_syntax DbAdmin before after image = tt
command_untied_syntax DbOnline before after image = tt
command_untied_syntax DbOffline before after image = tt
command_untied_syntax (TaskBackup medium kind) before after image = tt
command_untied_syntax (BackupStart medium (OfPages kind)) before after image = tt
command_untied_syntax _ before after image = tt

command_untied_starved : (line : Command) → TiesNothing (Some line) (Refused MemoryWanting)
unfolding Ties
command_untied_starved MakeSavepoint before after image = tt
command_untied_starved DbAdmin before after image = tt
command_untied_starved DbOnline before after image = tt
command_untied_starved DbOffline before after image = tt
command_untied_starved (TaskBackup medium kind) before after image = tt
command_untied_starved (BackupStart medium (OfPages kind)) before after image = tt
command_untied_starved _ before after image = tt

pub state_untied : (line : Command) (state : State) → TiesNothing (Some line) (Refused (WrongState state))
unfolding Ties
state_untied MakeSavepoint state before after image = tt
state_untied DbAdmin state before after image = tt
state_untied DbOnline state before after image = tt
state_untied DbOffline state before after image = tt
state_untied (TaskBackup medium kind) state before after image = tt
state_untied (BackupStart medium (OfPages kind)) state before after image = tt
state_untied _ state before after image = tt

nothing_untied : (reply : Reply) → TiesNothing None reply
unfolding Ties
nothing_untied reply before after image = tt

pub syntax_untied : (line : Line) → TiesNothing line (Refused Syntax)
syntax_untied None = nothing_untied (Refused Syntax)
syntax_untied (Some line) = command_untied_syntax line

pub starved_untied : (line : Line) → TiesNothing line (Refused MemoryWanting)
starved_untied None = nothing_untied (Refused MemoryWanting)
starved_untied (Some line) = command_untied_starved line

-- a line that opens a database, and is refused
pub admin_untied : (cause : Refusal) → TiesNothing (Some DbAdmin) (Refused cause)
unfolding Ties
admin_untied cause before after image = tt

pub online_untied : (cause : Refusal) → TiesNothing (Some DbOnline) (Refused cause)
unfolding Ties
online_untied cause before after image = tt

-- lines that only tell or stop
pub told_untied : (reply : Reply) → TiesNothing (Some DbState) reply
unfolding Ties
told_untied reply before after image = tt

pub killed_untied : (reply : Reply) → TiesNothing (Some Kill) reply
unfolding Ties
killed_untied reply before after image = tt
