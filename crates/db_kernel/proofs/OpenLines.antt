-- A line of an open database, as the kernel takes it.
--     stage      the rows are on pages
--     closed_done, open_done, failed_done      what it does
--     takes_kept, takes_closed, takes_given_up      what it keeps
--     asked_open, asked_off, asked_none      how the rows of a scan are asked for
use Rattle.std.proofs.Common.{◌≡◌, refl, sym, ap, subst, ◌∙◌, ℕ, ◌^◌, ◌+◌, ◌<◌, ◌==◌, true, false, List, [], length, map, filter, Option, Some, None, Ok, Err, max, arith}
use Rattle.std.proofs.Math.Nat.{le-max_left, le-max_right}
use Rattle.std.specs.FinMap.{empty, get-empty}
use Rattle.mdb_host.specs.Disk.{Disk}
use Rattle.mdb_model.proofs.Computing.{entries-empty}
use Rattle.mdb_model.specs.Answers.{Answer, Row, plain, refused}
use Rattle.mdb_model.specs.Causes.{Rose}
use Rattle.mdb_model.specs.Runs.{Line}
use Rattle.mdb_model.specs.Steps.{rows_of}
use Rattle.mdb_model.specs.Tables.{Tables, place_cmp}
use Rattle.mdb_model.specs.Worlds.{World}
use Rattle.mdb_model.specs.declared.fault.PageFault.{PageFault}
use Rattle.mdb_model.specs.declared.fault.PageFault.TheVariants.{Failed, Damaged as PageDamaged}
use Rattle.mdb_model.specs.declared.name.Table.{Table}
use Rattle.mdb_model.specs.declared.script.Command.{Command}
use Rattle.mdb_model.specs.declared.script.Command.TheVariants.{ScanTable, DbOffline, Kill}
use Rattle.mdb_model.specs.declared.script.Refusal.{Refusal}
use Rattle.mdb_model.specs.declared.script.Refusal.TheVariants.{Damaged, DeviceFailed, NumberEnd}
use Rattle.mdb_model.specs.declared.script.Reply.{Reply}
use Rattle.mdb_model.specs.declared.script.Reply.TheVariants.{Refused, OfflineNow}
use Rattle.session_rows.specs.Replies.{scan_answer, IsRefusal}
use Rattle.open_database.specs.declared.database.Database.{Database}
use Rattle.open_database.specs.Outside.{page_reading, StandsFor}
use Rattle.open_database.specs.Refusing.{KeepsDatabase}
use Rattle.open_database.specs.Replies.{IsInside}
use Rattle.open_database.specs.Serving.{FitsOpen, AreOff, greatest_number}
use Rattle.open_database.specs.Stage.{RowsAreOnPages}
use Rattle.open_database.specs.Stretch.{Completes}
use Rattle.open_database.specs.Taking.{closes, seen_by, CanScan, CanAskFor, DoesLine, TakesOpen}
use Rattle.db_kernel.specs.Kept.{FitsWorlds, CanAsk, IsScan, answer_of, page_refusal}
use Rattle.db_kernel.specs.Taking.{RefusalLeaves, TakesLine}
use Rattle.db_kernel.proofs.Fitting.{fits_off, fits_in, sound_off, sound_some}
use Rattle.db_kernel.proofs.Telling.{fits_told}

never : false ≡ true → ⊥
never is = cc

-- a refusal is told alike for each line
pub answer_refused : (line : Command) (database : Option Database) (disk : Disk) (cause : Refusal) → answer_of line database disk (Refused cause) ≡ refused cause
answer_refused (ScanTable session table) database disk cause = refl
answer_refused _ database disk cause = refl

-- the rows are on pages
pub stage : RowsAreOnPages
stage = record { on_pages = refl; savepoint = refl; info = refl }

-- What it does

module _ (tells : Type 0) (told : tells) (d0 d1 : Disk) (ws : List World) where
  -- the kernel is off after it
  turned_off : (line : Line) (answer : Answer) → Completes page_reading StandsFor d0 d1 ws line answer AreOff → Completes page_reading StandsFor d0 d1 ws line answer (FitsWorlds None d1)
  turned_off line answer c = record { after = c.after; does = c.does; fit = fits_off d1 c.after c.fit }

  -- its database is open after it
  stays_open : (database : Database) (line : Line) (answer : Answer) → Completes page_reading StandsFor d0 d1 ws line answer (FitsOpen tells database d1) → Completes page_reading StandsFor d0 d1 ws line answer (FitsWorlds (Some database) d1)
  stays_open database line answer c = record { after = c.after; does = c.does; fit = fits_in (Some database) d1 c.after (fits_told tells (Unit {0}) told tt database d1 c.after c.fit) }

  pub closed_done : (line : Command) (after : Database) (reply : Reply) → closes line ≡ true → DoesLine tells d0 d1 ws line after (Ok reply) → Completes page_reading StandsFor d0 d1 ws (Some line) (answer_of line None d1 reply) (FitsWorlds None d1)
  closed_done DbOffline after reply is done = turned_off (Some DbOffline) (plain reply) done
  closed_done Kill after reply is done = turned_off (Some Kill) (plain reply) done
  closed_done _ after reply is done = absurd (never is)

  pub open_done : (line : Command) (after : Database) (reply : Reply) → closes line ≡ false → DoesLine tells d0 d1 ws line after (Ok reply) → Completes page_reading StandsFor d0 d1 ws (Some line) (answer_of line (Some after) d1 reply) (FitsWorlds (Some after) d1)
  open_done DbOffline after reply is done = absurd (never (sym is))
  open_done Kill after reply is done = absurd (never (sym is))
  open_done (ScanTable session table) after reply is done = stays_open after (Some (ScanTable session table)) (scan_answer (seen_by after d1 session) table reply) done
  open_done line after reply is done = stays_open after (Some line) (plain reply) done

  pub failed_done : (line : Command) (after : Database) (fault : PageFault) → DoesLine tells d0 d1 ws line after (Err fault) → Completes page_reading StandsFor d0 d1 ws (Some line) (answer_of line None d1 (Refused (page_refusal fault))) (FitsWorlds None d1)
  failed_done line after Failed done = subst (λ (answer : Answer). Completes page_reading StandsFor d0 d1 ws (Some line) answer (FitsWorlds None d1)) (sym (answer_refused line None d1 DeviceFailed)) (turned_off (Some line) (refused DeviceFailed) done)
  failed_done line after (PageDamaged damage) done = absurd done

-- What it keeps

some_none : {A : Type 0} (x : A) → ◌≡◌ {A = Option A} (Some x) None → ⊥
some_none x is = cc

not_end : (reply : Reply) → IsInside reply → reply ≡ Refused NumberEnd → ⊥
not_end reply inside is = subst IsInside is inside

not_failed : (reply : Reply) → IsInside reply → reply ≡ Refused DeviceFailed → ⊥
not_failed reply inside is = subst IsInside is inside

refusal_kept : (old new : Database) (reply : Reply) → IsInside reply → (IsRefusal reply → KeepsDatabase old new) → RefusalLeaves (Some old) (Some new) reply
refusal_kept old new (Refused DeviceFailed) inside kept = absurd inside
refusal_kept old new (Refused (Damaged damage)) inside kept = absurd inside
refusal_kept old new (Refused _) inside kept = kept tt
refusal_kept old new _ inside kept = tt

module _ (tells : Type 0) (d0 d1 : Disk) (f0 f1 : ℕ) (line : Command) (old new : Database) where
  pub takes_kept : (reply : Reply) → TakesOpen tells d0 d1 f0 f1 old new (Ok reply) → TakesLine tells d0 d1 f0 f1 (Some old) (Some new) line reply
  takes_kept reply t = record {
    sound = sound_some tells new d1 t.sound;
    numbers = omega (arith, t.numbers, le-max_right (2 ^ 61) (greatest_number old));
    keeps = t.keeps;
    refused = refusal_kept old new reply t.inside t.refused;
    in_reach = λ told off. absurd (some_none old off);
    past_end = λ told is. absurd (not_end reply t.inside is);
    damage = λ told off. absurd (some_none old off);
    later = t.later;
    cause = λ is. absurd (not_failed reply t.inside is);
  }

  pub takes_closed : (reply : Reply) → reply ≡ OfflineNow → TakesOpen tells d0 d1 f0 f1 old new (Ok reply) → TakesLine tells d0 d1 f0 f1 (Some old) None line reply
  takes_closed reply is t = record {
    sound = sound_off tells d1;
    numbers = omega arith;
    keeps = t.keeps;
    refused = subst (λ (r : Reply). RefusalLeaves (Some old) None r) (sym is) tt;
    in_reach = λ told off. absurd (some_none old off);
    past_end = λ told end. absurd (not_end reply t.inside end);
    damage = λ told off. absurd (some_none old off);
    later = t.later;
    cause = λ failed. absurd (not_failed reply t.inside failed);
  }

  given_up : (fault : PageFault) → RefusalLeaves (Some old) None (Refused (page_refusal fault))
  given_up Failed = refl
  given_up (PageDamaged damage) = refl

  page_end : (fault : PageFault) → Refused (page_refusal fault) ≡ Refused NumberEnd → ⊥
  page_end Failed is = cc
  page_end (PageDamaged damage) is = cc

  page_cause : (fault : PageFault) → TakesOpen tells d0 d1 f0 f1 old new (Err fault) → Refused (page_refusal fault) ≡ Refused DeviceFailed → Rose f0 f1
  page_cause Failed t is = t.cause refl
  page_cause (PageDamaged damage) t is = absurd cc

  pub takes_given_up : (fault : PageFault) → TakesOpen tells d0 d1 f0 f1 old new (Err fault) → TakesLine tells d0 d1 f0 f1 (Some old) None line (Refused (page_refusal fault))
  takes_given_up fault t = record {
    sound = sound_off tells d1;
    numbers = omega arith;
    keeps = t.keeps;
    refused = given_up fault;
    in_reach = λ told off. absurd (some_none old off);
    past_end = λ told end. absurd (page_end fault end);
    damage = λ told off. absurd (some_none old off);
    later = t.later;
    cause = page_cause fault t;
  }

-- How the rows of a scan are asked for

pub asked_open : (line : Command) (after : Database) (disk : Disk) → CanAskFor line after disk → CanAsk line (Some after) disk
asked_open (ScanTable session table) after disk can = can
asked_open _ after disk can = tt

-- where there are no rows
none_asked : (table : Table) → CanScan empty table
none_asked table = record {
  keyed = λ number. get-empty place_cmp (number, []);
  few = subst (λ (n : ℕ). n + 1 < 2 ^ 64) (sym (ap (λ es. length (map (λ e. Row e.0.1 e.1) (filter (λ e. e.0.0 == table.0) es))) (entries-empty {X = List ℕ} place_cmp))) (omega arith);
}

pub asked_off : (line : Command) (disk : Disk) → CanAsk line None disk
asked_off (ScanTable session table) disk = none_asked table
asked_off _ disk = tt

pub asked_none : (line : Command) (database : Option Database) (disk : Disk) → (IsScan line → database ≡ None) → CanAsk line database disk
asked_none (ScanTable session table) database disk none = subst (λ (o : Option Database). CanAsk (ScanTable session table) o disk) (sym (none tt)) (none_asked table)
asked_none _ database disk none = tt
