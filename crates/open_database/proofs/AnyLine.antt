-- A line of a session as any line of an open database.
--     takes_open      what a line on the rows keeps
--     takes_still      what a line keeps that calls no device
--     takes_done, takes_saved      what a line keeps that calls devices
--     does_line      what a line does that closes nothing
--     does_close      and one that closes the database
--     on_reply      what is so of the one reply that it may have
use Rattle.std.proofs.Common.{◌≡◌, sym, subst, ℕ, ◌+◌, ◌^◌, ◌≤◌, Bool, true, false, List, Some, Result, Ok, Err, IfOk, arith}
use Rattle.std.specs.Prelude.{OnOk, OnErr}
use Rattle.mdb_model.specs.declared.fault.PageFault.{PageFault}
use Rattle.mdb_model.specs.declared.fault.PageFault.TheVariants.{Failed, Damaged}
use Rattle.mdb_model.specs.declared.script.Command.{Command}
use Rattle.mdb_model.specs.declared.script.Reply.{Reply}
use Rattle.mdb_model.specs.Answers.{Answer}
use Rattle.mdb_model.specs.Worlds.{World}
use Rattle.mdb_model.specs.Causes.{Rose, HasCause}
use Rattle.mdb_model.specs.declared.script.Command.TheVariants.{DbOffline}
use Rattle.mdb_host.specs.Disk.{Disk, Keeps}
use Rattle.mdb_host.proofs.Moments.{keeps_all}
use Rattle.session_rows.specs.Replies.{IsRefusal}
use Rattle.open_database.specs.declared.database.Database.{Database}
use Rattle.open_database.specs.Outside.{page_reading, StandsFor}
use Rattle.open_database.specs.Refusing.{KeepsDatabase}
use Rattle.open_database.specs.Replies.{IsInside}
use Rattle.open_database.specs.RowLines.{TakesOpenLine}
use Rattle.open_database.specs.Saving.{CloseDoes}
use Rattle.open_database.specs.Serving.{IsSoundDatabase, FitsOpen, LineDoes, greatest_number}
use Rattle.open_database.specs.Stretch.{Completes}
use Rattle.open_database.specs.Taking.{RefusalKeeps, TakesOpen, FitsAfter, DoesLine, closes, answer_by}

all_refusals : (old new : Database) (result : Result Reply PageFault) → IfOk result (λ reply. IsRefusal reply → KeepsDatabase old new) → RefusalKeeps old new result
all_refusals old new (Ok reply) kept = kept
all_refusals old new (Err fault) kept = tt

on_all : {T E : Type 0} (result : Result T E) (P : Type 0) → P → OnOk result P
on_all (Ok value) P is = is
on_all (Err fault) P is = tt

pub takes_open : (tells : Type 0) (d e : Disk) (failed failed_after : ℕ) (old new : Database) (result : Result Reply PageFault)
    → TakesOpenLine tells d e failed failed_after old new result → TakesOpen tells d e failed failed_after old new result
takes_open tells d e failed failed_after old new result t = record {
  sound = on_all result (IsSoundDatabase tells new e) t.sound;
  numbers = on_all result (greatest_number new ≤ greatest_number old + 2 ^ 35) (few (greatest_number old) (greatest_number new) t.numbers);
  keeps = t.keeps;
  refused = all_refusals old new result t.refused;
  inside = t.inside;
  later = t.later;
  cause = t.cause;
}
  where
    few : (a b : ℕ) → b ≡ a → b ≤ a + 2 ^ 35
    few a b same = omega (arith, same)

-- a line that calls no device
pub takes_still : (tells : Type 0) (d : Disk) (failed : ℕ) (old new : Database) (reply : Reply) → IsSoundDatabase tells new d → greatest_number new ≡ greatest_number old
    → (IsRefusal reply → KeepsDatabase old new) → IsInside reply → TakesOpen tells d d failed failed old new (Ok reply)
takes_still tells d failed old new reply sound numbers refused inside = record {
  sound = sound;
  numbers = few (greatest_number old) (greatest_number new) numbers;
  keeps = λ told. keeps_all d;
  refused = refused;
  inside = inside;
  later = omega arith;
  cause = λ is. not_ok is;
}
  where
    few : (a b : ℕ) → b ≡ a → b ≤ a + 2 ^ 35
    few a b same = omega (arith, same)

    not_ok : {T E : Type 0} {P : Type 0} {value : T} {fault : E} → ◌≡◌ {A = Result T E} (Ok value) (Err fault) → P
    not_ok is = cc

pub on_reply : (result : Result Reply PageFault) (reply : Reply) (P : Reply → Type 0) → IfOk result (λ r. r ≡ reply) → P reply → IfOk result P
on_reply (Ok r) reply P is p = subst P (sym is) p
on_reply (Err fault) reply P is p = tt

-- a line that calls devices
pub takes_done : (tells : Type 0) (d e : Disk) (failed failed_after : ℕ) (old new : Database) (result : Result Reply PageFault)
    → OnOk result (IsSoundDatabase tells new e) → OnOk result (greatest_number new ≤ greatest_number old + 2 ^ 35) → (tells → Keeps d e)
    → IfOk result (λ reply. IsRefusal reply → KeepsDatabase old new) → IfOk result IsInside → failed ≤ failed_after → (result ≡ Err Failed → Rose failed failed_after)
    → TakesOpen tells d e failed failed_after old new result
takes_done tells d e failed failed_after old new result sound numbers keeps refused inside later cause =
    record { sound = sound; numbers = numbers; keeps = keeps; refused = all_refusals old new result refused; inside = inside; later = later; cause = cause }

pub takes_saved : (tells : Type 0) (d e : Disk) (failed failed_after : ℕ) (old new : Database) (result : Result Reply PageFault)
    → OnOk result (IsSoundDatabase tells new e) → OnOk result (greatest_number new ≤ greatest_number old + 2 ^ 35) → (tells → Keeps d e)
    → IfOk result (λ reply. IsRefusal reply → KeepsDatabase old new) → IfOk result IsInside → HasCause failed failed_after result
    → TakesOpen tells d e failed failed_after old new result
takes_saved tells d e failed failed_after old new result sound numbers keeps refused inside cause =
    takes_done tells d e failed failed_after old new result sound numbers keeps refused inside cause.later
    (λ is. subst (λ (r : Result Reply PageFault). OnErr r (Rose failed failed_after)) is cause.failed)

pub does_close : (tells : Type 0) (d e : Disk) (ws : List World) (after : Database) (result : Result Reply PageFault) → CloseDoes d e ws result → DoesLine tells d e ws DbOffline after result
does_close tells d e ws after (Ok reply) does = does
does_close tells d e ws after (Err Failed) does = does
does_close tells d e ws after (Err (Damaged damage)) does = does

-- what a line does, where it closes nothing and its answer is this one
pub does_line : (tells : Type 0) (d e : Disk) (ws : List World) (line : Command) (answer : Reply → Answer) (after : Database) (result : Result Reply PageFault)
    → closes line ≡ false → ((reply : Reply) → answer reply ≡ answer_by line after e reply) → LineDoes tells d e ws line answer after result → DoesLine tells d e ws line after result
does_line tells d e ws line answer after (Ok reply) open_still same does =
    subst (λ (a : Answer). Completes page_reading StandsFor d e ws (Some line) a (FitsAfter (closes line) tells after e)) (same reply)
    (record { after = does.after; does = does.does; fit = fits_on (closes line) open_still does.after does.fit })
  where
    not_true : true ≡ false → ⊥
    not_true wrong = cc

    fits_on : (b : Bool) → b ≡ false → (vs : List World) → FitsOpen tells after e vs → FitsAfter b tells after e vs
    fits_on true wrong vs fit = absurd (not_true wrong)
    fits_on false wrong vs fit = fit
does_line tells d e ws line answer after (Err Failed) open_still same does = does
does_line tells d e ws line answer after (Err (Damaged damage)) open_still same does = does
