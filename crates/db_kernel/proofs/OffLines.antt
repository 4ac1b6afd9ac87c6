-- A line of a kernel that is off.
--     takes_quiet      what a line keeps that calls no device
--     takes_opened, takes_refused      what a restart keeps, as it ends
--     refused_off, told_off, killed_off      what lines do that call no device
use Rattle.std.proofs.Common.{◌≡◌, refl, sym, ap, subst, ◌∙◌, ℕ, ◌^◌, ◌+◌, ◌≤◌, true, List, Option, Some, None, All, max, arith}
use Rattle.std.proofs.Math.Nat.{le-max_left, le-max_right}
use Rattle.mdb_host.proofs.Moments.{keeps_all}
use Rattle.mdb_host.specs.Disk.{Disk, Keeps}
use Rattle.mdb_model.specs.Causes.{Rose}
use Rattle.mdb_model.specs.Headline.{IsOpenReply}
use Rattle.mdb_model.specs.Images.{Image}
use Rattle.mdb_model.specs.declared.script.Command.{Command}
use Rattle.mdb_model.specs.declared.script.Refusal.{Refusal}
use Rattle.mdb_model.specs.declared.script.Refusal.TheVariants.{Damaged, DeviceFailed, RestoreOpen, NumberEnd}
use Rattle.mdb_model.specs.declared.script.Reply.{Reply}
use Rattle.mdb_model.specs.declared.script.Reply.TheVariants.{Refused, StateIs, OfflineNow}
use Rattle.open_database.specs.declared.database.Access.{Access}
use Rattle.open_database.specs.declared.database.Access.TheVariants.{Admin, Online}
use Rattle.open_database.specs.declared.database.Database.{Database}
use Rattle.open_database.specs.Replies.{IsInside}
use Rattle.open_database.specs.Serving.{IsSoundDatabase, AreOff, greatest_number}
use Rattle.open_database.specs.Stretch.{EachLeft, LeavesOnly, Completes}
use Rattle.db_kernel.specs.Damages.{Refuses, RefusalReports, RepliesDamage, past_end_in}
use Rattle.db_kernel.specs.Kept.{FitsWorlds, answer_of, opens, opened_reply}
use Rattle.db_kernel.specs.Taking.{RefusalLeaves, TakesLine, WasInReach}
use Rattle.db_kernel.proofs.Fitting.{sound_off, sound_some, fits_out}
use Rattle.mdb_model.specs.Answers.{Answer, plain, refused}
use Rattle.mdb_model.specs.Runs.{Entry}
use Rattle.mdb_model.specs.Worlds.{World, off}
use Rattle.mdb_model.specs.declared.name.State.TheVariants.{Offline}
use Rattle.mdb_model.specs.declared.script.Command.TheVariants.{DbState, Kill}
use Rattle.open_database.specs.Outside.{page_reading, StandsFor, TiesNothing}
use Rattle.db_kernel.proofs.Closed.{entry_told, killed}
use Rattle.db_kernel.proofs.OpenLines.{answer_refused}
use Rattle.db_kernel.proofs.Restarting.{off_still, still_there}
use Rattle.db_kernel.proofs.Untied.{told_untied, killed_untied}

leaves_off : (reply : Reply) → RefusalLeaves None None reply
leaves_off (Refused DeviceFailed) = refl
leaves_off (Refused (Damaged damage)) = refl
leaves_off (Refused _) = tt
leaves_off _ = tt

inside_damage : (image : Image) (reply : Reply) → IsInside reply → RepliesDamage image reply
inside_damage image (Refused (Damaged damage)) inside = absurd inside
inside_damage image (Refused RestoreOpen) inside = absurd inside
inside_damage image (Refused NumberEnd) inside = absurd inside
inside_damage image (Refused _) inside = tt
inside_damage image _ inside = tt

-- a line that calls no device
pub takes_quiet : (tells : Type 0) (disk : Disk) (failed : ℕ) (line : Command) (reply : Reply) → IsInside reply → (IsOpenReply reply → ⊥) → TakesLine tells disk disk failed failed None None line reply
takes_quiet tells disk failed line reply inside not_open = record {
  sound = sound_off tells disk;
  numbers = omega arith;
  keeps = λ told. keeps_all disk;
  refused = leaves_off reply;
  in_reach = λ told off opener opened. absurd (not_open opened);
  past_end = λ told is. absurd (subst IsInside is inside);
  damage = λ told off. inside_damage disk.seen reply inside;
  later = omega arith;
  cause = λ is. absurd (subst IsInside is inside);
}

-- A restart

reports : (image : Image) (refusal : Refusal) → Refuses image refusal → RefusalReports image refusal
reports image (Damaged damage) is = is
reports image RestoreOpen is = is
reports image NumberEnd is = is
reports image _ is = tt

opened_leaves : (access : Access) (number : ℕ) (database : Database) → RefusalLeaves None (Some database) (opened_reply access number)
opened_leaves Admin number database = tt
opened_leaves Online number database = tt

opened_damage : (image : Image) (access : Access) (number : ℕ) → RepliesDamage image (opened_reply access number)
opened_damage image Admin number = tt
opened_damage image Online number = tt

opened_is : (access : Access) (number : ℕ) (cause : Refusal) → opened_reply access number ≡ Refused cause → ⊥
opened_is Admin number cause is = cc
opened_is Online number cause is = cc

module _ (tells : Type 0) (d0 d1 : Disk) (f0 f1 : ℕ) (access : Access) (keeps : tells → Keeps d0 d1) (later : f0 ≤ f1) where
  pub takes_opened : (database : Database) (number : ℕ) → IsSoundDatabase tells database d1 → greatest_number database ≤ 2 ^ 61 + 2 ^ 35 → (tells → WasInReach d0 d1)
      → TakesLine tells d0 d1 f0 f1 None (Some database) (opens access) (opened_reply access number)
  takes_opened database number sound numbers in_reach = record {
    sound = sound_some tells database d1 sound;
    numbers = omega (arith, numbers, le-max_left (2 ^ 61) 0);
    keeps = keeps;
    refused = opened_leaves access number database;
    in_reach = λ told off opener opened. in_reach told;
    past_end = λ told is. absurd (opened_is access number NumberEnd is);
    damage = λ told off. opened_damage d0.seen access number;
    later = later;
    cause = λ is. absurd (opened_is access number DeviceFailed is);
  }

  same_cause : (a b : Refusal) → Refused a ≡ Refused b → a ≡ b
  same_cause a b is = cc

  pub takes_refused : (cause : Refusal) → (tells → Refuses d0.seen cause) → (tells → cause ≡ NumberEnd → EachLeft d1 (λ image. past_end_in (opens access) image ≡ true)) → (cause ≡ DeviceFailed → Rose f0 f1)
      → TakesLine tells d0 d1 f0 f1 None None (opens access) (Refused cause)
  takes_refused cause refuses past_end rose = record {
    sound = sound_off tells d1;
    numbers = omega arith;
    keeps = keeps;
    refused = leaves_off (Refused cause);
    in_reach = λ told off opener opened. absurd opened;
    past_end = λ told is. past_end told (same_cause cause NumberEnd is);
    damage = λ told off. reports d0.seen cause (refuses told);
    later = later;
    cause = λ is. rose (same_cause cause DeviceFailed is);
  }

-- What a line does that calls no device

pub refused_off : (disk : Disk) (ws : List World) (line : Command) (cause : Refusal) (database : Option Database) → database ≡ None → FitsWorlds None disk ws → LeavesOnly page_reading StandsFor disk ws
    → TiesNothing (Some line) (Refused cause) → Entry page_reading ws (Some line) (refused cause) ws → Completes page_reading StandsFor disk disk ws (Some line) (answer_of line database disk (Refused cause)) (FitsWorlds database disk)
refused_off disk ws line cause database off fit stand ties entry =
    let rest = fits_out None disk ws fit in
    subst (λ (o : Option Database). Completes page_reading StandsFor disk disk ws (Some line) (answer_of line o disk (Refused cause)) (FitsWorlds o disk)) (sym off)
    (subst (λ (answer : Answer). Completes page_reading StandsFor disk disk ws (Some line) answer (FitsWorlds None disk)) (sym (answer_refused line None disk cause))
    (off_still disk ws ws (Some line) (refused cause) entry ties rest (still_there ws rest) stand))

-- worlds that are off are so by their state
pub all_offline : (ws : List World) → AreOff ws → All (λ w. w.state ≡ Offline) ws
all_offline ws rest k d inside = sym (ap (λ (w : World). w.state) (rest k d inside))

pub told_off : (disk : Disk) (ws : List World) (database : Option Database) → database ≡ None → FitsWorlds None disk ws → LeavesOnly page_reading StandsFor disk ws
    → Completes page_reading StandsFor disk disk ws (Some DbState) (plain (StateIs Offline)) (FitsWorlds database disk)
told_off disk ws database off fit stand =
    let rest = fits_out None disk ws fit in
    subst (λ (o : Option Database). Completes page_reading StandsFor disk disk ws (Some DbState) (plain (StateIs Offline)) (FitsWorlds o disk)) (sym off)
    (off_still disk ws ws (Some DbState) (plain (StateIs Offline)) (entry_told page_reading ws Offline (all_offline ws rest)) (told_untied (StateIs Offline)) rest (still_there ws rest) stand)

pub killed_off : (disk : Disk) (ws : List World) (database : Option Database) → database ≡ None → FitsWorlds None disk ws → LeavesOnly page_reading StandsFor disk ws
    → Completes page_reading StandsFor disk disk ws (Some Kill) (plain OfflineNow) (FitsWorlds database disk)
killed_off disk ws database off fit stand =
    let rest = fits_out None disk ws fit in
    let k = killed page_reading ws rest in
    subst (λ (o : Option Database). Completes page_reading StandsFor disk disk ws (Some Kill) (plain OfflineNow) (FitsWorlds o disk)) (sym off)
    (off_still disk ws k.0 (Some Kill) (plain OfflineNow) k.1 (killed_untied OfflineNow) k.2 k.3 stand)
