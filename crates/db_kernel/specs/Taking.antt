-- What taking a line keeps, and what its reply has for a cause.
--     RefusalLeaves      what a refusal leaves
--     WasInReach      the records were in order as they were read
--     TakesLine      of any line, over a host that tells what it holds or does not
use Rattle.std.specs.Prelude.{◌≡◌, ℕ, ◌+◌, ◌^◌, ◌≤◌, max, Option, Some, None, true}
use Rattle.mdb_model.specs.Causes.{Rose}
use Rattle.mdb_model.specs.Headline.{IsOpenReply}
use Rattle.mdb_model.specs.Images.{Image}
use Rattle.mdb_model.specs.declared.script.Command.{Command}
use Rattle.mdb_model.specs.declared.script.Refusal.TheVariants.{Damaged, DeviceFailed, NumberEnd}
use Rattle.mdb_model.specs.declared.script.Reply.{Reply}
use Rattle.mdb_model.specs.declared.script.Reply.TheVariants.{Refused}
use Rattle.mdb_host.specs.Disk.{Disk, Keeps}
use Rattle.open_database.specs.declared.database.Database.{Database}
use Rattle.open_database.specs.Refusing.{KeepsDatabase}
use Rattle.open_database.specs.Stretch.{EachLeft}
use Rattle.db_kernel.specs.Damages.{RepliesDamage, IsInReach, IsOpener, past_end_in}
use Rattle.db_kernel.specs.Kept.{IsSoundKernel, greatest_in}

-- a kernel is as it was: off, or with its database as it was
abbrev pub IsAsBefore : Option Database → Option Database → Type 0
IsAsBefore None None = Unit {0}
IsAsBefore (Some old) (Some new) = KeepsDatabase old new
IsAsBefore None (Some new) = ⊥
IsAsBefore (Some old) None = ⊥

-- after damage and a failed device the kernel is off, after any other refusal all is as before
abbrev pub RefusalLeaves : Option Database → Option Database → Reply → Type 0
RefusalLeaves old new (Refused DeviceFailed) = new ≡ None
RefusalLeaves old new (Refused (Damaged damage)) = new ≡ None
RefusalLeaves old new (Refused _) = IsAsBefore old new
RefusalLeaves old new _ = Unit {0}

-- at a moment in between, at which nothing was said yet, each image had records in order
pub record WasInReach (before after : Disk) : Type 0 where
  pub at : ℕ
  pub from : before.now ≤ at
  pub upto : at ≤ after.now
  pub each : (image : Image) → after.may_leave at image → IsInReach image

-- The disk and the count of failed calls are those before and after the line; what is said of the
-- disk holds where the host tells what it holds.
pub record TakesLine (tells : Type 0) (before after : Disk) (failed failed_after : ℕ)
    (old new : Option Database) (line : Command) (reply : Reply) : Type 0 where
  -- What is kept

  -- an open database is in order, and its numbers grow by little
  pub sound : IsSoundKernel tells new after
  pub numbers : greatest_in new ≤ max (2 ^ 61) (greatest_in old) + 2 ^ 35
  -- what was known of the moments before stays known
  pub keeps : tells → Keeps before after
  -- a refusal leaves the kernel off, or as it was
  pub refused : RefusalLeaves old new reply
  -- What the reply has for a cause

  -- a database is opened only where its records are in order
  pub in_reach : tells → old ≡ None → IsOpener line → IsOpenReply reply → WasInReach before after
  -- NUMBEREND has a number past the end
  pub past_end : tells → reply ≡ Refused NumberEnd
      → EachLeft after (λ image. past_end_in line image ≡ true)
  -- DAMAGED and RESTOREOPEN of an opening are in the devices as they were read
  pub damage : tells → old ≡ None → RepliesDamage before.seen reply
  -- DEVICE has a call that failed
  pub later : failed ≤ failed_after
  pub cause : reply ≡ Refused DeviceFailed → Rose failed failed_after
