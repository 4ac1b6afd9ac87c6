-- A call on what a crash of an earlier call left, by what the two calls promise.
use Rattle.std.proofs.Common.{◌≡◌, ◌∙◌, inl, inr, refl, sym, subst, ℕ, zero, suc, ◌≤◌, Bool, true, false, List, [], ◌∷◌, Option, Some, None, Contains, arith}
use Rattle.std.specs.Prelude.{if◌then◌else◌, is_some, MatchOption, slice_get}
use Rattle.mdb_host.specs.Disk.{Disk, Keeps}
use Rattle.mdb_host.specs.Fresh.{IsFresh}
use Rattle.mdb_host.proofs.Moments.{same_image}
use Rattle.mdb_model.specs.declared.status.Status.{Status}
use Rattle.mdb_model.specs.declared.status.Status.TheVariants.{Done}
use Rattle.mdb_model.specs.Headline.{CanStart, RepliesAreSaid, IsPossible, lines_of}
use Rattle.mdb_model.specs.Refusals.{medium_full}
use Rattle.mdb_model.specs.Runs.{Line, TakenLine, AreOutcomes, outcomes, is_recover, restore_open}
use Rattle.mdb_model.specs.Steps.{Facts, done}
use Rattle.mdb_model.specs.declared.script.Command.{Command}
use Rattle.mdb_model.specs.Images.{Image}
use Rattle.mdb_model.specs.Worlds.{World, off}
use Rattle.db_kernel.specs.Starting.{own_age}
use Rattle.script_run.specs.Again.{RunsAgain, new_world}
use Rattle.script_run.specs.Along.{KeepsSerialRun}
use Rattle.script_run.specs.Calls.{RunPromise, NewPromise}
use Rattle.open_database.specs.Outside.{page_reading, StandsFor}

-- what a stop of a line may leave is off
at_rest_by : (u v : World) → off u ≡ u → u ≡ v → off v ≡ v
at_rest_by u v rest is = subst (λ (x : World). off x ≡ x) is rest

outcomes_off : (w : World) (line : Command) (facts : Option Facts) (v : World) → Contains (outcomes page_reading w line facts) v → off v ≡ v
outcomes_off w line None v (zero, inside, is) = at_rest_by (off w) v refl is
outcomes_off w line None v (suc k, inside, is) = absurd (omega (arith, inside))
outcomes_off w line (Some facts) v there = by_case (is_some (medium_full w facts line)) (is_recover line) there where
  by_case : (full recovers : Bool) → Contains (if full then off w ∷ [] else (off w ∷ off (done page_reading w facts line).1 ∷ (if recovers then restore_open w ∷ [] else []))) v → off v ≡ v
  by_case true recovers (zero, inside, is) = at_rest_by (off w) v refl is
  by_case true recovers (suc k, inside, is) = absurd (omega (arith, inside))
  by_case false recovers (zero, inside, is) = at_rest_by (off w) v refl is
  by_case false recovers (suc zero, inside, is) = at_rest_by (off (done page_reading w facts line).1) v refl is
  by_case false true (suc (suc zero), inside, is) = at_rest_by (restore_open w) v refl is
  by_case false true (suc (suc (suc k)), inside, is) = absurd (omega (arith, inside))
  by_case false false (suc (suc k), inside, is) = absurd (omega (arith, inside))

left_off : (w : World) (line : Line) (outcome : List World) → AreOutcomes page_reading w line outcome → (v : World) → Contains outcome v → off v ≡ v
left_off w None outcome are v there = one (subst (λ (vs : List World). Contains vs v) are there) where
  one : Contains (off w ∷ []) v → off v ≡ v
  one (zero, inside, is) = at_rest_by (off w) v refl is
  one (suc k, inside, is) = absurd (omega (arith, inside))
left_off w (Some line) outcome are v there = outcomes_off w line are.0 v (subst (λ (vs : List World). Contains vs v) are.2 there)

in_next : (w v : World) (line : Option Line) → MatchOption line ⊥ (λ line. (outcome : List World) × AreOutcomes page_reading w line outcome × Contains outcome v) → off v ≡ v
in_next w v None possible = absurd possible
in_next w v (Some line) possible = left_off w line possible.0 possible.1 v possible.2

possible_off : (disk : Disk) (ws : List World) (run : List TakenLine) (k : ℕ) (v : World) → IsPossible page_reading disk.said disk.may_leave StandsFor ws run k v → off v ≡ v
possible_off disk ws run k v (w, there, inl is) = at_rest_by (off w) v refl (sym is)
possible_off disk ws run k v (w, there, inr possible) = in_next w v (slice_get (lines_of run) k) possible

-- a call may start where each image that a crash may leave stands for one world that is off
abbrev StartsOn : Disk → Type 0
StartsOn disk = (w : World) → off w ≡ w → ((image : Image) → disk.may_leave disk.now image → StandsFor image w)
    → CanStart page_reading disk.said disk.may_leave StandsFor disk.now ((w, own_age w) ∷ [])

-- d0 to d1 a database was made, d1 to d2 a script was run; e0 holds what a crash at a moment of that left, and e0 to e1
-- another script was run
module _ (d0 d1 d2 e0 e1 : Disk) (f1 f2 g0 g1 : ℕ) (told1 told2 told3 told4 : Option (List ℕ)) (birth log_pages : ℕ) (data_pages : List ℕ) (first second : Status)
    (made : NewPromise d0 d1 Done birth log_pages data_pages) (starts : StartsOn d1)
    (ran : RunPromise d1 d2 f1 f2 first told1 told2) (at : ℕ) (from : d1.now ≤ at) (upto : at ≤ d2.now)
    (image : Image) (left : d2.may_leave at image) (fresh : IsFresh e0 image) (starts_again : StartsOn e0)
    (ran_again : RunPromise e0 e1 g0 g1 second told3 told4) (keeps : Keeps e0 e1) where
  one : KeepsSerialRun page_reading StandsFor d1 d2 f1 f2 ((new_world birth log_pages data_pages, own_age (new_world birth log_pages data_pages)) ∷ []) first told1 told2
  one = ran ((new_world birth log_pages data_pages, own_age (new_world birth log_pages data_pages)) ∷ [])
      (starts (new_world birth log_pages data_pages) refl made.0)

  pub runs_again : RunsAgain d2 e1 (new_world birth log_pages data_pages) first second d1.now at
  runs_again =
      let crash = one.kept.crashes at from upto in
      let v = crash.2 image left in
      let two = ran_again ((v.0, own_age v.0) ∷ [])
      (starts_again v.0 (possible_off d2 (new_world birth log_pages data_pages ∷ []) one.kept.run crash.0 v.0 v.2)
      (λ other may. subst (λ (i : Image). StandsFor i v.0) (same_image image other (fresh.only other may)) v.1)) in
      let silent : e1.said e0.now ≡ [] = keeps.said e0.now (omega arith) ∙ fresh.said in
      record {
        run = one.kept.run;
        follows = one.kept.follows;
        serial = one.serial;
        replies = one.kept.replies;
        count = crash.0;
        said = crash.1;
        left = v.0;
        possible = v.2;
        next = two.kept.run;
        goes_on = two.kept.follows;
        serial_again = two.serial;
        replies_again = subst (λ (text : List ℕ). RepliesAreSaid second text (e1.said e1.now) two.kept.run) silent two.kept.replies;
        stands = λ other may.
            let end = two.kept.crashes e1.now keeps.later (omega arith) in
            (end.0, end.2 other may);
      }
