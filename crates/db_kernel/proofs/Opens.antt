-- A database that was opened by its records, as the whole opening leaves it.
--     opens_synced      what was opened of devices that are synced
--     moments_before, opens_after      with the moments before, at which the devices were synced and read
--     front_opens      reading the records was refused
--     behind_refuses, front_refuses      what an opening was refused for is so
use Rattle.std.proofs.Common.{◌≡◌, ◌⊎◌, inl, inr, refl, sym, subst, Result, Ok, Err}
use Rattle.std.specs.Prelude.{IfErr}
use Rattle.mdb_host.specs.Disk.{Disk, Goes, Agree}
use Rattle.mdb_host.proofs.Moments.{same_image}
use Rattle.mdb_model.specs.Images.{Image}
use Rattle.mdb_model.specs.Worlds.{World}
use Rattle.mdb_model.specs.declared.fault.OpenFault.{OpenFault}
use Rattle.mdb_model.specs.declared.fault.OpenFault.TheVariants.{Memory, Failed, Damaged as OpenDamaged}
use Rattle.mdb_model.specs.declared.script.Refusal.{Refusal}
use Rattle.mdb_model.specs.declared.script.Refusal.TheVariants.{Damaged, DeviceFailed, MemoryWanting, RestoreOpen, NumberEnd}
use Rattle.kept_worlds.specs.InService.{AtEachMoment}
use Rattle.page_ground.specs.AimLaws.{at_both}
use Rattle.open_database.specs.declared.database.Access.{Access}
use Rattle.open_database.specs.declared.database.Database.{Database}
use Rattle.open_database.specs.Opened.{OpenDoes, opened_world}
use Rattle.open_database.specs.Outside.{StandsFor}
use Rattle.open_database.specs.Serving.{Serves}
use Rattle.open_database.specs.Stretch.{EachLeft}
use Rattle.open_database.proofs.Stretches.{moments_weaker}
use Rattle.db_kernel.specs.declared.opening.Found.{Found}
use Rattle.db_kernel.specs.Damages.{RefusesInFront, Refuses, IsInReach}
use Rattle.db_kernel.specs.Kept.{as_refusal}
use Rattle.db_kernel.specs.Opening.{IsBehindRecords, MayBeBefore, OpensSynced, OpensWorld}
use Rattle.db_kernel.specs.Reading.{FindsRecords}
use Rattle.db_kernel.proofs.WholeRecords.{in_order}

-- what a fault of an opening leaves
pub opens_failed : (tells : Type 0) (d0 d1 : Disk) (w : World) (access : Access) (fault : OpenFault) → OpenDoes d0 d1 w (λ database. Serves tells database d1 (opened_world access w)) (Err fault) → OpensSynced tells d0 d1 w access (Err (as_refusal fault))
opens_failed tells d0 d1 w access Memory does = does
opens_failed tells d0 d1 w access Failed does = does
opens_failed tells d0 d1 w access (OpenDamaged damage) does = absurd does

pub behind_records : (fault : OpenFault) → IsBehindRecords (as_refusal fault)
behind_records Memory = tt
behind_records Failed = tt
behind_records (OpenDamaged damage) = tt

pub is_failed : (fault : OpenFault) → as_refusal fault ≡ DeviceFailed → fault ≡ Failed
is_failed Memory is = cc
is_failed Failed is = refl
is_failed (OpenDamaged damage) is = cc

-- the devices were synced and read
pub moments_before : (d0 d1 : Disk) (w : World) → Goes d0 d1 Agree → AtEachMoment d0 d1 (MayBeBefore d0 w)
moments_before d0 d1 w calm = record {
  keeps = calm.keeps;
  quiet = calm.quiet;
  each = λ t image from upto left.
      let x = calm.since t image from upto left in
      inl (subst (λ (i : Image). d0.may_leave d0.now i) (same_image x.0 image x.2) x.1);
}

module _ (tells : Type 0) (d0 d1 d2 : Disk) (w : World) (access : Access) (calm : Goes d0 d1 Agree) where
  both : AtEachMoment d1 d2 (λ image. StandsFor image w) → AtEachMoment d0 d2 (MayBeBefore d0 w)
  both moments = at_both d0 d1 d2 (MayBeBefore d0 w) (moments_before d0 d1 w calm) (moments_weaker d1 d2 (λ image. StandsFor image w) (MayBeBefore d0 w) (λ image stands. inr stands) moments)

  pub opens_after : (result : Result Database Refusal) → OpensSynced tells d1 d2 w access result → OpensWorld tells d0 d2 w access result
  opens_after (Ok database) (moments, serves, rows) = (both moments, serves, rows)
  opens_after (Err DeviceFailed) moments = both moments
  opens_after (Err MemoryWanting) moments = both moments
  opens_after (Err _) never = absurd never

-- reading the records was refused
pub front_opens : (tells : Type 0) (d0 d1 : Disk) (w : World) (access : Access) (refusal : Refusal) → Goes d0 d1 Agree → StandsFor d0.seen w → RefusesInFront d0.seen refusal → (refusal ≡ NumberEnd → EachLeft d1 (λ image. StandsFor image w))
    → OpensWorld tells d0 d1 w access (Err refusal)
front_opens tells d0 d1 w access refusal calm stands why each = elim (in_order d0.seen w stands refusal why) [
  | inl failed ↦ subst (λ (r : Refusal). OpensWorld tells d0 d1 w access (Err r)) (sym failed) (moments_before d0 d1 w calm)
  | inr ended ↦ subst (λ (r : Refusal). OpensWorld tells d0 d1 w access (Err r)) (sym ended) (moments_before d0 d1 w calm, each ended)
]

pub front_refuses : (image : Image) (refusal : Refusal) → RefusesInFront image refusal → Refuses image refusal
front_refuses image (Damaged damage) why = inl why
front_refuses image RestoreOpen why = why
front_refuses image NumberEnd why = why
front_refuses image DeviceFailed why = tt
front_refuses image _ why = absurd why

behind_refusal : (image : Image) (refusal : Refusal) → IsInReach image → IsBehindRecords refusal → Refuses image refusal
behind_refusal image DeviceFailed reach behind = tt
behind_refusal image MemoryWanting reach behind = tt
behind_refusal image (Damaged damage) reach behind = inr reach
behind_refusal image _ reach behind = absurd behind

pub in_reach_of : (image : Image) (found : Found) → FindsRecords found image → IsInReach image
in_reach_of image found is = record { restart = is.restart; has_restart = is.has_restart; info = is.info; has_info = is.has_info; normal = is.normal; low = is.low }

pub behind_refuses : (image : Image) (found : Found) (result : Result Database Refusal) → FindsRecords found image → IfErr result IsBehindRecords → IfErr result (Refuses image)
behind_refuses image found (Ok database) finds behind = tt
behind_refuses image found (Err refusal) finds behind = behind_refusal image refusal (in_reach_of image found finds) behind

-- what is behind the records is no number past the end
pub never_end : (result : Result Database Refusal) → IfErr result IsBehindRecords → result ≡ Err NumberEnd → ⊥
never_end result behind is = subst (λ (r : Result Database Refusal). IfErr r IsBehindRecords) is behind
