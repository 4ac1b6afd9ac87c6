-- The records of an image that stands for a world: they are in order.
--     in_order      so reading them is refused for nothing but a device that failed or a number past the end
--     few_volumes      and name no more volumes than there may be
use Rattle.std.proofs.Common.{◌≡◌, ◌⊎◌, inl, inr, refl, sym, ap, subst, ◌∙◌, ℕ, ◌+◌, ◌*◌, ◌<◌, ◌≤◌, List, length, get_or, sum, Option, Some, None, arith}
use Rattle.std.specs.Prelude.{option_and_then}
use Rattle.std.proofs.lemmas.Option.{same_Some}
use Rattle.creation.proofs.Sums.{item_less, part_less}
use Rattle.mdb_model.specs.declared.fault.Damage.{Damage}
use Rattle.mdb_model.specs.declared.fault.Device.{Device}
use Rattle.mdb_model.specs.declared.fault.Device.TheVariants.{Data, Log}
use Rattle.mdb_model.specs.declared.script.Refusal.{Refusal}
use Rattle.mdb_model.specs.declared.script.Refusal.TheVariants.{DeviceFailed, Damaged, RestoreOpen as ToldRestoreOpen, NumberEnd}
use Rattle.mdb_model.specs.Images.{Image, size_of}
use Rattle.mdb_model.specs.Worlds.{World}
use Rattle.mdb_host.specs.Disk.{page_count}
use Rattle.mdb_bytes.specs.declared.log_info.LogInfo.{LogInfo}
use Rattle.mdb_bytes.specs.declared.restart_record.AreaState.{AreaState}
use Rattle.mdb_bytes.specs.declared.restart_record.AreaState.TheVariants.{Normal, RestoreOpen}
use Rattle.mdb_bytes.specs.declared.restart_record.RestartRecord.{RestartRecord}
use Rattle.gate_slots.specs.declared.body.SlotBody.{SlotBody}
use Rattle.standing.specs.Looks.{look, record_of, log_info_of}
use Rattle.standing.specs.WholeStanding.{StandsWhole, AreaStands, AreaIsLive}
use Rattle.db_kernel.specs.Damages.{HasRestart, HasLogInfo, IsMissing, IsLogOutOfSize, IsFirstOutOfSize, IsVolumeOutOfSize, HasNoSlot, IsDamagedInFront, IsRestoring, RefusesInFront}

-- a device of so many pages
pages_are : (o : Option (List ℕ)) (pages : ℕ) → size_of o ≡ Some (pages * 8192) → page_count o ≡ Some pages
pages_are None pages is = absurd cc
pages_are (Some bytes) pages is =
    let long : length bytes ≡ pages * 8192 = cc in
    ap Some (omega (arith, long))

-- a device that has a size is there
never_absent : (o : Option (List ℕ)) (n : ℕ) → size_of o ≡ Some n → o ≡ None → ⊥
never_absent o n is none = let e : size_of None ≡ Some n = subst (λ (x : Option (List ℕ)). size_of x ≡ Some n) none is in cc

some_is : (a b : ℕ) → Some a ≡ Some b → a ≡ b
some_is a b is = cc

no_slot : {A : Type 0} (o : Option A) (f : SlotBody → Option A) (body : Option SlotBody) (x : A) → option_and_then f body ≡ Some x → body ≡ None → ⊥
no_slot o f body x is none = let e : option_and_then f None ≡ Some x = subst (λ (b : Option SlotBody). option_and_then f b ≡ Some x) none is in cc

not_both : (state : AreaState) → state ≡ Normal → state ≡ RestoreOpen → ⊥
not_both state normal opened = cc

module _ (image : Image) (w : World) (stands : StandsWhole image w) where
  pub area : AreaIsLive (look image) w
  area = subst (λ x. AreaStands x (look image) stands.info w) (stands.stage.generation refl).0 stands.area

  abbrev volumes : List ℕ
  volumes = area.rec.volumes.items

  pub restart_is : (restart : RestartRecord) → HasRestart image restart → restart ≡ area.rec
  restart_is restart has = same_Some restart area.rec (sym (ap (option_and_then record_of) has) ∙ area.in_force)

  pub info_is : (info : LogInfo) → HasLogInfo image info → info ≡ stands.info
  info_is info has = same_Some info stands.info (sym (ap (option_and_then log_info_of) has) ∙ stands.in_force)

  pub few_volumes : (restart : RestartRecord) → HasRestart image restart → length restart.volumes.items ≤ 8
  few_volumes restart has = omega (arith, area.sizes.limits.few, ap (λ (r : RestartRecord). length r.volumes.items) (restart_is restart has))

  never_missing : (damage : Damage) → IsMissing image damage → ⊥
  never_missing damage (device, needed, none, is) = elim needed [
    | inl log ↦ never_absent (image Log) (stands.info.pages * 8192) stands.log_size.there (subst (λ (d : Device). image d ≡ None) log none)
    | inr (inl first) ↦ never_absent (image (Data 1)) (get_or volumes 0 0 * 8192) (area.sizes.there 0 (omega (arith, area.sizes.limits.some))) (subst (λ (d : Device). image d ≡ None) first none)
    | inr (inr (restart, has, (i, inside, at))) ↦
        let same = restart_is restart has in
        let there : i < length volumes = omega (arith, inside, ap (λ (r : RestartRecord). length r.volumes.items) same) in
        never_absent (image (Data (i + 1))) (get_or volumes i 0 * 8192) (area.sizes.there i there) (subst (λ (d : Device). image d ≡ None) at none)
  ]

  log_in_size : (damage : Damage) → IsLogOutOfSize image damage → ⊥
  log_in_size damage (pages, there, is, wrong) =
      let same : pages ≡ stands.info.pages = some_is pages stands.info.pages (sym there ∙ pages_are (image Log) stands.info.pages stands.log_size.there) in
      elim wrong [
        | inl low ↦ absurd (omega (arith, low, same, stands.log_size.least))
        | inr (inl high) ↦ absurd (omega (arith, high, same, stands.log_size.most))
        | inr (inr (info, has, other)) ↦ other (ap (λ (x : LogInfo). x.pages) (info_is info has) ∙ sym same)
      ]

  first_in_size : (damage : Damage) → IsFirstOutOfSize image damage → ⊥
  first_in_size damage (pages, there, is, wrong) =
      let size = area.sizes.there 0 (omega (arith, area.sizes.limits.some)) in
      let same : pages ≡ get_or volumes 0 0 = some_is pages (get_or volumes 0 0) (sym there ∙ pages_are (image (Data 1)) (get_or volumes 0 0) size) in
      elim wrong [
        | inl low ↦ absurd (omega (arith, low, same, area.sizes.limits.each 0 (omega (arith, area.sizes.limits.some))))
        | inr high ↦ absurd (omega (arith, high, same, item_less volumes 0, area.sizes.limits.most))
      ]

  volume_in_size : (damage : Damage) → IsVolumeOutOfSize image damage → ⊥
  volume_in_size damage out =
      let same : out.restart.volumes.items ≡ volumes = ap (λ (r : RestartRecord). r.volumes.items) (restart_is out.restart out.in_force) in
      let there : out.volume < length volumes = omega (arith, out.inside, ap length same) in
      let item : get_or out.restart.volumes.items out.volume 0 ≡ get_or volumes out.volume 0 = ap (λ (xs : List ℕ). get_or xs out.volume 0) same in
      elim out.wrong [
        | inl other ↦ other (pages_are (image (Data (out.volume + 1))) (get_or volumes out.volume 0) (area.sizes.there out.volume there) ∙ ap Some (sym item))
        | inr (inl low) ↦ absurd (omega (arith, low, item, area.sizes.limits.each out.volume there))
        | inr (inr (inl high)) ↦ absurd (omega (arith, high, part_less (out.volume + 1) out.restart.volumes.items, ap sum same, area.sizes.limits.most))
        | inr (inr (inr (last, small))) ↦ absurd (omega (arith, small, ap sum same, area.sizes.limits.least))
      ]

  has_slots : (damage : Damage) → HasNoSlot image damage → ⊥
  has_slots damage none = elim none [
    | inl area_none ↦ no_slot (look image).restart record_of _ area.rec area.in_force area_none.0
    | inr log_none ↦ no_slot (look image).log_info log_info_of _ stands.info stands.in_force log_none.0
  ]

  never_damaged : (damage : Damage) → IsDamagedInFront image damage → ⊥
  never_damaged damage d = elim d [
    | inl missing ↦ never_missing damage missing
    | inr (inl log) ↦ log_in_size damage log
    | inr (inr (inl first)) ↦ first_in_size damage first
    | inr (inr (inr (inl volume))) ↦ volume_in_size damage volume
    | inr (inr (inr (inr slot))) ↦ has_slots damage slot
  ]

  never_restoring : IsRestoring image → ⊥
  never_restoring (restart, has, opened) = not_both area.rec.state area.normal (ap (λ (r : RestartRecord). r.state) (sym (restart_is restart has)) ∙ opened)

  pub in_order : (refusal : Refusal) → RefusesInFront image refusal → (refusal ≡ DeviceFailed) ⊎ (refusal ≡ NumberEnd)
  in_order DeviceFailed why = inl refl
  in_order NumberEnd why = inr refl
  in_order (Damaged damage) why = absurd (never_damaged damage why)
  in_order ToldRestoreOpen why = absurd (never_restoring why)
  in_order _ why = absurd why
