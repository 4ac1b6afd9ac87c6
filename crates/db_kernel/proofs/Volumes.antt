-- What is wrong with a data volume.
--     other_size, too_small, too_many, too_few      what its record is refused for
use Rattle.std.proofs.Common.{◌≡◌, inl, inr, refl, ap, ◌∙◌, ℕ, ◌+◌, ◌-◌, ◌<◌, ◌≤◌, length, get_or, sum, take, Some, arith}
use Rattle.creation.proofs.Sums.{sum_more}
use Rattle.mdb_model.specs.declared.fault.Device.TheVariants.{Data}
use Rattle.mdb_model.specs.declared.fault.Rule.TheVariants.{Size}
use Rattle.mdb_model.specs.declared.script.Refusal.TheVariants.{Damaged}
use Rattle.mdb_model.specs.Images.{Image}
use Rattle.mdb_host.specs.Disk.{page_count}
use Rattle.mdb_bytes.specs.declared.restart_record.RestartRecord.{RestartRecord}
use Rattle.db_kernel.specs.Damages.{HasRestart, RefusesInFront, whole_damage}

module _ (image : Image) (restart : RestartRecord) (volume : ℕ) (has : HasRestart image restart) (inside : volume < length restart.volumes.items) where
  pub other_size : (pages : ℕ) → Some pages ≡ page_count (image (Data (volume + 1))) → (pages ≡ get_or restart.volumes.items volume 0 → ⊥) → RefusesInFront image (Damaged (whole_damage (Data (volume + 1)) Size))
  other_size pages are other =
      inr (inr (inr (inl (record { restart = restart; in_force = has; volume = volume; inside = inside; is = refl; wrong = inl (λ same. other (some_is pages (get_or restart.volumes.items volume 0) (are ∙ same))) }))))
    where
      some_is : (a b : ℕ) → Some a ≡ Some b → a ≡ b
      some_is a b is = cc

  pub too_small : get_or restart.volumes.items volume 0 < 64 → RefusesInFront image (Damaged (whole_damage (Data (volume + 1)) Size))
  too_small small = inr (inr (inr (inl (record { restart = restart; in_force = has; volume = volume; inside = inside; is = refl; wrong = inr (inl small) }))))

  pub too_many : (before : ℕ) → before ≡ sum (take volume restart.volumes.items) → 65536 < before + get_or restart.volumes.items volume 0 → RefusesInFront image (Damaged (whole_damage (Data (volume + 1)) Size))
  too_many before is many =
      inr (inr (inr (inl (record { restart = restart; in_force = has; volume = volume; inside = inside; is = refl; wrong = inr (inr (inl (omega (arith, sum_more volume restart.volumes.items inside, is, many)))) }))))

-- the volumes have too few blocks together
pub too_few : (image : Image) (restart : RestartRecord) → HasRestart image restart → 1 ≤ length restart.volumes.items → sum restart.volumes.items < 512 → RefusesInFront image (Damaged (whole_damage (Data (length restart.volumes.items)) Size))
too_few image restart has some small =
    inr (inr (inr (inl (record {
      restart = restart;
      in_force = has;
      volume = length restart.volumes.items - 1;
      inside = omega (arith, some);
      is = ap (λ (n : ℕ). whole_damage (Data n) Size) (omega (arith, some));
      wrong = inr (inr (inr (omega (arith, some), small)));
    }))))
