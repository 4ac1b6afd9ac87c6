-- Devices that were made.
--     empty_all      no device is there in any image, where none is in what a read gives
--     fresh_log, fresh_more      the log volume is made; one data volume more
--     any_goes      nothing is said meanwhile
use Rattle.std.proofs.Common.{◌≡◌, inl, inr, refl, ap, subst, ◌∙◌, ℕ, ◌+◌, ◌-◌, ◌*◌, ◌<◌, ◌≤◌, ◌==◌, Bool, List, get_or, replicate, Option, Some, None, lt-ltb, le-ltb, ne_eqb, arith}
use Rattle.std.specs.Prelude.{if◌then◌else◌, is_some, true, false, IfSome}
use Rattle.std.proofs.lemmas.Bool.{cases_lt}
use Rattle.mdb_model.specs.declared.fault.Device.{Device}
use Rattle.mdb_model.specs.declared.fault.Device.TheVariants.{Data, Log, Medium}
use Rattle.mdb_model.specs.Images.{Image, size_of}
use Rattle.mdb_host.specs.Disk.{Disk, Goes, Calls, Creates, SameSizes}
use Rattle.mdb_host.proofs.Moments.{widen, onward}
use Rattle.mdb_host.specs.Places.{device_at}
use Rattle.creation.specs.Devices.{device_count}
use Rattle.creation.specs.Making.{Each, IsEmpty, HasZeroVolumes}
use Rattle.creation.specs.Quiet.{AnyHow}
use Rattle.standing.specs.Standing.{Site}

-- the devices by their numbers
pub volume_is : (i : ℕ) → i < 8 → device_at i ≡ Data (i + 1)
volume_is i small = ap (λ (b : Bool). if b then Data (i + 1) else if i == 8 then Log else Medium (i - 8)) (lt-ltb i 8 small)

pub medium_is : (m : ℕ) → 1 ≤ m → device_at (m + 8) ≡ Medium m
medium_is m low =
    ap (λ (b : Bool). if b then Data (m + 8 + 1) else if m + 8 == 8 then Log else Medium (m + 8 - 8)) (le-ltb (m + 8) 8 (omega arith))
    ∙ ap (λ (b : Bool). if b then Log else Medium (m + 8 - 8)) (ne_eqb (m + 8) 8 (λ e. absurd (omega (arith, e, low))))
    ∙ ap Medium (omega arith)

-- what is absent has no size, and what has none is absent
absent_in : (a b : Option (List ℕ)) → a ≡ None → size_of b ≡ size_of a → b ≡ None
absent_in a None none same = refl
absent_in a (Some y) none same = absurd (some_none (same ∙ ap size_of none))
  where
    some_none : {n : ℕ} → Some n ≡ None → ⊥
    some_none e = cc

-- no device is there in any image, where none is in what a read gives
pub empty_all : (disk : Disk) → ((image : Image) → disk.may_leave disk.now image → SameSizes disk.seen image) → ((number : ℕ) → number < device_count → disk.seen (device_at number) ≡ None) → Each disk IsEmpty
empty_all disk sizes absent image left = record {
  log = absent_in (disk.seen Log) (image Log) (absent 8 (omega arith)) (sizes image left Log);
  volumes = λ i small. absent_in (disk.seen (Data (i + 1))) (image (Data (i + 1))) (subst (λ (d : Device). disk.seen d ≡ None) (volume_is i small) (absent i (omega (arith, small)))) (sizes image left (Data (i + 1)));
  media = λ m low high. absent_in (disk.seen (Medium m)) (image (Medium m)) (subst (λ (d : Device). disk.seen d ≡ None) (medium_is m low) (absent (m + 8) (omega (arith, high)))) (sizes image left (Medium m));
}

-- a device that was made is there in each image, and the others are as before
module _ (d0 d1 : Disk) (device : Device) (n : ℕ) (calls : Calls d0 d1 (Creates device n)) (made : d1.seen device ≡ Some (replicate n 0))
    (sizes : (image : Image) → d1.may_leave d1.now image → SameSizes d1.seen image) (image : Image) (left : d1.may_leave d1.now image) where
  abbrev pub before : (a : Image) × d0.may_leave d0.now a × Creates device n a image
  before = calls.goes.since d1.now image calls.goes.keeps.later (omega arith) left

  pub made_there : before.0 device ≡ None → image device ≡ Some (replicate n 0)
  made_there absent = elim before.2.here [
    | inl same ↦ absurd (never (image device) (same ∙ absent) (sizes image left device ∙ ap size_of made))
    | inr is ↦ is
  ]
    where
      never : (o : Option (List ℕ)) → o ≡ None → size_of o ≡ size_of (Some (replicate n 0)) → ⊥
      never o none same = let e : size_of None ≡ size_of (Some (replicate n 0)) = subst (λ (x : Option (List ℕ)). size_of x ≡ size_of (Some (replicate n 0))) none same in cc

  pub others_same : (e : Device) → (e ≡ device → ⊥) → image e ≡ before.0 e
  others_same e other = before.2.others e other

pub data_apart : (volume : ℕ) → Data volume ≡ Log → ⊥
data_apart volume e = cc

pub medium_apart : (medium : ℕ) → Medium medium ≡ Log → ⊥
medium_apart medium e = cc

pub medium_data : (medium volume : ℕ) → Medium medium ≡ Data volume → ⊥
medium_data medium volume e = cc

pub log_data : (volume : ℕ) → Log ≡ Data volume → ⊥
log_data volume e = cc

data_is : (v w : ℕ) → Data v ≡ Data w → v ≡ w
data_is v w e = cc

pub fresh_log : (d0 d1 : Disk) (site : Site) → Calls d0 d1 (Creates Log (8192 * site.log_pages)) → d1.seen Log ≡ Some (replicate (8192 * site.log_pages) 0)
    → ((image : Image) → d1.may_leave d1.now image → SameSizes d1.seen image) → Each d0 IsEmpty → Each d1 (HasZeroVolumes site 0)
fresh_log d0 d1 site calls made sizes empty image left =
    let b = before d0 d1 Log (8192 * site.log_pages) calls made sizes image left in
    let none = empty b.0 b.1 in
    record {
      log = made_there d0 d1 Log (8192 * site.log_pages) calls made sizes image left none.log;
      volumes = λ i small. absurd (omega (arith, small));
      absent = λ i low small. others_same d0 d1 Log (8192 * site.log_pages) calls made sizes image left (Data (i + 1)) (data_apart (i + 1)) ∙ none.volumes i small;
      media = λ m low high. others_same d0 d1 Log (8192 * site.log_pages) calls made sizes image left (Medium m) (medium_apart m) ∙ none.media m low high;
    }

pub fresh_more : (d0 d1 : Disk) (site : Site) (n : ℕ) (device : Device) (bytes : ℕ) → device ≡ Data (n + 1) → bytes ≡ 8192 * get_or site.volumes n 0 → n < 8 → Calls d0 d1 (Creates device bytes) → d1.seen device ≡ Some (replicate bytes 0)
    → ((image : Image) → d1.may_leave d1.now image → SameSizes d1.seen image) → Each d0 (HasZeroVolumes site n) → Each d1 (HasZeroVolumes site (n + 1))
fresh_more d0 d1 site n device bytes at long small calls made sizes fresh image left =
    let b = before d0 d1 device bytes calls made sizes image left in
    let was = fresh b.0 b.1 in
    record {
      log = others_same d0 d1 device bytes calls made sizes image left Log (λ e. log_data (n + 1) (e ∙ at)) ∙ was.log;
      volumes = λ i inside. elim (cases_lt i n) [
        | inl less ↦ others_same d0 d1 device bytes calls made sizes image left (Data (i + 1)) (λ e. let k = data_is (i + 1) (n + 1) (e ∙ at) in absurd (omega (arith, k, less))) ∙ was.volumes i less
        | inr more ↦
            let same : n ≡ i = omega (arith, more, inside) in
            let here : image device ≡ Some (replicate bytes 0) = made_there d0 d1 device bytes calls made sizes image left (ap b.0 at ∙ was.absent n (omega arith) small) in
            subst (λ (k : ℕ). image (Data (k + 1)) ≡ Some (replicate (8192 * get_or site.volumes k 0) 0)) same (subst (λ (x : Device × ℕ). image x.0 ≡ Some (replicate x.1 0)) (λ k. (at k, long k)) here)
      ];
      absent = λ i low high. others_same d0 d1 device bytes calls made sizes image left (Data (i + 1)) (λ e. let k = data_is (i + 1) (n + 1) (e ∙ at) in absurd (omega (arith, k, low))) ∙ was.absent i (omega (arith, low)) high;
      media = λ m low high. others_same d0 d1 device bytes calls made sizes image left (Medium m) (λ e. medium_data m (n + 1) (e ∙ at)) ∙ was.media m low high;
    }

-- nothing is said
pub any_goes : (d0 d1 : Disk) (step : Image → Image → Type 0) → Goes d0 d1 step → Goes d0 d1 AnyHow
any_goes d0 d1 step goes = widen d0 d1 step AnyHow goes (λ a b left is. tt)

-- a device whose size is told is there
pub some_there : (o : Option (List ℕ)) (pages : Option ℕ) → true ≡ is_some pages → IfSome pages (λ n. size_of o ≡ Some (n * 8192)) → (size : ℕ) × (size_of o ≡ Some size)
some_there o None is size = absurd (not_some is)
  where
    not_some : true ≡ false → ⊥
    not_some e = cc
some_there o (Some n) is size = (n * 8192, size)

-- nor further on
pub any_on : (d0 d1 d2 : Disk) → Goes d0 d1 AnyHow → Goes d1 d2 AnyHow → Goes d0 d2 AnyHow
any_on d0 d1 d2 one two = onward d0 d1 d2 AnyHow (λ a b c first second. tt) one two
