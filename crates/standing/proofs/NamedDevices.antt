-- What an image shows goes by the devices that a database may have.
--     shown_by_named      images with the same on them, and the same sizes, show the same
use Rattle.std.proofs.Common.{◌≡◌, refl, sym, ap, subst, ◌∙◌, ℕ, ◌+◌, ◌<◌, ◌≤◌, Bool, true, false, ◌&&◌, List, [], ◌∷◌, length, sum, Some, arith}
use Rattle.std.specs.Prelude.{nat_le, option_and_then}
use Rattle.std.specs.List.{AllByRecursion, AllZip}
use Rattle.std.specs.Ordering.{nat_cmp}
use Rattle.std.specs.FinMap.{entries}
use Rattle.std.proofs.lemmas.Bool.{leb-true}
use Rattle.std.proofs.lemmas.Option.{same_Some}
use Rattle.mdb_model.proofs.Computing.{entries-empty}
use Rattle.mdb_model.specs.declared.fault.Device.{Device}
use Rattle.mdb_model.specs.declared.fault.Device.TheVariants.{Data, Log, Medium}
use Rattle.mdb_model.specs.Images.{Image}
use Rattle.mdb_model.specs.Script.{is_medium}
use Rattle.mdb_model.specs.Worlds.{World}
use Rattle.mdb_host.specs.Disk.{SameSizes}
use Rattle.mdb_host.specs.Places.{IsNamed}
use Rattle.mdb_bytes.specs.declared.restart_record.RestartRecord.{RestartRecord}
use Rattle.mdb_bytes.proofs.KeptMapLaws.{all_of}
use Rattle.gate_slots.proofs.Kept.{force_device}
use Rattle.volume_disk.specs.Blocks.{place}
use Rattle.volume_disk.proofs.Pages.{page_agrees}
use Rattle.volume_disk.proofs.Places.{place_is}
use Rattle.standing.specs.Standing.{data_slots}
use Rattle.standing.specs.Looks.{look, record_in, record_of, IsUnused}
use Rattle.standing.specs.WholeStanding.{StandsWhole, AreaStands, AreaIsLive, IsSnapshot}
use Rattle.standing.proofs.LookLaws.{AreSameBut, look_but}

both : (a b : Bool) → (a && b) ≡ true → (a ≡ true) × (b ≡ true)
both true b is = (refl, is)
both false b is = absurd cc

medium_within : (n : ℕ) → is_medium n ≡ true → (1 ≤ n) × (n ≤ 99)
medium_within n is = let parts = both (nat_le 1 n) (nat_le n 99) is in (leb-true 1 n parts.0, leb-true n 99 parts.1)

-- nothing stands beside nothing
all_beside : {A B : Type 0} (R : A → B → Type 0) (P : B → Type 0) (ys : List B) → AllZip R [] ys → AllByRecursion P ys
all_beside R P [] all = tt
all_beside R P (y ∷ ys) all = absurd all

module _ (a b : Image) (r : RestartRecord) (w : World) (is : record_in a ≡ Some r) (few : length r.volumes.items ≤ 8) (sizes : SameSizes a b) (named : (d : Device) → IsNamed d → b d ≡ a d) (stands : StandsWhole a w) where
  area : AreaIsLive (look a) w
  area = subst (λ x. AreaStands x (look a) stands.info w) (stands.stage.generation refl).0 stands.area

  blocks_are : w.blocks ≡ sum r.volumes.items
  blocks_are = area.sizes.blocks ∙ ap (λ (x : RestartRecord). sum x.volumes.items) (same_Some area.rec r (sym area.in_force ∙ is))

  same : AreSameBut r (λ block. ⊥) a b
  same = record {
    same_sizes = sizes;
    log = named Log tt;
    media = λ medium one. named (Medium medium) (medium_within medium one);
    outside = λ block inside free.
        let at = place_is 1 r.volumes.items block inside in
        page_agrees a b (Data (place 1 r.volumes.items block).0) (place 1 r.volumes.items block).1
        (subst (λ (v : ℕ). b (Data v) ≡ a (Data v)) (sym at.volume) (named (Data (1 + at.i)) (omega arith, omega (arith, at.there, few))));
  }

  unused : IsUnused (look a) r (λ block. ⊥)
  unused = record {
    rec = λ some. (
      area.kept,
      area.there,
      (
        all_of (λ block. (2 ≤ block) × (block < w.blocks)) (λ block. (block < sum r.volumes.items) × (⊥ → ⊥)) (λ block u. (omega (arith, u.1, blocks_are), λ never. never)) area.kept.converter area.in_order.blocks_apart.converter,
        all_of (λ e. (2 ≤ e.1.block) × (e.1.block < w.blocks)) (λ e. (e.1.block < sum r.volumes.items) × (⊥ → ⊥)) (λ e u. (omega (arith, u.1, blocks_are), λ never. never)) area.kept.places area.in_order.blocks_apart.placed,
      ),
    );
    snapshots = all_beside (IsSnapshot w.blocks) _ (look a).snapshots (subst (λ es. AllZip (IsSnapshot w.blocks) es (look a).snapshots) (ap entries (stands.stage.snapshots refl) ∙ entries-empty nat_cmp) area.snapshots);
  }

  pub shown_by_named : look b ≡ look a
  shown_by_named = look_but a b r (λ block. ⊥) same is (ap (option_and_then record_of) (force_device data_slots a b (named (Data 1) (omega arith, omega arith))) ∙ is) unused
