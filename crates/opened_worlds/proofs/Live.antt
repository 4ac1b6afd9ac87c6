-- What an image shows that stands for a live world, under the record in force.
--     area, same_record, blocks_are      the area of the world is the record's
--     big      its first volume has more than the slots
--     map_is, whole      the record's map is read, and breaks no rule
use Rattle.std.proofs.Common.{◌≡◌, refl, sym, ap, subst, ◌∙◌, ◌≤◌, ◌==◌, get_or, arith, Bool, true, false, Option, Some, None, sum}
use Rattle.std.specs.Prelude.{option_and_then, if◌then◌else◌}
use Rattle.std.proofs.lemmas.Option.{same_Some}
use Rattle.mdb_model.specs.declared.fault.Damage.{Damage}
use Rattle.mdb_model.specs.Images.{Image}
use Rattle.mdb_model.specs.Worlds.{World, Live}
use Rattle.mdb_bytes.specs.declared.restart_record.RestartRecord.{RestartRecord}
use Rattle.mdb_bytes.specs.KeptMaps.{kept_map}
use Rattle.gate_slots.specs.declared.body.SlotBody.TheVariants.{Restart}
use Rattle.gate_slots.specs.Slots.{in_force}
use Rattle.volume_disk.specs.Blocks.{block_at}
use Rattle.converter.specs.Loads.{Breaks}
use Rattle.page_store.specs.Opens.{own_pages}
use Rattle.shown_maps.proofs.Unbroken.{unbroken}
use Rattle.standing.specs.Looks.{look, record_in, record_of, map_of_record}
use Rattle.standing.specs.Standing.{data_slots}
use Rattle.standing.specs.WholeStanding.{StandsWhole, AreaStands, AreaIsLive, BlocksAreApart}

-- a test that chose the second case
second : {X : Type 0} (b : Bool) (o : Option X) (x : X) → (if b then None else o) ≡ Some x → o ≡ Some x
second true o x is = absurd cc
second false o x is = is

module _ (seen : Image) (w : World) (r : RestartRecord) (st : StandsWhole seen w) (live : w.area ≡ Live) (restart : in_force seen data_slots ≡ Some (Restart r)) where
  pub area : AreaIsLive (look seen) w
  area = subst (λ a. AreaStands a (look seen) st.info w) live st.area

  pub record_is : record_in seen ≡ Some r
  record_is = ap (option_and_then record_of) restart

  pub same_record : area.rec ≡ r
  same_record = same_Some area.rec r (sym area.in_force ∙ record_is)

  pub blocks_are : w.blocks ≡ sum r.volumes.items
  blocks_are = area.sizes.blocks ∙ ap (λ x. sum x.volumes.items) same_record

  pub big : 2 ≤ get_or r.volumes.items 0 0
  big = subst (λ (x : RestartRecord). 2 ≤ get_or x.volumes.items 0 0) same_record
      (omega (arith, area.sizes.limits.each 0 (omega (arith, area.sizes.limits.some))))

  map_is : kept_map (block_at r.volumes.items seen) (sum r.volumes.items) r.root ≡ Some area.kept
  map_is = second (r.root == 0) _ area.kept (sym (ap (option_and_then (map_of_record seen)) record_is) ∙ area.there)

  pub whole : (damage : Damage) → Breaks r.volumes.items (own_pages (sum r.volumes.items)) (sum r.volumes.items) r.root (block_at r.volumes.items seen) damage → ⊥
  whole = unbroken r.volumes.items (block_at r.volumes.items seen) (own_pages (sum r.volumes.items)) (sum r.volumes.items) r.root area.kept refl map_is
      (subst (BlocksAreApart area.kept) blocks_are area.in_order.blocks_apart)
