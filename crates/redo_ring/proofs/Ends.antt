-- Both ways to the end of a log.
use Rattle.std.proofs.Common.{◌≡◌, ◌≢◌, ◌⊎◌, inl, inr, ℕ, List, Result, Ok, Err, sym, ap, subst, arith}
use Rattle.mdb_model.specs.declared.change.Commit.{Commit}
use Rattle.mdb_model.specs.declared.fault.PageFault.{PageFault}
use Rattle.mdb_model.specs.declared.fault.PageFault.TheVariants.{Failed, Damaged}
use Rattle.mdb_model.specs.Images.{Image}
use Rattle.mdb_host.specs.Disk.{Agree}
use Rattle.mdb_host.proofs.Moments.{same_image}
use Rattle.mdb_bytes.specs.LogReading.{IsLog}
use Rattle.mdb_bytes.specs.Rings.{ring_byte, ring_size}
use Rattle.redo_ring.specs.declared.open.LogStart.{LogStart}
use Rattle.redo_ring.specs.declared.open.LogEnd.{LogEnd}
use Rattle.redo_ring.specs.Ring.{damage_at}
use Rattle.redo_ring.specs.Opening.{Parts, IsWhole}
use Rattle.redo_ring.specs.Ends.{EndFinds, EndEnds, BothFinds, BothEnds}

-- The walks are over a ring of the size that was computed, the second after the first.
module _ (start : LogStart) (size : ℕ) (same_size : size ≡ ring_size start.pages) (old mid : Image) (same : Agree old mid) where
  there : ◌≡◌ {A = ℕ × Image} (size, mid) (ring_size start.pages, old)
  there i = (same_size i, sym (same_image old mid same) i)

  pub finds_there : (p n : ℕ) (result : Result LogEnd PageFault) → EndFinds size start.name (ring_byte size mid) p n result → EndFinds (ring_size start.pages) start.name (ring_byte (ring_size start.pages) old) p n result
  finds_there p n result found = subst (λ (x : ℕ × Image). EndFinds x.0 start.name (ring_byte x.0 x.1) p n result) there found

  pub log_there : (p n : ℕ) (commits : List Commit) → IsLog (ring_byte (ring_size start.pages) old) start.name p n commits → IsLog (ring_byte size mid) start.name p n commits
  log_there p n commits log = subst (λ (x : ℕ × Image). IsLog (ring_byte x.0 x.1) start.name p n commits) (sym there) log

module _ (start : LogStart) (ring : ℕ → ℕ) where
  -- the second way breaks off
  pub second_breaks : (fault : PageFault) → EndFinds (ring_size start.pages) start.name ring start.saved_position start.saved_commit (Err fault) → BothFinds start ring (Err fault)
  second_breaks (Damaged damage) found = inr (inl found)
  second_breaks Failed found = tt

  pub never_breaks : (commits unsaved : List Commit) (fault : PageFault) → EndEnds start.saved_position start.saved_commit unsaved (Err fault) → BothEnds start commits (Err fault)
  never_breaks commits unsaved (Damaged damage) never = never
  never_breaks commits unsaved Failed never = tt

  -- they end at two places
  pub ways_part : (end second : LogEnd) → EndFinds (ring_size start.pages) start.name ring start.position start.commit (Ok end) → EndFinds (ring_size start.pages) start.name ring start.saved_position start.saved_commit (Ok second)
      → (size : ℕ) → size ≡ ring_size start.pages → (fault : PageFault) → fault ≡ Damaged (damage_at size end.position) → ((end.position ≢ second.position) ⊎ (end.commit ≢ second.commit)) → BothFinds start ring (Err fault)
  ways_part end second found also size same fault named two =
      let parts : Parts start ring (damage_at size end.position) = record {
        end = end.position;
        last = end.commit;
        commits = found.0;
        log = found.1;
        unsaved_end = second.position;
        unsaved_last = second.commit;
        unsaved = also.0;
        unsaved_log = also.1;
        two = two;
        at_end = ap (λ (s : ℕ). damage_at s end.position) same;
      } in
      subst (λ (f : PageFault). BothFinds start ring (Err f)) (sym named) (inr (inr parts))

  -- two logs that end at one place do not part
  pub never_part : (commits unsaved : List Commit) → IsWhole start ring commits unsaved → (end second : LogEnd) → EndEnds start.position start.commit commits (Ok end) → EndEnds start.saved_position start.saved_commit unsaved (Ok second)
      → ((end.position ≢ second.position) ⊎ (end.commit ≢ second.commit)) → ⊥
  never_part commits unsaved whole end second one other (inl place) = place (omega (arith, one.0, other.0, whole.ends))
  never_part commits unsaved whole end second one other (inr count) = count (omega (arith, one.1, other.1, whole.count))
