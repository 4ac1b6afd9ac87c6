-- As far as the program is built, a world that an image stands for is live, without snapshots and a
-- base.
--     plain      so it is plain
--     no_snapshots_kept      and the record in force has no snapshots
use Rattle.std.proofs.Common.{◌≡◌, refl, sym, ap, subst, ◌∙◌, List, [], ◌∷◌, map, Some}
use Rattle.std.specs.List.{AllZip}
use Rattle.std.specs.Ordering.{nat_cmp}
use Rattle.std.specs.FinMap.{entries}
use Rattle.mdb_model.proofs.Computing.{entries-empty}
use Rattle.mdb_model.specs.Images.{Image}
use Rattle.mdb_model.specs.Worlds.{World}
use Rattle.mdb_bytes.specs.declared.restart_record.RestartRecord.{RestartRecord}
use Rattle.mdb_bytes.specs.declared.restart_record.SnapshotEntry.{SnapshotEntry}
use Rattle.standing.specs.Looks.{Look, look, record_in, snapshot_maps, map_under}
use Rattle.standing.specs.WholeStanding.{LookStands, AreaIsLive, IsSnapshot}
use Rattle.kept_worlds.specs.InService.{IsPlain}

pub plain : (l : Look) (w : World) → LookStands l w → IsPlain w
plain l w st = record {
  live = (st.stage.generation refl).0;
  no_snapshots = st.stage.snapshots refl;
  no_base = (st.stage.backups refl).base;
}

-- nothing stands beside nothing
none_beside : {A B : Type 0} (R : A → B → Type 0) (ys : List B) → AllZip R [] ys → ys ≡ []
none_beside R [] all = refl
none_beside R (y ∷ ys) all = absurd all

-- nothing comes of nothing
none_mapped : {A B : Type 0} (f : A → B) (xs : List A) → map f xs ≡ [] → xs ≡ []
none_mapped f [] is = refl
none_mapped f (x ∷ xs) is = absurd cc

pub no_snapshots_kept : (seen : Image) (w : World) (r : RestartRecord) → IsPlain w → AreaIsLive (look seen) w → record_in seen ≡ Some r → r.snapshots.items ≡ []
no_snapshots_kept seen w r plain area is =
    let none : entries w.snapshots ≡ [] = ap entries plain.no_snapshots ∙ entries-empty nat_cmp in
    let shown : (look seen).snapshots ≡ [] = none_beside (IsSnapshot w.blocks) (look seen).snapshots (subst (λ es. AllZip (IsSnapshot w.blocks) es (look seen).snapshots) none area.snapshots) in
    none_mapped (λ (e : SnapshotEntry). (e, map_under seen r e.root)) r.snapshots.items (sym (ap (snapshot_maps seen) is) ∙ shown)
