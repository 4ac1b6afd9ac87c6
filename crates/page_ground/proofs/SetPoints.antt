-- A commit is set.
--     set_keeps, set_undone      what that leaves of what the devices stand for
use Rattle.std.proofs.Common.{◌≡◌, refl, sym, ap, subst, ◌∙◌, ◌+◌, List, [], ◌∷◌, ◌++◌, length, arith, length-append}
use Rattle.std.specs.Prelude.{unwrap_or}
use Rattle.std.proofs.lemmas.List.Sums.{sum_by-append}
use Rattle.mdb_model.specs.declared.change.Commit.{Commit}
use Rattle.mdb_model.specs.Sessions.{group_bytes}
use Rattle.mdb_host.specs.Disk.{Disk}
use Rattle.mdb_bytes.specs.declared.restart_record.RestartRecord.{RestartRecord}
use Rattle.mdb_bytes.specs.LogReading.{log_from, log_bytes}
use Rattle.mdb_bytes.specs.Rings.{ring_byte}
use Rattle.gate_slots.specs.declared.slots.Slots.{Slots}
use Rattle.page_store.specs.Store.{Store}
use Rattle.redo_ring.specs.declared.reader.RingReader.{RingReader}
use Rattle.redo_ring.proofs.Log.{bytes_cons}
use Rattle.kept_worlds.specs.InService.{IsInService}
use Rattle.page_ground.specs.declared.set_point.SetPoint.{SetPoint}
use Rattle.page_ground.specs.LogKnown.{left_in}
use Rattle.page_ground.specs.Aims.{undone_in, StandsForWorld}

-- lists in three parts
in_three : (xs : List Commit) (y : Commit) (ys : List Commit) → xs ++ y ∷ ys ≡ (xs ++ y ∷ []) ++ ys
in_three [] y ys = refl
in_three (x ∷ xs) y ys = ap (λ (l : List Commit). x ∷ l) (in_three xs y ys)

bytes_append : (xs ys : List Commit) → log_bytes (xs ++ ys) ≡ log_bytes xs + log_bytes ys
bytes_append xs ys = sum_by-append (λ (c : Commit). group_bytes c.changes) xs ys

module _ (tells : Type 0) (slots : Slots) (r : RestartRecord) (reader : RingReader) (set now : SetPoint) (s : Store) (d : Disk)
    (stand : StandsForWorld tells slots r reader set s d) (c : Commit) (first : undone_in reader set d.seen ≡ c ∷ left_in reader d.seen)
    (number : now.commit ≡ reader.number) (next : now.commit ≡ set.commit + 1) (position : now.position ≡ reader.position) where
  pub set_undone : undone_in reader now d.seen ≡ left_in reader d.seen
  unfolding undone_in
  set_undone = λ i. unwrap_or (log_from (ring_byte reader.size d.seen) reader.name reader.size (position i) (number i)) []

  abbrev left : List Commit
  left = left_in reader d.seen

  end_is : reader.position ≡ set.position + group_bytes c.changes
  end_is = omega (arith, stand.same_end, ap log_bytes first, bytes_cons c left)

  pub set_stands : StandsForWorld tells slots r reader now s d
  set_stands = record {
    world = stand.world;
    stand = stand.stand;
    plain = stand.plain;
    info = stand.info;
    saved = stand.saved;
    done = stand.done ++ c ∷ [];
    service =
        subst (λ xs. IsInService tells slots r stand.info stand.saved xs s d)
        (ap (λ xs. stand.done ++ xs) first ∙ in_three stand.done c left ∙ ap (λ xs. (stand.done ++ c ∷ []) ++ xs) (sym set_undone)) stand.service;
    ends = record {
      position = omega (arith, position, end_is, stand.ends.position, bytes_append stand.done (c ∷ []), bytes_cons c []);
      commit = omega (arith, next, stand.ends.commit, length-append stand.done (c ∷ []));
    };
    name = stand.name;
    size = stand.size;
    known = stand.known;
    same_end = (λ i. sym position i + log_bytes (sym set_undone i));
    same_number = (λ i. sym number i + length (sym set_undone i));
    low_end = omega (arith, stand.low_end, stand.same_end, position, ap log_bytes set_undone);
    low_number = omega (arith, stand.low_number, stand.same_number, number, ap length set_undone);
  }
