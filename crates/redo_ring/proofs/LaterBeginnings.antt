-- A log that begins after its first commits.
--     later_log      it has the others
--     later_due      a group that had room after it has room still
use Rattle.std.proofs.Common.{◌≡◌, sym, subst, ℕ, ◌+◌, List, [], ◌∷◌, ◌++◌, length, arith, length-append}
use Rattle.std.proofs.lemmas.List.Sums.{sum_by-cons, sum_by-append}
use Rattle.mdb_model.specs.declared.change.Commit.{Commit}
use Rattle.mdb_model.specs.declared.name.Name.{Name}
use Rattle.mdb_model.specs.Sessions.{group_bytes}
use Rattle.mdb_bytes.specs.LogReading.{IsLog, log_bytes}
use Rattle.redo_ring.specs.Ring.{IsDue}

-- after the first commits of a log stand the others
pub later_log : (ring : ℕ → ℕ) (name : Name) (position after : ℕ) (done rest : List Commit) → IsLog ring name position after (done ++ rest)
    → IsLog ring name (position + log_bytes done) (after + length done) rest
later_log ring name position after [] rest log =
    let at : position + 0 ≡ position = omega arith in
    let number : after + 0 ≡ after = omega arith in
    subst (λ (x : ℕ × ℕ). IsLog ring name x.0 x.1 rest) (λ i. (sym at i, sym number i)) log
later_log ring name position after (c ∷ done) rest log =
    let whole : log_bytes (c ∷ done) ≡ group_bytes c.changes + log_bytes done = sum_by-cons (λ (c : Commit). group_bytes c.changes) c done in
    let at : position + group_bytes c.changes + log_bytes done ≡ position + log_bytes (c ∷ done) = omega (arith, whole) in
    let number : after + 1 + length done ≡ after + length (c ∷ done) = omega arith in
    subst (λ (x : ℕ × ℕ). IsLog ring name x.0 x.1 rest) (λ i. (at i, number i)) (later_log ring name (position + group_bytes c.changes) (after + 1) done rest log.1)

-- the next group is due after them, with no less room
pub later_due : (size : ℕ) (name : Name) (end last n : ℕ) (ring : ℕ → ℕ) (position after : ℕ) (done rest : List Commit)
    → IsDue size name end last n ring position after (done ++ rest)
    → IsDue size name end last n ring (position + log_bytes done) (after + length done) rest
later_due size name end last n ring position after done rest due =
    let bytes : log_bytes (done ++ rest) ≡ log_bytes done + log_bytes rest = sum_by-append (λ (c : Commit). group_bytes c.changes) done rest in
    record {
      log = later_log ring name position after done rest due.log;
      ends = omega (arith, due.ends, bytes);
      count = omega (arith, due.count, length-append done rest);
      room = omega (arith, due.room);
    }
