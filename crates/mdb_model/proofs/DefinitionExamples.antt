-- Worked cases of definitions: what a plainer form of each would let through.
use Rattle.std.proofs.Common.{◌≡◌, refl, inl, inr, ℕ, ◌+◌, ◌-◌, List, [], ◌∷◌, take, arith}
use Rattle.mdb_model.specs.declared.change.Commit.{Commit}
use Rattle.mdb_model.specs.declared.name.Name.{Name}
use Rattle.mdb_model.specs.declared.script.Reply.TheVariants.{OnlineAt, Refused}
use Rattle.mdb_model.specs.declared.script.Refusal.TheVariants.{DeviceFailed}
use Rattle.mdb_model.specs.declared.status.Status.TheVariants.{Done, Memory}
use Rattle.mdb_model.specs.Agreement.{Ages, HasNumber, IsLogOfAge}
use Rattle.mdb_model.specs.History.{no_history, cut, commits_above}
use Rattle.mdb_model.specs.Pages.{PageReading}
use Rattle.mdb_model.specs.Workload.{next_random, random_table, put_number, del_number, LoadEnds}

-- Cutting a history past its last commit: a new database cut at commit 1 is the empty one, and is not any more once that
-- commit is there. So nothing is said of a number that a history does not have.
uncommitted : (cut no_history 1).commits ≡ []
uncommitted = refl

committed : (commit : Commit) → (cut (record no_history { commits = commit ∷ [] }) 1).commits ≡ commit ∷ []
committed commit = refl

has_no_commit : HasNumber no_history 1 → ⊥
has_no_commit has = omega (arith, has.1)

-- A log backup from number 0: subtraction stops at 0, so three commits that are numbered from 1 would count as those
-- numbered from 0, and a recover up to commit 1 would take the second one.
slipped : (a b c : Commit) → take (2 + 1 - 0) (commits_above (record no_history { commits = a ∷ b ∷ c ∷ [] }) (0 - 1)) ≡ a ∷ b ∷ c ∷ []
slipped a b c = refl

none_from_zero : (reading : PageReading) (ages : Ages) (name : Name) (to : ℕ) (commits : List Commit) (blocks : ℕ)
    → IsLogOfAge reading ages name 0 to commits blocks → ⊥
none_from_zero reading ages name to commits blocks log = omega (arith, log.above_first)

-- The numbers of the generated script of seed 1.
first_number : next_random 1 ≡ 1015568748
first_number = refl

second_number : next_random 1015568748 ≡ 1586005467
second_number = refl

first_table : (random_table 1015568748).0 ≡ 1
first_table = refl

first_put : put_number 1015568748 ≡ 2137
first_put = refl

first_del : del_number 1015568748 ≡ 2138
first_del = refl

-- A generated script that a failed device ended has not ended as a whole one, and one that goes on after it is none.
not_done : LoadEnds Done (OnlineAt 0 ∷ Refused DeviceFailed ∷ []) → ⊥
not_done ends = let e = ends.device.1 refl in absurd (cc e)

not_memory : LoadEnds Memory (OnlineAt 0 ∷ []) → ⊥
not_memory ends = elim (ends.no_memory refl) [
  | inl none ↦ absurd (cc none)
  | inr last ↦ absurd (cc last)
]
