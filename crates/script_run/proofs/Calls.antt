-- What a call keeps.
--     created_with      a new database has the numbers that are asked for
--     memory_keeps      a run for which memory ran out
use Rattle.std.proofs.Common.{◌≡◌, subst, ℕ, List, Option, Some}
use Rattle.mdb_model.specs.declared.status.Status.TheVariants.{Memory}
use Rattle.mdb_model.specs.Script.{Asked as Request, Create}
use Rattle.mdb_host.specs.Disk.{Disk}
use Rattle.script_run.specs.Calls.{RunPromise}
use Rattle.script_run.proofs.Progressing.{ends_memory}
use Rattle.script_run.proofs.Turns.{start_serial, start_stand}
use Rattle.open_database.specs.Outside.{page_reading, StandsFor}

-- what is so of the numbers that were read is so of those that are asked for
pub created_with : (P : ℕ → ℕ → List ℕ → Type 0) (request : Option Request) (birth log_pages : ℕ) (volumes : List ℕ) (b l : ℕ) (v : List ℕ)
    → ((folder : List ℕ) × (request ≡ Some (Create folder birth log_pages volumes))) → ((folder : List ℕ) × (request ≡ Some (Create folder b l v)))
    → P birth log_pages volumes → P b l v
created_with P request birth log_pages volumes b l v read asked p =
    let r = read.1 in
    let a = asked.1 in
    let e1 : birth ≡ b = cc in
    let e2 : log_pages ≡ l = cc in
    let e3 : volumes ≡ v = cc in
    subst (λ (n : ℕ). P n l v) e1 (subst (λ (n : ℕ). P birth n v) e2 (subst (λ (w : List ℕ). P birth log_pages w) e3 p))

pub memory_keeps : (d : Disk) (faults : ℕ) (told : Option (List ℕ)) → RunPromise d d faults faults Memory told told
memory_keeps d faults told from can =
    ends_memory from (start_serial page_reading StandsFor d from can) d faults told (start_stand page_reading StandsFor d from can)
