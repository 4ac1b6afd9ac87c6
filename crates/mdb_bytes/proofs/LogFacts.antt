-- What a ring relies on.
--     one_group      bytes spell one group at most
--     group_front      a group begins with an open gate and its length
--     one_log      from a position on stands one log at most
use Rattle.std.proofs.Common.{◌≡◌, refl, sym, ap, ◌∙◌, ℕ, ◌+◌, ◌≤◌, List, length, get_or, Some, arith}
use Rattle.std.proofs.lemmas.Option.{same_Some}
use Rattle.mdb_model.specs.declared.change.Commit.{Commit}
use Rattle.mdb_model.specs.declared.name.Name.{Name}
use Rattle.mdb_model.specs.Sessions.{group_bytes}
use Rattle.mdb_bytes.specs.Fields.{Spells, spelled, number_at}
use Rattle.mdb_bytes.specs.Groups.{Group, group_format, group_fields, group_fits, group_reads, open_gate}
use Rattle.mdb_bytes.specs.LogReading.{IsLog, log_from}
use Rattle.mdb_bytes.proofs.Decoding.{and_right}
use Rattle.mdb_bytes.proofs.ReadBack.{four_in}
use Rattle.mdb_bytes.proofs.GroupBack.{group_again}
use Rattle.mdb_bytes.proofs.LogLaw.{is_log-log_from}
use Rattle.mdb_bytes.proofs.ChangeRuns.{group_long}

pub one_group : (v w : Group) (bytes : List ℕ) → Spells group_format v bytes → Spells group_format w bytes → v ≡ w
one_group v w bytes s t = sym (group_again v s.0) ∙ ap group_reads (sym s.1 ∙ t.1) ∙ group_again w t.0

first_gate : (v : Group) → get_or (spelled (group_fields v)) 0 0 ≡ open_gate
unfolding spelled
first_gate v = refl

pub group_front : (v : Group) (bytes : List ℕ) → Spells group_format v bytes → (get_or bytes 0 0 ≡ open_gate) × (number_at 4 1 bytes ≡ length bytes) × (33 ≤ length bytes)
group_front v bytes s =
    let long = group_long v bytes s in (
      ap (λ bs. get_or bs 0 0) s.1 ∙ first_gate v,
      ap (number_at 4 1) s.1 ∙ four_in (group_fields v) 1 (group_bytes v.changes) (and_right (group_fits v) _ s.0) refl ∙ sym long.0,
      long.1,
    )

pub one_log : (ring : ℕ → ℕ) (name : Name) (p n : ℕ) (cs ds : List Commit) → IsLog ring name p n cs → IsLog ring name p n ds → cs ≡ ds
one_log ring name p n cs ds a b =
    let most = length cs + length ds + 1 in
    let read : log_from ring name most p n ≡ Some cs = is_log-log_from ring name most p n cs a (omega arith) in
    let again : log_from ring name most p n ≡ Some ds = is_log-log_from ring name most p n ds b (omega arith) in
    same_Some cs ds (sym read ∙ again)
