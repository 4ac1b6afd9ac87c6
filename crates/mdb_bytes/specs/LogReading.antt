-- The log: commits that stand in the ring from a position on.
--     IsLog      which commits stand from a position on, up to the first closed gate
--     log_from      these commits, computed
--     log_bytes      the bytes of the groups of commits, gates included
use Rattle.std.specs.Prelude.{◌≢◌, ℕ, zero, suc, ◌+◌, List, [], ◌∷◌, ◌&&◌, ◌==◌, if◌then◌else◌, map, Option, Some, None, option_map, option_and_then, sum_by}
use Rattle.std.specs.List.{range_with_len}
use Rattle.mdb_model.specs.declared.change.Commit.{Commit}
use Rattle.mdb_model.specs.declared.name.Name.{Name}
use Rattle.mdb_model.specs.Backups.{same_name}
use Rattle.mdb_model.specs.Sessions.{group_bytes}
use Rattle.mdb_bytes.specs.Fields.{Spells, decoded, number_at}
use Rattle.mdb_bytes.specs.Groups.{Group, group_format, open_gate}

-- the n bytes of the ring from a position on
abbrev pub bytes_from : (ℕ → ℕ) → (position n : ℕ) → List ℕ
bytes_from ring position n = map ring (range_with_len position n)

unfoldable pub group_of : List ℕ → Option Group
group_of bytes = decoded group_format bytes

-- From a position on stand the groups of these commits, one after the other with open gates, in
-- this database and with the numbers that follow on a number. After the last one the gate is
-- closed.
abbrev pub IsLog : (ℕ → ℕ) → Name → (position after : ℕ) → List Commit → Type 0
IsLog ring name position after [] = ring position ≢ open_gate
IsLog ring name position after (commit ∷ commits) =
    Spells group_format (record { name = name; number = after + 1; changes = commit.changes })
    (bytes_from ring position (group_bytes commit.changes))
    × IsLog ring name (position + group_bytes commit.changes) (after + 1) commits

-- the group at a position, as long as it says after its gate, where it is the one that is due: in
-- this database, with the number after this one
abbrev pub group_due : (ℕ → ℕ) → Name → (position after : ℕ) → Option Group
group_due ring name position after =
    option_and_then
    (λ group. if same_name group.name name && group.number == after + 1 then Some group else None)
    (group_of (bytes_from ring position (number_at 4 1 (bytes_from ring position 5))))

-- The same, computed: the commits of at most so many groups, or none where a group that is due does
-- not stand after an open gate or there are more groups.
abbrev pub log_from : (ℕ → ℕ) → Name → (most position after : ℕ) → Option (List Commit)
log_from ring name zero position after = None
log_from ring name (suc most) position after =
    if ring position == open_gate
    then option_and_then
    (λ group. option_map (λ commits. record { changes = group.changes }
    ∷ commits) (log_from ring name most (position + group_bytes group.changes) (after + 1)))
    (group_due ring name position after)
    else Some []

abbrev pub log_bytes : List Commit → ℕ
log_bytes commits = sum_by (λ commit. group_bytes commit.changes) commits
