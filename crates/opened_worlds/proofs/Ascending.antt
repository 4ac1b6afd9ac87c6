-- The changes of a commit in the log ascend, so they are at different places.
--     log_differs      the law
use Rattle.std.proofs.Common.{◌≡◌, ◌≢◌, sym, ap, subst, ◌∙◌, ℕ, ◌+◌, true, ◌&&◌, List, [], ◌∷◌, map, T}
use Rattle.std.specs.Prelude.{nat_le}
use Rattle.std.specs.List.{list_all, AllByRecursion}
use Rattle.std.specs.Ordering.{is_lt}
use Rattle.std.specs.Cmp.{tied_itself}
use Rattle.std.specs.FinMap.{is_sorted}
use Rattle.std.specs.FinMap.Entries.{below_all}
use Rattle.mdb_model.specs.declared.change.Commit.{Commit}
use Rattle.mdb_model.specs.declared.name.Name.{Name}
use Rattle.mdb_model.specs.Sessions.{group_bytes}
use Rattle.mdb_model.specs.Tables.{Place, place_cmp, place_of}
use Rattle.mdb_model.proofs.Computing.{places_total}
use Rattle.mdb_bytes.specs.Fields.{Spells, rises}
use Rattle.mdb_bytes.specs.Groups.{Group, group_format, group_fits, change_fits, longest_group}
use Rattle.mdb_bytes.specs.LogReading.{IsLog, bytes_from}
use Rattle.mdb_bytes.proofs.Decoding.{and_left, and_right}
use Rattle.leaf_runs.proofs.RowLists.{t_left, t_right}
use Rattle.standing.specs.RedoRoom.{AllApart, places_of}

-- places, as `rises` has them
abbrev keyed : List Place → List (Place × Unit {0})
keyed ps = map (λ place. (place, tt)) ps

not_less : (p q : Place) → T (is_lt (place_cmp p q)) → p ≢ q
not_less p q less same =
    let tied = ap (λ x. place_cmp p x) (sym same) ∙ tied_itself places_total p in
    absurd (subst (λ o. T (is_lt o)) tied less)

below_apart : (p : Place) (ps : List Place) → T (below_all place_cmp p (keyed ps)) → AllByRecursion (λ q. p ≢ q) ps
below_apart p [] below = tt
below_apart p (q ∷ qs) below = (not_less p q (t_left _ _ below), below_apart p qs (t_right _ _ below))

sorted_apart : (ps : List Place) → T (is_sorted place_cmp (keyed ps)) → AllApart ps
sorted_apart [] sorted = tt
sorted_apart (p ∷ ps) sorted = (below_apart p ps (t_left _ _ sorted), sorted_apart ps (t_right _ _ sorted))

pub group_apart : (v : Group) (bytes : List ℕ) → Spells group_format v bytes → AllApart (places_of v.changes)
group_apart v bytes spells =
    let fit = and_left (group_fits v) _ spells.0 in
    let order = and_left (list_all change_fits v.changes && rises place_cmp (map place_of v.changes)) (nat_le (group_bytes v.changes) longest_group) fit in
    let up : rises place_cmp (map place_of v.changes) ≡ true = and_right (list_all change_fits v.changes) (rises place_cmp (map place_of v.changes)) order in
    sorted_apart (map place_of v.changes) (subst T (sym up) tt)

pub log_differs : (ring : ℕ → ℕ) (name : Name) (position after : ℕ) (log : List Commit) → IsLog ring name position after log → AllByRecursion (λ commit. AllApart (places_of commit.changes)) log
log_differs ring name position after [] stands = tt
log_differs ring name position after (commit ∷ commits) stands = (
  group_apart (record { name = name; number = after + 1; changes = commit.changes }) (bytes_from ring position (group_bytes commit.changes)) stands.0,
  log_differs ring name (position + group_bytes commit.changes) (after + 1) commits stands.1,
)
