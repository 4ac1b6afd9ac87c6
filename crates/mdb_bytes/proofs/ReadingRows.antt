-- Worked rows: a log backup on a medium, a live set, and pages as rows and before images.
use Rattle.std.proofs.Common.{◌≡◌, refl, ap, ◌∙◌, ℕ, List, [], ◌∷◌, ◌++◌, length, codes, Some, None, take, drop}
use Rattle.std.specs.Prelude.{map}
use Rattle.std.specs.List.{flat_map}
use Rattle.std.specs.Ordering.{nat_cmp}
use Rattle.std.specs.FinMap.{from_sorted, entries-from_sorted, from_entries}
use Rattle.mdb_model.specs.declared.change.Change.TheVariants.{Put}
use Rattle.mdb_model.specs.declared.change.Commit.{Commit}
use Rattle.mdb_model.specs.declared.name.Name.{Name}
use Rattle.mdb_model.specs.Pages.{Page}
use Rattle.mdb_model.specs.Backups.{Backup, LogGroups}
use Rattle.mdb_bytes.specs.Fields.{spelled, decoded, number_at, read_run}
use Rattle.mdb_bytes.specs.Groups.{group_fields}
use Rattle.mdb_bytes.specs.TablePages.{RowLeaf, row_leaf_fields}
use Rattle.mdb_bytes.specs.UndoPages.{UndoPage, undo_page_fields}
use Rattle.mdb_bytes.specs.MediumPages.{medium_header_format}
use Rattle.mdb_bytes.specs.WholeBackups.{header_for, backup_bytes}
use Rattle.mdb_bytes.specs.PageReadings.{row_leaf_of, undo_page_of, standing_rows, rows_on, rows_before, images_on, once}

abbrev name : Name
name = record { birth = 7; generation = 1 }

abbrev one_commit : Commit
one_commit = record { changes = Put (record { 0 = 1 }) (codes "k") (codes "v") ∷ [] }

-- Media: a log backup of two commits, up to position 84

abbrev two_commits : Backup
two_commits = LogGroups name 1 2 (one_commit ∷ one_commit ∷ []) 512

medium_length : length (backup_bytes 84 two_commits) ≡ 16384
unfolding spelled
medium_length = refl

-- the body of its first page is the header
header_there : decoded medium_header_format (take 8191 (backup_bytes 84 two_commits)) ≡ Some (header_for 84 two_commits)
unfolding spelled decoded number_at read_run
header_there = refl

-- after it stand the two groups, of 42 bytes each
group_there : take 84 (drop 8192 (backup_bytes 84 two_commits))
    ≡ spelled (group_fields (record { name = name; number = 1; changes = one_commit.changes })) ++ spelled (group_fields (record { name = name; number = 2; changes = one_commit.changes }))
unfolding spelled
group_there = refl

-- Pages: a leaf with a row, and an undo page with the row as it was before

abbrev leaf : RowLeaf
leaf = record { table = 1; number = 2; next = 0; rows = (codes "k", codes "v") ∷ [] }

abbrev undo : UndoPage
undo = record { number = 3; next = 0; entries = record { table = 1; key = codes "k"; before = Some (codes "u"); number = 1 } ∷ [] }

abbrev two_pages : List (ℕ × Page)
two_pages = (2, record { stamp = 1; bytes = spelled (row_leaf_fields leaf) }) ∷ (3, record { stamp = 1; bytes = spelled (undo_page_fields undo) }) ∷ []

one_row : flat_map (λ page. rows_on page.bytes) (map (λ e. e.1) two_pages) ≡ ((1, codes "k"), codes "v") ∷ []
unfolding spelled decoded number_at read_run row_leaf_of
one_row = refl

standing_row : standing_rows (from_sorted two_pages) ≡ Some (from_entries (((1, codes "k"), codes "v") ∷ []))
standing_row = ap (λ es. once (flat_map (λ page. rows_on page.bytes) (map (λ e. e.1) es))) (entries-from_sorted nat_cmp two_pages tt) ∙ ap once one_row

one_image : flat_map (λ page. images_on page.bytes) (map (λ e. e.1) two_pages) ≡ ((1, codes "k"), Some (codes "u")) ∷ []
unfolding spelled decoded number_at read_run undo_page_of
one_image = refl

row_before : rows_before (from_sorted two_pages) ≡ Some (from_entries (((1, codes "k"), Some (codes "u")) ∷ []))
row_before = ap (λ es. once (flat_map (λ page. images_on page.bytes) (map (λ e. e.1) es))) (entries-from_sorted nat_cmp two_pages tt) ∙ ap once one_image

-- a key that stands twice has no reading
twice : once (((1, codes "k"), codes "v") ∷ ((1, codes "k"), codes "w") ∷ []) ≡ None
twice = refl
