-- The bytes of a whole backup, from the medium's first page on.
--     live_page, live_pages      the pages of a live set
--     header_for      the header of a backup
--     backup_bytes      the header, the gate, and the pages or groups after them
use Rattle.std.specs.Prelude.{ℕ, ◌+◌, ◌-◌, ◌*◌, ◌^◌, List, [], ◌∷◌, ◌++◌, if◌then◌else◌, map, sum_by, replicate}
use Rattle.std.specs.List.{concat, range_with_len}
use Rattle.std.specs.Ordering.{nat_cmp}
use Rattle.std.specs.FinMap.{values, len}
use Rattle.std.specs.FinSet.{FinSet, contains}
use Rattle.mdb_model.specs.declared.change.Commit.{Commit}
use Rattle.mdb_model.specs.declared.name.Name.{Name}
use Rattle.mdb_model.specs.declared.script.BackupKind.TheVariants.{OfPages, OfLog}
use Rattle.mdb_model.specs.declared.script.PageKind.TheVariants.{Complete, Incremental}
use Rattle.mdb_model.specs.Backups.{Backup, CompletePages, ChangedPages, LogGroups}
use Rattle.mdb_model.specs.Pages.{PageMap}
use Rattle.mdb_model.specs.Space.{ceil_div}
use Rattle.mdb_bytes.specs.declared.medium_pages.MediumHeader.{MediumHeader}
use Rattle.mdb_bytes.specs.declared.medium_pages.LiveSet.{LiveSet}
use Rattle.mdb_bytes.specs.Fields.{Byte, spelled}
use Rattle.mdb_bytes.specs.Parts.{page_len}
use Rattle.mdb_bytes.specs.Groups.{group_fields, open_gate}
use Rattle.mdb_bytes.specs.LogReading.{log_bytes}
use Rattle.mdb_bytes.specs.MediumPages.{medium_header_fields, live_set_fields}

-- The live set

-- the byte with the bits of the eight numbers from one on
abbrev pub live_byte : FinSet nat_cmp → ℕ → ℕ
live_byte live from =
    sum_by (λ i. if contains live (from + i) then 2 ^ (7 - i) else 0) (range_with_len 0 8)

-- the page of a live set that tells of 65,000 numbers
abbrev pub live_page : FinSet nat_cmp → (blocks index : ℕ) → LiveSet
live_page live blocks index =
    record {
      index = index;
      blocks = blocks;
      bits = map
          (λ k. live_byte live (65000 * index + 8 * k)) (range_with_len 0 8125);
    }

-- how many pages a live set has
abbrev pub live_pages : (blocks : ℕ) → ℕ
live_pages blocks = ceil_div blocks 65000

-- the bytes of a live set
abbrev pub live_set_spelled : FinSet nat_cmp → (blocks : ℕ) → List ℕ
live_set_spelled live blocks =
    concat (map (λ index. spelled (live_set_fields (live_page live blocks index)))
    (range_with_len 0 (live_pages blocks)))

-- What stands after the header

-- the groups of commits in order, the first with this number
abbrev pub groups_spelled : Name → ℕ → List Commit → List ℕ
groups_spelled name number [] = []
groups_spelled name number (commit ∷ commits) =
    spelled (group_fields (record { name = name; number = number; changes = commit.changes }))
    ++ groups_spelled name (number + 1) commits

-- how many pages the groups of commits fill
abbrev pub group_pages : List Commit → ℕ
group_pages commits = ceil_div (log_bytes commits) page_len

-- the pages of a map by ascending number
abbrev pub pages_spelled : PageMap → List ℕ
pages_spelled pages = concat (map (λ page. page.bytes) (values pages))

-- The pages after the header: all pages; the live set and the changed pages; the groups, the last
-- page filled with zeros
abbrev pub content_bytes : Backup → List ℕ
content_bytes (CompletePages name savepoint commit pages blocks) = pages_spelled pages
content_bytes (ChangedPages name savepoint base commit changed live blocks) =
    live_set_spelled live blocks ++ pages_spelled changed
content_bytes (LogGroups name from to commits blocks) =
    groups_spelled name from commits ++ replicate
    (page_len * group_pages commits - log_bytes commits) 0

-- The header

-- the header of a backup; that of a log backup names where in the log it ends
abbrev pub header_for : (end : ℕ) → Backup → MediumHeader
header_for end (CompletePages name savepoint commit pages blocks) = record {
  format = 1;
  kind = OfPages Complete;
  name = name;
  savepoint = savepoint;
  base = 0;
  first = commit;
  last = commit;
  blocks = blocks;
  pages = 1 + len pages;
  group_bytes = 0;
  end_position = 0;
}
header_for end (ChangedPages name savepoint base commit changed live blocks) = record {
  format = 1;
  kind = OfPages Incremental;
  name = name;
  savepoint = savepoint;
  base = base;
  first = commit;
  last = commit;
  blocks = blocks;
  pages = 1 + live_pages blocks + len changed;
  group_bytes = 0;
  end_position = 0;
}
header_for end (LogGroups name from to commits blocks) = record {
  format = 1;
  kind = OfLog;
  name = name;
  savepoint = 0;
  base = 0;
  first = from;
  last = to;
  blocks = blocks;
  pages = 1 + group_pages commits;
  group_bytes = log_bytes commits;
  end_position = end;
}

-- the header with an open gate, and what stands after it
abbrev pub backup_bytes : (end : ℕ) → Backup → List ℕ
backup_bytes end backup =
    spelled (medium_header_fields (header_for end backup) ++ Byte open_gate ∷ [])
    ++ content_bytes backup
