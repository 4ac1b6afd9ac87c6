-- A text that is said in several calls.
--     Speaks      at each moment since, a front part of the text is said, and the devices are as
--         they were
--     SaysWhile      a front part of it is said, and each image that a crash may leave has P
--     row_text, items_text      the text of the next row; of items
use Rattle.std.specs.Prelude.{◌≡◌, ℕ, ◌≤◌, List, [], ◌++◌, Option, Some, None, length, take}
use Rattle.std.specs.List.{flat_map}
use Rattle.mdb_model.specs.Answers.{Item, Row}
use Rattle.mdb_model.specs.Images.{Image}
use Rattle.mdb_model.specs.Text.{item_words, line_of}
use Rattle.mdb_host.specs.Disk.{Disk, Keeps, Agree}

pub record Speaks (old new : Disk) (text : List ℕ) : Type 0 where
  pub keeps : Keeps old new
  pub part : (t : ℕ) → old.now ≤ t → t ≤ new.now
      → (n : ℕ) × (n ≤ length text) × (new.said t ≡ old.said old.now ++ take n text)
  -- a crash leaves what one before could have left
  pub left : (t : ℕ) (image : Image) → old.now ≤ t → t ≤ new.now → new.may_leave t image
      → old.may_leave old.now image
  pub seen : Agree old.seen new.seen

pub record SaysWhile (old new : Disk) (text : List ℕ) (P : Image → Type 0) : Type 0 where
  pub keeps : Keeps old new
  pub part : (t : ℕ) → old.now ≤ t → t ≤ new.now
      → (n : ℕ) × (n ≤ length text) × (new.said t ≡ old.said old.now ++ take n text)
  pub each : (t : ℕ) (image : Image) → old.now ≤ t → t ≤ new.now → new.may_leave t image → P image

-- The rows of a scan

-- the text of a row, if there is one
abbrev pub row_text : Option (List ℕ × List ℕ) → List ℕ
row_text None = []
row_text (Some row) = line_of (item_words (Row row.0 row.1))

abbrev pub items_text : List Item → List ℕ
items_text items = flat_map (λ item. line_of (item_words item)) items
