-- A worked row: room with before images is lost once changes of the commit are set.
use Rattle.std.proofs.Common.{◌≡◌, refl, sym, ◌∙◌, ℕ, ◌+◌, true, false, ◌||◌, List, [], ◌∷◌, codes}
use Rattle.std.specs.Prelude.{nat_le}
use Rattle.mdb_model.specs.Space.{commit_has_room, tree_pages, undo_pages, every_table}
use Rattle.mdb_model.specs.Tables.{Place, Tables, with_changes}
use Rattle.mdb_model.proofs.Computing.{maps, list_pages, tree_pages-lists}
use Rattle.standing.specs.WholeStanding.{HaveRoom}
use Rattle.standing.specs.RoomRows.{small_rows, growing, long_value}

abbrev small_list : List (Place × List ℕ)
small_list = ((1, codes "a"), []) ∷ ((1, codes "b"), []) ∷ ((1, codes "c"), []) ∷ []

abbrev long_list : List (Place × List ℕ)
long_list = ((1, codes "a"), long_value) ∷ ((1, codes "b"), long_value) ∷ ((1, codes "c"), long_value) ∷ []

abbrev long_rows : Tables
long_rows = with_changes growing.changes small_rows

page_before : list_pages small_list long_list ≡ 1
unfolding every_table
page_before = refl

page_after : list_pages long_list long_list ≡ 1
unfolding every_table
page_after = refl

undo_before : undo_pages small_rows growing.changes ≡ 2
undo_before = simp maps refl

undo_after : undo_pages long_rows growing.changes ≡ 3
undo_after = simp maps refl

pages_before : tree_pages small_rows long_rows ≡ 1
pages_before = tree_pages-lists small_rows long_rows small_list long_list (simp maps refl) (simp maps refl) ∙ page_before

pages_after : tree_pages long_rows (with_changes growing.changes long_rows) ≡ 1
pages_after = tree_pages-lists long_rows (with_changes growing.changes long_rows) long_list long_list (simp maps refl) (simp maps refl) ∙ page_after

had_room : commit_has_room small_rows growing.changes 341 512 ≡ true
had_room =
    let whole : (pages undo : ℕ) → pages ≡ 1 → undo ≡ 2 → (nat_le (4 + pages + undo + 4 + 341 + 160) 512 || nat_le (4 + pages + undo + 4 + 341 + 160) 511) ≡ true =
    λ pages undo p u i. nat_le (4 + p i + u i + 4 + 341 + 160) 512 || nat_le (4 + p i + u i + 4 + 341 + 160) 511 in
    whole (tree_pages small_rows long_rows) (undo_pages small_rows growing.changes) pages_before undo_before

has_none : commit_has_room long_rows growing.changes 341 512 ≡ false
has_none =
    let whole : (pages undo : ℕ) → pages ≡ 1 → undo ≡ 3 → (nat_le (4 + pages + undo + 4 + 341 + 160) 512 || nat_le (4 + pages + undo + 4 + 341 + 160) 511) ≡ false =
    λ pages undo p u i. nat_le (4 + p i + u i + 4 + 341 + 160) 512 || nat_le (4 + p i + u i + 4 + 341 + 160) 511 in
    whole (tree_pages long_rows (with_changes growing.changes long_rows)) (undo_pages long_rows growing.changes) pages_after undo_after

-- so room by the rows of the map, with before images, is not kept by changes that are set
pub room_is_lost : HaveRoom small_rows (growing ∷ []) 341 512 × (HaveRoom (with_changes growing.changes small_rows) (growing ∷ []) 341 512 → ⊥)
room_is_lost = ((had_room, tt), λ room. (let never : false ≡ true = sym has_none ∙ room.0 in absurd cc))
