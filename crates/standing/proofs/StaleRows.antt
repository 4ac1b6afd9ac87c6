-- A worked row: room by the history alone does not bound what a restart has to hold.
use Rattle.std.proofs.Common.{◌≡◌, refl, sym, ap, ◌∙◌, ℕ, ◌+◌, true, false, cond, ◌||◌, List, [], ◌∷◌, codes, Bool, Option, Some, None}
use Rattle.std.specs.Prelude.{nat_le}
use Rattle.std.specs.Ordering.{eq_by_cmp}
use Rattle.std.specs.FinMap.{empty, get, get-insert, get-remove, insert, remove, same_map}
use Rattle.mdb_model.specs.Space.{commit_has_room, has_room, tree_pages, undo_pages, every_table}
use Rattle.mdb_model.specs.Tables.{Place, Tables, place_cmp, with_changes, with_commits}
use Rattle.mdb_model.proofs.Computing.{maps, list_pages, tree_pages-lists, places_total}
use Rattle.mdb_model.proofs.SerialPlaces.{places_antisymmetric, remove-absent}
use Rattle.standing.specs.WholeStanding.{HaveRoom, HaveRoomToRedo}
use Rattle.standing.specs.RoomRows.{stale_rows, filling, clearing}

abbrev one_list : List (Place × List ℕ)
one_list = ((2, codes "a"), []) ∷ []

abbrev stale_list : List (Place × List ℕ)
stale_list = ((1, codes "a"), []) ∷ ((3, codes "a"), []) ∷ ((4, codes "a"), []) ∷ []

abbrev all_list : List (Place × List ℕ)
all_list = ((1, codes "a"), []) ∷ ((2, codes "a"), []) ∷ ((3, codes "a"), []) ∷ ((4, codes "a"), []) ∷ []

abbrev filled : Tables
filled = with_changes filling.changes empty

abbrev both_rows : Tables
both_rows = with_changes filling.changes stale_rows

filled_page : list_pages [] one_list ≡ 1
unfolding every_table
filled_page = refl

four_pages : list_pages stale_list all_list ≡ 4
unfolding every_table
four_pages = refl

pages_filled : tree_pages empty filled ≡ 1
pages_filled = tree_pages-lists empty filled [] one_list (simp maps refl) (simp maps refl) ∙ filled_page

pages_both : tree_pages stale_rows both_rows ≡ 4
pages_both = tree_pages-lists stale_rows both_rows stale_list all_list (simp maps refl) (simp maps refl) ∙ four_pages

undo_filled : undo_pages empty filling.changes ≡ 2
undo_filled = simp maps refl

undo_cleared : undo_pages filled clearing.changes ≡ 2
undo_cleared = simp maps refl

-- the end is the same, with the stale rows and without
abbrev is_at : ℕ → Place → Bool
is_at table q = eq_by_cmp place_cmp q (table, codes "a")

get_end : (t : Tables) (q : Place) → get (with_commits (filling ∷ clearing ∷ []) t) q
    ≡ cond (is_at 4 q) None (cond (is_at 3 q) None (cond (is_at 1 q) None (cond (is_at 2 q) (Some []) (get t q))))
get_end t q =
    let two = insert t (2, codes "a") [] in
    let one = remove two (1, codes "a") in
    let three = remove one (3, codes "a") in
    get-remove places_total three (4, codes "a") q
    ∙ ap (λ o. cond (is_at 4 q) None o) (get-remove places_total one (3, codes "a") q)
    ∙ ap (λ o. cond (is_at 4 q) None (cond (is_at 3 q) None o)) (get-remove places_total two (1, codes "a") q)
    ∙ ap (λ o. cond (is_at 4 q) None (cond (is_at 3 q) None (cond (is_at 1 q) None o))) (get-insert places_total t (2, codes "a") [] q)

get_stale : (q : Place) → get stale_rows q ≡ cond (is_at 4 q) (Some []) (cond (is_at 3 q) (Some []) (cond (is_at 1 q) (Some []) (get (empty {K = Place} {X = List ℕ} {R = place_cmp}) q)))
get_stale q =
    let one : Tables = insert empty (1, codes "a") [] in
    let three = insert one (3, codes "a") [] in
    get-insert places_total three (4, codes "a") [] q
    ∙ ap (λ o. cond (is_at 4 q) (Some []) o) (get-insert places_total one (3, codes "a") [] q)
    ∙ ap (λ o. cond (is_at 4 q) (Some []) (cond (is_at 3 q) (Some []) o)) (get-insert places_total empty (1, codes "a") [] q)

covered : (b1 b2 b3 b4 : Bool) (e : Option (List ℕ)) → cond b4 None (cond b3 None (cond b1 None (cond b2 (Some []) (cond b4 (Some []) (cond b3 (Some []) (cond b1 (Some []) e))))))
    ≡ cond b4 None (cond b3 None (cond b1 None (cond b2 (Some []) e)))
covered b1 b2 b3 true e = refl
covered b1 b2 true false e = refl
covered true b2 false false e = refl
covered false b2 false false e = refl

same_end : with_commits (filling ∷ clearing ∷ []) stale_rows ≡ with_commits (filling ∷ clearing ∷ []) empty
same_end = same_map places_total places_antisymmetric (with_commits (filling ∷ clearing ∷ []) stale_rows) (with_commits (filling ∷ clearing ∷ []) empty) (λ q.
    get_end stale_rows q
    ∙ ap (λ o. cond (is_at 4 q) None (cond (is_at 3 q) None (cond (is_at 1 q) None (cond (is_at 2 q) (Some []) o)))) (get_stale q)
    ∙ covered (is_at 1 q) (is_at 2 q) (is_at 3 q) (is_at 4 q) (get empty q)
    ∙ sym (get_end empty q))

-- nothing was there to be cleared
cleared_is : with_changes clearing.changes filled ≡ filled
cleared_is =
    ap (λ t. remove (remove t (3, codes "a")) (4, codes "a")) (remove-absent filled (1, codes "a") (simp maps refl))
    ∙ ap (λ t. remove t (4, codes "a")) (remove-absent filled (3, codes "a") (simp maps refl)) ∙ remove-absent filled (4, codes "a") (simp maps refl)

one_page : list_pages one_list one_list ≡ 1
unfolding every_table
one_page = refl

pages_cleared : tree_pages filled (with_changes clearing.changes filled) ≡ 1
pages_cleared = ap (λ t. tree_pages filled t) cleared_is ∙ tree_pages-lists filled filled one_list one_list (simp maps refl) (simp maps refl) ∙ one_page

three_pages : list_pages stale_list stale_list ≡ 3
unfolding every_table
three_pages = refl

pages_stale : tree_pages stale_rows stale_rows ≡ 3
pages_stale = tree_pages-lists stale_rows stale_rows stale_list stale_list (simp maps refl) (simp maps refl) ∙ three_pages

room_of : (pages undo : ℕ) → Bool
room_of pages undo = nat_le (4 + pages + undo + 4 + 341 + 160) 512 || nat_le (4 + pages + undo + 4 + 341 + 160) 511

filling_had : commit_has_room empty filling.changes 341 512 ≡ true
unfolding room_of
filling_had = λ i. room_of (pages_filled i) (undo_filled i)

clearing_had : commit_has_room filled clearing.changes 341 512 ≡ true
unfolding room_of
clearing_had = λ i. room_of (pages_cleared i) (undo_cleared i)

map_had : has_room stale_rows stale_rows 0 341 512 ≡ true
unfolding room_of
map_had = λ i. room_of (pages_stale i) 0

redo_has_none : has_room stale_rows both_rows 0 341 512 ≡ false
unfolding room_of
redo_has_none = λ i. room_of (pages_both i) 0

-- the map has room, so has each commit of the history, and both ends are one: but redo has no room
pub history_is_not_enough : (with_commits (filling ∷ clearing ∷ []) stale_rows ≡ with_commits (filling ∷ clearing ∷ []) empty) × (has_room stale_rows stale_rows 0 341 512 ≡ true)
    × HaveRoom empty (filling ∷ clearing ∷ []) 341 512 × (HaveRoomToRedo stale_rows (filling ∷ clearing ∷ []) 341 512 → ⊥)
history_is_not_enough = (same_end, map_had, (filling_had, (clearing_had, tt)), λ room. (let never : false ≡ true = sym redo_has_none ∙ room.0 in absurd cc))
