-- Room to redo is kept by each change that is set, and follows from the room that commits were given.
--     made_rest      the first changes of some, and then all of them
--     redo_room_kept      the law for a first part of a commit
--     redo_room_given      the law for commits as they were admitted
--     mixed_has_room      the rows with a first part of a commit have room
use Rattle.std.proofs.Common.{◌≡◌, ◌≢◌, ◌⊎◌, inl, inr, refl, sym, ap, ◌∙◌, subst, ℕ, ◌+◌, ◌≤◌, max, true, false, cond, ◌∷◌, ◌++◌, [], List, length, Some, None, arith}
use Rattle.std.specs.Prelude.{IsTrue, option_map, unwrap_or}
use Rattle.std.specs.List.{AllByRecursion}
use Rattle.std.specs.Ordering.{eq_by_cmp}
use Rattle.std.specs.FinMap.{get, get-insert, get-remove, same_map}
use Rattle.std.proofs.lemmas.Bool.{cases_Bool}
use Rattle.mdb_model.specs.declared.change.Change.{Change}
use Rattle.mdb_model.specs.declared.change.Change.TheVariants.{Put, Del}
use Rattle.mdb_model.specs.declared.change.Commit.{Commit}
use Rattle.mdb_model.specs.Sessions.{same_place}
use Rattle.mdb_model.specs.Space.{cost_at, has_room, undo_pages}
use Rattle.mdb_model.specs.Tables.{Place, Tables, place_cmp, place_of, with_change, with_changes, with_commits}
use Rattle.mdb_model.proofs.Computing.{places_total}
use Rattle.mdb_model.proofs.SerialPlaces.{places_antisymmetric, same_place-equal, same_place-itself, with_change-apart}
use Rattle.standing.specs.WholeStanding.{HaveRoom, HaveRoomToRedo}
use Rattle.standing.proofs.CostLaws.{In, room_mono}
use Rattle.standing.specs.RedoRoom.{AllApart, places_of, NoMoreCost}

-- a place that no change is about
stays : (cs : List Change) (t : Tables) (p : Place) → AllByRecursion (λ q. p ≢ q) (places_of cs) → get (with_changes cs t) p ≡ get t p
stays [] t p all = refl
stays (c ∷ cs) t p all = stays cs (with_change c t) p all.1 ∙ with_change-apart c t p all.0

-- a place is among some, or none of them
among : (p : Place) (ps : List Place) → In p ps ⊎ AllByRecursion (λ q. p ≢ q) ps
among p [] = inr tt
among p (q ∷ ps) = elim (cases_Bool (same_place p q)) [
  | inl same ↦ inl (inl (same_place-equal p q same))
  | inr other ↦ elim (among p ps) [
    | inl later ↦ inl (inr later)
    | inr none ↦ inr (λ e. (let yes : same_place p q ≡ true = ap (λ x. same_place p x) (sym e) ∙ same_place-itself p in absurd (let both : true ≡ false = sym yes ∙ other in cc)), none)
  ]
]

pub changes-append : (a b : List Change) (t : Tables) → with_changes (a ++ b) t ≡ with_changes b (with_changes a t)
changes-append [] b t = refl
changes-append (c ∷ a) b t = changes-append a b (with_change c t)

-- of places that all differ, one among the first is none of the others
apart_rest : (p : Place) (a b : List Change) → AllApart (places_of (a ++ b)) → In p (places_of a) → AllByRecursion (λ q. p ≢ q) (places_of b)
apart_rest p [] b all there = absurd there
apart_rest p (c ∷ a) b all (inl is) = subst (λ x. AllByRecursion (λ q. x ≢ q) (places_of b)) (sym is) (rest_of a all.0)
  where
    rest_of : (a : List Change) → AllByRecursion (λ q. place_of c ≢ q) (places_of (a ++ b)) → AllByRecursion (λ q. place_of c ≢ q) (places_of b)
    rest_of [] all = all
    rest_of (d ∷ a) all = rest_of a all.1
apart_rest p (c ∷ a) b all (inr later) = apart_rest p a b all.1 later

-- with a first part of the changes a row is as before or as after all of them
pub between : (a b : List Change) (t : Tables) (p : Place) → AllApart (places_of (a ++ b)) → (get (with_changes a t) p ≡ get t p) ⊎ (get (with_changes a t) p ≡ get (with_changes (a ++ b) t) p)
between a b t p apart = elim (among p (places_of a)) [
  | inr none ↦ inl (stays a t p none)
  | inl there ↦ inr (sym (ap (λ m. get m p) (changes-append a b t) ∙ stays b (with_changes a t) p (apart_rest p a b apart there)))
]

-- As in Again of the crate of restarts.

-- a change makes the row at a place what it says, or leaves it
settles_one : (c : Change) (s t : Tables) (p : Place) → (get (with_change c s) p ≡ get (with_change c t) p) ⊎ ((u : Tables) → get (with_change c u) p ≡ get u p)
settles_one (Put table key value) s t p = elim (cases_Bool (eq_by_cmp place_cmp p (table.0, key))) [
  | inl is ↦ inl (get-insert places_total s (table.0, key) value p ∙ ap (λ b. cond b (Some value) (get s p)) is
      ∙ sym (get-insert places_total t (table.0, key) value p ∙ ap (λ b. cond b (Some value) (get t p)) is))
  | inr is ↦ inr (λ u. get-insert places_total u (table.0, key) value p ∙ ap (λ b. cond b (Some value) (get u p)) is)
]
settles_one (Del table key) s t p = elim (cases_Bool (eq_by_cmp place_cmp p (table.0, key))) [
  | inl is ↦ inl (get-remove places_total s (table.0, key) p ∙ ap (λ b. cond b None (get s p)) is
      ∙ sym (get-remove places_total t (table.0, key) p ∙ ap (λ b. cond b None (get t p)) is))
  | inr is ↦ inr (λ u. get-remove places_total u (table.0, key) p ∙ ap (λ b. cond b None (get u p)) is)
]

-- the same of changes
settles : (cs : List Change) (s t : Tables) (p : Place) → (get (with_changes cs s) p ≡ get (with_changes cs t) p) ⊎ ((u : Tables) → get (with_changes cs u) p ≡ get u p)
settles [] s t p = inr (λ u. refl)
settles (c ∷ cs) s t p = elim (settles cs (with_change c s) (with_change c t) p) [
  | inl e ↦ inl e
  | inr stays ↦ elim (settles_one c s t p) [
    | inl e ↦ inl (stays (with_change c s) ∙ e ∙ sym (stays (with_change c t)))
    | inr keeps ↦ inr (λ u. stays (with_change c u) ∙ keeps u)
  ]
]

-- what was made is made again
pub made_again : (cs : List Change) (t : Tables) → with_changes cs (with_changes cs t) ≡ with_changes cs t
made_again cs t = same_map places_total places_antisymmetric (with_changes cs (with_changes cs t)) (with_changes cs t) (λ p. elim (settles cs (with_changes cs t) t p) [
  | inl e ↦ e
  | inr stays ↦ stays (with_changes cs t)
])

-- all changes over the first of them
pub made_rest : (a b : List Change) (t : Tables) → with_changes (a ++ b) (with_changes a t) ≡ with_changes (a ++ b) t
made_rest a b t = changes-append a b (with_changes a t) ∙ ap (with_changes b) (made_again a t) ∙ sym (changes-append a b t)

-- Costs

cost_is : (s t : Tables) (p : Place) → get s p ≡ get t p → cost_at s p ≡ cost_at t p
cost_is s t p same = ap (λ o. unwrap_or (option_map (λ value. 8 + length p.1 + length value) o) 0) same

-- so with a first part of the changes no place costs more than before or after all of them
cost_between : (a b : List Change) (t : Tables) (p : Place) → AllApart (places_of (a ++ b)) → cost_at (with_changes a t) p ≤ max (cost_at t p) (cost_at (with_changes (a ++ b) t) p)
cost_between a b t p apart = elim (between a b t p apart) [
  | inl before ↦ omega (arith, cost_is (with_changes a t) t p before)
  | inr after ↦ omega (arith, cost_is (with_changes a t) (with_changes (a ++ b) t) p after)
]

pub rest_costs : (a b : List Change) (t : Tables) → AllApart (places_of (a ++ b)) → NoMoreCost (with_changes a t) (with_changes (a ++ b) t) t (with_changes (a ++ b) t)
rest_costs a b t apart p = omega (arith, cost_between a b t p apart)

pub mixed_costs : (a b : List Change) (t : Tables) → AllApart (places_of (a ++ b)) → NoMoreCost (with_changes a t) (with_changes a t) t (with_changes (a ++ b) t)
mixed_costs a b t apart p = omega (arith, cost_between a b t p apart)

-- Room

-- with the first changes of the first commit set, all commits have room as before
pub redo_room_kept : (a b : List Change) (cs : List Commit) (t : Tables) (kept blocks : ℕ) → AllApart (places_of (a ++ b))
    → HaveRoomToRedo t (record { changes = a ++ b } ∷ cs) kept blocks → HaveRoomToRedo (with_changes a t) (record { changes = a ++ b } ∷ cs) kept blocks
redo_room_kept a b cs t kept blocks apart room =
    let same = made_rest a b t in (
      subst (λ (u : Tables). has_room (with_changes a t) u 0 kept blocks ≡ true) (sym same)
          (room_mono (with_changes a t) (with_changes (a ++ b) t) t (with_changes (a ++ b) t) 0 0 kept blocks (rest_costs a b t apart) (omega arith) room.0),
      subst (λ (u : Tables). HaveRoomToRedo u cs kept blocks) (sym same) room.1,
    )

-- and the rows as they stand then have room, with no before images
pub mixed_has_room : (a b : List Change) (cs : List Commit) (t : Tables) (kept blocks : ℕ) → AllApart (places_of (a ++ b))
    → HaveRoomToRedo t (record { changes = a ++ b } ∷ cs) kept blocks → has_room (with_changes a t) (with_changes a t) 0 kept blocks ≡ true
mixed_has_room a b cs t kept blocks apart room =
    room_mono (with_changes a t) (with_changes a t) t (with_changes (a ++ b) t) 0 0 kept blocks (mixed_costs a b t apart) (omega arith) room.0

-- commits that were admitted have room to be redone
pub redo_room_given : (cs : List Commit) (t : Tables) (kept blocks : ℕ) → HaveRoom t cs kept blocks → HaveRoomToRedo t cs kept blocks
redo_room_given [] t kept blocks room = tt
redo_room_given (c ∷ cs) t kept blocks room = (
  room_mono t (with_changes c.changes t) t (with_changes c.changes t) 0 (undo_pages t c.changes) kept blocks (λ p. omega arith) (omega arith) room.0,
  redo_room_given cs (with_changes c.changes t) kept blocks room.1,
)

-- so a map with the first changes of a commit that was admitted on these rows
pub redo_room_inside : (a b : List Change) (cs : List Commit) (t : Tables) (kept blocks : ℕ) → AllApart (places_of (a ++ b))
    → HaveRoom t (record { changes = a ++ b } ∷ cs) kept blocks → HaveRoomToRedo (with_changes a t) (record { changes = a ++ b } ∷ cs) kept blocks
redo_room_inside a b cs t kept blocks apart room = redo_room_kept a b cs t kept blocks apart (redo_room_given (record { changes = a ++ b } ∷ cs) t kept blocks room)

-- one commit more
pub redo_room_push : (cs : List Commit) (c : Commit) (t : Tables) (kept blocks : ℕ) → HaveRoomToRedo t cs kept blocks
    → IsTrue (has_room (with_commits cs t) (with_changes c.changes (with_commits cs t)) 0 kept blocks) → HaveRoomToRedo t (cs ++ c ∷ []) kept blocks
redo_room_push [] c t kept blocks room more = (more, tt)
redo_room_push (d ∷ cs) c t kept blocks room more = (room.0, redo_room_push cs c (with_changes d.changes t) kept blocks room.1 more)

-- a map that has the tables has room beside what is kept, where a commit has
pub tables_have_room : (t : Tables) (changes : List Change) (kept blocks : ℕ) → IsTrue (has_room t (with_changes changes t) (undo_pages t changes) kept blocks) → has_room t t 0 kept blocks ≡ true
tables_have_room t changes kept blocks room = room_mono t t t (with_changes changes t) 0 (undo_pages t changes) kept blocks (λ p. omega arith) (omega arith) room
