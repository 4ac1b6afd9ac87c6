-- What is left to redo of a log.
--     last_or      the last number, with what is left
--     step_rows, step_last, step_behind      one commit fewer is left
--     first_last      before the first
--     reached, behind_all      none is left where the last one that is asked for is set
--     SetSoFar, set_first, set_on, part_on      the commits that are set
--     fits_step      what is left keeps its room
--     ready_on      the rows with what is left stay those that are aimed at
use Rattle.std.proofs.Common.{◌≡◌, refl, sym, ap, subst, ◌∙◌, ℕ, suc, ◌+◌, ◌-◌, ◌≤◌, List, [], ◌∷◌, ◌++◌, append_assoc, length, take, drop, Option, Some, None, arith}
use Rattle.std.specs.Prelude.{IsSomeAnd}
use Rattle.std.proofs.lemmas.List.{take-append-drop}
use Rattle.mdb_model.specs.declared.change.Commit.{Commit}
use Rattle.mdb_model.specs.Tables.{Tables, with_changes, with_commits}
use Rattle.mdb_bytes.specs.Held.{Holding, LogLeft}
use Rattle.restart.specs.Redone.{IsNextRedone, IsReadyToRedo, IsPartSet, Allows, commits_upto, commits_behind, last_number}
use Rattle.restart.proofs.Again.{commits-append}

-- the number of the last commit once those that are left are set
abbrev pub last_or : Option ℕ → (after : ℕ) → List Commit → Option ℕ
last_or last after [] = last
last_or last after (commit ∷ commits) = Some (after + length (commit ∷ commits))

-- before the first
pub first_last : (after : ℕ) (commits : List Commit) → last_or None after commits ≡ last_number after commits
first_last after [] = refl
first_last after (commit ∷ commits) = refl

-- the commit that was set was the first of those that were left
upto_first : (until : Option ℕ) (number : ℕ) (old new : LogLeft) (commit : Commit) → old.commits ≡ commit ∷ new.commits → number ≡ old.after + 1 → new.after ≡ number → Allows until number
    → commits_upto until old ≡ commit ∷ commits_upto until new
upto_first None number old new commit first is after allowed = first
upto_first (Some until) number old new commit first is after allowed =
    let one : until - old.after ≡ suc (until - new.after) = omega arith in
    ap (λ n. take n old.commits) one ∙ ap (take (suc (until - new.after))) first

-- the rows that are to come stay
pub step_rows : (until : Option ℕ) (number : ℕ) (old new : Holding) → IsNextRedone (Some number) until old new
    → with_commits (commits_upto until new.log) new.rows ≡ with_commits (commits_upto until old.log) old.rows
step_rows until number old new s =
    let first = upto_first until number old.log new.log s.0 s.1 s.2 s.5 s.4 in
    ap (with_commits (commits_upto until new.log)) s.6 ∙ ap (λ cs. with_commits cs old.rows) (sym first)

-- the last number stays, of the commits that are left
last_step : (last : Option ℕ) (number old_after new_after : ℕ) (commit : Commit) (commits : List Commit) → number ≡ old_after + 1 → new_after ≡ number
    → last_or (Some number) new_after commits ≡ last_or last old_after (commit ∷ commits)
last_step last number old_after new_after commit [] is after = let e : number ≡ old_after + length (commit ∷ []) = omega arith in ap Some e
last_step last number old_after new_after commit (d ∷ ds) is after =
    let e : new_after + length (d ∷ ds) ≡ old_after + length (commit ∷ d ∷ ds) = omega arith in ap Some e

-- the last number that is to come stays
pub step_last : (until last : Option ℕ) (number : ℕ) (old new : Holding) → IsNextRedone (Some number) until old new
    → last_or (Some number) new.log.after (commits_upto until new.log) ≡ last_or last old.log.after (commits_upto until old.log)
step_last until last number old new s =
    let first = upto_first until number old.log new.log s.0 s.1 s.2 s.5 s.4 in
    last_step last number old.log.after new.log.after s.0 (commits_upto until new.log) s.2 s.5 ∙ ap (last_or last old.log.after) (sym first)

-- no commit is left that is asked for
pub reached : (until last : Option ℕ) (log : LogLeft) → ((n : ℕ) → last ≡ Some n → n ≡ log.after) → IsSomeAnd last (λ last. IsSomeAnd until (λ until. until ≤ last)) → commits_upto until log ≡ []
reached until None log at is = absurd is
reached None (Some last) log at is = absurd is
reached (Some until) (Some last) log at is =
    let here = at last refl in
    let none : until - log.after ≡ 0 = omega arith in
    ap (λ n. take n log.commits) none

-- the commits behind those that are asked for stay
pub step_behind : (until : Option ℕ) (number : ℕ) (old new : Holding) → IsNextRedone (Some number) until old new → commits_behind until new.log ≡ commits_behind until old.log
step_behind None number old new s = refl
step_behind (Some until) number old new s =
    let a : number ≡ old.log.after + 1 = s.2 in
    let b : new.log.after ≡ number = s.5 in
    let allowed : number ≤ until = s.4 in
    let one : until - old.log.after ≡ suc (until - new.log.after) = omega arith in
    sym (ap (λ n. drop n old.log.commits) one ∙ ap (drop (suc (until - new.log.after))) s.1)

-- where none is asked for, all are behind
pub behind_all : (until : Option ℕ) (log : LogLeft) → commits_upto until log ≡ [] → commits_behind until log ≡ log.commits
behind_all None log none = sym none
behind_all (Some until) log none = ap (λ (front : List Commit). front ++ drop (until - log.after) log.commits) (sym none) ∙ take-append-drop (until - log.after) log.commits

-- these commits of the log are set, and the others are left
pub record SetSoFar (start now : Holding) : Type 0 where
  pub done : List Commit
  pub log : start.log.commits ≡ done ++ now.log.commits
  pub rows : now.rows ≡ with_commits done start.rows

-- none is set
pub set_first : (start : Holding) → SetSoFar start start
set_first start = record { done = []; log = refl; rows = refl }

-- one more is set
pub set_on : (start old new : Holding) (until : Option ℕ) (number : ℕ) → SetSoFar start old → IsNextRedone (Some number) until old new → SetSoFar start new
set_on start old new until number was s = record {
  done = was.done ++ s.0 ∷ [];
  log = was.log ∙ ap (λ (l : List Commit). was.done ++ l) s.1 ∙ sym (append_assoc was.done (s.0 ∷ []) new.log.commits);
  rows = s.6 ∙ ap (with_changes s.0.changes) was.rows ∙ sym (commits-append was.done (s.0 ∷ []) start.rows);
}

-- of the whole log, what is set of the rest of it
pub part_on : (start old : Holding) (rows : Tables) → SetSoFar start old → IsPartSet old rows → IsPartSet start rows
part_on start old rows was part = record {
  done = was.done ++ part.done;
  left = part.left;
  made = part.made;
  log = was.log ∙ ap (λ (l : List Commit). was.done ++ l) part.log ∙ sym (append_assoc was.done part.done part.left);
  first = part.first;
  rows_are = part.rows_are ∙ ap (λ (t : Tables). with_changes part.made (with_commits part.done t)) was.rows
      ∙ ap (with_changes part.made) (sym (commits-append was.done part.done start.rows));
}

-- the rows with what is left are those that are aimed at
pub ready_on : (aim aim2 : Tables) (undone undone2 : List Commit) (last last2 : ℕ) (old new : Holding) (until : Option ℕ) (number : ℕ) → IsReadyToRedo aim undone last old → IsNextRedone (Some number) until old new
    → aim2 ≡ aim → undone2 ≡ new.log.commits → last2 ≡ number → IsReadyToRedo aim2 undone2 last2 new
ready_on aim aim2 undone undone2 last last2 old new until number ready s same_aim left told = record {
  at = told ∙ sym s.5;
  left = left;
  aimed = ap (λ (l : List Commit). with_commits l new.rows) left ∙ ap (with_commits new.log.commits) s.6
      ∙ ap (λ (l : List Commit). with_commits l old.rows) (sym (ready.left ∙ s.1)) ∙ ready.aimed ∙ sym same_aim;
}

-- what is left keeps its room
pub fits_step : (fits : List Commit → Tables → Type 0) {undone undone2 : List Commit} (old new : Holding) (until : Option ℕ) (number : ℕ)
    → ((commit : Commit) (commits : List Commit) (rows : Tables) → fits (commit ∷ commits) rows → fits commits (with_changes commit.changes rows))
    → IsNextRedone (Some number) until old new → undone ≡ old.log.commits → undone2 ≡ new.log.commits → fits undone old.rows → fits undone2 new.rows
fits_step fits {undone2 = undone2} old new until number rest s left left2 room =
    let first = subst (λ (l : List Commit). fits l old.rows) (left ∙ s.1) room in
    let set = rest s.0 new.log.commits old.rows first in
    subst (λ (t : Tables). fits undone2 t) (sym s.6) (subst (λ (l : List Commit). fits l (with_changes s.0.changes old.rows)) (sym left2) set)
