-- One commit of the log, set on the rows.
--     on_the_way      within a group the rows stand so
--     fits_same      what has room keeps it
--     part_made      its first changes are set
--     rose_on, cause_passed      the cause of a fault, from an earlier moment on
--     on_passed, if_passed      a fault that is passed on owes nothing of an answer
use Rattle.std.proofs.Common.{◌≡◌, refl, sym, ap, subst, ◌∙◌, inl, inr, ℕ, zero, suc, ◌+◌, ◌-◌, ◌^◌, ◌<◌, ◌≤◌, true, ◌&&◌, List, [], ◌∷◌, ◌++◌, take, Option, Some, None, Err, IsTrue, arith}
use Rattle.std.specs.Prelude.{IsSomeAnd, IsErrAnd, IfOk, OnOk, Result, Ok, nat_lt}
use Rattle.std.proofs.lemmas.Bool.{ltb-true}
use Rattle.mdb_model.specs.Causes.{Rose}
use Rattle.mdb_model.specs.declared.change.Change.{Change}
use Rattle.mdb_model.specs.declared.change.Commit.{Commit}
use Rattle.mdb_model.specs.declared.fault.PageFault.{PageFault}
use Rattle.mdb_model.specs.Tables.{Tables, with_changes, with_commits}
use Rattle.mdb_bytes.specs.declared.group.GroupHead.{GroupHead}
use Rattle.mdb_bytes.specs.Fields.{fields_fit}
use Rattle.mdb_bytes.specs.GroupHeads.{group_head_fields}
use Rattle.mdb_bytes.specs.Held.{Holding, LogLeft, IsNextGroup}
use Rattle.mdb_bytes.proofs.Decoding.{and_left, and_right}
use Rattle.restart.specs.Redone.{IsFirstOf, IsOnTheWay, IsFirstUndone, IsReadyToRedo, IsMade, IsPartMade, IsPartSet, IsNextRedone, Allows, HasRedoCause, commits_upto}
use Rattle.restart.proofs.Making.{Making}

-- within a group the rows are those before it with its first changes
pub on_the_way : (fits : List Commit → Tables → Type 0) (aim aim2 : Tables) (undone undone2 : List Commit) (before now : Holding) (group left : List ℕ) (next : IsFirstUndone aim undone before.rows group)
    → Making left before now next.commit.changes → aim2 ≡ aim → undone2 ≡ undone → fits undone before.rows
    → IsOnTheWay fits aim2 undone2 now.rows
on_the_way fits aim aim2 undone undone2 before now group left next m same_aim same_undone room = record {
  before = before.rows;
  made = m.made;
  first = subst (λ (l : List Commit). IsFirstOf m.made l) (sym (same_undone ∙ next.first)) (m.rest, m.whole);
  aimed = ap (λ (l : List Commit). with_commits l before.rows) same_undone ∙ next.aimed ∙ sym same_aim;
  room = subst (λ (l : List Commit). fits l before.rows) (sym same_undone) room;
  rows_are = ap (λ (h : Holding). h.rows) m.rows;
}

-- commits that have room keep it
pub fits_same : (fits : List Commit → Tables → Type 0) {commits commits2 : List Commit} {rows rows2 : Tables} → commits2 ≡ commits → rows2 ≡ rows → fits commits rows → fits commits2 rows2
fits_same fits {commits2 = commits2} {rows = rows} same_commits same_rows room =
    subst (λ (t : Tables). fits commits2 t) (sym same_rows) (subst (λ (l : List Commit). fits l rows) (sym same_commits) room)

-- the first changes of the group are set
pub part_made : (before now : Holding) (left : List ℕ) (changes : List Change) → Making left before now changes
    → (made : List Change) × (rest : List Change) × (changes ≡ made ++ rest) × (now.rows ≡ with_changes made before.rows)
part_made before now left changes m = (m.made, m.rest, m.whole, ap (λ (h : Holding). h.rows) m.rows)

-- a rise since an earlier moment
pub rose_on : (a b c : ℕ) → a ≤ b → Rose b c → Rose a c
rose_on a b c le rose = omega arith

-- the cause of a fault that is passed on, from an earlier moment on
pub cause_passed : {known known2 little little2 : Type 0} {T U : Type 0} (a b c : ℕ) (fault : PageFault) (answer : Result U PageFault) → IsErrAnd answer (λ passed. passed ≡ fault)
    → a ≤ b → (known → known2) → (known → little2 → little) → HasRedoCause {T = T} known2 little2 b c (Err fault) → HasRedoCause {T = U} known little a c answer
cause_passed a b c fault (Ok value) is le knows more cause = absurd is
cause_passed a b c fault (Err passed) is le knows more cause = record {
  later = let l = cause.later in omega arith;
  failed = λ failed. rose_on a b c le (cause.failed (sym is ∙ failed));
  whole = λ k. elim (cause.whole (knows k)) [ inl failed ↦ inl (is ∙ failed) | inr (room, few) ↦ inr (is ∙ room, more k few) ];
}

-- where a fault is passed on nothing is owed of an answer
pub on_passed : {U : Type 0} (X : Type 0) (fault : PageFault) (answer : Result U PageFault) → IsErrAnd answer (λ passed. passed ≡ fault) → OnOk answer X
on_passed X fault (Ok value) is = absurd is
on_passed X fault (Err passed) is = tt

pub if_passed : {U : Type 0} (P : U → Type 0) (fault : PageFault) (answer : Result U PageFault) → IsErrAnd answer (λ passed. passed ≡ fault) → IfOk answer P
if_passed P fault (Ok value) is = absurd is
if_passed P fault (Err passed) is = tt

module _ (old mid : Holding) (group : List ℕ) (found : IsNextGroup true old.log mid.log group) (same : mid ≡ record old { log = mid.log }) where
  -- reading a group leaves the rows
  pub rows_are : mid.rows ≡ old.rows
  rows_are = ap (λ (h : Holding). h.rows) same

  -- the group that was read is that of the first commit that is not done
  abbrev pub first_undone : (aim aim2 : Tables) (undone undone2 : List Commit) (last : ℕ) → IsReadyToRedo aim undone last old → aim2 ≡ aim → undone2 ≡ undone → IsFirstUndone aim2 undone2 mid.rows group
  first_undone aim aim2 undone undone2 last ready same_aim same_undone = record {
    name = old.log.name;
    number = old.log.after + 1;
    commit = found.0;
    rest = mid.log.commits;
    spells = found.4;
    first = same_undone ∙ ready.left ∙ found.1;
    aimed = ap (λ (l : List Commit). with_commits l mid.rows) same_undone ∙ ap (with_commits undone) rows_are ∙ ready.aimed ∙ sym same_aim;
  }

  -- of the log no commit is set, and of the first one the first changes
  pub part_first : (rows : Tables) → IsPartMade mid.rows rows group → IsPartSet old rows
  part_first rows part =
      let p = part old.log.name (old.log.after + 1) found.0.changes found.4 in
      record {
        done = [];
        left = old.log.commits;
        made = p.0;
        log = refl;
        first = subst (λ (l : List Commit). IsFirstOf p.0 l) (sym found.1) (p.1, p.2);
        rows_are = p.3 ∙ ap (with_changes p.0) rows_are;
      }

-- a step that was made
pub next-redone : (old mid new : Holding) (group : List ℕ) (until : Option ℕ) (number : ℕ) (found : IsNextGroup true old.log mid.log group) → mid ≡ record old { log = mid.log } → IsMade mid new group
    → number ≡ old.log.after + 1 → number < 2 ^ 62 → Allows until number → IsNextRedone (Some number) until old new
next-redone old mid new group until number found same made is small allowed =
    let done : new ≡ record mid { rows = with_changes found.0.changes mid.rows } = made old.log.name (old.log.after + 1) found.0.changes found.4 in
    let log : new.log ≡ mid.log = ap (λ (h : Holding). h.log) done in (
      found.0,
      found.1 ∙ ap (λ (l : LogLeft). found.0 ∷ l.commits) (sym log),
      is,
      small,
      allowed,
      ap (λ (l : LogLeft). l.after) log ∙ found.3 ∙ sym is,
      ap (λ (h : Holding). h.rows) done ∙ ap (λ (h : Holding). with_changes found.0.changes h.rows) same,
      ap (λ (h : Holding). h.undo) done ∙ ap (λ (h : Holding). h.undo) same,
    )

-- its log
pub made_log : (old mid new : Holding) (group : List ℕ) (found : IsNextGroup true old.log mid.log group) → IsMade mid new group → new.log ≡ mid.log
made_log old mid new group found made = ap (λ (h : Holding). h.log) (made old.log.name (old.log.after + 1) found.0.changes found.4)

-- none of none
take-none : (n : ℕ) → take n (let none : List Commit = [] in none) ≡ []
take-none zero = refl
take-none (suc n) = refl

-- no commit is left
pub upto-none : (until : Option ℕ) (log : LogLeft) → log.commits ≡ [] → commits_upto until log ≡ []
upto-none None log is = is
upto-none (Some number) log is = ap (take (number - log.after)) is ∙ take-none (number - log.after)

-- no commit is asked for
pub upto-behind : (until : Option ℕ) (log : LogLeft) (number : ℕ) → number ≡ log.after + 1 → IsSomeAnd until (λ until. until < number) → commits_upto until log ≡ []
upto-behind None log number is behind = absurd behind
upto-behind (Some until) log number is behind = let none : until - log.after ≡ 0 = omega arith in ap (λ n. take n log.commits) none

-- the number of a group
pub number-small : (head : GroupHead) → IsTrue (fields_fit (group_head_fields head)) → head.number < 2 ^ 62
number-small head fits =
    let a = nat_lt head.length (2 ^ 32) in
    let b = nat_lt head.name.birth (2 ^ 62) in
    let c = nat_lt head.name.generation (2 ^ 62) in
    let d = nat_lt head.number (2 ^ 62) in
    let e = nat_lt head.changes (2 ^ 32) && true in
    ltb-true head.number (2 ^ 62) (and_left d e (and_right c (d && e) (and_right b (c && (d && e)) (and_right a (b && (c && (d && e))) fits))))
