-- The steps of a commit of a group.
--     both      what holds of an area and a disk, of the same two
--     room_answer      there is room beside what is not saved
--     spells_moved      the bytes of a group, by a log with the same numbers
--     group_behind, none_behind      a group behind a savepoint; the savepoint failed
use Rattle.std.proofs.Common.{◌≡◌, ◌⊎◌, inl, sym, subst, ℕ, ◌+◌, ◌≤◌, Bool, true, false, List, Result, Ok, Err}
use Rattle.mdb_model.specs.declared.change.Change.{Change}
use Rattle.mdb_model.specs.declared.change.Commit.{Commit}
use Rattle.mdb_model.specs.declared.name.Name.{Name}
use Rattle.mdb_model.specs.declared.fault.PageFault.{PageFault}
use Rattle.mdb_model.specs.declared.fault.PageFault.TheVariants.{Failed, Damaged}
use Rattle.mdb_model.specs.Images.{Image}
use Rattle.mdb_model.specs.Worlds.{World}
use Rattle.mdb_host.specs.Disk.{Disk}
use Rattle.mdb_bytes.specs.Fields.{Spells}
use Rattle.mdb_bytes.specs.Groups.{group_format}
use Rattle.standing.specs.Appending.{with_commit}
use Rattle.standing.specs.WholeStanding.{StandsWhole}
use Rattle.kept_worlds.specs.InService.{AtEachMoment}
use Rattle.page_ground.specs.AimLaws.{at_both}
use Rattle.open_database.specs.Groups.{GroupAnswer, GroupLeaves}
use Rattle.open_database.proofs.Stretches.{moments_weaker}

-- what holds of an area and a disk, of the same two
pub both : {A : Type 0} {B : Type 1} (P : A → B → Type 0) (a b : A) (h k : B) → b ≡ a → k ≡ h → P a h → P b k
both {A} {B} P a b h k one two is = subst (λ (x : A). P x k) (sym one) (subst (λ (y : B). P a y) (sym two) is)

-- there is room beside what is not saved
pub room_answer : (size unsaved n : ℕ) (result : Result Bool PageFault) → (result ≡ Ok false → ⊥) → unsaved + n + 1 ≤ size → GroupAnswer size unsaved n result
room_answer size unsaved n (Ok true) sure room = room
room_answer size unsaved n (Ok false) sure room = absurd (sure cc)
room_answer size unsaved n (Err fault) sure room = room

-- the bytes of a group, by a log with the same numbers
pub spells_moved : (name name2 : Name) (last last2 : ℕ) (changes : List Change) (group : List ℕ) → name2 ≡ name → last2 ≡ last
    → Spells group_format (record { name = name; number = last + 1; changes = changes }) group → Spells group_format (record { name = name2; number = last2 + 1; changes = changes }) group
spells_moved name name2 last last2 changes group named numbered spelled =
    subst (λ (p : Name × ℕ). Spells group_format (record { name = p.0; number = p.1 + 1; changes = changes }) group) (λ i. (sym named i, sym numbered i)) spelled

module _ (d e : Disk) (w : World) (c : Commit) (serves : World → Type 0) where
  -- what may be left of the world
  abbrev Either : Image → Type 0
  Either image = StandsWhole image w ⊎ StandsWhole image (with_commit w c)

  -- a group behind a savepoint
  pub group_behind : (f : Disk) (result : Result Bool PageFault) → AtEachMoment d e (λ image. StandsWhole image w) → GroupLeaves e f w c serves result → GroupLeaves d f w c serves result
  group_behind f (Ok true) first leaves = (at_both d e f Either (moments_weaker d e (λ image. StandsWhole image w) Either (λ image stands. inl stands) first) leaves.0, leaves.1)
  group_behind f (Ok false) first leaves = leaves
  group_behind f (Err Failed) first leaves = at_both d e f Either (moments_weaker d e (λ image. StandsWhole image w) Either (λ image stands. inl stands) first) leaves
  group_behind f (Err (Damaged damage)) first leaves = leaves

  -- the savepoint failed
  pub none_behind : AtEachMoment d e (λ image. StandsWhole image w) → GroupLeaves d e w c serves (Err Failed)
  none_behind first = moments_weaker d e (λ image. StandsWhole image w) Either (λ image stands. inl stands) first
