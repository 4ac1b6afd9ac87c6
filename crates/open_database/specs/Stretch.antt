-- One line as a stretch of a run of the machine, over a host that tells what it holds.
--     LeavesOnly      each image that a crash may leave now stands for one of the worlds, in
--         Offline
--     EachLeft      of each image that a crash now may leave
--     MayBe      what a stop before or in a line may leave
--     Does, Completes      a line was done, and nothing is said yet; to worlds that fit
--     StandsForOneOf      what an image stands for
--     IsStill      time went on and the devices stayed, as where a text is said
use Rattle.std.specs.Prelude.{◌≡◌, ◌⊎◌, ℕ, ◌≤◌, List, Contains}
use Rattle.mdb_model.specs.Images.{Image}
use Rattle.mdb_model.specs.Pages.{PageReading}
use Rattle.mdb_model.specs.Worlds.{World, off}
use Rattle.mdb_model.specs.Answers.{Answer}
use Rattle.mdb_model.specs.Runs.{Line, Entry, AreOutcomes}
use Rattle.mdb_host.specs.Disk.{Disk, Keeps, Agree}
use Rattle.open_database.specs.Outside.{StandsFor, Ties}

-- each image that a crash now may leave has P
abbrev pub EachLeft : Disk → (Image → Type 0) → Type 0
EachLeft disk P = (image : Image) → disk.may_leave disk.now image → P image

-- the devices are as they were, and a crash now leaves what one at old could have left
pub record IsStill (old new : Disk) : Type 0 where
  pub keeps : Keeps old new
  pub seen : Agree old.seen new.seen
  pub left : (image : Image) → new.may_leave new.now image → old.may_leave old.now image

module _ (reading : PageReading) (stands : Image → World → Type 0) where
  abbrev pub LeavesOnly : Disk → List World → Type 0
  LeavesOnly disk ws =
      (image : Image) → disk.may_leave disk.now image
      → (w : World) × Contains ws w × stands image (off w)

  -- the world before it, or an outcome of the line
  abbrev pub MayBe : List World → Line → World → Type 0
  MayBe ws line v =
      (w : World) × Contains ws w × ((v ≡ off w)
      ⊎ ((outcome : List World) × AreOutcomes reading w line outcome × Contains outcome v))

  pub record Does (old new : Disk) (ws : List World) (line : Line) (answer : Answer)
      (after : List World) : Type 0 where
    pub keeps : Keeps old new
    -- nothing was said
    pub quiet : (t : ℕ) → old.now ≤ t → t ≤ new.now → new.said t ≡ old.said old.now
    pub entry : Entry reading ws line answer after
    -- at each moment since, each image stands for the world before it or for an outcome
    pub stop : (t : ℕ) (image : Image) → old.now ≤ t → t ≤ new.now → new.may_leave t image
        → (v : World) × stands image v × MayBe ws line v
    pub stand : LeavesOnly new after
    -- each image that is left once it was done is tied as the line ties it
    pub ties : (w w' : World) → Contains ws w → Contains after w'
        → EachLeft new (Ties line answer.reply w w')

  pub record Completes (old new : Disk) (ws : List World) (line : Line) (answer : Answer)
      (fits : List World → Type 0) : Type 0 where
    pub after : List World
    pub does : Does old new ws line answer after
    pub fit : fits after

-- one of these worlds is what the image stands for
abbrev pub StandsForOneOf : List World → Image → Type 0
StandsForOneOf ws image = (w : World) × Contains ws w × StandsFor image (off w)
