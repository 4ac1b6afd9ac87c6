-- What the outside means: the one place that says how pages are read, when an image stands for a
-- world, and what a line ties of the records.
--     page_reading      what the pages of an image mean
--     StandsFor      an image, and the world that it stands for
--     Ties, TiesNothing      what is so of each image at the moment of a reply; a line that ties
--         nothing
use Rattle.std.specs.Prelude.{ℕ, []}
use Rattle.mdb_model.specs.declared.script.Reply.{Reply}
use Rattle.mdb_model.specs.Headline.{IsTied}
use Rattle.mdb_model.specs.Images.{Image}
use Rattle.mdb_model.specs.Pages.{PageReading}
use Rattle.mdb_model.specs.Runs.{Line}
use Rattle.mdb_model.specs.Worlds.{World}
use Rattle.mdb_bytes.specs.Forms.{reading}
use Rattle.standing.specs.WholeStanding.{StandsWhole, pages_in, savepoint_in, commit_number_in}

-- what the pages of an image mean
unfoldable pub page_reading : PageReading
page_reading = reading

-- the image stands for the world
abbrev pub StandsFor : Image → World → Type 0
StandsFor image w = StandsWhole image w

-- What is so of an image at the moment of the reply to a line, with the worlds before it and after
-- it: its restart record has the rows of the world where the line has made a savepoint. Of the
-- output and of other images nothing is said.
unfoldable pub Ties : Line → Reply → (before after : World) → Image → Type 0
Ties line reply before after image =
    IsTied page_reading (λ (t : ℕ). []) (λ (t : ℕ) (other : Image). ⊥) StandsFor pages_in
    savepoint_in commit_number_in line reply before after image

-- a line with this reply ties nothing: it asks nothing of any image
abbrev pub TiesNothing : Line → Reply → Type 0
TiesNothing line reply = (before after : World) (image : Image) → Ties line reply before after image
