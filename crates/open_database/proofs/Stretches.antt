-- How a line of one world is shown to be done.
--     leaves_one      each image that is left stands for the one world
--     moments_still, moments_weaker      what is so at each moment: where no device was called, and what follows
--         from it
--     does_moments      a line is done, by its entry and by what each moment leaves
--     completes_still, completes_same      a line that calls no device, and one that leaves the world
--         at rest
--     completes_failed      a line whose device failed
use Rattle.std.proofs.Common.{◌≡◌, inl, refl, sym, subst, ap, ◌∙◌, zero, suc, List, [], ◌∷◌, Contains, arith}
use Rattle.std.proofs.lemmas.List.Elements.{All-cons, All-nil}
use Rattle.mdb_host.proofs.Moments.{keeps_all}
use Rattle.mdb_host.specs.Disk.{Disk}
use Rattle.mdb_model.specs.Answers.{Answer}
use Rattle.mdb_model.specs.Images.{Image}
use Rattle.mdb_model.specs.Runs.{Line, Entry}
use Rattle.mdb_model.specs.Worlds.{World, off}
use Rattle.kept_worlds.specs.InService.{AtEachMoment, AllStand}
use Rattle.open_database.specs.Outside.{page_reading, StandsFor, Ties, TiesNothing}
use Rattle.open_database.specs.Serving.{AreOff}
use Rattle.open_database.specs.Stretch.{EachLeft, LeavesOnly, MayBe, Does, Completes}

-- the only one of a list of one
pub only : (u : World) → Contains (u ∷ []) u
only u = (0, omega arith, refl)

pub is_only : (u v : World) → Contains (u ∷ []) v → v ≡ u
is_only u v (zero, inside, is) = sym is
is_only u v (suc k, inside, is) = absurd (omega arith)

-- each image that is left stands for the one world
pub leaves_one : (disk : Disk) (w : World) → AllStand (off w) disk → LeavesOnly page_reading StandsFor disk (w ∷ [])
leaves_one disk w all image left = (w, only w, all image left)

pub leaves_off : (disk : Disk) (w v : World) → v ≡ off w → AllStand v disk → LeavesOnly page_reading StandsFor disk (w ∷ [])
leaves_off disk w v is all image left = (w, only w, subst (λ (u : World). StandsFor image u) is (all image left))

-- nothing was called
pub moments_still : (disk : Disk) (P : Image → Type 0) → EachLeft disk P → AtEachMoment disk disk P
moments_still disk P each = record {
  keeps = keeps_all disk;
  quiet = λ t from upto. (let same : t ≡ disk.now = omega (arith, from, upto) in ap disk.said same);
  each = λ t image from upto left. (let same : t ≡ disk.now = omega (arith, from, upto) in each image (subst (λ n. disk.may_leave n image) same left));
}

-- the same with a weaker property
pub moments_weaker : (d0 d1 : Disk) (P Q : Image → Type 0) → ((image : Image) → P image → Q image) → AtEachMoment d0 d1 P → AtEachMoment d0 d1 Q
moments_weaker d0 d1 P Q weaker moments = record { keeps = moments.keeps; quiet = moments.quiet; each = λ t image from upto left. weaker image (moments.each t image from upto left) }

module _ (d0 d1 : Disk) (ws : List World) (line : Line) (answer : Answer) (after : List World) where
  pub does_moments : (P : Image → Type 0) → AtEachMoment d0 d1 P → ((image : Image) → P image → (v : World) × StandsFor image v × MayBe page_reading StandsFor ws line v)
      → Entry page_reading ws line answer after → LeavesOnly page_reading StandsFor d1 after
      → ((w w' : World) → Contains ws w → Contains after w' → EachLeft d1 (Ties line answer.reply w w'))
      → Does page_reading StandsFor d0 d1 ws line answer after
  does_moments P moments stop entry stand ties = record {
    keeps = moments.keeps;
    quiet = moments.quiet;
    entry = entry;
    stop = λ t image from upto left. stop image (moments.each t image from upto left);
    stand = stand;
    ties = ties;
  }

  -- a line that ties nothing
  pub ties_none : TiesNothing line answer.reply → (w w' : World) → Contains ws w → Contains after w' → EachLeft d1 (Ties line answer.reply w w')
  ties_none none w w' before there image left = none w w' image

-- what a line ties of one world and the one after it
pub ties_one : (disk : Disk) (w w' : World) (line : Line) (answer : Answer) → EachLeft disk (Ties line answer.reply w w')
    → (u u' : World) → Contains (w ∷ []) u → Contains (w' ∷ []) u' → EachLeft disk (Ties line answer.reply u u')
ties_one disk w w' line answer each u u' before after image left =
    subst (λ (p : World × World). Ties line answer.reply p.0 p.1 image) (λ i. (sym (is_only w u before) i, sym (is_only w' u' after) i)) (each image left)

-- at each moment each image stands for the world at rest, which stays what it is at rest
pub completes_same : (d0 d1 : Disk) (w w' : World) (line : Line) (answer : Answer) (fits : List World → Type 0)
    → AtEachMoment d0 d1 (λ image. StandsFor image (off w)) → Entry page_reading (w ∷ []) line answer (w' ∷ []) → off w' ≡ off w
    → EachLeft d1 (Ties line answer.reply w w') → fits (w' ∷ [])
    → Completes page_reading StandsFor d0 d1 (w ∷ []) line answer fits
completes_same d0 d1 w w' line answer fits moments entry same ties fit = record {
  after = w' ∷ [];
  does = does_moments d0 d1 (w ∷ []) line answer (w' ∷ []) (λ image. StandsFor image (off w)) moments (λ image stands. (off w, stands, (w, only w, inl refl))) entry
      (λ image left. (w', only w', subst (λ (u : World). StandsFor image u) (sym same) (moments.each d1.now image moments.keeps.later (omega arith) left)))
      (ties_one d1 w w' line answer ties);
  fit = fit;
}

-- no device was called
pub completes_still : (disk : Disk) (w w' : World) (line : Line) (answer : Answer) (fits : List World → Type 0)
    → AllStand (off w) disk → Entry page_reading (w ∷ []) line answer (w' ∷ []) → off w' ≡ off w
    → EachLeft disk (Ties line answer.reply w w') → fits (w' ∷ [])
    → Completes page_reading StandsFor disk disk (w ∷ []) line answer fits
completes_still disk w w' line answer fits all entry same ties fit =
    completes_same disk disk w w' line answer fits (moments_still disk (λ image. StandsFor image (off w)) all) entry same ties fit

-- a device failed: each image stands for one of two worlds that a stop may leave
pub completes_failed : (d0 d1 : Disk) (w v1 v2 : World) (line : Line) (answer : Answer) (P : Image → Type 0)
    → AtEachMoment d0 d1 P → ((image : Image) → P image → (v : World) × StandsFor image v × MayBe page_reading StandsFor (w ∷ []) line v × Contains (v1 ∷ v2 ∷ []) v)
    → Entry page_reading (w ∷ []) line answer (v1 ∷ v2 ∷ []) → off v1 ≡ v1 → off v2 ≡ v2 → TiesNothing line answer.reply
    → Completes page_reading StandsFor d0 d1 (w ∷ []) line answer AreOff
completes_failed d0 d1 w v1 v2 line answer P moments stop entry one two none = record {
  after = v1 ∷ v2 ∷ [];
  does = does_moments d0 d1 (w ∷ []) line answer (v1 ∷ v2 ∷ []) P moments (λ image p. let s = stop image p in (s.0, s.1, s.2)) entry
      (λ image left. let s = stop image (moments.each d1.now image moments.keeps.later (omega arith) left) in (s.0, s.3, subst (λ (u : World). StandsFor image u) (rest s.0 s.3) s.1))
      (ties_none d0 d1 (w ∷ []) line answer (v1 ∷ v2 ∷ []) none);
  fit = All-cons (λ v. off v ≡ v) v1 (v2 ∷ []) one (All-cons (λ v. off v ≡ v) v2 [] two (All-nil (λ v. off v ≡ v)));
}
  where
    rest : (v : World) → Contains (v1 ∷ v2 ∷ []) v → v ≡ off v
    rest v (zero, inside, is) = sym is ∙ sym one ∙ ap off is
    rest v (suc zero, inside, is) = sym is ∙ sym two ∙ ap off is
    rest v (suc (suc k), inside, is) = absurd (omega arith)
