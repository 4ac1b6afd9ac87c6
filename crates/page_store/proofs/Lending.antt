-- What the calls that lend pages leave.
use Rattle.std.proofs.Common.{◌≡◌, ℕ, ◌<◌, ◌≤◌, List, Bool, true, Option, Some, None, refl, ap, sym, subst, ◌∙◌, arith}
use Rattle.std.specs.Prelude.{unwrap_or, if◌then◌else◌}
use Rattle.std.proofs.lemmas.List.{get_or-set_same}
use Rattle.std.specs.FinMap.{get}
use Rattle.mdb_model.specs.Images.{Image}
use Rattle.mdb_host.specs.Disk.{Disk, Goes, Agree}
use Rattle.mdb_host.proofs.Moments.{same_image}
use Rattle.mdb_bytes.specs.Paged.{price, KeepsAllPages, WritesPage}
use Rattle.free_blocks.specs.Free.{free_count}
use Rattle.volume_disk.specs.Blocks.{block_at}
use Rattle.converter.specs.Maps.{IsSoundMaps}
use Rattle.page_store.specs.Store.{Store, IsStore, IsKnown, IsHeld, page_block, frame_of, block_bytes, spare_of}
use Rattle.page_store.specs.LogicalPages.{store_pages, paid_pages, lives_in}
use Rattle.page_store.specs.Steps.{KeepsStore, OnePage, ShowsFrame, Readies, with_frame}
use Rattle.page_store.proofs.PageSteps.{page_none, page_on, lent_page, held_back}
use Rattle.page_store.proofs.Views.{view_kept, view_written, get_page, live_true, paid_page, owned_is, owned_true}
use Rattle.page_store.proofs.Follows.{keeps_page, ready_less, ready_room}

abbrev pub Kept : Type 0 → ℕ → Store → Store → Image → Image → Type 0
Kept T most a b seen seen2 = KeepsAllPages (IsKnown T a seen) (IsKnown T b seen2) most (store_pages a seen) (store_pages b seen2) (paid_pages a) (paid_pages b) (spare_of a) (spare_of b)

-- nothing changed
pub kept_same : (T : Type 0) (most : ℕ) (a b : Store) (seen seen2 : Image) → b ≡ a → IsSoundMaps a.maps → (T → Agree seen seen2) → Kept T most a b seen seen2
kept_same T most a b seen seen2 same sound agree =
    subst (λ (t : Store). Kept T most a t seen seen2) (sym same)
    (view_kept T a a 0 seen seen2 agree sound sound (page_none T a 0 seen) most refl
    (λ known. ap (λ (x : Image). get (store_pages a x) 0) (sym (same_image seen seen2 (agree known.told)))) (λ paid. paid) (omega arith))

pub keeps_none : (T : Type 0) (a b : Store) (before after : Disk) → b ≡ a → (T → Goes before after Agree) → (T → Agree before.seen after.seen) → KeepsStore T a b before after
keeps_none T a b before after same goes agree = subst (λ (t : Store). KeepsStore T a t before after) (sym same) (keeps_page T a a 0 before after (page_none T a 0 before.seen) goes agree (λ fits. fits))

live_in : (s : Store) (p : ℕ) → 0 < page_block s p → (x : Bool) → x ≡ lives_in s p → x ≡ true
live_in s p lives x is = is ∙ live_true s p lives

-- what stands on a page that lives
pub shown_page : (s : Store) (seen : Image) (p : ℕ) → IsSoundMaps s.maps → 0 < page_block s p → get (store_pages s seen) p ≡ Some (block_bytes s seen (page_block s p))
shown_page s seen p sound lives = get_page s seen p sound ∙ ap (λ (t : Bool). if t then Some (block_bytes s seen (page_block s p)) else None) (live_true s p lives)

pub framed_bytes : (s : Store) (seen : Image) (b : ℕ) (bytes : List ℕ) → frame_of s b ≡ Some bytes → block_bytes s seen b ≡ bytes
framed_bytes s seen b bytes is = ap (λ (o : Option (List ℕ)). unwrap_or o (block_at s.sizes seen b)) is

-- a page that was read
pub kept_shown : (T : Type 0) (a m : Store) (page b : ℕ) (seen seen2 : Image) → (T → Agree seen seen2) → 0 < page_block a page → ShowsFrame T a m page b seen → Kept T 0 a m seen seen2
kept_shown T a m page b seen seen2 agree lives shows =
    let sa = shows.sound.0 in
    let sm = shows.sound.1 in
    let same : page_block m page ≡ page_block a page = shows.block ∙ sym shows.was in
    let there : 0 < page_block m page = omega (arith, same, lives) in
    view_kept T a m page seen seen2 agree sa sm shows.step 0 (live_true m page there ∙ sym (live_true a page lives))
    (λ known.
    shown_page m seen2 page sm there
    ∙ ap (λ (x : Image). Some (block_bytes m x (page_block m page))) (sym (same_image seen seen2 (agree known.told)))
    ∙ ap (λ (x : ℕ). Some (block_bytes m seen x)) shows.block
    ∙ ap Some (framed_bytes m seen b (block_bytes a seen b) (shows.bytes known))
    ∙ ap (λ (x : ℕ). Some (block_bytes a seen x)) (sym shows.was)
    ∙ sym (shown_page a seen page sa lives))
    (λ paid.
    let was = owned_is a page (sym (paid_page a page sa) ∙ paid) in
    paid_page m page sm ∙ owned_true m page there (λ held. was.1 (subst (λ (x : ℕ). IsHeld a x) same (held_back a m (page_block m page) shows.step.keeps held))))
    (omega (arith, ap (λ (l : List Bool). free_count l) shows.free))

pub bytes_shown : (T : Type 0) (a m : Store) (page b : ℕ) (seen : Image) (bytes : List ℕ) → 0 < page_block a page → ShowsFrame T a m page b seen → frame_of m b ≡ Some bytes → IsKnown T a seen → get (store_pages a seen) page ≡ Some bytes
bytes_shown T a m page b seen bytes lives shows frame known =
    shown_page a seen page shows.sound.0 lives ∙ ap (λ (x : ℕ). Some (block_bytes a seen x)) shows.was ∙ sym (shows.bytes known) ∙ frame

-- a page that was lent to be written
module _ (T : Type 0) (a m : Store) (page b : ℕ) (seen seen2 : Image) (agree : T → Agree seen seen2) (lives : 0 < page_block a page) (ready : Readies T a m page b seen) (store : IsStore m) where
  lent_step : (w : List ℕ) → OnePage T a (with_frame m b w) page seen
  lent_step w = page_on T a m (with_frame m b w) page seen ready.step (lent_page T m page b w seen ready.sound.1 ready.some ready.block ready.changed ready.owned)

  lent_frame : (w : List ℕ) → frame_of (with_frame m b w) b ≡ Some w
  lent_frame w = get_or-set_same m.frames b (Some w) None (omega (arith, store.frames_long, ready.below))

  pub written_lent : (w : List ℕ) → WritesPage page w (IsKnown T a seen) (IsKnown T (with_frame m b w) seen2) (store_pages a seen) (store_pages (with_frame m b w) seen2) (paid_pages a) (paid_pages (with_frame m b w)) (spare_of a) (spare_of (with_frame m b w))
  written_lent w =
      let at = ready.block in
      view_written T a (with_frame m b w) page seen seen2 agree ready.sound.0 ready.sound.1 (lent_step w) w lives (omega (arith, at, ready.some))
      (λ held. ready.owned (subst (λ (x : ℕ). IsHeld m x) at (held_frame held)))
      (ap (block_bytes (with_frame m b w) seen) at ∙ framed_bytes (with_frame m b w) seen b w (lent_frame w))
      (ready_less T a m page b seen ready lives)
    where
      held_frame : IsHeld (with_frame m b w) (page_block m page) → IsHeld m (page_block m page)
      held_frame held = held

  pub keeps_lent : (before after : Disk) → before.seen ≡ seen → after.seen ≡ seen2 → (T → Goes before after Agree) → price (paid_pages a) page ≤ spare_of a → (w : List ℕ) → KeepsStore T a (with_frame m b w) before after
  keeps_lent before after was now goes room w =
      keeps_page T a (with_frame m b w) page before after (subst (λ (x : Image). OnePage T a (with_frame m b w) page x) (sym was) (lent_step w)) goes
      (λ told. subst (λ (x : Image). Agree before.seen x) (sym now) (subst (λ (x : Image). Agree x seen2) (sym was) (agree told)))
      (ready_room T a m page b seen ready lives room)

  pub bytes_ready : (bytes : List ℕ) → frame_of m b ≡ Some bytes → IsKnown T a seen → get (store_pages a seen) page ≡ Some bytes
  bytes_ready bytes frame known = shown_page a seen page ready.sound.0 lives ∙ sym (ready.bytes known) ∙ frame
