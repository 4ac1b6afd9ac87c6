-- Two pages at once.
use Rattle.std.proofs.Common.{◌≡◌, ◌≢◌, inl, inr, ℕ, ◌+◌, ◌<◌, ◌≤◌, List, Bool, true, false, Some, None, refl, ap, sym, subst, ◌∙◌, arith, length-set}
use Rattle.std.specs.Prelude.{if◌then◌else◌}
use Rattle.std.proofs.lemmas.List.{get_or-set_same}
use Rattle.std.specs.FinMap.{get, insert}
use Rattle.mdb_model.specs.Images.{Image}
use Rattle.mdb_host.specs.Disk.{Disk, Goes, Agree}
use Rattle.mdb_host.proofs.Moments.{same_image, stays}
use Rattle.mdb_bytes.specs.Paged.{price, is_paid, AsLive, StayPaid, PaidPages, WritesPage, AreEdited}
use Rattle.free_blocks.specs.Free.{free_count}
use Rattle.converter.specs.Maps.{IsSoundMaps}
use Rattle.page_store.specs.Store.{Store, IsStore, IsKnown, IsHeld, block_count, page_block, frame_of, has_changed, block_bytes, spare_of}
use Rattle.page_store.specs.LogicalPages.{store_pages, paid_pages}
use Rattle.page_store.specs.Stamps.{PageStep, stays_same, is_newest, is_dead}
use Rattle.page_store.specs.Steps.{KeepsStore, OnePage, Readies, KeepsPages, with_frame}
use Rattle.page_store.specs.StepLaws.{keeps_further}
use Rattle.page_store.proofs.PageSteps.{other_block, page_none, lent_page, held_back}
use Rattle.page_store.proofs.Spares.{spare_less, some_free}
use Rattle.page_store.proofs.Views.{view_kept, view_written, live_page, live_true, paid_page, owned_is, owned_true, price_held}
use Rattle.page_store.proofs.Follows.{keeps_page, ready_less, ready_room}
use Rattle.page_store.proofs.Lending.{Kept, shown_page, framed_bytes}

-- a page, in words of what a read gave before
step_seen : (known later : Type 0) (a b : Store) (x y : Image) (p : ℕ) → (known → x ≡ y) → (known → later) → PageStep later a b y y p → PageStep known a b x x p
step_seen known later a b x y p same on (stays_same entry bytes) = stays_same entry (λ is. subst (λ (i : Image). block_bytes b i (page_block b p) ≡ block_bytes a i (page_block a p)) (sym (same is)) (bytes (on is)))
step_seen known later a b x y p same on (is_newest at) = is_newest at
step_seen known later a b x y p same on (is_dead none) = is_dead none

page_seen : (T : Type 0) (a b : Store) (page : ℕ) (seen seen2 : Image) → (T → Agree seen seen2) → OnePage T a b page seen2 → OnePage T a b page seen
page_seen T a b page seen seen2 agree one = record {
  keeps = one.keeps;
  others = one.others;
  known = λ known. let e = same_image seen seen2 (agree known.told) in subst (λ (x : Image). IsKnown T b x) (sym e) (one.known (subst (λ (x : Image). IsKnown T a x) e known));
  elsewhere = λ known c is.
      let e = same_image seen seen2 (agree known.told) in
      subst (λ (x : Image). block_bytes b x c ≡ block_bytes a x c) (sym e) (one.elsewhere (subst (λ (x : Image). IsKnown T a x) e known) c is);
  stamped = one.stamped;
  here = λ is. step_seen _ _ a b seen seen2 page (λ known. same_image seen seen2 (agree known.told)) (λ known. subst (λ (x : Image). IsKnown T a x) (same_image seen seen2 (agree known.told)) known) (one.here is);
}

-- what a read gives did not change
pub ready_seen : (T : Type 0) (a b : Store) (page x : ℕ) (seen seen2 : Image) → (T → Agree seen seen2) → Readies T a b page x seen2 → Readies T a b page x seen
ready_seen T a b page x seen seen2 agree ready = record {
  step = page_seen T a b page seen seen2 agree ready.step;
  sound = ready.sound;
  block = ready.block;
  some = ready.some;
  below = ready.below;
  framed = ready.framed;
  bytes = λ known.
      let e = same_image seen seen2 (agree known.told) in
      subst (λ (i : Image). frame_of b x ≡ Some (block_bytes a i (page_block a page))) (sym e) (ready.bytes (subst (λ (i : Image). IsKnown T a i) e known));
  changed = ready.changed;
  still = ready.still;
  owned = ready.owned;
  less = ready.less;
  free = ready.free;
}

-- a page with another block, or the same
pub kept_pages : (T : Type 0) (a b : Store) (page most more : ℕ) (seen seen2 : Image) → (T → Agree seen seen2) → IsSoundMaps a.maps → 0 < page_block a page → most ≤ more → KeepsPages T a b page most seen → Kept T more a b seen seen2
kept_pages T a b page most more seen seen2 agree sound lives le kept =
    let there = kept.lives lives in
    view_kept T a b page seen seen2 agree sound kept.sound kept.step more (live_true b page there ∙ sym (live_true a page lives))
    (λ known.
    shown_page b seen2 page kept.sound there
    ∙ ap (λ (x : Image). Some (block_bytes b x (page_block b page))) (sym (same_image seen seen2 (agree known.told)))
    ∙ ap Some (kept.bytes known) ∙ sym (shown_page a seen page sound lives))
    (λ paid.
    let was = owned_is a page (sym (paid_page a page sound) ∙ paid) in
    paid_page b page kept.sound ∙ owned_true b page there (kept.owned was.1))
    (omega (arith, kept.less, le))

-- nothing changed
pub same_pages : (T : Type 0) (a b : Store) (page most : ℕ) (seen : Image) → b ≡ a → IsSoundMaps a.maps → KeepsPages T a b page most seen
same_pages T a b page most seen same sound =
    subst (λ (t : Store). KeepsPages T a t page most seen) (sym same) record {
      step = page_none T a page seen;
      sound = sound;
      lives = λ some. some;
      bytes = λ known. refl;
      owned = λ owned held. owned held;
      less = omega arith;
      room = λ fits. fits;
    }

pub ready_keeps : (T : Type 0) (a b : Store) (page x : ℕ) (seen : Image) → 0 < page_block a page → price (paid_pages a) page ≤ spare_of a → Readies T a b page x seen → KeepsPages T a b page (price (paid_pages a) page) seen
ready_keeps T a b page x seen lives room ready = record {
  step = ready.step;
  sound = ready.sound.1;
  lives = λ some. omega (arith, ready.block, ready.some);
  bytes = λ known. ap (block_bytes b seen) ready.block ∙ framed_bytes b seen x (block_bytes a seen (page_block a page)) (ready.bytes known);
  owned = λ owned held. ready.owned (subst (λ (c : ℕ). IsHeld b c) ready.block held);
  less = ready_less T a b page x seen ready lives;
  room = ready_room T a b page x seen ready lives room;
}

pub price_less : (p q : PaidPages) (page : ℕ) → StayPaid p q → price q page ≤ price p page
price_less p q page stay =
    elim (is_paid p page) as (λ t. is_paid p page ≡ t → (if is_paid q page then 0 else 1) ≤ (if t then 0 else 1)) [
      | true ↦ λ e. subst (λ (t : Bool). (if t then 0 else 1) ≤ 0) (sym (stay page e)) (omega arith)
      | false ↦ λ e. elim (is_paid q page) as (λ t. (if t then 0 else 1) ≤ 1) [ true ↦ omega arith | false ↦ omega arith ]
    ] refl

module _ (T : Type 0) (s u : Store) (a b x y : ℕ) (seen : Image) (away : a ≢ b) (la : 0 < page_block s a) (lb : 0 < page_block s b) (room : price (paid_pages s) a + price (paid_pages s) b ≤ spare_of s) where
  module _ (m : Store) (first : Readies T s m a x seen) where
    abbrev ra : price (paid_pages s) a ≤ spare_of s
    ra = omega (arith, room)

    mid_kept : Kept T (price (paid_pages s) a) s m seen seen
    mid_kept = kept_pages T s m a (price (paid_pages s) a) (price (paid_pages s) a) seen seen (λ told d. refl) first.sound.0 la (omega arith) (ready_keeps T s m a x seen la ra first)

    pub mid_lives : 0 < page_block m b
    mid_lives = omega (arith, other_block first.step b (λ is. away (sym is)), lb)

    pub mid_room : price (paid_pages m) b ≤ spare_of m
    mid_room = omega (arith, room, price_less (paid_pages s) (paid_pages m) b mid_kept.stay_paid, mid_kept.left)

    pub second_spare : IsHeld m (page_block m b) → 0 < free_count m.free
    second_spare held = omega (arith, some_free m (omega (arith, mid_room, price_held m b first.sound.1 mid_lives held)))

    module _ (second : Readies T m u b y seen) (store : IsStore u) where
      last_kept : Kept T (price (paid_pages m) b) m u seen seen
      last_kept = kept_pages T m u b (price (paid_pages m) b) (price (paid_pages m) b) seen seen (λ told d. refl) second.sound.0 mid_lives (omega arith) (ready_keeps T m u b y seen mid_lives mid_room second)

      pub at_a : page_block u a ≡ x
      at_a = other_block second.step a away ∙ first.block

      pub apart : x ≢ y
      apart is =
          let one = second.sound.1.owned (u.maps.conv + a) x first.some (inl at_a) in
          let two = second.sound.1.owned (u.maps.conv + b) x first.some (inl (second.block ∙ sym is)) in
          away (omega (arith, one, two))

      pub changed_a : has_changed u x ≡ true
      changed_a = second.still x first.changed

      owned_a : IsHeld u x → ⊥
      owned_a held = first.owned (held_back m u x second.step.keeps held)

      pub below_a : x < block_count u
      below_a = omega (arith, first.below, second.step.keeps.area)

      -- the bytes that the pages had
      pub bytes_a : (bytes : List ℕ) → frame_of u x ≡ Some bytes → IsKnown T s seen → get (store_pages s seen) a ≡ Some bytes
      bytes_a bytes frame known =
          shown_page s seen a first.sound.0 la
          ∙ ap Some (sym (framed_bytes m seen x (block_bytes s seen (page_block s a)) (first.bytes known)))
          ∙ ap Some (sym (second.step.elsewhere (first.step.known known) x (first.some, inr (a, away, first.block))))
          ∙ ap Some (framed_bytes u seen x bytes frame)

      pub bytes_b : (bytes : List ℕ) → frame_of u y ≡ Some bytes → IsKnown T s seen → get (store_pages s seen) b ≡ Some bytes
      bytes_b bytes frame known =
          let same = other_block first.step b (λ is. away (sym is)) in
          shown_page s seen b first.sound.0 lb
          ∙ ap Some (sym (first.step.elsewhere known (page_block s b) (lb, inr (b, (λ is. away (sym is)), refl))))
          ∙ ap (λ (c : ℕ). Some (block_bytes m seen c)) (sym same)
          ∙ sym (second.bytes (first.step.known known)) ∙ frame

      module _ (p q : List ℕ) where
        abbrev t : Store
        t = with_frame u x p

        abbrev e : Store
        e = with_frame t y q

        step_t : OnePage T u t a seen
        step_t = lent_page T u a x p seen second.sound.1 first.some at_a changed_a owned_a

        step_e : OnePage T t e b seen
        step_e = lent_page T t b y q seen second.sound.1 second.some second.block second.changed second.owned

        frame_t : frame_of t x ≡ Some p
        frame_t = get_or-set_same u.frames x (Some p) None (omega (arith, store.frames_long, below_a))

        frame_e : frame_of e y ≡ Some q
        frame_e = get_or-set_same t.frames y (Some q) None (omega (arith, store.frames_long, second.below, length-set u.frames x (Some p)))

        written_t : WritesPage a p (IsKnown T u seen) (IsKnown T t seen) (store_pages u seen) (store_pages t seen) (paid_pages u) (paid_pages t) (spare_of u) (spare_of t)
        written_t = view_written T u t a seen seen (λ told d. refl) second.sound.1 second.sound.1 step_t p (omega (arith, at_a, first.some)) (omega (arith, at_a, first.some))
            (λ held. owned_a (subst (λ (c : ℕ). IsHeld u c) at_a held)) (ap (block_bytes t seen) at_a ∙ framed_bytes t seen x p frame_t) (omega arith)

        written_e : WritesPage b q (IsKnown T t seen) (IsKnown T e seen) (store_pages t seen) (store_pages e seen) (paid_pages t) (paid_pages e) (spare_of t) (spare_of e)
        written_e = view_written T t e b seen seen (λ told d. refl) second.sound.1 second.sound.1 step_e q (omega (arith, second.block, second.some)) (omega (arith, second.block, second.some))
            (λ held. second.owned (subst (λ (c : ℕ). IsHeld u c) second.block held)) (ap (block_bytes e seen) second.block ∙ framed_bytes e seen y q frame_e) (omega arith)

        pub pair_paid : StayPaid (paid_pages s) (paid_pages e)
        pair_paid page is = written_e.stay_paid page (written_t.stay_paid page (last_kept.stay_paid page (mid_kept.stay_paid page is)))

        pub pair_spare : spare_of s ≤ spare_of e + price (paid_pages s) a + price (paid_pages s) b
        pair_spare = omega (arith, mid_kept.left, last_kept.left, price_less (paid_pages s) (paid_pages m) b mid_kept.stay_paid, spare_less u t 0 step_t.keeps (omega arith), spare_less t e 0 step_e.keeps (omega arith))

        pub pair_known : IsKnown T s seen → IsKnown T e seen
        pair_known known = step_e.known (step_t.known (second.step.known (first.step.known known)))

        pub pair_pages : IsKnown T s seen → store_pages e seen ≡ insert (insert (store_pages s seen) a p) b q
        pair_pages known =
            let km = first.step.known known in
            let ku = second.step.known km in
            (written_e.written (step_t.known ku)).1
            ∙ ap (λ z. insert z b q) ((written_t.written ku).1 ∙ ap (λ z. insert z a p) ((last_kept.same km).1 ∙ (mid_kept.same known).1))

        pub pair_living : AsLive (store_pages e seen) (store_pages s seen)
        pair_living page = written_e.living page ∙ written_t.living page ∙ last_kept.living page ∙ mid_kept.living page

        pub pair_edited : (does : List ℕ → List ℕ → List ℕ → List ℕ → Type 0) (one two : List ℕ) (seen2 : Image) → (T → Agree seen seen2) → frame_of u x ≡ Some one → frame_of u y ≡ Some two → does one two p q
            → AreEdited does a b (IsKnown T s seen) (IsKnown T e seen2) (store_pages s seen) (store_pages e seen2) (paid_pages s) (paid_pages e)
        pair_edited does one two seen2 agree fa fb done = record {
          edited = λ known.
              let same = same_image seen seen2 (agree known.told) in (
                subst (λ (i : Image). IsKnown T e i) same (pair_known known),
                (one, two, p, q, bytes_a one fa known, bytes_b two fb known, done, ap (store_pages e) (sym same) ∙ pair_pages known),
              );
          living = λ page. live_page e seen2 page second.sound.1 ∙ sym (live_page e seen page second.sound.1) ∙ pair_living page;
          are_paid = (written_e.stay_paid a written_t.is_paid_now, written_e.is_paid_now);
        }

        pub pair_keeps : (before after : Disk) → before.seen ≡ seen → (T → Goes before after Agree) → (T → Agree before.seen after.seen) → KeepsStore T s e before after
        pair_keeps before after was goes agree =
            let here : T → Goes before before Agree = λ told. stays before Agree (λ image d. refl) in
            let at : (v w : Store) (page : ℕ) → OnePage T v w page seen → OnePage T v w page before.seen = λ v w page one. subst (λ (i : Image). OnePage T v w page i) (sym was) one in
            keeps_further T s m e before before after (keeps_page T s m a before before (at s m a first.step) here (λ told d. refl) (ready_room T s m a x seen first la ra))
            (keeps_further T m u e before before after (keeps_page T m u b before before (at m u b second.step) here (λ told d. refl) (ready_room T m u b y seen second mid_lives mid_room))
            (keeps_further T u t e before before after (keeps_page T u t a before before (at u t a step_t) here (λ told d. refl) (λ fits. fits)) (keeps_page T t e b before after (at t e b step_e) goes agree (λ fits. fits))))
