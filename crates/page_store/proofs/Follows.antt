-- What calls on pages leave of the kept maps and the devices.
use Rattle.std.proofs.Common.{◌≡◌, ◌⊎◌, inl, inr, ℕ, ◌+◌, ◌<◌, ◌≤◌, List, length, get_or, replicate, true, false, Option, Some, None, refl, ap, sym, subst, ◌∙◌, arith}
use Rattle.std.specs.Prelude.{unwrap_or}
use Rattle.std.proofs.lemmas.List.{get_or-set_same}
use Rattle.std.proofs.lemmas.Bool.{cases_eq, cases_lt, false_from_ne_true}
use Rattle.mdb_model.specs.Images.{Image}
use Rattle.mdb_host.specs.Disk.{Disk, Goes, Agree}
use Rattle.mdb_host.proofs.Moments.{widen, same_image}
use Rattle.mdb_bytes.specs.Paged.{price}
use Rattle.free_blocks.specs.Free.{free_count}
use Rattle.free_blocks.proofs.Counts.{one_less, one_more}
use Rattle.volume_disk.specs.Blocks.{block_at}
use Rattle.volume_disk.proofs.Writes.{writes_agree}
use Rattle.converter.specs.Maps.{IsSoundMaps}
use Rattle.converter.proofs.Spelled.{free_below}
use Rattle.page_store.specs.Store.{Store, block_count, page_block, frozen_block, frame_of, block_bytes, IsHeld, IsStore, IsKnown, spare_of}
use Rattle.page_store.specs.LogicalPages.{is_held, paid_pages}
use Rattle.page_store.specs.Stamps.{AreStamped, PageStep, stays_same, is_newest, is_dead}
use Rattle.page_store.specs.Steps.{KeepsMaps, MayWrite, KeepsStore, OnePage, GivesUp, leaves, gives, MakesPage, Readies}
use Rattle.page_store.proofs.Moves.{here, not_used, is_below, gone_here, not_free}
use Rattle.page_store.proofs.PageSteps.{other_block, bare_page, given_page, moved_page, held_back}
use Rattle.page_store.proofs.Spares.{some_free}
use Rattle.page_store.proofs.Answering.{held_true, held_some}
use Rattle.page_store.proofs.Views.{price_held}

-- a page after one call, as the devices are then
seen_later : (known : Type 0) (a b : Store) (x y : Image) (p : ℕ) → (known → x ≡ y) → PageStep known a b x x p → PageStep known a b x y p
seen_later known a b x y p same (stays_same entry bytes) = stays_same entry (λ is. subst (λ (i : Image). block_bytes b i (page_block b p) ≡ block_bytes a x (page_block a p)) (same is) (bytes is))
seen_later known a b x y p same (is_newest at) = is_newest at
seen_later known a b x y p same (is_dead none) = is_dead none

-- each page after a call that changed one
each_page : (T : Type 0) (a b : Store) (page : ℕ) (seen : Image) → OnePage T a b page seen → AreStamped a → (p : ℕ) → PageStep (IsKnown T a seen) a b seen seen p
each_page T a b page seen one is p = elim (cases_eq p page) [
  | inl at ↦ subst (λ (x : ℕ). PageStep (IsKnown T a seen) a b seen seen x) (sym at) (one.here is)
  | inr away ↦ elim (cases_lt 0 (page_block a p)) [
    | inl lives ↦ stays_same (one.others p away) (λ known. ap (block_bytes b seen) (other_block one p away) ∙ one.elsewhere known (page_block a p) (lives, inr (p, away, refl)))
    | inr none ↦ is_dead (omega (arith, other_block one p away, none))
  ]
]

-- no device was written
pub keeps_page : (T : Type 0) (a b : Store) (page : ℕ) (before after : Disk) → OnePage T a b page before.seen → (T → Goes before after Agree) → (T → Agree before.seen after.seen)
    → (a.maps.conv ≤ free_count a.free → b.maps.conv ≤ free_count b.free) → KeepsStore T a b before after
keeps_page T a b page before after one goes agree room = record {
  maps = one.keeps;
  goes = λ told. widen before after _ _ (goes told) (λ x y left same. writes_agree a.sizes (MayWrite a) x y same);
  seen = λ told. writes_agree a.sizes (MayWrite a) before.seen after.seen (agree told);
  known = λ known. subst (λ (x : Image). IsKnown T b x) (same_image before.seen after.seen (agree known.told)) (one.known known);
  bytes = λ known q some.
      subst (λ (x : Image). block_bytes b x (frozen_block a q) ≡ block_bytes a before.seen (frozen_block a q)) (same_image before.seen after.seen (agree known.told))
      (one.elsewhere known (frozen_block a q) (some, inl (inl (a.maps.conv + q, inr refl))));
  room = room;
  stamps = λ is. (one.stamped is, λ p. seen_later _ a b before.seen after.seen p (λ known. same_image before.seen after.seen (agree known.told)) (each_page T a b page before.seen one is p));
}

-- whether a block is kept
pub held_or : (s : Store) (b : ℕ) → 0 < b → IsHeld s b ⊎ (IsHeld s b → ⊥)
held_or s b some = elim (is_held s b) as (λ t. is_held s b ≡ t → IsHeld s b ⊎ (IsHeld s b → ⊥)) [
  | true ↦ λ e. inl (held_some s b e)
  | false ↦ λ e. inr (λ held. absurd (cc (sym e ∙ held_true s b some held)))
] refl

-- A page made ready

pub ready_less : (T : Type 0) (a b : Store) (page x : ℕ) (seen : Image) → Readies T a b page x seen → 0 < page_block a page → free_count a.free ≤ free_count b.free + price (paid_pages a) page
ready_less T a b page x seen ready lives = elim (held_or a (page_block a page) lives) [
  | inl held ↦ omega (arith, ready.less, price_held a page ready.sound.0 lives held)
  | inr owned ↦ omega (arith, ready.free owned)
]

pub ready_room : (T : Type 0) (a b : Store) (page x : ℕ) (seen : Image) → Readies T a b page x seen → 0 < page_block a page → price (paid_pages a) page ≤ spare_of a
    → a.maps.conv ≤ free_count a.free → b.maps.conv ≤ free_count b.free
ready_room T a b page x seen ready lives room fits = elim (held_or a (page_block a page) lives) [
  | inl held ↦ omega (arith, ready.less, some_free a (omega (arith, room, price_held a page ready.sound.0 lives held)), ready.step.keeps.conv)
  | inr owned ↦ omega (arith, ready.free owned, fits, ready.step.keeps.conv)
]

-- A page given up

pub freed_is : (T : Type 0) (a b : Store) (page : ℕ) (seen : Image) → IsSoundMaps a.maps → IsStore a → page < block_count a → 0 < page_block a page → GivesUp a b page
    → OnePage T a b page seen × (page_block b page ≡ 0) × (free_count a.free ≤ free_count b.free)
freed_is T a b page seen sound store below lives (leaves held is) = (
  subst (λ (t : Store). OnePage T a t page seen) (sym is) (bare_page T a page seen sound store below lives),
  ap (λ (t : Store). page_block t page) is ∙ gone_here a page sound store below lives,
  omega (arith, ap (λ (t : Store). free_count t.free) is),
)
freed_is T a b page seen sound store below lives (gives owned is) =
    let x = page_block a page in
    let lt : x < length a.free = omega (arith, store.area, (sound.present_small (a.maps.conv + page)).0) in
    let taken : get_or a.free x false ≡ false = false_from_ne_true (get_or a.free x false) (not_free a page sound store below lives) in (
      subst (λ (t : Store). OnePage T a t page seen) (sym is) (given_page T a page seen sound store below lives x refl owned),
      ap (λ (t : Store). page_block t page) is ∙ gone_here a page sound store below lives,
      omega (arith, ap (λ (t : Store). free_count t.free) is, one_more a.free x lt taken),
    )

-- A page made

pub record Made (T : Type 0) (a b : Store) (page : ℕ) (seen : Image) : Type 0 where
  pub step : OnePage T a b page seen
  pub lives : 0 < page_block b page
  pub owned : IsHeld b (page_block b page) → ⊥
  pub bytes : block_bytes b seen (page_block b page) ≡ replicate 8192 0
  pub less : free_count a.free ≤ free_count b.free + 1

pub made_is : (T : Type 0) (a b : Store) (page : ℕ) (seen : Image) → IsSoundMaps a.maps → IsStore a → MakesPage a b page → Made T a b page seen
made_is T a b page seen sound store made =
    let zeros = replicate 8192 0 in
    let left = inl made.dead in
    let step : OnePage T a b page seen = subst (λ (t : Store). OnePage T a t page seen) (sym made.put) (moved_page T a page made.block zeros seen sound store made.below made.free left) in
    let at : page_block b page ≡ made.block = ap (λ (t : Store). page_block t page) made.put ∙ here a page made.block zeros sound store made.below made.free left in
    let lt = is_below a page made.block zeros sound store made.below made.free left in
    let frame : frame_of b made.block ≡ Some zeros = ap (λ (t : Store). frame_of t made.block) made.put ∙ get_or-set_same a.frames made.block (Some zeros) None (omega (arith, store.frames_long, lt)) in
    record {
      step = step;
      lives = omega (arith, at, (store.unused made.block made.free).0);
      owned = λ held. elim (subst (λ (x : ℕ). IsHeld a x) at (held_back a b (page_block b page) step.keeps held)) [
        | inl kept ↦ not_used a page made.block zeros sound store made.below made.free left (kept.0, inr kept.1)
        | inr marked ↦ store.unmarked made.block made.free marked
      ];
      bytes = ap (λ (x : ℕ). block_bytes b seen x) at ∙ ap (λ (o : Option (List ℕ)). unwrap_or o (block_at b.sizes seen made.block)) frame;
      less = omega (arith, ap (λ (t : Store). free_count t.free) made.put, one_less a.free made.block (free_below a.free made.block made.free) made.free);
    }

pub made_room : (a b : Store) → KeepsMaps a b → free_count a.free ≤ free_count b.free + 1 → 1 ≤ spare_of a → b.maps.conv ≤ free_count b.free
made_room a b keeps less some = omega (arith, some_free a some, less, keeps.conv)
