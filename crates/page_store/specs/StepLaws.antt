-- Calls one after the other.
--     keeps_same, kept_on, keeps_on      of the kept maps
--     may_before, keeps_itself, keeps_further      of the devices
--     page_steps_on      of a page
use Rattle.std.proofs.Common.{◌≡◌, ℕ, ◌+◌, ◌∙◌}
use Rattle.std.proofs.Common.{inl, inr, List, Bool, true, false, refl, ap, sym, subst, arith}
use Rattle.mdb_model.specs.Images.{Image}
use Rattle.mdb_host.specs.Disk.{Disk}
use Rattle.mdb_host.proofs.Moments.{stays, widen, onward}
use Rattle.mdb_bytes.specs.declared.converter_pages.ConverterEntry.{ConverterEntry}
use Rattle.free_blocks.specs.Marked.{IsMarked}
use Rattle.volume_disk.specs.Blocks.{Writes}
use Rattle.volume_disk.proofs.Writes.{writes_none, writes_on, writes_more}
use Rattle.converter.specs.Maps.{block_of, IsKept}
use Rattle.page_store.specs.Store.{Store, frozen_block, has_changed, block_bytes}
use Rattle.page_store.specs.Stamps.{AreStamped, PageStep, stays_same, is_newest, is_dead}
use Rattle.page_store.specs.Steps.{KeepsMaps, MayWrite, KeepsStore}

pub keeps_same : (s : Store) → KeepsMaps s s
keeps_same s =
    record {
      conv = refl;
      saved = refl;
      frozen = refl;
      frozen_at = refl;
      area = refl;
      marks = refl;
      sizes = refl;
      next = refl;
      pinned = refl;
      written = λ b kept is. is;
    }

-- a block that a map keeps is kept still
pub kept_on : (a b : Store) (x : ℕ) → KeepsMaps a b → IsKept a.maps x → IsKept b.maps x
kept_on a b x keeps kept = (
  kept.0,
  elim kept.1 [
    | inl saved ↦ inl (ap (λ (l : List ConverterEntry). block_of l kept.0) keeps.saved ∙ saved)
    | inr frozen ↦ inr (ap (λ (l : List ConverterEntry). block_of l kept.0) keeps.frozen ∙ frozen)
  ],
)

pub keeps_on : (a b c : Store) → KeepsMaps a b → KeepsMaps b c → KeepsMaps a c
keeps_on a b c one two = record {
  conv = two.conv ∙ one.conv;
  saved = two.saved ∙ one.saved;
  frozen = two.frozen ∙ one.frozen;
  frozen_at = two.frozen_at ∙ one.frozen_at;
  area = two.area ∙ one.area;
  marks = two.marks ∙ one.marks;
  sizes = two.sizes ∙ one.sizes;
  next = two.next ∙ one.next;
  pinned = two.pinned ∙ one.pinned;
  written = λ x kept is. two.written x (kept_on a b x one kept) (one.written x kept is);
}

-- what may be written later might have been before
pub may_before : (a b : Store) (x : ℕ) → KeepsMaps a b → MayWrite b x → MayWrite a x
may_before a b x keeps may = record {
  high = may.high;
  unsaved = λ q is. may.unsaved q (ap (λ (l : List ConverterEntry). block_of l q) keeps.saved ∙ is);
  unmarked = λ marked.
      may.unmarked (subst (λ (l : List (List Bool)). IsMarked l x) (sym keeps.marks) marked);
  unwritten = λ q is.
      elim (has_changed a x) as (λ t. has_changed a x ≡ t → t ≡ true) [
        | true ↦ λ e. refl
        | false ↦ λ e.
            sym (keeps.written x (q, inr is) e)
            ∙ may.unwritten q (ap (λ (l : List ConverterEntry). block_of l q) keeps.frozen ∙ is)
      ] refl;
}

-- a page after two calls
pub page_steps_on : (known mid : Type 0) (a b c : Store) (x y z : Image) (page : ℕ)
    → b.next ≡ a.next → (known → mid) → PageStep known a b x y page → PageStep mid b c y z page
    → PageStep known a c x z page
page_steps_on known mid a b c x y z page next on one (is_newest at) = is_newest (at ∙ next)
page_steps_on known mid a b c x y z page next on one (is_dead none) = is_dead none
page_steps_on known mid a b c x y z page next on (stays_same entry bytes) (stays_same last more) =
    stays_same (last ∙ entry) (λ is. more (on is) ∙ bytes is)
page_steps_on known mid a b c x y z page next on (is_newest at) (stays_same last more) =
    is_newest (ap (λ (e : ConverterEntry). e.stamp) last ∙ at)
page_steps_on known mid a b c x y z page next on (is_dead none) (stays_same last more) =
    is_dead (ap (λ (e : ConverterEntry). e.block) last ∙ none)

pub keeps_itself : (T : Type 0) (s : Store) (d : Disk) → KeepsStore T s s d d
keeps_itself T s d = record {
  maps = keeps_same s;
  goes = λ told. stays d (Writes s.sizes (MayWrite s)) (writes_none s.sizes (MayWrite s));
  seen = λ told. writes_none s.sizes (MayWrite s) d.seen;
  known = λ known. known;
  bytes = λ known q some. refl;
  room = λ le. le;
  stamps = λ is. (is, λ page. stays_same refl (λ known. refl));
}

pub keeps_further : (T : Type 0) (a b c : Store) (d0 d1 d2 : Disk) → KeepsStore T a b d0 d1
    → KeepsStore T b c d1 d2 → KeepsStore T a c d0 d2
keeps_further T a b c d0 d1 d2 one two =
    let wider : (x y : Image) → Writes b.sizes (MayWrite b) x y → Writes a.sizes (MayWrite a) x y =
    λ x y w. writes_more a.sizes (MayWrite b) (MayWrite a) x y
    (λ k may. may_before a b k one.maps may)
    (subst (λ (l : List ℕ). Writes l (MayWrite b) x y) one.maps.sizes w) in
    record {
      maps = keeps_on a b c one.maps two.maps;
      goes = λ told.
          onward d0 d1 d2 (Writes a.sizes (MayWrite a)) (writes_on a.sizes (MayWrite a))
          (one.goes told) (widen d1 d2 _ _ (two.goes told) (λ x y left w. wider x y w));
      seen = λ told.
          writes_on a.sizes (MayWrite a) d0.seen d1.seen d2.seen (one.seen told)
          (wider d1.seen d2.seen (two.seen told));
      known = λ known. two.known (one.known known);
      bytes = λ known q some.
          let e : frozen_block b q ≡ frozen_block a q =
          λ i. block_of (one.maps.frozen i) (one.maps.conv i + q) in
          subst (λ (x : ℕ). block_bytes c d2.seen x ≡ block_bytes b d1.seen x) e
          (two.bytes (one.known known) q (omega (arith, e, some)))
          ∙ one.bytes known q some;
      room = λ le. two.room (one.room le);
      stamps = λ is.
          let first = one.stamps is in
          let last = two.stamps first.0 in (
            last.0,
            λ page. page_steps_on _ _ a b c d0.seen d1.seen d2.seen page one.maps.next one.known
                (first.1 page) (last.1 page),
          );
    }
