-- How the maps are followed in memory.
use Rattle.std.proofs.Common.{◌≡◌, inl, inr, ℕ, ◌+◌, ◌*◌, ◌/◌, ◌<◌, ◌≤◌, ◌^◌, List, length, get_or, set, replicate, Bool, true, false, Option, Some, None, refl, ap, sym, subst, ◌∙◌, arith, length-set}
use Rattle.std.specs.Prelude.{IsTrue, ◌&&◌, ◌||◌, ◌==◌, nat_lt}
use Rattle.std.proofs.lemmas.Bool.{cases_eq, cases_lt, false≢true, lt-ltb}
use Rattle.std.proofs.lemmas.List.{get_or-set_same, get_or-set_other, get_or_past, length-replicate}
use Rattle.mdb_bytes.specs.ConverterPages.{converter_entry_fits}
use Rattle.mdb_bytes.specs.declared.converter_pages.ConverterEntry.{ConverterEntry}
use Rattle.mdb_bytes.specs.Firsts.{no_entry}
use Rattle.converter.specs.Maps.{Maps, entry_at, IsUsed, IsOpenTo, IsSoundMaps, IsTracked, IsFollowed, with_loaded, shown_frozen}
use Rattle.converter.proofs.Sound.{cleared, set_sound, frozen_sound, settled_sound, own_sound, loaded_sound, blank_sound}

-- a leaf whose flag is set may change
pub tracked_set : (conv page : ℕ) (present kept : List ConverterEntry) (flags : List Bool) (p : ℕ) (e : ConverterEntry) → p ≡ conv + page → page / 600 < length flags → IsTracked conv present kept flags
    → IsTracked conv (set present p e) kept (set flags (page / 600) true)
tracked_set conv page present kept flags p e place lt tracked i k less is = elim (cases_eq i (page / 600)) [
  | inl here ↦ absurd (false≢true (sym is ∙ subst (λ (j : ℕ). get_or (set flags (page / 600) true) j true ≡ true) (sym here) (get_or-set_same flags (page / 600) true true lt)))
  | inr other ↦
      tracked i k less (sym (get_or-set_other flags (page / 600) i true true other) ∙ is)
      ∙ sym (get_or-set_other present p (conv + 600 * i + k) e no_entry (λ same. other (omega (arith, same, place, less))))
]

-- an own page is in no leaf
pub tracked_own : (conv : ℕ) (present kept : List ConverterEntry) (flags : List Bool) (p : ℕ) (e : ConverterEntry) → p < conv → IsTracked conv present kept flags → IsTracked conv (set present p e) kept flags
tracked_own conv present kept flags p e lt tracked i k less is =
    tracked i k less is ∙ sym (get_or-set_other present p (conv + 600 * i + k) e no_entry (λ same. omega (arith, same, lt)))

-- nor is one of the kept map
pub tracked_kept : (conv : ℕ) (present kept : List ConverterEntry) (flags : List Bool) (p : ℕ) (e : ConverterEntry) → p < conv → IsTracked conv present kept flags → IsTracked conv present (set kept p e) flags
tracked_kept conv present kept flags p e lt tracked i k less is =
    get_or-set_other kept p (conv + 600 * i + k) e no_entry (λ same. omega (arith, same, lt)) ∙ tracked i k less is

-- the same entry in both at one place
pub tracked_both : (conv : ℕ) (present kept : List ConverterEntry) (flags : List Bool) (p : ℕ) (e : ConverterEntry) → length present ≡ length kept → IsTracked conv present kept flags → IsTracked conv (set present p e) (set kept p e) flags
tracked_both conv present kept flags p e same tracked i k less is = elim (cases_eq (conv + 600 * i + k) p) [
  | inl here ↦ elim (cases_lt p (length present)) [
    | inl lt ↦ subst (λ (j : ℕ). entry_at (set kept p e) j ≡ entry_at (set present p e) j) (sym here)
        (get_or-set_same kept p e no_entry (omega (arith, lt, same)) ∙ sym (get_or-set_same present p e no_entry lt))
    | inr past ↦ get_or_past (set kept p e) (conv + 600 * i + k) no_entry (omega (arith, length-set kept p e, here, past, same)) ∙ sym (get_or_past (set present p e) (conv + 600 * i + k) no_entry (omega (arith, length-set present p e, here, past)))
  ]
  | inr other ↦ get_or-set_other kept p (conv + 600 * i + k) e no_entry other ∙ tracked i k less is ∙ sym (get_or-set_other present p (conv + 600 * i + k) e no_entry other)
]

module _ (m : Maps) (room : List ConverterEntry) (one two : List Bool) (followed : IsFollowed m room one two) where
  few : (page : ℕ) → page < length m.owner → page / 600 < 110
  few page lt = omega (arith, followed.sound.bound, lt)

  -- after `clear`
  pub cleared_on : (page p : ℕ) → p ≡ m.conv + page → page < length m.owner → IsFollowed record m { present = set m.present p no_entry } room (set one (page / 600) true) (set two (page / 600) true)
  cleared_on page p place lt =
      let f = few page lt in
      record {
        sound = cleared m p (omega (arith, place)) followed.sound;
        saved_flags = length-set one (page / 600) true ∙ followed.saved_flags;
        room_flags = length-set two (page / 600) true ∙ followed.room_flags;
        room_long = followed.room_long;
        saved = tracked_set m.conv page m.present m.saved one p no_entry place (omega (arith, f, followed.saved_flags)) followed.saved;
        stored = tracked_set m.conv page m.present room two p no_entry place (omega (arith, f, followed.room_flags)) followed.stored;
      }

  -- after `set`
  pub set_on : (page p : ℕ) (e : ConverterEntry) → p ≡ m.conv + page → page < length m.owner → 2 ≤ e.block → e.block < length m.owner → e.stamp < 2 ^ 62 → IsTrue (converter_entry_fits e) → IsOpenTo m e.block p
      → IsFollowed record m { present = set m.present p e; owner = set m.owner e.block p } room (set one (page / 600) true) (set two (page / 600) true)
  set_on page p e place lt low high stamp fits alone =
      let f = few page lt in
      record {
        sound = set_sound m p e (omega (arith, place)) followed.sound low high stamp fits alone;
        saved_flags = length-set one (page / 600) true ∙ followed.saved_flags;
        room_flags = length-set two (page / 600) true ∙ followed.room_flags;
        room_long = omega (arith, followed.room_long, length-set m.owner e.block p);
        saved = tracked_set m.conv page m.present m.saved one p e place (omega (arith, f, followed.saved_flags)) followed.saved;
        stored = tracked_set m.conv page m.present room two p e place (omega (arith, f, followed.room_flags)) followed.stored;
      }

  -- after `freeze`
  pub frozen_on : (now : List ConverterEntry) (flags : List Bool) (n : ℕ) → now ≡ m.present → length flags ≡ 110 → IsTracked m.conv m.present now flags → IsFollowed record m { frozen = now; frozen_at = Some n } now one flags
  frozen_on now flags n is long tracked = record {
    sound = frozen_sound m now n is followed.sound;
    saved_flags = followed.saved_flags;
    room_flags = long;
    room_long = ap (λ (l : List ConverterEntry). length l) is ∙ followed.sound.present_long;
    saved = followed.saved;
    stored = tracked;
  }

  -- after `settle`
  pub settled_on : (n : ℕ) (now next : List ConverterEntry) (x y : List Bool) → m.frozen_at ≡ Some n → m.frozen ≡ shown_frozen m.frozen_at room → now ≡ room → next ≡ m.saved → x ≡ two → y ≡ one
      → IsFollowed record m { saved = now; frozen = replicate (length next) no_entry; frozen_at = None } next x y
  settled_on n now next x y at is now_is next_is x_is y_is =
      let frozen_is : m.frozen ≡ room = is ∙ ap (λ (o : Option ℕ). shown_frozen o room) at in
      record {
        sound = settled_sound m now (replicate (length next) no_entry) n at (now_is ∙ sym frozen_is)
            (ap (λ (l : List ConverterEntry). replicate (length l) no_entry) next_is ∙ ap (λ (k : ℕ). replicate k no_entry) (followed.sound.saved_long ∙ sym followed.sound.frozen_long)) followed.sound;
        saved_flags = ap (λ (l : List Bool). length l) x_is ∙ followed.room_flags;
        room_flags = ap (λ (l : List Bool). length l) y_is ∙ followed.saved_flags;
        room_long = ap (λ (l : List ConverterEntry). length l) next_is ∙ followed.sound.saved_long;
        saved = subst (λ (l : List ConverterEntry). IsTracked m.conv m.present l x) (sym now_is) (subst (λ (f : List Bool). IsTracked m.conv m.present room f) (sym x_is) followed.stored);
        stored = subst (λ (l : List ConverterEntry). IsTracked m.conv m.present l y) (sym next_is) (subst (λ (f : List Bool). IsTracked m.conv m.present m.saved f) (sym y_is) followed.saved);
      }

  -- after an own page was given a block
  pub own_on : (p n : ℕ) (e : ConverterEntry) → p < m.conv → m.frozen_at ≡ Some n → m.frozen ≡ shown_frozen m.frozen_at room → 2 ≤ e.block → e.block < length m.owner → e.stamp < 2 ^ 62 → (IsUsed m e.block → ⊥)
      → IsFollowed record m { present = set m.present p e; frozen = shown_frozen m.frozen_at (set room p e); owner = set m.owner e.block p } (set room p e) one two
  own_on p n e page at is low high stamp unused =
      let frozen_is : m.frozen ≡ room = is ∙ ap (λ (o : Option ℕ). shown_frozen o room) at in
      let same : shown_frozen m.frozen_at (set room p e) ≡ set m.frozen p e = ap (λ (o : Option ℕ). shown_frozen o (set room p e)) at ∙ ap (λ (l : List ConverterEntry). set l p e) (sym frozen_is) in
      record {
        sound = subst (λ (l : List ConverterEntry). IsSoundMaps record m { present = set m.present p e; frozen = l; owner = set m.owner e.block p }) (sym same) (own_sound m p n e page at followed.sound low high stamp unused);
        saved_flags = followed.saved_flags;
        room_flags = followed.room_flags;
        room_long = omega (arith, followed.room_long, length-set room p e, length-set m.owner e.block p);
        saved = tracked_own m.conv m.present m.saved one p e page followed.saved;
        stored = tracked_own m.conv m.present (set room p e) two p e page (tracked_kept m.conv m.present room two p e page followed.stored);
      }

  -- after a page was loaded
  pub loaded_on : (p : ℕ) (e : ConverterEntry) (flags : List Bool) → m.frozen_at ≡ None → 2 ≤ e.block → e.block < length m.owner → e.stamp < 2 ^ 62 → (m.conv ≤ p → IsTrue (converter_entry_fits e))
      → p < m.conv + length m.owner → (IsUsed m e.block → ⊥) → length flags ≡ 110 → IsTracked m.conv (set m.present p e) room flags
      → IsFollowed (with_loaded m p e) room one flags
  loaded_on p e flags none low high stamp fits place unused long tracked = record {
    sound = loaded_sound m p e none followed.sound low high stamp fits place unused;
    saved_flags = followed.saved_flags;
    room_flags = long;
    room_long = omega (arith, followed.room_long, length-set m.owner e.block p);
    saved = tracked_both m.conv m.present m.saved one p e (followed.sound.present_long ∙ sym followed.sound.saved_long) followed.saved;
    stored = tracked;
  }

-- maps with no page
pub empty_on : (m : Maps) (room : List ConverterEntry) (one two : List Bool) (n : ℕ) → 0 < length m.owner → length m.owner ≤ 65536 → m.conv ≡ 1 + (length m.owner + 599) / 600 → n ≡ m.conv + length m.owner
    → m.present ≡ replicate n no_entry → m.saved ≡ replicate n no_entry → room ≡ replicate n no_entry → m.frozen ≡ replicate (length room) no_entry → m.frozen_at ≡ None
    → one ≡ replicate 110 false → two ≡ replicate 110 false → IsFollowed m room one two
empty_on m room one two n some bound leaves long present saved room_is frozen none one_is two_is =
    let size : length room ≡ n = ap (λ (l : List ConverterEntry). length l) room_is ∙ length-replicate n no_entry in
    record {
      sound = blank_sound m n some bound leaves long present saved (frozen ∙ ap (λ (k : ℕ). replicate k no_entry) size) none;
      saved_flags = ap (λ (l : List Bool). length l) one_is ∙ length-replicate 110 false;
      room_flags = ap (λ (l : List Bool). length l) two_is ∙ length-replicate 110 false;
      room_long = size ∙ long;
      saved = λ i k lt is. ap (λ (l : List ConverterEntry). entry_at l (m.conv + 600 * i + k)) (saved ∙ sym present);
      stored = λ i k lt is. ap (λ (l : List ConverterEntry). entry_at l (m.conv + 600 * i + k)) (room_is ∙ sym present);
    }

-- an entry with a block and a stamp
pub entry_fits : (e : ConverterEntry) → 2 ≤ e.block → 0 < e.stamp → IsTrue (converter_entry_fits e)
entry_fits e block stamp =
    let one : nat_lt 0 e.block ≡ true = lt-ltb 0 e.block (omega (arith, block)) in
    let two : nat_lt 0 e.stamp ≡ true = lt-ltb 0 e.stamp stamp in
    or_right (e.block == 0 && e.stamp == 0) (nat_lt 0 e.block && nat_lt 0 e.stamp) (ap (λ b. b && nat_lt 0 e.stamp) one ∙ two)
  where
    or_right : (a b : Bool) → b ≡ true → (a || b) ≡ true
    or_right true b is = refl
    or_right false b is = is
