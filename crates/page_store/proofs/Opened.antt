-- A store as it is opened.
use Rattle.std.proofs.Common.{◌≡◌, ◌⊎◌, inl, inr, ℕ, zero, suc, ◌+◌, ◌/◌, ◌<◌, ◌^◌, List, [], ◌∷◌, length, get_or, map, replicate, Bool, false, Option, Some, None, refl, ap, sym, subst, ◌∙◌, arith}
use Rattle.std.specs.Prelude.{sum}
use Rattle.std.proofs.lemmas.Bool.{cases_lt, false≢true}
use Rattle.std.proofs.lemmas.List.{get_or-replicate, get_or_past, length-replicate, length-map}
use Rattle.mdb_model.specs.Images.{Image}
use Rattle.mdb_bytes.specs.declared.converter_pages.ConverterEntry.{ConverterEntry}
use Rattle.free_blocks.specs.Marked.{IsMarked}
use Rattle.volume_disk.specs.Blocks.{IsArea}
use Rattle.converter.specs.Maps.{Maps, block_of, IsSoundMaps, empty_maps}
use Rattle.converter.proofs.Sound.{none_there}
use Rattle.page_store.specs.declared.store.FrameState.{FrameState}
use Rattle.page_store.specs.declared.store.FrameState.TheVariants.{Absent}
use Rattle.page_store.specs.Store.{Store, AreSixteen, IsStore, IsKeptStore, IsKnown, store_of, shown_frames, is_changed_frame, has_changed}
use Rattle.mdb_model.specs.declared.fault.Damage.{Damage}
use Rattle.mdb_model.specs.declared.fault.PageFault.{PageFault}
use Rattle.mdb_model.specs.declared.fault.PageFault.TheVariants.{Failed as PageFailed, Damaged as PageDamaged}
use Rattle.mdb_model.specs.declared.fault.OpenFault.TheVariants.{Failed}
use Rattle.converter.specs.Loads.{FaultReports}
use Rattle.page_store.specs.Opens.{FreesUnused, IsStoreOpened, OpenFaultReports, opening_fault}
use Rattle.page_store.proofs.Shown.{length_shown, changed_at}

not_none : {A : Type 0} {x : A} → None ≡ Some x → ⊥
not_none is = cc

pub shown_absent : (n : ℕ) (frames : List (List ℕ)) → length frames ≡ n → shown_frames (replicate n Absent) frames ≡ replicate n None
shown_absent zero frames long = refl
shown_absent (suc n) [] long = absurd (omega arith)
shown_absent (suc n) (f ∷ fs) long = ap (λ (l : List (Option (List ℕ))). None ∷ l) (shown_absent n fs (omega arith))

pub changed_absent : (n : ℕ) → map is_changed_frame (replicate n Absent) ≡ replicate n false
changed_absent zero = refl
changed_absent (suc n) = ap (λ (l : List Bool). false ∷ l) (changed_absent n)

all_default : {A : Type 0} (n b : ℕ) (x : A) → get_or (replicate n x) b x ≡ x
all_default n b x = elim (cases_lt b n) [
  | inl lt ↦ get_or-replicate n b x x lt
  | inr past ↦ get_or_past (replicate n x) b x (omega (arith, length-replicate n x, past))
]

none_in : (l : List Bool) (i n : ℕ) → (l ≡ replicate n false) ⊎ (l ≡ []) → get_or l i false ≡ false
none_in l i n is = elim is [
  | inl all ↦ ap (λ (x : List Bool). get_or x i false) all ∙ all_default n i false
  | inr none ↦ ap (λ (x : List Bool). get_or x i false) none
]

pub none_marked : (n b : ℕ) → IsMarked (replicate n (replicate 16 false)) b → ⊥
none_marked n b (i, is) = elim (cases_lt b n) [
  | inl lt ↦ false≢true (sym (none_in _ i 16 (inl (get_or-replicate n b (replicate 16 false) [] lt))) ∙ is)
  | inr past ↦ false≢true (sym (none_in _ i 16 (inr (get_or_past (replicate n (replicate 16 false)) b [] (omega (arith, length-replicate n (replicate 16 false), past))))) ∙ is)
]

module _ (m : Maps) (n savepoint : ℕ) (flags : List Bool) (marks : List (List Bool)) (sizes : List ℕ) (frames : List (List ℕ)) (states : List FrameState) (room : List ConverterEntry)
    (sound : IsSoundMaps m) (loaded : m ≡ record (empty_maps n m.owner) { present = m.saved; saved = m.saved }) (area : length m.owner ≡ n) (freed : FreesUnused m n flags)
    (none : marks ≡ replicate n (replicate 16 false)) (blocks : sum sizes ≡ n) (long : length frames ≡ n) (absent : states ≡ replicate n Absent) (places : length room ≡ m.conv + n) (small : savepoint + 1 < 2 ^ 62) where
  abbrev opened : Store
  opened = store_of m flags marks sizes frames states (savepoint + 1) false room

  states_long : length states ≡ n
  states_long = ap (λ (l : List FrameState). length l) absent ∙ length-replicate n Absent

  same : (b : ℕ) → has_changed opened b ≡ false
  same b = changed_at states b ∙ ap (λ (l : List FrameState). is_changed_frame (get_or l b Absent)) absent ∙ ap is_changed_frame (all_default n b Absent)

  unmarked : (b : ℕ) → IsMarked marks b → ⊥
  unmarked b is = none_marked n b (subst (λ (l : List (List Bool)). IsMarked l b) none is)

  sixteen : AreSixteen marks
  sixteen = subst (λ (l : List (List Bool)). AreSixteen l) (sym none)
      (λ b lt. ap (λ (row : List Bool). length row) (get_or-replicate n b (replicate 16 false) [] (omega (arith, lt, length-replicate n (replicate 16 false)))) ∙ length-replicate 16 false)

  frames_are : shown_frames states frames ≡ replicate n None
  frames_are = ap (λ (l : List FrameState). shown_frames l frames) absent ∙ shown_absent n frames long

  pub opened_store : IsStore opened
  opened_store = record {
    area = freed.long ∙ sym area;
    marks_long = ap (λ (l : List (List Bool)). length l) none ∙ length-replicate n (replicate 16 false) ∙ sym area;
    sixteen = sixteen;
    frames_long = length_shown states frames (long ∙ sym states_long) ∙ states_long ∙ sym area;
    changed_long = length-map states is_changed_frame ∙ states_long ∙ sym area;
    blocks = blocks ∙ sym area;
    unused = λ b free. let u = freed.unused b free in (u.0, u.2);
    unmarked = λ b free marked. unmarked b marked;
    freed = λ b high lt unused free. freed.freed b high (omega (arith, lt, area)) unused;
    saved_same = λ q. same (block_of m.saved q);
    own_same = λ q lt. same (block_of m.present q);
    free_same = λ b free. same b;
    marked_same = λ b marked. same b;
    framed = λ b is. absurd (false≢true (sym (same b) ∙ is));
    thawed = λ is q. ap (λ (x : Maps). block_of x.frozen q) loaded ∙ ap (λ (e : ConverterEntry). e.block) (none_there (1 + (n + 599) / 600 + n) q);
    some_next = omega arith;
    small_next = small;
    pins = λ b has. unmarked b (0, has);
  }

  pub opened_kept : IsKeptStore m flags marks sizes frames states (savepoint + 1) false room
  opened_kept = record { store = opened_store; frames_long = long ∙ sym area; states_long = states_long ∙ sym area; room_long = omega (arith, places, area) }

  pub opened_is : (own : List ℕ) → sizes ≡ own → IsStoreOpened opened own savepoint
  opened_is own is = record {
    maps = subst (λ (k : ℕ). m ≡ record (empty_maps k m.owner) { present = m.saved; saved = m.saved }) count loaded;
    free = subst (λ (k : ℕ). FreesUnused m k flags) count freed;
    marks = subst (λ (k : ℕ). marks ≡ replicate k (replicate 16 false)) count none;
    sizes_are = is;
    frames = subst (λ (k : ℕ). shown_frames states frames ≡ replicate k None) count frames_are;
    changed = ap (λ (l : List FrameState). map is_changed_frame l) absent ∙ changed_absent n ∙ ap (λ (k : ℕ). replicate k false) count;
    next = refl;
    pinned = refl;
  }
    where
      count : n ≡ sum own
      count = sym blocks ∙ ap sum is

  pub opened_known : (T : Type 0) (seen : Image) → T → IsArea sizes seen → IsKnown T opened seen
  opened_known T seen told there = record {
    told = told;
    reads = λ q b bytes le some has quiet frame. absurd (not_none (sym (ap (λ (l : List (Option (List ℕ))). get_or l b None) frames_are ∙ all_default n b None) ∙ frame));
    there = there;
  }

pub tells_opening : (P : Damage → Type 0) (fault : PageFault) → FaultReports P fault → OpenFaultReports P (opening_fault fault)
tells_opening P PageFailed told = tt
tells_opening P (PageDamaged damage) told = told

pub failed_opening : (fault : PageFault) → opening_fault fault ≡ Failed → fault ≡ PageFailed
failed_opening PageFailed is = refl
failed_opening (PageDamaged damage) is = absurd (cc is)
