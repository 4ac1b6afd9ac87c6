-- One own page after the other.
use Rattle.std.proofs.Common.{◌≡◌, ◌≢◌, inl, inr, ℕ, ◌+◌, ◌*◌, ◌<◌, ◌≤◌, List, length, set, Bool, false, refl, ap, sym, subst, ◌∙◌, arith, length-set}
use Rattle.std.specs.Prelude.{sum}
use Rattle.std.proofs.lemmas.Bool.{cases_eq, false≢true}
use Rattle.std.proofs.lemmas.List.{get_or-set_same, get_or-set_other}
use Rattle.free_blocks.specs.Free.{IsFree}
use Rattle.free_blocks.proofs.Counts.{one_less}
use Rattle.mdb_model.specs.Images.{Image}
use Rattle.volume_disk.specs.Blocks.{Writes, block_at}
use Rattle.mdb_bytes.specs.Fields.{Spells}
use Rattle.mdb_bytes.specs.ConverterPages.{converter_leaf_format}
use Rattle.mdb_bytes.specs.declared.converter_pages.ConverterEntry.{ConverterEntry}
use Rattle.mdb_bytes.specs.Firsts.{no_entry}
use Rattle.converter.specs.Maps.{Maps, entry_at, block_of, HasAt, IsSoundMaps, AreUnused}
use Rattle.converter.specs.Tree.{HasLeafBytes, TakesBlock, IsSameLeaf}
use Rattle.converter.specs.Own.{OwnOnly, Fewer, OneOwn, HasLeavesBytes, SavedLeaves}
use Rattle.converter.proofs.Spelled.{free_below, still_unused}

pub own_none : (m : Maps) → OwnOnly m m
own_none m = record { conv = refl; saved = refl; frozen_at = refl; area = refl; pages = λ q le. refl; present = λ q le. refl }

pub own_on : (a b c : Maps) → OwnOnly a b → OwnOnly b c → OwnOnly a c
own_on a b c one two = record {
  conv = two.conv ∙ one.conv;
  saved = two.saved ∙ one.saved;
  frozen_at = two.frozen_at ∙ one.frozen_at;
  area = two.area ∙ one.area;
  pages = λ q le. two.pages q (omega (arith, one.conv, le)) ∙ one.pages q le;
  present = λ q le. two.present q (omega (arith, one.conv, le)) ∙ one.present q le;
}

pub fewer_none : (f : List Bool) (n : ℕ) → Fewer f f n
fewer_none f n = record { long = refl; only = λ b is. is; count = omega arith }

pub fewer_on : (a b c : List Bool) (n k l : ℕ) → n + k ≤ l → Fewer a b n → Fewer b c k → Fewer a c l
fewer_on a b c n k l le one two = record {
  long = two.long ∙ one.long;
  only = λ x is. one.only x (two.only x is);
  count = omega (arith, le, one.count, two.count);
}

free_after : (flags : List Bool) (b c : ℕ) → b < length flags → IsFree (set flags b false) c → IsFree flags c
free_after flags b c lt is = elim (cases_eq c b) [
  | inl same ↦ absurd (false≢true (sym (get_or-set_same flags b false false lt) ∙ subst (λ (x : ℕ). IsFree (set flags b false) x) same is))
  | inr other ↦ sym (get_or-set_other flags b c false false other) ∙ is
]

-- nothing was taken
pub none_one : (m : Maps) (flags : List Bool) (q : ℕ) → AreUnused m flags → OneOwn m m flags flags q
none_one m flags q unused = record { own = own_none m; fewer = fewer_none flags 1; unused = unused; others = λ p other. refl; taken = λ b is. inl is }

-- one own page took a block
pub took_one : (old new : Maps) (flags next : List Bool) (q savepoint b : ℕ) → block_of new.frozen q ≡ b → q < old.conv → AreUnused old flags → TakesBlock old new flags next q savepoint b → OneOwn old new flags next q
took_one old new flags next q savepoint b at place unused took = record {
  own = subst (λ (m : Maps). OwnOnly old m) (sym took.maps) record {
    conv = refl;
    saved = refl;
    frozen_at = refl;
    area = length-set old.owner b q;
    pages = λ p le. get_or-set_other old.frozen q p e no_entry (λ is. omega (arith, is, le, place));
    present = λ p le. get_or-set_other old.present q p e no_entry (λ is. omega (arith, is, le, place));
  };
  fewer = subst (λ (l : List Bool). Fewer flags l 1) (sym took.less) record {
    long = length-set flags b false;
    only = λ c is. free_after flags b c (free_below flags b took.was_free) is;
    count = omega (arith, one_less flags b (free_below flags b took.was_free) took.was_free);
  };
  unused = still_unused old new flags next q savepoint b unused took;
  others = λ p other. subst (λ (m : Maps). entry_at m.frozen p ≡ entry_at old.frozen p) (sym took.maps) (get_or-set_other old.frozen q p e no_entry other);
  taken = λ c is. elim (cases_eq c b) [
    | inl same ↦ inr (at ∙ sym same)
    | inr other ↦ inl (subst (λ (l : List Bool). IsFree l c) (sym took.less) (get_or-set_other flags b c false false other ∙ is))
  ];
}
  where
    e : ConverterEntry
    e = record { block = b; stamp = savepoint }

pub leaf_moved : (l next : List ConverterEntry) (conv other i : ℕ) (bytes after : List ℕ) → after ≡ bytes → other ≡ conv → ((k : ℕ) → k < 600 → entry_at next (conv + 600 * i + k) ≡ entry_at l (conv + 600 * i + k))
    → HasLeafBytes l conv i bytes → HasLeafBytes next other i after
leaf_moved l next conv other i bytes after same is entries held = record {
  leaf = held.leaf;
  spells = subst (λ (x : List ℕ). Spells converter_leaf_format held.leaf x) (sym same) held.spells;
  number = held.number;
  entries = λ k lt. held.entries k lt ∙ sym (entries k lt) ∙ ap (λ (n : ℕ). entry_at next (n + 600 * i + k)) (sym is);
}

-- a block that the maps have keeps its bytes while only free blocks are written
pub used_stays : (sizes : List ℕ) (m : Maps) (flags : List Bool) (a b : Image) (q block : ℕ) → AreUnused m flags → sum sizes ≡ length m.owner → block < length m.owner → HasAt m q block → Writes sizes (IsFree flags) a b
    → block_at sizes b block ≡ block_at sizes a block
used_stays sizes m flags a b q block unused area lt has writes = writes.outside block (omega (arith, area, lt)) (λ free. (unused block free).1 (q, has))

-- the leaves that stand stay, while one other own page changes
pub held_stays : (sizes : List ℕ) (m next : Maps) (flags less : List Bool) (q n : ℕ) (a b : Image) → IsSoundMaps m → AreUnused m flags → sum sizes ≡ length m.owner → OneOwn m next flags less q
    → ((i : ℕ) → i < n → i + 1 ≢ q) → Writes sizes (IsFree flags) a b → HasLeavesBytes m n (block_at sizes a) → HasLeavesBytes next n (block_at sizes b)
held_stays sizes m next flags less q n a b sound unused area one apart writes held i lt =
    let e : block_of next.frozen (i + 1) ≡ block_of m.frozen (i + 1) = ap (λ (x : ConverterEntry). x.block) (one.others (i + 1) (apart i lt)) in
    let same = used_stays sizes m flags a b (i + 1) (block_of m.frozen (i + 1)) unused area (sound.frozen_small (i + 1)).0 (inr (inr refl)) writes in
    leaf_moved m.frozen next.frozen m.conv next.conv i _ _ (ap (block_at sizes b) e ∙ same) one.own.conv (λ k less. one.own.pages (m.conv + 600 * i + k) (omega arith)) (held i lt)

pub held_more : (m : Maps) (n : ℕ) (row : ℕ → List ℕ) → HasLeavesBytes m n row → HasLeafBytes m.frozen m.conv n (row (block_of m.frozen (n + 1))) → HasLeavesBytes m (n + 1) row
held_more m n row before here i lt = elim (cases_eq i n) [
  | inl is ↦ subst (λ (j : ℕ). HasLeafBytes m.frozen m.conv j (row (block_of m.frozen (j + 1)))) (sym is) here
  | inr other ↦ before i (omega (arith, lt, other))
]

-- a leaf that did not change
pub same_held : (m : Maps) (i : ℕ) (row : ℕ → List ℕ) → IsSameLeaf m i → block_of m.frozen (i + 1) ≡ block_of m.saved (i + 1) → HasLeafBytes m.saved m.conv i (row (block_of m.saved (i + 1)))
    → HasLeafBytes m.frozen m.conv i (row (block_of m.frozen (i + 1)))
same_held m i row same block held = leaf_moved m.saved m.frozen m.conv m.conv i _ _ (ap row block) refl same.same held

-- what the last savepoint's map had stays too
pub saved_stays : (sizes : List ℕ) (m next : Maps) (flags : List Bool) (a b : Image) → IsSoundMaps m → AreUnused m flags → sum sizes ≡ length m.owner → OwnOnly m next → Writes sizes (IsFree flags) a b
    → SavedLeaves m (block_at sizes a) → SavedLeaves next (block_at sizes b)
saved_stays sizes m next flags a b sound unused area own writes saved j lt some =
    let e : block_of next.saved (j + 1) ≡ block_of m.saved (j + 1) = ap (λ (l : List ConverterEntry). block_of l (j + 1)) own.saved in
    let same = used_stays sizes m flags a b (j + 1) (block_of m.saved (j + 1)) unused area (sound.saved_small (j + 1)).0 (inr (inl refl)) writes in
    leaf_moved m.saved next.saved m.conv next.conv j _ _ (ap (block_at sizes b) e ∙ same) own.conv (λ k less. ap (λ (l : List ConverterEntry). entry_at l (m.conv + 600 * j + k)) own.saved)
    (saved j (omega (arith, lt, own.conv)) (omega (arith, some, e)))
