-- One leaf more.
use Rattle.std.proofs.Common.{◌≡◌, inl, inr, ℕ, ◌+◌, ◌<◌, List, length, Bool, refl, ap, sym, subst, ◌∙◌, arith}
use Rattle.std.specs.Prelude.{sum, Result, Ok, Err, OnOk}
use Rattle.mdb_model.specs.declared.fault.Device.TheVariants.{Data}
use Rattle.mdb_model.specs.Images.{Image}
use Rattle.mdb_host.specs.Disk.{Disk, Goes, Agree}
use Rattle.mdb_host.proofs.Moments.{onward, widen, calmly}
use Rattle.free_blocks.specs.Free.{IsFree}
use Rattle.volume_disk.specs.Blocks.{Writes, IsArea, IsDurable, place, block_at}
use Rattle.volume_disk.proofs.Pages.{page_agrees}
use Rattle.volume_disk.proofs.Writes.{writes_on, writes_more, writes_agree, area_same}
use Rattle.mdb_bytes.specs.declared.converter_pages.ConverterEntry.{ConverterEntry}
use Rattle.converter.specs.Maps.{Maps, IsSoundMaps, AreUnused, block_of}
use Rattle.converter.specs.Tree.{HasLeafBytes, HasRootBytes, HasTree}
use Rattle.converter.specs.Own.{OneOwn, TakesForFrozen, HasLeavesBytes}
use Rattle.converter.proofs.OwnSteps.{own_on, fewer_on, held_stays, held_more}
use Rattle.savepoint.specs.Stands.{IsMapPlaced}
use Rattle.std.proofs.lemmas.Bool.{cases_eq}
use Rattle.savepoint.specs.Leaves.{Along, WritesLeaves}

pub along_more : (m0 m next : Maps) (f0 f less : List Bool) (n : ℕ) → Along m0 m f0 f n → OneOwn m next f less (n + 1) → 1 < block_of next.frozen (n + 1) → Along m0 next f0 less (n + 1)
along_more m0 m next f0 f less n before one here = record {
  own = own_on m0 m next before.own one.own;
  fewer = fewer_on f0 f less n 1 (n + 1) (omega arith) before.fewer one.fewer;
  unused = one.unused;
  later = λ q lt. one.others q (λ is. omega (arith, is, lt)) ∙ before.later q (omega (arith, lt));
  placed = λ q some le. elim (cases_eq q (n + 1)) [
    | inl is ↦ subst (λ (p : ℕ). 1 < block_of next.frozen p) (sym is) here
    | inr other ↦ omega (arith, ap (λ (e : ConverterEntry). e.block) (one.others q other), before.placed q some (omega (arith, le, other)))
  ];
  taken = λ b is. elim (before.taken b is) [
    | inl free ↦ elim (one.taken b free) [
      | inl still ↦ inl still
      | inr own ↦ inr (n + 1, omega arith, omega arith, own)
    ]
    | inr (q, some, le, own) ↦ inr (q, some, omega (arith, le), ap (λ (e : ConverterEntry). e.block) (one.others q (λ same. omega (arith, le, same))) ∙ own)
  ];
}

-- the places of the leaves are places from 1 on
pub leaves_taken : (m0 m : Maps) (f0 f : List Bool) (n : ℕ) → Along m0 m f0 f n → TakesForFrozen 1 f0 f m
leaves_taken m0 m f0 f n along b is = elim (along.taken b is) [
  | inl free ↦ inl free
  | inr (q, some, le, own) ↦ inr (q, omega (arith, some), own)
]

-- all places may be meant
pub taken_any : (f0 f : List Bool) (m : Maps) → TakesForFrozen 1 f0 f m → TakesForFrozen 0 f0 f m
taken_any f0 f m taken b is = elim (taken b is) [
  | inl free ↦ inl free
  | inr (q, some, own) ↦ inr (q, omega arith, own)
]

-- the root as well
pub root_taken : (m next : Maps) (f0 f less : List Bool) → TakesForFrozen 1 f0 f m → OneOwn m next f less 0 → TakesForFrozen 0 f0 less next
root_taken m next f0 f less taken one b is = elim (taken b is) [
  | inl free ↦ elim (one.taken b free) [
    | inl still ↦ inl still
    | inr own ↦ inr (0, omega arith, own)
  ]
  | inr (q, some, own) ↦ inr (q, omega arith, ap (λ (e : ConverterEntry). e.block) (one.others q (λ same. omega (arith, some, same))) ∙ own)
]

pub goes_free : (sizes : List ℕ) (f0 f : List Bool) (d0 d1 d2 : Disk) → ((b : ℕ) → IsFree f b → IsFree f0 b) → Goes d0 d1 (Writes sizes (IsFree f0)) → Goes d1 d2 (Writes sizes (IsFree f)) → Goes d0 d2 (Writes sizes (IsFree f0))
goes_free sizes f0 f d0 d1 d2 few one two =
    onward d0 d1 d2 (Writes sizes (IsFree f0)) (writes_on sizes (IsFree f0)) one (widen d1 d2 _ _ two (λ a b left writes. writes_more sizes (IsFree f) (IsFree f0) a b few writes))

pub seen_free : (sizes : List ℕ) (f0 f : List Bool) (a b c : Image) → ((b : ℕ) → IsFree f b → IsFree f0 b) → Writes sizes (IsFree f0) a b → Writes sizes (IsFree f) b c → Writes sizes (IsFree f0) a c
seen_free sizes f0 f a b c few one two = writes_on sizes (IsFree f0) a b c one (writes_more sizes (IsFree f) (IsFree f0) b c few two)

pub wrote_more : (sizes : List ℕ) (m next : Maps) (f0 f less : List Bool) (n : ℕ) (d0 d1 d2 : Disk) → IsSoundMaps m → AreUnused m f → sum sizes ≡ length m.owner → ((b : ℕ) → IsFree f b → IsFree f0 b)
    → WritesLeaves sizes f0 m n d0 d1 → OneOwn m next f less (n + 1) → Goes d1 d2 (Writes sizes (IsFree f)) → Writes sizes (IsFree f) d1.seen d2.seen
    → HasLeafBytes next.frozen next.conv n (block_at sizes d2.seen (block_of next.frozen (n + 1))) → WritesLeaves sizes f0 next (n + 1) d0 d2
wrote_more sizes m next f0 f less n d0 d1 d2 sound unused area few before one goes seen here = record {
  goes = goes_free sizes f0 f d0 d1 d2 few before.goes goes;
  seen = seen_free sizes f0 f d0.seen d1.seen d2.seen few before.seen seen;
  held = held_more next n (block_at sizes d2.seen)
      (held_stays sizes m next f less (n + 1) n d1.seen d2.seen sound unused area one (λ i lt is. omega (arith, lt, is)) seen before.held) here;
}

pub still_area : (sizes : List ℕ) (set : ℕ → Type 0) (a b : Image) → Writes sizes set a b → IsArea sizes a → IsArea sizes b
still_area sizes set a b writes area = area_same sizes a b writes.same_sizes area

-- the root comes last
pub whole_tree : (sizes : List ℕ) (m next : Maps) (f less : List Bool) (n : ℕ) (a b : Image) → IsSoundMaps m → AreUnused m f → sum sizes ≡ length m.owner → OneOwn m next f less 0 → Writes sizes (IsFree f) a b
    → n + 1 ≡ m.conv → HasLeavesBytes m n (block_at sizes a) → HasRootBytes next.frozen next.conv (block_at sizes b (block_of next.frozen 0)) → HasTree next.frozen next.conv (block_at sizes b)
whole_tree sizes m next f less n a b sound unused area one writes count held root = record {
  root = root;
  leaves = λ i lt.
      let stays = held_stays sizes m next f less 0 n a b sound unused area one (λ j below is. omega (arith, is)) writes held in
      stays i (omega (arith, lt, one.own.conv, count));
}

pub goes_taken : (sizes : List ℕ) (f0 f : List Bool) (q : ℕ) (d0 d1 d2 : Disk) → ((b : ℕ) → IsFree f b → IsFree f0 b) → IsFree f q → Goes d0 d1 (Writes sizes (IsFree f0)) → Goes d1 d2 (Writes sizes (λ b. b ≡ q))
    → Goes d0 d2 (Writes sizes (IsFree f0))
goes_taken sizes f0 f q d0 d1 d2 few free one two =
    onward d0 d1 d2 (Writes sizes (IsFree f0)) (writes_on sizes (IsFree f0)) one
    (widen d1 d2 _ _ two (λ a b left writes. writes_more sizes (λ b. b ≡ q) (IsFree f0) a b (λ k is. few k (subst (λ (x : ℕ). IsFree f x) (sym is) free)) writes))

pub writes_taken : (sizes : List ℕ) (f : List Bool) (q : ℕ) (a b : Image) → IsFree f q → Writes sizes (λ b. b ≡ q) a b → Writes sizes (IsFree f) a b
writes_taken sizes f q a b free writes = writes_more sizes (λ b. b ≡ q) (IsFree f) a b (λ k is. subst (λ (x : ℕ). IsFree f x) (sym is) free) writes

-- a map that stands on blocks of which each keeps its bytes stands there still
pub tree_moved : (m : List ConverterEntry) (conv : ℕ) (row after : ℕ → List ℕ) → ((q : ℕ) → q < conv → after (block_of m q) ≡ row (block_of m q)) → 0 < conv → HasTree m conv row → HasTree m conv after
tree_moved m conv row after same some tree = record {
  root = let e = same 0 some in subst (λ (l : List ℕ). HasRootBytes m conv l) (sym e) tree.root;
  leaves = λ i lt. let e = same (i + 1) lt in subst (λ (l : List ℕ). HasLeafBytes m conv i l) (sym e) (tree.leaves i lt);
}

-- after a sync each image has the map that a read gives
pub settled_tree : (sizes : List ℕ) (m : Maps) (disk : Disk) (seen : Image) → IsSoundMaps m → sum sizes ≡ length m.owner → Agree seen disk.seen → IsDurable sizes disk → HasTree m.frozen m.conv (block_at sizes seen)
    → (image : Image) → disk.may_leave disk.now image → HasTree m.frozen m.conv (block_at sizes image)
settled_tree sizes m disk seen sound area same settled tree image left =
    tree_moved m.frozen m.conv (block_at sizes seen) (block_at sizes image) (λ q lt.
    let b = block_of m.frozen q in
    let small = (sound.frozen_small q).0 in
    settled image left b (omega (arith, area, small)) ∙ page_agrees seen disk.seen (Data (place 1 sizes b).0) (place 1 sizes b).1 (same (Data (place 1 sizes b).0))) (omega (arith, sound.leaves)) tree

pub goes_agree : (sizes : List ℕ) (set : ℕ → Type 0) (d0 d1 d2 : Disk) → Goes d0 d1 (Writes sizes set) → Goes d1 d2 Agree → Goes d0 d2 (Writes sizes set)
goes_agree sizes set d0 d1 d2 one two = calmly d0 d1 d2 (Writes sizes set) (λ a b c writes agree. writes_on sizes set a b c writes (writes_agree sizes set b c agree)) one two

pub writes_then_agree : (sizes : List ℕ) (set : ℕ → Type 0) (a b c : Image) → Writes sizes set a b → Agree b c → Writes sizes set a c
writes_then_agree sizes set a b c writes agree = writes_on sizes set a b c writes (writes_agree sizes set b c agree)

-- with the root on a block that was free, each block of the frozen map is after the first two
pub all_placed : (sizes : List ℕ) (m next : Maps) (f less : List Bool) → IsSoundMaps next → AreUnused m f → sum sizes ≡ length next.owner → OneOwn m next f less 0 → IsFree f (block_of next.frozen 0)
    → ((q : ℕ) → 0 < q → q < m.conv → 1 < block_of m.frozen q) → IsMapPlaced sizes next.frozen next.conv
all_placed sizes m next f less sound unused area one free placed = record {
  some = omega (arith, sound.leaves);
  own = λ q lt. elim (cases_eq q 0) [
    | inl is ↦ subst (λ (p : ℕ). 1 < block_of next.frozen p) (sym is) (unused (block_of next.frozen 0) free).0
    | inr other ↦ omega (arith, ap (λ (e : ConverterEntry). e.block) (one.others q other), placed q (omega (arith, other)) (omega (arith, lt, one.own.conv)))
  ];
  high = λ q some. sound.high q (block_of next.frozen q) some (inr (inr refl));
  below = λ q. omega (arith, area, (sound.frozen_small q).0);
}

-- what holds in any case holds after a call that went well
pub always : {A E : Type 0} (result : Result A E) (P : Type 0) → P → OnOk result P
always (Ok a) P is = is
always (Err e) P is = tt
