-- What writes and syncs leave of the blocks.
use Rattle.std.proofs.Common.{◌≡◌, ◌≢◌, inl, inr, ℕ, ◌+◌, ◌*◌, ◌<◌, List, length, get_or, sum, refl, ap, sym, subst, ◌∙◌, arith}
use Rattle.std.proofs.lemmas.Bool.{cases_lt, cases_eq}
use Rattle.mdb_model.specs.declared.fault.Device.TheVariants.{Data, Log, Medium}
use Rattle.mdb_model.specs.Images.{Image, size_of, byte_at}
use Rattle.mdb_host.specs.Disk.{Disk, Calls, Goes, Synced, IsThere, Torn, Agree, SameSizes, Outside}
use Rattle.mdb_host.proofs.Moments.{widen}
use Rattle.volume_disk.specs.Blocks.{place, IsArea, Writes, AreVolumesDurable, IsDurable}
use Rattle.volume_disk.proofs.Places.{Place, place_is, apart}
use Rattle.volume_disk.proofs.Pages.{page_kept, page_agrees, data_is}

-- the volumes are there where all sizes are as before
pub area_same : (sizes : List ℕ) (a b : Image) → SameSizes a b → IsArea sizes a → IsArea sizes b
area_same sizes a b same area i lt = let w = area i lt in (w.0, same (Data (i + 1)) ∙ w.1, w.2)

-- a write at a block's place
pub torn_writes : (sizes : List ℕ) (b : ℕ) (old new : Image) → b < sum sizes → Torn (Data (place 1 sizes b).0) (8192 * (place 1 sizes b).1) 8192 old new → Writes sizes (λ c. c ≡ b) old new
torn_writes sizes b old new there torn = record {
  others = λ e other. torn.others e (λ is. other p.i p.there (is ∙ ap (λ (v : ℕ). Data v) volume_is));
  same_sizes = same;
  outside = λ c lt ne. elim (cases_eq (place 1 sizes c).0 (place 1 sizes b).0) [
    | inl volume ↦ page_kept old new (Data (place 1 sizes c).0) (place 1 sizes c).1 (same (Data (place 1 sizes c).0)) (λ k from to.
        let far : (place 1 sizes c).1 ≢ (place 1 sizes b).1 = λ is. ne (apart 1 sizes c b volume is) in
        let out : Outside (8192 * (place 1 sizes b).1) 8192 k = elim (cases_lt (place 1 sizes c).1 (place 1 sizes b).1) [
          | inl less ↦ inl (omega (arith, less, to))
          | inr more ↦ inr (omega (arith, more, far, from))
        ] in
        subst (λ (v : ℕ). byte_at (new (Data v)) k ≡ byte_at (old (Data v)) k) (sym volume) (torn.outside k out))
    | inr apart_volumes ↦ page_agrees old new (Data (place 1 sizes c).0) (place 1 sizes c).1 (torn.others (Data (place 1 sizes c).0) (λ is. apart_volumes (data_is _ _ is)))
  ];
  past = λ i k lt beyond. elim (cases_eq (i + 1) (place 1 sizes b).0) [
    | inl is ↦
        let e : i ≡ p.i = omega (arith, is, volume_is) in
        let page : (place 1 sizes b).1 < get_or sizes i 0 = subst (λ (j : ℕ). (place 1 sizes b).1 < get_or sizes j 0) (sym e) p.page in
        subst (λ (v : ℕ). byte_at (new (Data v)) k ≡ byte_at (old (Data v)) k) (sym is) (torn.outside k (inr (omega (arith, page, beyond))))
    | inr ne ↦ ap (λ o. byte_at o k) (torn.others (Data (i + 1)) (λ is. ne (data_is _ _ is)))
  ];
}
  where
    p : Place 1 sizes b
    p = place_is 1 sizes b there

    volume_is : (place 1 sizes b).0 ≡ p.i + 1
    volume_is = omega (arith, p.volume)

    same : SameSizes old new
    same Log = ap size_of (torn.others Log (λ is. cc))
    same (Medium m) = ap size_of (torn.others (Medium m) (λ is. cc))
    same (Data v) = elim (cases_eq v (place 1 sizes b).0) [
      | inl is ↦ subst (λ (w : ℕ). size_of (new (Data w)) ≡ size_of (old (Data w))) (sym is) torn.size
      | inr other ↦ ap size_of (torn.others (Data v) (λ is. other (data_is _ _ is)))
    ]

-- nothing was written
pub writes_none : (sizes : List ℕ) (set : ℕ → Type 0) (a : Image) → Writes sizes set a a
writes_none sizes set a = record { others = λ e other. refl; same_sizes = λ d. refl; outside = λ k lt out. refl; past = λ i k lt beyond. refl }

-- images that agree on every device
pub writes_agree : (sizes : List ℕ) (set : ℕ → Type 0) (a b : Image) → Agree a b → Writes sizes set a b
writes_agree sizes set a b same = record {
  others = λ e other. same e;
  same_sizes = λ d. ap size_of (same d);
  outside = λ k lt out. page_agrees a b (Data (place 1 sizes k).0) (place 1 sizes k).1 (same (Data (place 1 sizes k).0));
  past = λ i k lt beyond. ap (λ o. byte_at o k) (same (Data (i + 1)));
}

-- writes of one set go on
pub writes_on : (sizes : List ℕ) (set : ℕ → Type 0) (a b c : Image) → Writes sizes set a b → Writes sizes set b c → Writes sizes set a c
writes_on sizes set a b c one two = record {
  others = λ e other. two.others e other ∙ one.others e other;
  same_sizes = λ d. two.same_sizes d ∙ one.same_sizes d;
  outside = λ k lt out. two.outside k lt out ∙ one.outside k lt out;
  past = λ i k lt beyond. two.past i k lt beyond ∙ one.past i k lt beyond;
}

-- writes to fewer blocks
pub writes_more : (sizes : List ℕ) (few many : ℕ → Type 0) (a b : Image) → ((k : ℕ) → few k → many k) → Writes sizes few a b → Writes sizes many a b
writes_more sizes few many a b to one = record { others = one.others; same_sizes = one.same_sizes; outside = λ k lt out. one.outside k lt (λ is. out (to k is)); past = one.past }

-- a write at a place that was computed
pub moved_torn : (sizes : List ℕ) (b : ℕ) (old new : Image) (v p n : ℕ) → b < sum sizes → v ≡ (place 1 sizes b).0 → p ≡ (place 1 sizes b).1 → n ≡ 8192
    → Torn (Data v) (8192 * p) n old new → Writes sizes (λ c. c ≡ b) old new
moved_torn sizes b old new v p n there volume page long torn = torn_writes sizes b old new there
    (subst (λ (w : ℕ). Torn (Data w) (8192 * (place 1 sizes b).1) 8192 old new) volume
    (subst (λ (q : ℕ). Torn (Data v) (8192 * q) 8192 old new) page
    (subst (λ (m : ℕ). Torn (Data v) (8192 * p) m old new) long torn)))

-- a call that writes at a place that was computed
pub moved_calls : (sizes : List ℕ) (b : ℕ) (old new : Disk) (v p n : ℕ) → b < sum sizes → v ≡ (place 1 sizes b).0 → p ≡ (place 1 sizes b).1 → n ≡ 8192
    → Calls old new (Torn (Data v) (8192 * p) n) → Calls old new (Writes sizes (λ c. c ≡ b))
moved_calls sizes b old new v p n there volume page long calls = record {
  no_more_than_one = calls.no_more_than_one;
  goes = widen old new _ _ calls.goes (λ x y left torn. moved_torn sizes b x y v p n there volume page long torn);
  seen = moved_torn sizes b old.seen new.seen v p n there volume page long calls.seen;
}

-- a volume is there to be synced
pub volume_there : (sizes : List ℕ) (a b : Image) (i : ℕ) → Agree a b → IsArea sizes a → i < length sizes → IsThere b (Data (i + 1))
volume_there sizes a b i same area lt = let w = area i lt in (w.0, ap size_of (same (Data (i + 1))) ∙ w.1)

-- one volume more is synced
pub settled_more : (old new : Disk) (i : ℕ) → Goes old new Agree → Agree old.seen new.seen → AreVolumesDurable i old → Synced new (Data (i + 1)) → AreVolumesDurable (i + 1) new
settled_more old new i goes seen before synced image left k lt = elim (cases_eq k i) [
  | inl is ↦ subst (λ (j : ℕ). image (Data (j + 1)) ≡ new.seen (Data (j + 1))) (sym is) (synced image left)
  | inr other ↦
      let a = goes.since new.now image goes.keeps.later (omega arith) left in
      a.2 (Data (k + 1)) ∙ before a.0 a.1 k (omega (arith, lt, other)) ∙ sym (seen (Data (k + 1)))
]

-- every volume is synced, so every block is settled
pub all_settled : (sizes : List ℕ) (disk : Disk) (n : ℕ) → n ≡ length sizes → AreVolumesDurable n disk → IsDurable sizes disk
all_settled sizes disk n is all image left b lt =
    let p = place_is 1 sizes b lt in
    let e : p.i + 1 ≡ (place 1 sizes b).0 = omega (arith, p.volume) in
    let here = all image left p.i (omega (arith, p.there, is)) in
    page_agrees disk.seen image (Data (place 1 sizes b).0) (place 1 sizes b).1 (subst (λ (v : ℕ). image (Data v) ≡ disk.seen (Data v)) e here)
