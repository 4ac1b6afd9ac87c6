-- Where blocks stand.
use Rattle.std.proofs.Common.{◌≡◌, inl, inr, ℕ, suc, ◌+◌, ◌-◌, ◌<◌, ◌≤◌, List, [], ◌∷◌, length, get_or, sum, Bool, cond, ap, sym, subst, ◌∙◌, arith}
use Rattle.std.proofs.lemmas.Bool.{cases_lt, lt-ltb, le-ltb}
use Rattle.std.proofs.lemmas.List.Sums.{sum_by-cons}
use Rattle.volume_disk.specs.Blocks.{place}

-- a block of the first volume
pub place_here : (v n : ℕ) (ns : List ℕ) (b : ℕ) → b < n → place v (n ∷ ns) b ≡ (v, b)
place_here v n ns b lt = ap (λ (t : Bool). cond t (v, b) (place (v + 1) ns (b - n))) (lt-ltb b n lt)

-- a block past the first volume
pub place_on : (v n : ℕ) (ns : List ℕ) (b : ℕ) → n ≤ b → place v (n ∷ ns) b ≡ place (v + 1) ns (b - n)
place_on v n ns b le = ap (λ (t : Bool). cond t (v, b) (place (v + 1) ns (b - n))) (le-ltb b n le)

-- volumes are counted upwards
pub at_least : (v : ℕ) (ns : List ℕ) (b : ℕ) → v ≤ (place v ns b).0
at_least v [] b = omega arith
at_least v (n ∷ ns) b = elim (cases_lt b n) [
  | inl lt ↦ let e : (place v (n ∷ ns) b).0 ≡ v = ap (λ (p : ℕ × ℕ). p.0) (place_here v n ns b lt) in omega arith
  | inr le ↦
      let e : (place v (n ∷ ns) b).0 ≡ (place (v + 1) ns (b - n)).0 = ap (λ (p : ℕ × ℕ). p.0) (place_on v n ns b le) in
      let more = at_least (v + 1) ns (b - n) in
      omega (arith, e, more)
]

-- The place of block b, where the volumes are counted from v on: volume v + i is there and has the page.
pub record Place (v : ℕ) (ns : List ℕ) (b : ℕ) : Type 0 where
  pub i : ℕ
  pub volume : (place v ns b).0 ≡ v + i
  pub there : i < length ns
  pub page : (place v ns b).1 < get_or ns i 0

-- each block has such a place
pub place_is : (v : ℕ) (ns : List ℕ) (b : ℕ) → b < sum ns → Place v ns b
place_is v [] b lt = absurd (omega (arith, lt))
place_is v (n ∷ ns) b lt = elim (cases_lt b n) [
  | inl here ↦ record {
    i = 0;
    volume = ap (λ (p : ℕ × ℕ). p.0) (place_here v n ns b here) ∙ omega arith;
    there = omega arith;
    page = let e : (place v (n ∷ ns) b).1 ≡ b = ap (λ (p : ℕ × ℕ). p.1) (place_here v n ns b here) in omega (arith, e, here);
  }
  | inr le ↦
      let s = sum_by-cons (λ (x : ℕ). x) n ns in
      let more = place_is (v + 1) ns (b - n) (omega (arith, s, lt, le)) in
      let e : (place v (n ∷ ns) b).0 ≡ (place (v + 1) ns (b - n)).0 = ap (λ (p : ℕ × ℕ). p.0) (place_on v n ns b le) in
      let f : (place v (n ∷ ns) b).1 ≡ (place (v + 1) ns (b - n)).1 = ap (λ (p : ℕ × ℕ). p.1) (place_on v n ns b le) in
      record {
        i = suc more.i;
        volume = omega (arith, e, more.volume);
        there = omega (arith, more.there);
        page = subst (λ (p : ℕ). p < get_or ns more.i 0) (sym f) more.page;
      }
]

-- two blocks do not stand at one place
pub apart : (v : ℕ) (ns : List ℕ) (b c : ℕ) → (place v ns b).0 ≡ (place v ns c).0 → (place v ns b).1 ≡ (place v ns c).1 → b ≡ c
apart v [] b c volume page = page
apart v (n ∷ ns) b c volume page = elim (cases_lt b n) [
  | inl lb ↦ elim (cases_lt c n) [
    | inl lc ↦ sym (ap (λ (p : ℕ × ℕ). p.1) (place_here v n ns b lb)) ∙ page ∙ ap (λ (p : ℕ × ℕ). p.1) (place_here v n ns c lc)
    | inr gc ↦
        let e : (place v (n ∷ ns) b).0 ≡ v = ap (λ (p : ℕ × ℕ). p.0) (place_here v n ns b lb) in
        let f : (place v (n ∷ ns) c).0 ≡ (place (v + 1) ns (c - n)).0 = ap (λ (p : ℕ × ℕ). p.0) (place_on v n ns c gc) in
        absurd (omega (arith, e, f, volume, at_least (v + 1) ns (c - n)))
  ]
  | inr gb ↦ elim (cases_lt c n) [
    | inl lc ↦
        let e : (place v (n ∷ ns) c).0 ≡ v = ap (λ (p : ℕ × ℕ). p.0) (place_here v n ns c lc) in
        let f : (place v (n ∷ ns) b).0 ≡ (place (v + 1) ns (b - n)).0 = ap (λ (p : ℕ × ℕ). p.0) (place_on v n ns b gb) in
        absurd (omega (arith, e, f, volume, at_least (v + 1) ns (b - n)))
    | inr gc ↦
        let eb = place_on v n ns b gb in
        let ec = place_on v n ns c gc in
        let same = apart (v + 1) ns (b - n) (c - n)
        (sym (ap (λ (p : ℕ × ℕ). p.0) eb) ∙ volume ∙ ap (λ (p : ℕ × ℕ). p.0) ec)
        (sym (ap (λ (p : ℕ × ℕ). p.1) eb) ∙ page ∙ ap (λ (p : ℕ × ℕ). p.1) ec) in
        omega (arith, same, gb, gc)
  ]
]
