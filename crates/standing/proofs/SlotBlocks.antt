-- A switch of the restart record's slots writes the first two blocks.
use Rattle.std.proofs.Common.{◌≡◌, inl, inr, ℕ, ◌+◌, ◌-◌, ◌<◌, ◌≤◌, List, [], ◌∷◌, length, get_or, ap, sym, subst, arith}
use Rattle.std.proofs.lemmas.Bool.{cases_lt, cases_eq}
use Rattle.mdb_model.specs.declared.fault.Device.TheVariants.{Data}
use Rattle.mdb_model.specs.Images.{Image, byte_at}
use Rattle.mdb_host.specs.MemoryLaws.{torn_sizes}
use Rattle.volume_disk.specs.Blocks.{place, block_at, Writes}
use Rattle.volume_disk.proofs.Places.{place_here, place_on, at_least}
use Rattle.volume_disk.proofs.Pages.{page_kept, page_agrees, data_is}
use Rattle.gate_slots.specs.Steps.{SlotsTorn}
use Rattle.standing.specs.Standing.{data_slots}
use Rattle.standing.specs.Switching.{IsSlotBlock}

module _ (old new : Image) (torn : SlotsTorn data_slots old new) where
  other_blocks : (sizes : List ℕ) → 2 ≤ get_or sizes 0 0 → (b : ℕ) → (b < 2 → ⊥) → block_at sizes new b ≡ block_at sizes old b
  other_blocks [] two b high = absurd (omega (arith, two))
  other_blocks (n ∷ ns) two b high = elim (cases_lt b n) [
    | inl here ↦
        let kept = page_kept old new (Data 1) b torn.size (λ k from to. torn.outside k (inr (omega (arith, from, cases_high)))) in
        let at : place 1 (n ∷ ns) b ≡ (1, b) = place_here 1 n ns b here in
        subst (λ (p : ℕ × ℕ). Rattle.volume_disk.specs.Blocks.device_page new (Data p.0) p.1 ≡ Rattle.volume_disk.specs.Blocks.device_page old (Data p.0) p.1) (sym at) kept
    | inr past ↦
        let e : (place 1 (n ∷ ns) b).0 ≡ (place 2 ns (b - n)).0 = ap (λ (p : ℕ × ℕ). p.0) (place_on 1 n ns b past) in
        page_agrees old new (Data (place 1 (n ∷ ns) b).0) (place 1 (n ∷ ns) b).1 (torn.others (Data (place 1 (n ∷ ns) b).0) (λ is. omega (arith, data_is _ _ is, e, at_least 2 ns (b - n))))
  ]
    where
      cases_high : 2 ≤ b
      cases_high = elim (cases_lt b 2) [ inl low ↦ absurd (high low) | inr more ↦ more ]

  some_volume : (sizes : List ℕ) → 2 ≤ get_or sizes 0 0 → 0 < length sizes
  some_volume [] two = absurd (omega (arith, two))
  some_volume (n ∷ ns) two = omega arith

  pub slots_write : (sizes : List ℕ) → 2 ≤ get_or sizes 0 0 → Writes sizes IsSlotBlock old new
  slots_write sizes two = record {
    others = λ e other. torn.others e (λ is. other 0 (some_volume sizes two) is);
    same_sizes = torn_sizes (Data 1) 0 16384 old new torn;
    outside = λ b lt high. other_blocks sizes two b high;
    past = λ i k lt beyond. elim (cases_eq i 0) [
      | inl first ↦
          let far : 16384 ≤ k = omega (arith, beyond, subst (λ (j : ℕ). 2 ≤ get_or sizes j 0) (sym first) two) in
          subst (λ (j : ℕ). byte_at (new (Data (j + 1))) k ≡ byte_at (old (Data (j + 1))) k) (sym first) (torn.outside k (inr (omega (arith, far))))
      | inr later ↦ ap (λ o. byte_at o k) (torn.others (Data (i + 1)) (λ is. later (omega (arith, data_is _ _ is))))
    ];
  }
