-- Spare pages.
use Rattle.std.proofs.Common.{◌≡◌, ℕ, zero, suc, ◌+◌, ◌≤◌, true, false, Option, Some, None, refl, ap, ◌∙◌, arith}
use Rattle.std.specs.Prelude.{if◌then◌else◌}
use Rattle.free_blocks.specs.Free.{free_count}
use Rattle.converter.specs.Maps.{block_of}
use Rattle.page_store.specs.Store.{Store, is_marked, own_unmarked, spare_while, spare_of}
use Rattle.page_store.specs.Steps.{KeepsMaps}

pub few_own : (s : Store) (n : ℕ) → own_unmarked s n ≤ n
few_own s zero = omega arith
few_own s (suc n) = elim (is_marked s.marks (block_of s.maps.saved n)) as (λ t. own_unmarked s n + (if t then 0 else 1) ≤ suc n) [
  | true ↦ omega (arith, few_own s n)
  | false ↦ omega (arith, few_own s n)
]

-- where some page is spare some block is free, and one more than a savepoint needs
pub while_some : (at : Option ℕ) (conv free given : ℕ) → given ≤ conv → 1 ≤ spare_while at conv free given → conv + 1 ≤ free
while_some None conv free given few some = omega (arith, some)
while_some (Some n) conv free given few some = omega (arith, some, few)

pub some_free : (s : Store) → 1 ≤ spare_of s → s.maps.conv + 1 ≤ free_count s.free
some_free s some = while_some s.maps.frozen_at s.maps.conv (free_count s.free) (own_unmarked s s.maps.conv) (few_own s s.maps.conv) some

while_less : (at : Option ℕ) (conv free less given most : ℕ) → free ≤ less + most → spare_while at conv free given ≤ spare_while at conv less given + most
while_less None conv free less given most le = omega (arith, le)
while_less (Some n) conv free less given most le = omega (arith, le)

own_same : (a b : Store) (n : ℕ) → b.maps.saved ≡ a.maps.saved → b.marks ≡ a.marks → own_unmarked b n ≡ own_unmarked a n
own_same a b zero saved marks = refl
own_same a b (suc n) saved marks = λ i. own_same a b n saved marks i + (if is_marked (marks i) (block_of (saved i) n) then 0 else 1)

pub spare_less : (a b : Store) (most : ℕ) → KeepsMaps a b → free_count a.free ≤ free_count b.free + most → spare_of a ≤ spare_of b + most
spare_less a b most keeps less =
    let same : spare_of b ≡ spare_while a.maps.frozen_at a.maps.conv (free_count b.free) (own_unmarked a a.maps.conv) =
    λ i. spare_while (keeps.frozen_at i) (keeps.conv i) (free_count b.free) ((ap (own_unmarked b) keeps.conv ∙ own_same a b a.maps.conv keeps.saved keeps.marks) i) in
    omega (arith, same, while_less a.maps.frozen_at a.maps.conv (free_count a.free) (free_count b.free) (own_unmarked a a.maps.conv) most less)
